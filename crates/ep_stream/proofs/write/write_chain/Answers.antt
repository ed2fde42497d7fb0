use Rattle.std.proofs.Common.{◌≡◌, ◌+◌, List, refl, ◌++◌, take, drop, ap, sym, ◌∙◌, subst, arith, rules}
use Rattle.std.proofs.lemmas.List.{append-nil}
use Rattle.ep_defs.specs.Definitions.{definition_at}
use Rattle.ep_defs.specs.Entry.{Entry}
use Rattle.ep_chunk.specs.Record.{Record}
use Rattle.ep_slot.specs.Chain.{records_of}
use Rattle.ep_stream.specs.Telling.{IsTelling, IsWritable, entries_of}
use Rattle.ep_stream.proofs.Telling.{told_after}
use Rattle.ep_slot.proofs.Chains.{split_chain, take_chain}
use Rattle.ep_stream.proofs.Reading.{all_between, entries_of-append}
use Rattle.std.specs.Prelude.{Result, Ok, Err}
use Rattle.nt_write.specs.declared.fault.Fault.{Fault}
use Rattle.nt_write.specs.declared.fault.Fault.TheVariants.{WriteFault}
use Rattle.ep_stream.specs.Telling.{Tells}
use Rattle.ep_stream.proofs.Telling.{tells_after, tells_all, err_is, ok_is_no_fault}
use Rattle.std.proofs.lemmas.List.{take_all}
use Rattle.ep_stream.proofs.write.write_chain.Goals as goal

pub loop-place-init : goal.loop-place-init
loop-place-init g c =
    record {
      sound = search rules;
      wrote = refl;
      other_side = refl;
      telling = λ before info told now. subst (λ (es : List Entry). IsTelling g.S.Sink.tells_taken g.S.Sink.taken before (definition_at c.args.events.now) info es c.args.writer.now) (sym (append-nil told)) now;
    }

pub write_chunk-requires-clause-records : goal.write_chunk-requires-clause-records
write_chunk-requires-clause-records g c =
    let chain = c.args.chain.now in
    let place = c.loop-place.place in
    let chunk = c.in-Some-chunk.chunk.now in
    all_between (IsWritable c.args.events.now) (records_of (take place chain)) chunk (records_of (drop (place + 1) chain)) (records_of chain)
    (split_chain chain place chunk (sym c.in-Some-chunk.ensures)) c.requires.records

pub loop-place-preserved : goal.loop-place-preserved
loop-place-preserved g c =
    let inv = c.loop-place.invariant in
    let chain = c.args.chain.now in
    let place = c.loop-place.place in
    let chunk = c.in-Some-chunk.chunk.now in
    let events = c.args.events.now in
    let stacks = c.args.stacks in
    let first : List Record = records_of (take place chain) in
    record {
      sound = c.in_ok-write_chunk.ensures.faulty.sound;
      wrote = c.in_ok-write_chunk.ensures.faulty.wrote (ok_is_no_fault c.in_ok-write_chunk.field-0 WriteFault) ∙ inv.wrote;
      other_side = c.in_ok-write_chunk.ensures.other_side ∙ inv.other_side;
      telling = λ before info told now.
          subst (λ (es : List Entry). IsTelling g.S.Sink.tells_taken g.S.Sink.taken before (definition_at events) info (told ++ es) c.write_chunk.new.writer)
          (sym (entries_of-append events stacks first chunk) ∙ ap (λ (rs : List Record). entries_of events stacks rs) (sym (take_chain chain place chunk (sym c.in-Some-chunk.ensures))))
          (told_after g.S.Sink.tells_taken g.S.Sink.taken before (definition_at events) info told (entries_of events stacks first) (entries_of events stacks chunk) c.in_ok-write_chunk.field-0 c.write_chunk.new.writer
          (c.in_ok-write_chunk.ensures.writes before info (told ++ entries_of events stacks first) (inv.telling before info told now)));
    }

pub returns-in_err-write_chunk-clause-writes : goal.returns-in_err-write_chunk-clause-writes
returns-in_err-write_chunk-clause-writes g c before info told now =
    let inv = c.loop-place.invariant in
    let chain = c.args.chain.now in
    let place = c.loop-place.place in
    let chunk : List Record = c.in-Some-chunk.chunk.now in
    let events = c.args.events.now in
    let stacks = c.args.stacks in
    let first : List Record = records_of (take place chain) in
    let after : List Record = records_of (drop (place + 1) chain) in
    let fault : Fault = c.in_err-write_chunk.field-0.0 in
    let chain_is : entries_of events stacks (records_of chain) ≡ entries_of events stacks first ++ (entries_of events stacks chunk ++ entries_of events stacks after) =
    ap (λ (rs : List Record). entries_of events stacks rs) (split_chain chain place chunk (sym c.in-Some-chunk.ensures))
    ∙ entries_of-append events stacks first (chunk ++ after)
    ∙ ap (λ (es : List Entry). entries_of events stacks first ++ es) (entries_of-append events stacks chunk after)
    in
    subst (λ (r : Result (Unit {0}) Fault). Tells g.S.Sink.tells_taken g.S.Sink.taken before (definition_at events) info told (entries_of events stacks (records_of chain)) r c.write_chunk.new.writer) (sym (err_is _ _ c.from_residual.ensures.1))
    (subst (λ (es : List Entry). Tells {A = Unit {0}} g.S.Sink.tells_taken g.S.Sink.taken before (definition_at events) info told es (Err fault) c.write_chunk.new.writer) (sym chain_is)
    (tells_after g.S.Sink.tells_taken g.S.Sink.taken before (definition_at events) info told (entries_of events stacks first) (entries_of events stacks chunk) (entries_of events stacks after) fault c.write_chunk.new.writer
    (c.in_err-write_chunk.ensures.writes before info (told ++ entries_of events stacks first) (inv.telling before info told now))))

pub returns-clause-writes : goal.returns-clause-writes
returns-clause-writes g c before info told now =
    let inv = c.loop-place.invariant in
    let chain = c.args.chain.now in
    let events = c.args.events.now in
    let stacks = c.args.stacks in
    let all : take c.loop-place.place chain ≡ chain = take_all c.loop-place.place chain (omega (arith, c.loop-place-test.false, c.count-place-end.ensures)) in
    subst (λ (rs : List (List Record)). Tells {A = Unit {0}} g.S.Sink.tells_taken g.S.Sink.taken before (definition_at events) info told (entries_of events stacks (records_of rs)) (Ok tt) c.loop-place.writer) all
    (tells_all g.S.Sink.tells_taken g.S.Sink.taken before (definition_at events) info told (entries_of events stacks (records_of (take c.loop-place.place chain))) tt c.loop-place.writer (inv.telling before info told now))
