use Rattle.std.proofs.Common.{◌≡◌, ◌+◌, List, [], ◌∷◌, ◌++◌, refl, ap, sym, ◌∙◌, subst, arith, append_assoc}
use Rattle.std.proofs.lemmas.List.{append-nil}
use Rattle.ep_defs.specs.Definitions.{definition_at}
use Rattle.ep_defs.specs.Entry.{Entry}
use Rattle.ep_chunk.specs.Record.{Record, size_of, total_size}
use Rattle.ep_chunk.proofs.Placed.{records_at-zero}
use Rattle.ep_stream.specs.Telling.{IsTelling, Tells, entry_of, entries_of}
use Rattle.std.specs.Prelude.{Result, Ok, Err}
use Rattle.std.proofs.lemmas.List.Concat.{flat_map-cons}
use Rattle.std.proofs.lemmas.Option.{same_Some}
use Rattle.nt_write.specs.declared.fault.Fault.{Fault}
use Rattle.nt_write.specs.declared.fault.Fault.TheVariants.{WriteFault}
use Rattle.ep_stream.proofs.Telling.{told_after, tells_after, tells_all, err_is, ok_is_no_fault}
use Rattle.ep_stream.proofs.Reading.{writable_here, readable, entries_of-append, one_entry}
use Rattle.ep_stream.proofs.write.write_chunk.Goals as goal

pub loop-rec-init : goal.loop-rec-init
loop-rec-init g c =
    record {
      done = [];
      rest = c.args.chunk.now;
      split = refl;
      at = records_at-zero c.args.chunk.now;
      size = omega arith;
      sound = c.requires.sound;
      wrote = refl;
      other_side = refl;
      telling = λ before info told t. subst (λ (es : List Entry). IsTelling g.S.Sink.tells_taken g.S.Sink.taken before (definition_at c.args.events.now) info es c.args.writer.now) (sym (append-nil told)) t;
    }

pub write_record-requires-clause-record : goal.write_record-requires-clause-record
write_record-requires-clause-record g c =
    let inv = c.loop-rec.invariant in
    let t = c.in-Some.ensures.told in
    let rest_is : inv.rest ≡ t.told ∷ t.others = same_Some inv.rest (t.told ∷ t.others) (sym inv.at ∙ t.here) in
    let split : inv.done ++ t.told ∷ t.others ≡ c.args.chunk.now = ap (λ (rs : List Record). inv.done ++ rs) (sym rest_is) ∙ inv.split in
    readable c.args.events.now t.told c.in-Some.rec (writable_here c.args.events.now inv.done t.told t.others c.args.chunk.now split c.requires.records) t.parts

pub loop-rec-preserved : goal.loop-rec-preserved
loop-rec-preserved g c =
    let inv = c.loop-rec.invariant in
    let t = c.in-Some.ensures.told in
    let events = c.args.events.now in
    let stacks = c.args.stacks in
    let rest_is : inv.rest ≡ t.told ∷ t.others = same_Some inv.rest (t.told ∷ t.others) (sym inv.at ∙ t.here) in
    let total : total_size inv.rest ≡ size_of t.told + total_size t.others = ap total_size rest_is in
    let next = t.next in
    record {
      done = inv.done ++ t.told ∷ [];
      rest = t.others;
      split = append_assoc inv.done (t.told ∷ []) t.others ∙ ap (λ (rs : List Record). inv.done ++ rs) (sym rest_is) ∙ inv.split;
      at = t.behind;
      size = omega (arith, inv.size, next, total);
      sound = c.in_ok-write_record.ensures.faulty.sound;
      wrote = c.in_ok-write_record.ensures.faulty.wrote (ok_is_no_fault c.in_ok-write_record.field-0 WriteFault) ∙ inv.wrote;
      other_side = c.in_ok-write_record.ensures.other_side ∙ inv.other_side;
      telling = λ before info told now.
          subst (λ (es : List Entry). IsTelling g.S.Sink.tells_taken g.S.Sink.taken before (definition_at events) info (told ++ es) c.write_record.new.writer)
          (ap (λ (es : List Entry). entries_of events stacks inv.done ++ es) (sym (one_entry events stacks t.told)) ∙ sym (entries_of-append events stacks inv.done (t.told ∷ [])))
          (told_after g.S.Sink.tells_taken g.S.Sink.taken before (definition_at events) info told (entries_of events stacks inv.done) (entry_of events stacks t.told) c.in_ok-write_record.field-0 c.write_record.new.writer
          (c.in_ok-write_record.ensures.writes t.told t.parts before info (told ++ entries_of events stacks inv.done) (inv.telling before info told now)));
    }

pub returns-in_err-write_record-clause-writes : goal.returns-in_err-write_record-clause-writes
returns-in_err-write_record-clause-writes g c before info told now =
    let inv = c.loop-rec.invariant in
    let t = c.in-Some.ensures.told in
    let events = c.args.events.now in
    let stacks = c.args.stacks in
    let fault : Fault = c.in_err-write_record.field-0.0 in
    let rest_is : inv.rest ≡ t.told ∷ t.others = same_Some inv.rest (t.told ∷ t.others) (sym inv.at ∙ t.here) in
    let split : inv.done ++ t.told ∷ t.others ≡ c.args.chunk.now = ap (λ (rs : List Record). inv.done ++ rs) (sym rest_is) ∙ inv.split in
    let chunk_is : entries_of events stacks c.args.chunk.now ≡ entries_of events stacks inv.done ++ (entry_of events stacks t.told ++ entries_of events stacks t.others) =
    ap (λ (rs : List Record). entries_of events stacks rs) (sym split)
    ∙ entries_of-append events stacks inv.done (t.told ∷ t.others)
    ∙ ap (λ (es : List Entry). entries_of events stacks inv.done ++ es) (flat_map-cons (entry_of events stacks) t.told t.others)
    in
    subst (λ (r : Result (Unit {0}) Fault). Tells g.S.Sink.tells_taken g.S.Sink.taken before (definition_at events) info told (entries_of events stacks c.args.chunk.now) r c.write_record.new.writer) (sym (err_is _ _ c.from_residual.ensures.1))
    (subst (λ (es : List Entry). Tells {A = Unit {0}} g.S.Sink.tells_taken g.S.Sink.taken before (definition_at events) info told es (Err fault) c.write_record.new.writer) (sym chunk_is)
    (tells_after g.S.Sink.tells_taken g.S.Sink.taken before (definition_at events) info told (entries_of events stacks inv.done) (entry_of events stacks t.told) (entries_of events stacks t.others) fault c.write_record.new.writer
    (c.in_err-write_record.ensures.writes t.told t.parts before info (told ++ entries_of events stacks inv.done) (inv.telling before info told now))))

pub returns-clause-writes : goal.returns-clause-writes
returns-clause-writes g c before info told now =
    let inv = c.loop-rec.invariant in
    let events = c.args.events.now in
    let stacks = c.args.stacks in
    let rest_is : inv.rest ≡ [] = same_Some inv.rest [] (sym inv.at ∙ c.in_default.ensures.over) in
    let done_is : inv.done ≡ c.args.chunk.now = sym (append-nil inv.done) ∙ ap (λ (rs : List Record). inv.done ++ rs) (sym rest_is) ∙ inv.split in
    subst (λ (rs : List Record). Tells {A = Unit {0}} g.S.Sink.tells_taken g.S.Sink.taken before (definition_at events) info told (entries_of events stacks rs) (Ok tt) c.loop-rec.writer) done_is
    (tells_all g.S.Sink.tells_taken g.S.Sink.taken before (definition_at events) info told (entries_of events stacks inv.done) tt c.loop-rec.writer (inv.telling before info told now))
