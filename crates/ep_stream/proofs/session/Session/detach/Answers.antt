use Rattle.std.proofs.Common.{◌≡◌, List, Option, None, false, length, refl, ap, sym, ◌∙◌, subst}
use Rattle.ep_defs.specs.declared.event.EventDef.{EventDef}
use Rattle.ep_defs.specs.declared.session.Marks.{Marks}
use Rattle.ep_chunk.specs.Record.{Record}
use Rattle.ep_slot.specs.Chain.{records_of}
use Rattle.ep_slot.specs.Hand.{HandState}
use Rattle.ep_stream.specs.Hands.{hand_at}
use Rattle.ep_stream.specs.Named.{with_marks}
use Rattle.ep_stream.specs.Opened.{hands_in}
use Rattle.ep_stream.specs.Rows.{IsBatch}
use Rattle.ep_stream.specs.Session.{rest_of}
use Rattle.ep_stream.proofs.Stealing.{rest-used, batched-of}
use Rattle.ep_stream.proofs.Taking.{batch_writable, hand_gone}
use Rattle.std.specs.Prelude.{slice_set, ◌-◌}
use Rattle.ep_stream.proofs.Refused.{counts-more}
use Rattle.ep_stream.proofs.session.Session.detach.Goals as goal

pub write_chain-written-requires-clause-records : goal.write_chain-written-requires-clause-records
write_chain-written-requires-clause-records g c =
    let hand : HandState = c.lift-hand.result in
    batch_writable c.args.events.now hand _ _ (subst (λ (es : List EventDef). IsBatch es hand (records_of c.detach-batch.result.0.chain) c.detach-batch.result.0.last) (sym c.requires.events) c.detach-batch.ensures.batch)

pub returns-clause-detached : goal.returns-clause-detached
returns-clause-detached g c =
    let old = c.args.self.now in
    let hand : HandState = c.lift-hand.result in
    let records : List Record = records_of c.detach-batch.result.0.chain in
    let marks : Marks = c.detach-batch.result.1 in
    let configured = c.requires.rows.configs c.args.row hand c.lift-hand.ensures.hand in
    let hands_are : hands_in c.number.new.self ≡ slice_set (hands_in old.opened) (c.args.row - 1) None = c.number.ensures.hands ∙ c.mark.ensures.hands ∙ c.lift-hand.ensures.hands in
    record {
      hand = hand;
      records = records;
      last = c.detach-batch.result.0.last;
      chunks = length c.detach-batch.result.0.chain;
      marks = marks;
      was = c.lift-hand.ensures.hand;
      batched = batched-of (g.R.RowSet.tests_record c.args.rows.now old.config) _ _ hand records _ c.requires.events c.detach-batch.ensures.batch (c.detach-batch.ensures.tested old.config configured);
      marked = c.detach-batch.ensures.marks;
      tested_marks = c.detach-batch.ensures.tested_marks old.config configured;
      told = c.detach-batch.ensures.told;
      writes = c.write_chain-written.ensures.writes;
      hands = λ r. ap (λ (xs : List (Option HandState)). hand_at xs r) hands_are ∙ hand_gone (hands_in old.opened) c.args.row hand r c.lift-hand.ensures.hand;
      rest = rest-used (rest_of old) old.opened c.lift-hand.new.self c.mark.new.self c.number.new.self c.thread-thread.result c.detach-batch.result.0.last hand hand false _ (length c.detach-batch.result.0.chain)
          c.lift-hand.ensures.named c.mark.ensures.named c.number.ensures.named c.thread-thread.ensures refl
          (c.number.ensures.marks ∙ c.mark.ensures.marks ∙ ap (λ (ms : List Marks). with_marks marks ms) c.lift-hand.ensures.marks);
    }

pub returns-clause-refused : goal.returns-clause-refused
returns-clause-refused g c =
    let marks : Marks = c.detach-batch.result.1 in
    counts-more _ _ marks _ _ c.detach-batch.ensures.refused (c.number.ensures.marks ∙ c.mark.ensures.marks ∙ ap (λ (ms : List Marks). with_marks marks ms) c.lift-hand.ensures.marks)
