use Rattle.std.proofs.Common.{◌≡◌, ◌+◌, ℕ, List, true, length, ap, sym, ◌∙◌, subst, arith}
use Rattle.std.specs.Prelude.{Result, IfOk}
use Rattle.ep_defs.specs.Definitions.{definition_at}
use Rattle.ep_defs.specs.declared.event.EventDef.{EventDef}
use Rattle.ep_chunk.specs.Record.{Record}
use Rattle.ep_slot.specs.Chain.{records_of}
use Rattle.ep_slot.specs.Hand.{HandState}
use Rattle.nt_write.specs.declared.fault.Fault.{Fault}
use Rattle.ep_stream.specs.Rows.{IsBatch}
use Rattle.ep_stream.specs.Session.{rest_of}
use Rattle.ep_stream.specs.Telling.{entries_of, Tells}
use Rattle.ep_stream.proofs.Stealing.{hands-back, rest-used, batched-of, rows-stolen}
use Rattle.ep_stream.proofs.Taking.{batch_writable, tells_fault, tells_answer}
use Rattle.ep_stream.proofs.Telling.{err_is}
use Rattle.ep_stream.proofs.session.Session.steal.Goals as goal

pub write_chain-written-requires-clause-records : goal.write_chain-written-requires-clause-records
write_chain-written-requires-clause-records g c =
    let hand : HandState = c.lift-hand.result in
    batch_writable c.args.events.now hand _ _ (subst (λ (es : List EventDef). IsBatch es hand (records_of c.steal-batch.result.chain) c.steal-batch.result.last) (sym c.requires.events) c.steal-batch.ensures.batch)

pub returns-in_err-written-clause-stolen : goal.returns-in_err-written-clause-stolen
returns-in_err-written-clause-stolen g c =
    let old = c.args.self.now in
    let hand : HandState = c.lift-hand.result in
    let records : List Record = records_of c.steal-batch.result.chain in
    let was = c.lift-hand.ensures.hand in
    record {
      hand = hand;
      records = records;
      last = c.steal-batch.result.last;
      chunks = length c.steal-batch.result.chain;
      was = was;
      batched = batched-of (g.R.RowSet.tests_record c.args.rows.now old.config) _ _ hand records _ c.requires.events c.steal-batch.ensures.batch (c.steal-batch.ensures.tested old.config (c.requires.rows.configs c.args.row hand was));
      told = c.steal-batch.ensures.told;
      writes = λ before info told telling. subst (λ (r : Result ℕ Fault). Tells {A = ℕ} g.S.Sink.tells_taken g.S.Sink.taken before (definition_at c.args.events.now) info told (entries_of c.args.events.now old.config.stackwalk records) r c.write_chain-written.new.writer) (sym (err_is _ _ c.from_residual.ensures.1)) (tells_fault {A = Unit {0}} {B = ℕ} g.S.Sink.tells_taken g.S.Sink.taken before (definition_at c.args.events.now) info told (entries_of c.args.events.now old.config.stackwalk records) c.in_err-written.field-0.0 c.in_err-written.field-0.0 c.write_chain-written.new.writer (c.in_err-written.ensures.writes before info told telling));
      hands = hands-back old.opened c.lift-hand.new.self c.put.new.self c.number.new.self c.args.row hand c.steal-batch.new.hand _ c.lift-hand.ensures.hand c.lift-hand.ensures.hands c.put.ensures.hands c.number.ensures.hands c.steal-batch.ensures.hand;
      rest = rest-used (rest_of old) old.opened c.lift-hand.new.self c.put.new.self c.number.new.self c.thread-thread.result c.steal-batch.result.last c.steal-batch.new.hand _ true _ (length c.steal-batch.result.chain)
          c.lift-hand.ensures.named c.put.ensures.named c.number.ensures.named c.thread-thread.ensures c.steal-batch.ensures.hand (c.number.ensures.marks ∙ c.put.ensures.marks ∙ c.lift-hand.ensures.marks);
      counted = subst (λ (r : Result ℕ Fault). IfOk r (λ count. count ≡ length records)) (sym (err_is _ _ c.from_residual.ensures.1)) tt;
    }

pub returns-in_err-written-clause-rows : goal.returns-in_err-written-clause-rows
returns-in_err-written-clause-rows g c =
    rows-stolen g.R.RowSet.expected g.R.RowSet.configured g.R.RowSet.out c.args.rows.now c.steal-batch.new.self c.args.self.now _ c.args.row c.lift-hand.result c.steal-batch.new.hand _ _ (length c.steal-batch.result.chain)
    c.requires.rows c.requires.empty c.lift-hand.ensures.hand c.steal-batch.ensures.hand c.steal-batch.ensures.expected c.steal-batch.ensures.configured c.steal-batch.ensures.out
    (hands-back c.args.self.now.opened c.lift-hand.new.self c.put.new.self c.number.new.self c.args.row c.lift-hand.result c.steal-batch.new.hand _ c.lift-hand.ensures.hand c.lift-hand.ensures.hands c.put.ensures.hands c.number.ensures.hands c.steal-batch.ensures.hand)
    (rest-used (rest_of c.args.self.now) c.args.self.now.opened c.lift-hand.new.self c.put.new.self c.number.new.self c.thread-thread.result c.steal-batch.result.last c.steal-batch.new.hand _ true _ (length c.steal-batch.result.chain)
    c.lift-hand.ensures.named c.put.ensures.named c.number.ensures.named c.thread-thread.ensures c.steal-batch.ensures.hand (c.number.ensures.marks ∙ c.put.ensures.marks ∙ c.lift-hand.ensures.marks))

pub returns-clause-stolen : goal.returns-clause-stolen
returns-clause-stolen g c =
    let old = c.args.self.now in
    let hand : HandState = c.lift-hand.result in
    let records : List Record = records_of c.steal-batch.result.chain in
    let was = c.lift-hand.ensures.hand in
    record {
      hand = hand;
      records = records;
      last = c.steal-batch.result.last;
      chunks = length c.steal-batch.result.chain;
      was = was;
      batched = batched-of (g.R.RowSet.tests_record c.args.rows.now old.config) _ _ hand records _ c.requires.events c.steal-batch.ensures.batch (c.steal-batch.ensures.tested old.config (c.requires.rows.configs c.args.row hand was));
      told = c.steal-batch.ensures.told;
      writes = λ before info told telling. tells_answer g.S.Sink.tells_taken g.S.Sink.taken before (definition_at c.args.events.now) info told (entries_of c.args.events.now old.config.stackwalk records) _ _ _ (c.in_ok-written.ensures.writes before info told telling);
      hands = hands-back old.opened c.lift-hand.new.self c.put.new.self c.number.new.self c.args.row hand c.steal-batch.new.hand _ c.lift-hand.ensures.hand c.lift-hand.ensures.hands c.put.ensures.hands c.number.ensures.hands c.steal-batch.ensures.hand;
      rest = rest-used (rest_of old) old.opened c.lift-hand.new.self c.put.new.self c.number.new.self c.thread-thread.result c.steal-batch.result.last c.steal-batch.new.hand _ true _ (length c.steal-batch.result.chain)
          c.lift-hand.ensures.named c.put.ensures.named c.number.ensures.named c.thread-thread.ensures c.steal-batch.ensures.hand (c.number.ensures.marks ∙ c.put.ensures.marks ∙ c.lift-hand.ensures.marks);
      counted = (let before_is = c.taken-before.ensures in
          let after_is : c.taken.result ≡ hand.taken + length records = c.taken.ensures ∙ ap (λ (h : HandState). h.taken) c.steal-batch.ensures.hand in
          omega (arith, before_is, after_is));
    }

pub returns-clause-rows : goal.returns-clause-rows
returns-clause-rows g c =
    rows-stolen g.R.RowSet.expected g.R.RowSet.configured g.R.RowSet.out c.args.rows.now c.steal-batch.new.self c.args.self.now _ c.args.row c.lift-hand.result c.steal-batch.new.hand _ _ (length c.steal-batch.result.chain)
    c.requires.rows c.requires.empty c.lift-hand.ensures.hand c.steal-batch.ensures.hand c.steal-batch.ensures.expected c.steal-batch.ensures.configured c.steal-batch.ensures.out
    (hands-back c.args.self.now.opened c.lift-hand.new.self c.put.new.self c.number.new.self c.args.row c.lift-hand.result c.steal-batch.new.hand _ c.lift-hand.ensures.hand c.lift-hand.ensures.hands c.put.ensures.hands c.number.ensures.hands c.steal-batch.ensures.hand)
    (rest-used (rest_of c.args.self.now) c.args.self.now.opened c.lift-hand.new.self c.put.new.self c.number.new.self c.thread-thread.result c.steal-batch.result.last c.steal-batch.new.hand _ true _ (length c.steal-batch.result.chain)
    c.lift-hand.ensures.named c.put.ensures.named c.number.ensures.named c.thread-thread.ensures c.steal-batch.ensures.hand (c.number.ensures.marks ∙ c.put.ensures.marks ∙ c.lift-hand.ensures.marks))
