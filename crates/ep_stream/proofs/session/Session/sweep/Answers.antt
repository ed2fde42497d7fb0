use Rattle.std.proofs.Common.{◌≡◌, ℕ, ◌+◌, List, [], ◌++◌, refl, ap, sym, ◌∙◌, subst, arith}
use Rattle.std.specs.Prelude.{Result, Ok, Err, IfOk, OnOk}
use Rattle.std.proofs.lemmas.List.{append-nil}
use Rattle.ep_defs.specs.Definitions.{definition_at}
use Rattle.ep_defs.specs.Entry.{Entry}
use Rattle.ep_stream.specs.Session.{Rest, hand_on, rest_of, writer_of}
use Rattle.nt_write.specs.declared.fault.Fault.{Fault}
use Rattle.nt_write.specs.declared.fault.Fault.TheVariants.{WriteFault}
use Rattle.ep_stream.specs.declared.opened.Named.{Named}
use Rattle.ep_stream.specs.Sweep.{Taking, entries_in, named_after, named_behind, open_rows, point_after, records_in, rows_of}
use Rattle.ep_stream.specs.Telling.{IsFaulty, IsTelling, Tells}
use Rattle.ep_stream.proofs.Staying.{set_stays, set_more, slots_stay, slots_more}
use Rattle.ep_stream.proofs.Telling.{told_after, tells_all, err_is, ok_is_no_fault, on_err}
use Rattle.ep_stream.proofs.Sweep.{to-next, point-behind, rows_front, tells_next, tells_behind, tells_last, entries_in-append, records_in-append, failed_after, faulty_after, faulty_ok, faulty_err, rows_same}
use Rattle.ep_stream.proofs.session.Session.sweep.Goals as goal

pub loop-place-init : goal.loop-place-init
loop-place-init g c =
    let rows = c.args.rows.now in
    record {
      takings = [];
      rows_are = refl;
      below = λ k d small. absurd (omega (arith, small));
      within = omega arith;
      taken = record {
        were = λ k d small. absurd (omega (arith, small));
        batched = λ k d small. absurd (omega (arith, small));
        told = refl;
        hands = λ row. refl;
        rest = ap (λ (n : ℕ). record (rest_of c.args.self.now) { in_hand = n }) c.requires.empty;
      };
      telling = λ before info told now. subst (λ (es : List Entry). IsTelling g.S.Sink.tells_taken g.S.Sink.taken before (definition_at c.args.events.now) info es (writer_of c.args.self.now)) (sym (append-nil told)) now;
      fault = refl;
      wrote = refl;
      other_side = refl;
      counted = refl;
      small = omega arith;
      opened = refl;
      rows = c.requires.rows;
      refused = refl;
      set = set_stays g.R.RowSet.count g.R.RowSet.definitions g.R.RowSet.can_attach g.R.RowSet.tests_record g.R.RowSet.tests_hand g.R.RowSet.tests_marks rows;
      slots = slots_stay g.R.RowSet.expected g.R.RowSet.configured g.R.RowSet.out (rest_of c.args.self.now).seat.slot rows;
    }

pub sweep_row-requires-clause-empty : goal.sweep_row-requires-clause-empty
sweep_row-requires-clause-empty g c = ap (λ (r : Rest). r.in_hand) c.loop-place.invariant.taken.rest

pub sweep_row-requires-clause-events : goal.sweep_row-requires-clause-events
sweep_row-requires-clause-events g c = c.requires.events ∙ sym c.loop-place.invariant.set.definitions_are

pub loop-place-preserved : goal.loop-place-preserved
loop-place-preserved g c =
    let inv = c.loop-place.invariant in
    let old = c.args.self.now in
    let mid = c.loop-place.self in
    let new = c.sweep_row.new.self in
    let rows = c.args.rows.now in
    let now = c.loop-place.rows in
    let after = c.sweep_row.new.rows in
    let events = c.args.events.now in
    let m = c.in_ok-taken.ensures.swept in
    let first : List Taking = inv.takings in
    let more : List Taking = m.takings in
    let to = to-next g.R.RowSet.tests_record g.R.RowSet.rows events first more c.loop-place.place old mid new rows now after (record { rows_are = inv.rows_are; below = inv.below; taken = inv.taken }) inv.set.records m.rows_are m.taken in
    let slot_is : (rest_of mid).seat.slot ≡ (rest_of old).seat.slot = ap (λ (r : Rest). r.seat.slot) inv.taken.rest in
    let stacks = (rest_of old).config.stackwalk in
    record {
      takings = first ++ more;
      rows_are = to.rows_are;
      below = to.below;
      within = (let test = c.loop-place-test.true in let end = c.threads-place-end.ensures in omega (arith, test, end));
      taken = to.taken;
      telling = λ before info told t.
          subst (λ (es : List Entry). IsTelling g.S.Sink.tells_taken g.S.Sink.taken before (definition_at events) info (told ++ es) (writer_of new))
          (sym (entries_in-append events stacks first more))
          (told_after g.S.Sink.tells_taken g.S.Sink.taken before (definition_at events) info told (entries_in events stacks first) (entries_in events stacks more) c.in_ok-taken.taken (writer_of new)
          (tells_next g.S.Sink.tells_taken g.S.Sink.taken before info told events first more old mid _ (Ok c.in_ok-taken.taken) (writer_of new) inv.taken.rest
          (m.writes before info (told ++ entries_in events stacks first) (inv.telling before info told t))));
      fault = c.in_ok-taken.ensures.faulty.same ∙ inv.fault;
      wrote = c.in_ok-taken.ensures.faulty.wrote (ok_is_no_fault c.in_ok-taken.taken WriteFault) ∙ inv.wrote;
      other_side = c.in_ok-taken.ensures.other_side ∙ inv.other_side;
      counted = (let a = inv.counted in let b = m.counted in let e = records_in-append first more in omega (arith, a, b, e));
      small = (let a = inv.small in omega (arith, a));
      opened = c.in_ok-taken.ensures.count ∙ inv.opened;
      rows = c.in_ok-taken.ensures.rows;
      refused = c.in_ok-taken.ensures.refused ∙ inv.refused;
      set = set_more g.R.RowSet.count g.R.RowSet.definitions g.R.RowSet.can_attach g.R.RowSet.tests_record g.R.RowSet.tests_hand g.R.RowSet.tests_marks rows now after inv.set c.in_ok-taken.ensures.set;
      slots = slots_more g.R.RowSet.expected g.R.RowSet.configured g.R.RowSet.out (rest_of old).seat.slot (rest_of mid).seat.slot rows now after slot_is inv.slots c.in_ok-taken.ensures.slots;
    }

pub returns-in_err-taken-clause-swept : goal.returns-in_err-taken-clause-swept
returns-in_err-taken-clause-swept g c =
    let inv = c.loop-place.invariant in
    let m = c.in_err-taken.ensures.swept in
    let old = c.args.self.now in
    let mid = c.loop-place.self in
    let new = c.sweep_row.new.self in
    let events = c.args.events.now in
    let place = c.loop-place.place in
    let count : ℕ = g.R.RowSet.count c.args.rows.now in
    let first : List Taking = inv.takings in
    let more : List Taking = m.takings in
    let fault : Fault = c.in_err-taken.field-0.0 in
    let result_is : c.from_residual.result ≡ Err fault = err_is _ _ c.from_residual.ensures.1 in
    let to = to-next g.R.RowSet.tests_record g.R.RowSet.rows events first more place old mid new c.args.rows.now c.loop-place.rows c.sweep_row.new.rows (record { rows_are = inv.rows_are; below = inv.below; taken = inv.taken }) inv.set.records m.rows_are m.taken in
    let stacks = (rest_of old).config.stackwalk in
    let front = rows_front (hand_on old) (place + 1) count (let test = c.loop-place-test.true in let end = c.threads-place-end.ensures in omega (arith, test, end)) in
    let last : List Entry = point_after (records_in (first ++ more)) c.args.stamp (named_after (rest_of old).named (first ++ more)) in
    record {
      takings = first ++ more;
      whole = subst (λ (r : Result ℕ Fault). OnOk r (rows_of (first ++ more) ≡ open_rows (hand_on old) count)) (sym result_is) tt;
      front = (front.0, ap (λ (xs : List ℕ). xs ++ front.0) to.rows_are ∙ front.1);
      were = to.taken.were;
      batched = to.taken.batched;
      told = to.taken.told;
      writes = λ before info told t.
          subst (λ (r : Result ℕ Fault). Tells g.S.Sink.tells_taken g.S.Sink.taken before (definition_at events) info told (entries_in events stacks (first ++ more) ++ last) r (writer_of new)) (sym result_is)
          (subst (λ (es : List Entry). Tells {A = ℕ} g.S.Sink.tells_taken g.S.Sink.taken before (definition_at events) info told (es ++ last) (Err fault) (writer_of new)) (sym (entries_in-append events stacks first more))
          (tells_behind {A = ℕ} g.S.Sink.tells_taken g.S.Sink.taken before (definition_at events) info told (entries_in events stacks first) (entries_in events stacks more) last fault (writer_of new)
          (tells_next {A = ℕ} g.S.Sink.tells_taken g.S.Sink.taken before info told events first more old mid _ (Err fault) (writer_of new) inv.taken.rest
          (m.writes before info (told ++ entries_in events stacks first) (inv.telling before info told t)))));
      hands = to.taken.hands;
      rest = to.taken.rest ∙ ap (λ (ns : List Named). record (rest_of old) { named = ns; in_hand = 0 }) (sym (ap (λ (r : Rest). r.named) to.taken.rest));
      named = subst (λ (r : Result ℕ Fault). OnOk r ((rest_of new).named ≡ named_behind (records_in (first ++ more)) (named_after (rest_of old).named (first ++ more)))) (sym result_is) tt;
      unnamed = on_err c.from_residual.result (ap (λ (r : Rest). r.named) to.taken.rest);
      counted = subst (λ (r : Result ℕ Fault). IfOk r (λ n. n ≡ records_in (first ++ more))) (sym result_is) tt;
    }

pub returns-in_err-taken-clause-faulty : goal.returns-in_err-taken-clause-faulty
returns-in_err-taken-clause-faulty g c =
    let inv = c.loop-place.invariant in
    subst (λ (r : Result ℕ Fault). IsFaulty g.S.Sink.write_faults (writer_of c.args.self.now) (writer_of c.sweep_row.new.self) r) (sym (err_is _ _ c.from_residual.ensures.1))
    (failed_after g.S.Sink.write_faults (writer_of c.args.self.now) (writer_of c.loop-place.self) (writer_of c.sweep_row.new.self) c.in_err-taken.field-0.0 inv.fault inv.wrote c.in_err-taken.ensures.faulty)

pub returns-in_err-taken-clause-set : goal.returns-in_err-taken-clause-set
returns-in_err-taken-clause-set g c =
    set_more g.R.RowSet.count g.R.RowSet.definitions g.R.RowSet.can_attach g.R.RowSet.tests_record g.R.RowSet.tests_hand g.R.RowSet.tests_marks c.args.rows.now c.loop-place.rows c.sweep_row.new.rows c.loop-place.invariant.set c.in_err-taken.ensures.set

pub returns-in_err-taken-clause-slots : goal.returns-in_err-taken-clause-slots
returns-in_err-taken-clause-slots g c =
    slots_more g.R.RowSet.expected g.R.RowSet.configured g.R.RowSet.out (rest_of c.args.self.now).seat.slot (rest_of c.loop-place.self).seat.slot c.args.rows.now c.loop-place.rows c.sweep_row.new.rows
    (ap (λ (r : Rest). r.seat.slot) c.loop-place.invariant.taken.rest) c.loop-place.invariant.slots c.in_err-taken.ensures.slots

pub returns-clause-swept : goal.returns-clause-swept
returns-clause-swept g c =
    let inv = c.loop-place.invariant in
    let old = c.args.self.now in
    let new = c.end_sweep.new.self in
    let events = c.args.events.now in
    let first : List Taking = inv.takings in
    let e = c.in_ok-end_sweep.ensures in
    let stacks = (rest_of old).config.stackwalk in
    let named_is = ap (λ (r : Rest). r.named) inv.taken.rest in
    let last : List Entry = point_after c.loop-place.count c.args.stamp (rest_of c.loop-place.self).named in
    let last_is = point-behind c.loop-place.count c.args.stamp _ (rest_of old).named first inv.counted named_is in
    let place_is : c.loop-place.place ≡ g.R.RowSet.count c.args.rows.now = (let test = c.loop-place-test.false in let end = c.threads-place-end.ensures in let within = inv.within in omega (arith, test, end, within)) in
    let whole = inv.rows_are ∙ ap (open_rows (hand_on old)) place_is in
    record {
      takings = first;
      whole = whole;
      front = ([], append-nil (rows_of first) ∙ whole);
      were = inv.taken.were;
      batched = inv.taken.batched;
      told = inv.taken.told;
      writes = λ before info told t.
          subst (λ (es : List Entry). Tells {A = ℕ} g.S.Sink.tells_taken g.S.Sink.taken before (definition_at events) info told (entries_in events stacks first ++ es) (Ok c.loop-place.count) (writer_of new)) last_is
          (tells_all g.S.Sink.tells_taken g.S.Sink.taken before (definition_at events) info told (entries_in events stacks first ++ last) c.loop-place.count (writer_of new)
          (told_after g.S.Sink.tells_taken g.S.Sink.taken before (definition_at events) info told (entries_in events stacks first) last c.in_ok-end_sweep.field-0 (writer_of new)
          (e.writes events before info (told ++ entries_in events stacks first) (inv.telling before info told t))));
      hands = λ row. e.hands row ∙ inv.taken.hands row;
      rest = e.others ∙ ap (λ (r : Rest). record r { named = (rest_of new).named }) inv.taken.rest;
      named = e.named
          ∙ ap (λ (n : ℕ). named_behind n (rest_of c.loop-place.self).named) inv.counted
          ∙ ap (λ (ns : List Named). named_behind (records_in first) ns) named_is;
      unnamed = tt;
      counted = inv.counted;
    }

pub returns-clause-faulty : goal.returns-clause-faulty
returns-clause-faulty g c =
    let inv = c.loop-place.invariant in
    faulty_ok g.S.Sink.write_faults (writer_of c.args.self.now) (writer_of c.end_sweep.new.self) c.in_ok-end_sweep.field-0 c.loop-place.count
    (faulty_after g.S.Sink.write_faults (writer_of c.args.self.now) (writer_of c.loop-place.self) (writer_of c.end_sweep.new.self) (Ok c.in_ok-end_sweep.field-0) inv.fault inv.wrote c.in_ok-end_sweep.ensures.faulty)

pub returns-clause-rows : goal.returns-clause-rows
returns-clause-rows g c =
    rows_same g.R.RowSet.expected g.R.RowSet.configured g.R.RowSet.out c.loop-place.rows c.loop-place.self c.end_sweep.new.self
    c.in_ok-end_sweep.ensures.hands c.in_ok-end_sweep.ensures.others c.loop-place.invariant.rows

pub returns-in_err-end_sweep-clause-swept : goal.returns-in_err-end_sweep-clause-swept
returns-in_err-end_sweep-clause-swept g c =
    let inv = c.loop-place.invariant in
    let e = c.in_err-end_sweep.ensures in
    let old = c.args.self.now in
    let new = c.end_sweep.new.self in
    let events = c.args.events.now in
    let first : List Taking = inv.takings in
    let names = (rest_of old).named in
    let stacks = (rest_of old).config.stackwalk in
    let fault : Fault = c.in_err-end_sweep.field-0.0 in
    let result_is : c.from_residual-in_err-end_sweep.result ≡ Err fault = err_is _ _ c.from_residual-in_err-end_sweep.ensures.1 in
    let named_is = ap (λ (r : Rest). r.named) inv.taken.rest in
    let last : List Entry = point_after c.loop-place.count c.args.stamp (rest_of c.loop-place.self).named in
    let last_is = point-behind c.loop-place.count c.args.stamp _ names first inv.counted named_is in
    let count : ℕ = g.R.RowSet.count c.args.rows.now in
    let place_is : c.loop-place.place ≡ count = (let test = c.loop-place-test.false in let end = c.threads-place-end.ensures in let within = inv.within in omega (arith, test, end, within)) in
    let whole = inv.rows_are ∙ ap (open_rows (hand_on old)) place_is in
    record {
      takings = first;
      whole = subst (λ (r : Result ℕ Fault). OnOk r (rows_of first ≡ open_rows (hand_on old) count)) (sym result_is) tt;
      front = ([], append-nil (rows_of first) ∙ whole);
      were = inv.taken.were;
      batched = inv.taken.batched;
      told = inv.taken.told;
      writes = λ before info told t.
          subst (λ (r : Result ℕ Fault). Tells g.S.Sink.tells_taken g.S.Sink.taken before (definition_at events) info told (entries_in events stacks first ++ point_after (records_in first) c.args.stamp (named_after names first)) r (writer_of new)) (sym result_is)
          (subst (λ (es : List Entry). Tells {A = ℕ} g.S.Sink.tells_taken g.S.Sink.taken before (definition_at events) info told (entries_in events stacks first ++ es) (Err fault) (writer_of new)) last_is
          (tells_last {A = Unit {0}} {B = ℕ} g.S.Sink.tells_taken g.S.Sink.taken before (definition_at events) info told (entries_in events stacks first) last fault (writer_of new)
          (e.writes events before info (told ++ entries_in events stacks first) (inv.telling before info told t))));
      hands = λ row. e.hands row ∙ inv.taken.hands row;
      rest = e.others ∙ ap (λ (r : Rest). record r { named = (rest_of new).named }) inv.taken.rest;
      named = subst (λ (r : Result ℕ Fault). OnOk r ((rest_of new).named ≡ named_behind (records_in first) (named_after names first))) (sym result_is) tt;
      unnamed = on_err c.from_residual-in_err-end_sweep.result (e.unnamed ∙ named_is);
      counted = subst (λ (r : Result ℕ Fault). IfOk r (λ n. n ≡ records_in first)) (sym result_is) tt;
    }

pub returns-in_err-end_sweep-clause-faulty : goal.returns-in_err-end_sweep-clause-faulty
returns-in_err-end_sweep-clause-faulty g c =
    let inv = c.loop-place.invariant in
    let fault : Fault = c.in_err-end_sweep.field-0.0 in
    faulty_err {A = Unit {0}} g.S.Sink.write_faults (writer_of c.args.self.now) (writer_of c.end_sweep.new.self) (Err fault) c.from_residual-in_err-end_sweep.result fault refl (err_is _ _ c.from_residual-in_err-end_sweep.ensures.1)
    (faulty_after g.S.Sink.write_faults (writer_of c.args.self.now) (writer_of c.loop-place.self) (writer_of c.end_sweep.new.self) (Err fault) inv.fault inv.wrote c.in_err-end_sweep.ensures.faulty)

pub returns-in_err-end_sweep-clause-rows : goal.returns-in_err-end_sweep-clause-rows
returns-in_err-end_sweep-clause-rows g c =
    rows_same g.R.RowSet.expected g.R.RowSet.configured g.R.RowSet.out c.loop-place.rows c.loop-place.self c.end_sweep.new.self
    c.in_err-end_sweep.ensures.hands c.in_err-end_sweep.ensures.others c.loop-place.invariant.rows
