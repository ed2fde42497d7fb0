use Rattle.std.proofs.Common.{◌≡◌, ◌+◌, ◌<◌, ℕ, Bool, false, List, [], ◌∷◌, Option, Some, length, refl, ap, sym, ◌∙◌, subst, arith}
use Rattle.std.specs.Prelude.{if◌then◌else◌, is_some}
use Rattle.std.proofs.lemmas.List.{append-nil}
use Rattle.ep_defs.specs.Definitions.{definition_at}
use Rattle.ep_defs.specs.Entry.{Entry}
use Rattle.ep_slot.specs.Hand.{HandState}
use Rattle.ep_stream.specs.Session.{Rest, Batched, hand_on, rest_of, writer_of}
use Rattle.ep_stream.specs.Steps.{TellsStep, GivesBack}
use Rattle.ep_stream.specs.Sweep.{Taking, TellsGive}
use Rattle.ep_stream.specs.Telling.{IsTelling}
use Rattle.ep_stream.proofs.Telling.{tells_all}
use Rattle.ep_stream.proofs.Staying.{set_more, slots_more}
use Rattle.ep_stream.proofs.Sweep.{all_one, gives_is, if_ok, entries_in-one, may_fail_with, tells_with}
use Rattle.ep_stream.proofs.session.Session.sweep_row.Goals as goal

zero_plus : (n count : ℕ) → count ≡ n → count ≡ 0 + n
zero_plus n count e = omega (arith, e)

pub returns-clause-swept : goal.returns-clause-swept
returns-clause-swept g c =
    let s = c.steal-taken.ensures.stolen in
    let old = c.args.self.now in
    let mid = c.steal-taken.new.self in
    let events = c.args.events.now in
    let slot = (rest_of old).seat.slot in
    let t : Taking = record { row = c.args.row; hand = s.hand; records = s.records; last = s.last; chunks = s.chunks } in
    let slot_is : (rest_of mid).seat.slot ≡ slot = ap (λ (r : Rest). r.seat.slot) s.rest in
    let chunks_is : (rest_of mid).in_hand ≡ s.chunks = ap (λ (r : Rest). r.in_hand) s.rest in
    let held = g.R.RowSet.rows c.steal-taken.new.rows in
    let after = g.R.RowSet.rows c.give.new.rows in
    let gives : TellsGive slot s.chunks held after =
    gives_is slot s.chunks held after
    (λ none. ap g.R.RowSet.rows (c.give.ensures.none (chunks_is ∙ none)))
    (λ some.
    subst (λ (n : ℕ). TellsStep (GivesBack slot n) held after) chunks_is
    (subst (λ (n : ℕ). TellsStep (GivesBack n (rest_of mid).in_hand) held after) slot_is
    (c.give.ensures.told (subst (λ (n : ℕ). 0 < n) (sym chunks_is) some))))
    in
    let stacks = (rest_of old).config.stackwalk in
    record {
      takings = t ∷ [];
      rows_are = sym (ap (λ (o : Option HandState). if is_some o then c.args.row ∷ [] else []) s.was);
      taken = record {
        were = all_one (λ (x : Taking). hand_on old x.row ≡ Some x.hand) t s.was;
        batched = all_one (λ (x : Taking). Batched (g.R.RowSet.tests_record c.args.rows.now (rest_of old).config) events x.hand x.records x.last) t s.batched;
        told = (after, record { between = held; takes = s.told; gives = gives }, refl);
        hands = λ row. c.give.ensures.hands row ∙ s.hands row;
        rest = c.give.ensures.rest ∙ ap (λ (r : Rest). record r { in_hand = 0 }) s.rest;
      };
      writes = λ before info told telling.
          tells_with g.S.Sink.tells_taken g.S.Sink.taken before (definition_at events) info told _ _ c.steal-taken.result (writer_of mid) (writer_of c.give.new.self) c.give.ensures.writer (entries_in-one events stacks t)
          (s.writes before info told telling);
      counted = if_ok c.steal-taken.result (λ count. count ≡ length s.records) (λ count. count ≡ 0 + length s.records) (λ count e. zero_plus (length s.records) count e) s.counted;
    }

pub returns-clause-faulty : goal.returns-clause-faulty
returns-clause-faulty g c = may_fail_with g.S.Sink.write_faults (writer_of c.args.self.now) (writer_of c.steal-taken.new.self) (writer_of c.give.new.self) c.steal-taken.result c.give.ensures.writer c.steal-taken.ensures.faulty

pub returns-clause-set : goal.returns-clause-set
returns-clause-set g c =
    set_more g.R.RowSet.count g.R.RowSet.definitions g.R.RowSet.can_attach g.R.RowSet.tests_record g.R.RowSet.tests_hand g.R.RowSet.tests_marks c.args.rows.now c.steal-taken.new.rows c.give.new.rows
    c.steal-taken.ensures.set c.give.ensures.set

pub returns-clause-slots : goal.returns-clause-slots
returns-clause-slots g c =
    slots_more g.R.RowSet.expected g.R.RowSet.configured g.R.RowSet.out (rest_of c.args.self.now).seat.slot (rest_of c.steal-taken.new.self).seat.slot c.args.rows.now c.steal-taken.new.rows c.give.new.rows
    (ap (λ (r : Rest). r.seat.slot) c.steal-taken.ensures.stolen.rest) c.steal-taken.ensures.slots c.give.ensures.slots

pub returns-then-not-is_open-clause-swept : goal.returns-then-not-is_open-clause-swept
returns-then-not-is_open-clause-swept g c =
    let old = c.args.self.now in
    let closed : is_some (hand_on old c.args.row) ≡ false = sym c.is_open.ensures ∙ c.if-not-is_open.true in
    record {
      takings = [];
      rows_are = sym (ap (λ (v : Bool). if v then c.args.row ∷ [] else []) closed);
      taken = record {
        were = λ k d small. absurd (omega (arith, small));
        batched = λ k d small. absurd (omega (arith, small));
        told = refl;
        hands = λ row. refl;
        rest = ap (λ (n : ℕ). record (rest_of old) { in_hand = n }) c.requires.empty;
      };
      writes = λ before info told telling.
          tells_all g.S.Sink.tells_taken g.S.Sink.taken before (definition_at c.args.events.now) info told [] 0 (writer_of old)
          (subst (λ (es : List Entry). IsTelling g.S.Sink.tells_taken g.S.Sink.taken before (definition_at c.args.events.now) info es (writer_of old)) (sym (append-nil told)) telling);
      counted = refl;
    }
