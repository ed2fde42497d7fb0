use Rattle.std.proofs.Common.{true, List, ap, sym, ◌∙◌, refl, subst, ℕ, ◌+◌, map}
use Rattle.std.specs.Prelude.{◌==◌, option_map}
use Rattle.ep_defs.specs.declared.event.EventDef.{EventDef}
use Rattle.pt_io.specs.Memory.{SinkState}
use Rattle.ep_stream.specs.Session.{Ended}
use Rattle.ep_stream.specs.declared.session.Fate.TheVariants.{ProgramEnd}
use Rattle.ep_tables.specs.declared.tables.Present.{Present}
use Rattle.ep_tables.specs.Can.{IsNowhere, HasEmptyHand}
use Rattle.ep_tables.proofs.Found.{All-at}
use Rattle.ep_slot.specs.Hand.{hand_of}
use Rattle.ep_rows.specs.Rows.{expected_in}
use Rattle.ep_tables.specs.Tied.{IsTied}
use Rattle.ep_tables.proofs.PresentLists.{has_own}
use Rattle.ep_tables.proofs.Places.{found_there, holds_there}
use Rattle.ep_tables.proofs.TiedComings.{nowhere_open, finish_tied}
use Rattle.ep_tables.specs.Tables.{number_of}
use Rattle.ep_tables.specs.Falling.{falls}
use Rattle.ep_tables.proofs.Falling.{falls_without}
use Rattle.ep_tables.proofs.tables.Tables.finish.Goals as goal

pub unseat-requires-clause-off : goal.unseat-requires-clause-off
unseat-requires-clause-off c =
    let there = found_there (λ (p : Present). p.number == c.args.of.session) c.args.self.now.present.items c.args.of.place c.remove-present.result c.requires.ready.there c.remove-present.ensures.value in
    let can = holds_there c.args.self.now c.args.of.session c.args.of.place c.remove-present.result (λ p. IsNowhere c.args.self.now p × HasEmptyHand p) c.requires.ready.there there c.requires.ready.can in
    nowhere_open c.args.self.now.rows c.remove-present.result.slot can.0

pub free-requires : goal.free-requires
free-requires c =
    let there = found_there (λ (p : Present). p.number == c.args.of.session) c.args.self.now.present.items c.args.of.place c.remove-present.result c.requires.ready.there c.remove-present.ensures.value in
    c.requires.tied.held c.remove-present.result.slot ∙ has_own c.args.self.now.present.items c.args.of.place c.remove-present.result there

pub finish-requires-clause-closed : goal.finish-requires-clause-closed
finish-requires-clause-closed c row =
    let there = found_there (λ (p : Present). p.number == c.args.of.session) c.args.self.now.present.items c.args.of.place c.remove-present.result c.requires.ready.there c.remove-present.ensures.value in
    let can = holds_there c.args.self.now c.args.of.session c.args.of.place c.remove-present.result (λ p. IsNowhere c.args.self.now p × HasEmptyHand p) c.requires.ready.there there c.requires.ready.can in
    let rows = c.args.self.now.rows in
    let tied = All-at (IsTied rows) c.args.self.now.present.items c.args.of.place c.remove-present.result c.requires.tied.sessions there in
    sym (tied.rows_are.hands row) ∙ ap (λ (s : ℕ). expected_in rows row s) tied.slot ∙ ap (option_map hand_of) (nowhere_open rows c.remove-present.result.slot can.0 row)

pub finish-requires-clause-empty : goal.finish-requires-clause-empty
finish-requires-clause-empty c =
    let there = found_there (λ (p : Present). p.number == c.args.of.session) c.args.self.now.present.items c.args.of.place c.remove-present.result c.requires.ready.there c.remove-present.ensures.value in
    let can = holds_there c.args.self.now c.args.of.session c.args.of.place c.remove-present.result (λ p. IsNowhere c.args.self.now p × HasEmptyHand p) c.requires.ready.there there c.requires.ready.can in
    can.1

pub returns-clause-made : goal.returns-clause-made
returns-clause-made c =
    record {
      place = c.args.of.place;
      was = c.remove-present.result;
      stands = record {
        first = c.requires.ready.there;
        there = found_there (λ (p : Present). p.number == c.args.of.session) c.args.self.now.present.items c.args.of.place c.remove-present.result c.requires.ready.there c.remove-present.ensures.value;
      };
      sessions = c.remove-present.ensures.items;
      table = c.free.ensures;
      rows = c.unseat.ensures.unseated;
      last_session = refl;
      events = record { events = refl; known = c.unseat.ensures.definitions };
      threads = record { threads = refl; last_thread = refl };
      begins = refl;
    }

pub returns-clause-tied : goal.returns-clause-tied
returns-clause-tied c =
    let there = found_there (λ (p : Present). p.number == c.args.of.session) c.args.self.now.present.items c.args.of.place c.remove-present.result c.requires.ready.there c.remove-present.ensures.value in
    let can = holds_there c.args.self.now c.args.of.session c.args.of.place c.remove-present.result (λ p. IsNowhere c.args.self.now p × HasEmptyHand p) c.requires.ready.there there c.requires.ready.can in
    let unseated = c.unseat.ensures in
    finish_tied c.args.self.now _ c.args.of.place c.remove-present.result there c.free.ensures c.remove-present.ensures.items refl unseated.definitions unseated.unseated.slots unseated.cleared
    (nowhere_open c.args.self.now.rows c.remove-present.result.slot can.0) c.requires.tied

pub returns-clause-ended : goal.returns-clause-ended
returns-clause-ended c =
    record {
      place = c.args.of.place;
      was = c.remove-present.result;
      stands = record {
        first = c.requires.ready.there;
        there = found_there (λ (p : Present). p.number == c.args.of.session) c.args.self.now.present.items c.args.of.place c.remove-present.result c.requires.ready.there c.remove-present.ensures.value;
      };
      marks = c.finish.ensures.marks;
      ended = subst (λ (es : List EventDef). Ended (λ (s : SinkState). true) (λ (s : SinkState). s.taken) (λ (s : SinkState). s.faults) es c.args.stamp ProgramEnd c.remove-present.result.session c.finish.result.fate c.finish.result.sink) c.as_slice.ensures.value c.finish.ensures.ended;
    }

pub invariant_of-self-clause-falling : goal.invariant_of-self-clause-falling
invariant_of-self-clause-falling c =
    let old = c.args.self.now in
    ap (λ (ps : List Present). falls (old.last_session + 1) (map number_of ps)) c.remove-present.ensures.items
    ∙ falls_without number_of (old.last_session + 1) old.present.items c.args.of.place old.falling
