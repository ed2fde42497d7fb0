use Rattle.std.proofs.Common.{◌≡◌, ◌-◌, ◌+◌, ◌∷◌, ℕ, false, Some, List, Option, get_or, take, sym, ◌∙◌, ap, subst, arith, set}
use Rattle.std.proofs.lemmas.Option.{same_Some}
use Rattle.ep_defs.specs.declared.session.Write.{Write}
use Rattle.ep_model.specs.declared.step.Step.TheVariants as step
use Rattle.ep_model.specs.History.{Past}
use Rattle.ep_row.specs.Row.{RowState}
use Rattle.ep_rows.specs.Rows.{told_of}
use Rattle.ep_core_laws.specs.Rests.{IsKeptAt}
use Rattle.ep_core_laws.specs.Works.{Works, WorksBefore}
use Rattle.ep_core.proofs.Writing.{begin_next, show_next, all_shown, can_begin, can_show, forgotten, one_shown, put_there, same_row, shown_to, whole_is}
use Rattle.ep_core.proofs.whole.make_whole.Goals as goal

-- ---- it begins

pub unreachable-requires : goal.unreachable-requires
unreachable-requires c =
    let next = begin_next c.requires in
    let found = c.what_a_step_needs_is_there.ensures next.events next.past c.args.tables.now (step.Begin c.args.thread c.args.stamp c.args.write.now) next.before.works.follow next.before.lawful.1 in
    let none = c.in_default.ensures.own in
    let own = found.0.own in
    absurd (cc)

pub begin-requires-clause-ready : goal.begin-requires-clause-ready
begin-requires-clause-ready c =
    let next = begin_next c.requires in
    record {
      there = record { own = sym c.in-Some.ensures.own; is_row = c.in-Some.ensures.row };
      can = c.what_a_step_needs_is_there.ensures next.events next.past c.args.tables.now (step.Begin c.args.thread c.args.stamp c.args.write.now) next.before.works.follow next.before.lawful.1;
    }

pub begin-requires-clause-tied : goal.begin-requires-clause-tied
begin-requires-clause-tied c = c.requires.works.tied

pub begin-requires-clause-few : goal.begin-requires-clause-few
begin-requires-clause-few c =
    let can = c.requires in
    c.a_write_that_begins_has_a_number.ensures c.args.thread c.args.stamp c.in-Some.row c.args.write.now c.args.tables.now can.begun (begin_next can) (sym c.in-Some.ensures.own)

pub loop-session-init : goal.loop-session-init
loop-session-init c =
    let made = c.begin.ensures.made in
    let row = c.in-Some.row in
    let thread = c.args.thread in
    let stamp = c.args.stamp in
    let write = c.args.write.now in
    record {
      threads = made.own.threads.threads;
      follows = λ events info past begun works lawful.
          let At : ℕ → Type 0 = λ r. Works events info (step.Begin thread stamp write ∷ past) c.begin.new.self (set begun (r - 1) (Some write)) in
          subst At (same_Some made.own.row row (sym made.own.own ∙ sym c.in-Some.ensures.own))
          (c.a_machine_follows_a_begin.ensures thread stamp write c.args.tables.now c.begin.new.self begun made c.begin.ensures.tied info events past
          (record { lawful = can_begin events thread stamp write c.args.sessions.now past lawful; works = works }));
    }

-- ---- it is shown

pub unreachable-requires-in_default-place_of : goal.unreachable-requires-in_default-place_of
unreachable-requires-in_default-place_of c =
    let can = c.requires in
    let next = show_next can c.loop-session.invariant c.loop-session-test.true in
    let found = c.what_a_step_needs_is_there.ensures next.events next.past c.loop-session.tables (step.Show c.args.thread (get_or c.args.sessions.now c.loop-session.session-index 0)) next.before.works.follow next.before.lawful.1 in
    let none = c.in_default-place_of.ensures in
    let first = found.first in
    absurd (cc)

pub show-requires-clause-ready : goal.show-requires-clause-ready
show-requires-clause-ready c =
    let can = c.requires in
    let shown = c.loop-session.invariant in
    let next = show_next can shown c.loop-session-test.true in
    let found = c.what_a_step_needs_is_there.ensures next.events next.past c.loop-session.tables (step.Show c.args.thread (get_or c.args.sessions.now c.loop-session.session-index 0)) next.before.works.follow next.before.lawful.1 in
    let row = c.in-Some.row in
    let same = same_row c.args.tables.now c.loop-session.tables c.args.thread row found.holds.row shown.threads (sym c.in-Some.ensures.own) found.holds.own in
    record {
      there = record { of = sym c.in-Some-place_of.ensures; on = record { own = found.holds.own ∙ ap Some same; is_row = c.in-Some.ensures.row } };
      can = found;
    }

pub show-requires-clause-tied : goal.show-requires-clause-tied
show-requires-clause-tied c = (show_next c.requires c.loop-session.invariant c.loop-session-test.true).before.works.tied

pub show-requires-clause-room : goal.show-requires-clause-room
show-requires-clause-room c =
    let can = c.requires in
    let shown = c.loop-session.invariant in
    let next = show_next can shown c.loop-session-test.true in
    let found = c.what_a_step_needs_is_there.ensures next.events next.past c.loop-session.tables (step.Show c.args.thread (get_or c.args.sessions.now c.loop-session.session-index 0)) next.before.works.follow next.before.lawful.1 in
    let row = c.in-Some.row in
    let at = c.in-Some.ensures.row in
    let count = can.works.begun_count in
    let same = same_row c.args.tables.now c.loop-session.tables c.args.thread row found.holds.row shown.threads (sym c.in-Some.ensures.own) found.holds.own in
    c.a_due_write_can_be_taken.ensures.taken c.args.thread _ row c.args.write.now c.loop-session.tables _ next
    (found.holds.own ∙ ap Some same)
    (put_there can.begun (row - 1) (Some c.args.write.now) (omega (arith, count, at.0, at.1)))

pub loop-session-preserved : goal.loop-session-preserved
loop-session-preserved c =
    let shown = c.loop-session.invariant in
    let made = c.show.ensures.made in
    let row = c.in-Some.row in
    let at = c.in-Some.ensures.row in
    let thread = c.args.thread in
    let stamp = c.args.stamp in
    let write = c.args.write.now in
    let sessions = c.args.sessions.now in
    let index = c.loop-session.session-index in
    let now = c.loop-session.tables in
    let new = c.show.new.self in
    record {
      threads = made.threads.threads ∙ shown.threads;
      follows = λ events info past begun works lawful.
          let first : Past = step.Begin thread stamp write ∷ past in
          let kept : List (Option Write) = set begun (row - 1) (Some write) in
          let before : WorksBefore events info (step.Show thread (get_or sessions index 0)) (shown_to thread (take index sessions) first) now kept =
          record { lawful = can_show events thread stamp write sessions index past c.loop-session-test.true lawful; works = shown.follows events info past begun works lawful } in
          let count = works.begun_count in
          let Kept : ℕ → Type 0 = λ r. IsKeptAt r write kept in
          let Holds : Past → Type 0 = λ p. Works events info p new kept in
          let found = c.what_a_step_needs_is_there.ensures events (shown_to thread (take index sessions) first) now (step.Show thread (get_or sessions index 0)) before.works.follow before.lawful.1 in
          let same = same_row c.args.tables.now now thread row found.holds.row shown.threads (sym c.in-Some.ensures.own) found.holds.own in
          subst Holds (sym (one_shown thread sessions index (index + 1) first c.loop-session-test.true (omega arith)))
          (c.a_machine_follows_a_show.ensures thread (get_or sessions index 0) write now new kept made c.show.ensures.tied
          (subst Kept (same_Some row made.row (sym (found.holds.own ∙ ap Some same) ∙ made.own)) (put_there begun (row - 1) (Some write) (omega (arith, count, at.0, at.1))))
          info events (shown_to thread (take index sessions) first) before);
    }

-- ---- it ends

pub end-requires-clause-ready : goal.end-requires-clause-ready
end-requires-clause-ready c =
    let can = c.requires in
    let shown = c.loop-session.invariant in
    let before = all_shown shown (omega (arith, c.loop-session-test.false)) can.events can.info can.past can.begun can.works can.lawful in
    let found = c.what_a_step_needs_is_there.ensures can.events (shown_to c.args.thread c.args.sessions.now (step.Begin c.args.thread c.args.stamp c.args.write.now ∷ can.past)) c.loop-session.tables (step.End c.args.thread) before.works.follow before.lawful.1 in
    let row = c.in-Some.row in
    let same = same_row c.args.tables.now c.loop-session.tables c.args.thread row found.row shown.threads (sym c.in-Some.ensures.own) found.own in
    record {
      there = record { own = found.own ∙ ap Some same; is_row = c.in-Some.ensures.row };
      can = found;
    }

pub end-requires-clause-tied : goal.end-requires-clause-tied
end-requires-clause-tied c =
    let can = c.requires in
    (all_shown c.loop-session.invariant (omega (arith, c.loop-session-test.false)) can.events can.info can.past can.begun can.works can.lawful).works.tied

pub returns : goal.returns
returns c events info past begun works lawful =
    let shown = c.loop-session.invariant in
    let made = c.end.ensures.made in
    let row = c.in-Some.row in
    let thread = c.args.thread in
    let stamp = c.args.stamp in
    let write = c.args.write.now in
    let now = c.loop-session.tables in
    let new = c.end.new.self in
    let shows : Past = shown_to thread c.args.sessions.now (step.Begin thread stamp write ∷ past) in
    let before = all_shown shown (omega (arith, c.loop-session-test.false)) events info past begun works lawful in
    let found = c.what_a_step_needs_is_there.ensures events shows now (step.End thread) before.works.follow before.lawful.1 in
    let same = same_row c.args.tables.now now thread row found.row shown.threads (sym c.in-Some.ensures.own) found.own in
    let own : made.own.row ≡ row = same_Some made.own.row row (sym made.own.own ∙ found.own ∙ ap Some same) in
    let Quiet : ℕ → Type 0 = λ r. ((told_of new.rows).row r).in_write ≡ false in
    let quiet = subst Quiet own (ap (λ (r : RowState). r.in_write) made.own.rows.rows.here.row) in
    let Holds : Past → Type 0 = λ p. Works events info p new begun in
    subst Holds (sym (whole_is thread stamp write c.args.sessions.now past))
    (forgotten events info (step.End thread ∷ shows) new begun row (Some write) c.in-Some.ensures.row quiet
    (c.a_machine_follows_an_end.ensures thread now new (set begun (row - 1) (Some write)) made c.end.ensures.tied info events shows before))
