use Rattle.std.proofs.Common.{◌≡◌, ◌∙◌, ℕ, ◌+◌, ◌-◌, ◌≤◌, ap, subst, arith}
use Rattle.ep_guarded.specs.declared.grant.Grant.{Grant}
use Rattle.ep_pool.specs.Shared.{SeatState}
use Rattle.pt_listen.specs.state.Hearing.{IsHearing}
use Rattle.pt_listen.proofs.Telling.{hearing-ended, hearing-ends, none-left}
use Rattle.pt_listen.proofs.Halves.{none-expected, none-out}
use Rattle.pt_listen.proofs.hearing.Hearing.end.Goals as goal

pub loop-place-init : goal.loop-place-init
loop-place-init g c =
    let old = c.self.inside in
    record {
      hearing = hearing-ends g.K.Callback.has_heard g.P.Program.rows g.P.Program.events g.P.Program.writes g.P.WatchRun.config g.P.WatchRun.at_first c.args.writes old.slot old.rows old.hands.items old.listener c.self.invariant;
      stands = c.self.view_is ∙ c.requires.stands;
    }

pub leave_row-requires : goal.leave_row-requires
leave_row-requires g c =
    let inv = c.loop-place.invariant in
    let back : c.loop-place.place ≡ c.loop-place.place + 1 - 1 = omega arith in
    record {
      row = (omega arith, omega (arith, c.loop-place-test.true, c.threads-place-end.ensures, c.self.invariant.rows.rows));
      stands = inv.stands;
      hearing = subst (λ (low : ℕ). IsHearing g.K.Callback.has_heard g.P.Program.rows g.P.Program.events g.P.Program.writes g.P.WatchRun.config g.P.WatchRun.at_first c.args.writes low c.self.inside.slot c.loop-place.rows c.loop-place.hands.items c.loop-place.listener) back inv.hearing;
    }

pub loop-place-preserved : goal.loop-place-preserved
loop-place-preserved g c =
    record { hearing = c.leave_row.ensures.hearing; stands = c.leave_row.ensures.stands ∙ c.loop-place.invariant.stands }

pub end-requires : goal.end-requires
end-requires g c =
    let inv = c.loop-place.invariant.hearing in
    let all : g.P.Program.rows ≤ c.loop-place.place = omega (arith, c.loop-place-test.false, c.threads-place-end.ensures, c.self.invariant.rows.rows) in
    let none = none-left g.K.Callback.has_heard g.P.Program.rows g.P.Program.events g.P.Program.writes g.P.WatchRun.config g.P.WatchRun.at_first c.args.writes c.loop-place.place c.self.inside.slot c.loop-place.rows c.loop-place.hands.items c.loop-place.listener all inv in
    record {
      closed = none-expected g.P.Program.rows c.self.inside.slot g.P.WatchRun.config c.loop-place.rows c.loop-place.hands.items inv.rows none;
      given = none-out g.P.Program.rows c.self.inside.slot g.P.WatchRun.config c.loop-place.rows c.loop-place.hands.items inv.rows;
    }

pub returns : goal.returns
returns g c =
    let inv = c.loop-place.invariant.hearing in
    let all : c.loop-place.place ≡ g.P.Program.rows = omega (arith, c.loop-place-test.false, c.loop-place.auto, c.threads-place-end.ensures, c.self.invariant.rows.rows) in
    hearing-ended g.K.Callback.has_heard g.P.Program.rows g.P.Program.events g.P.Program.writes g.P.WatchRun.config g.P.WatchRun.at_first c.args.writes c.loop-place.place c.self.inside.slot c.loop-place.rows c.loop-place.hands.items c.loop-place.listener
    c.end-2.result.callback c.end-2.result.marks c.end-2.result.failed c.into_seat-seat.result
    all inv c.end-2.ensures.callback c.end-2.ensures.marks c.end-2.ensures.failed
    c.into_seat-seat.ensures.shares c.into_seat-seat.ensures.back
    (c.into_seat-seat.ensures.chunks ∙ ap (λ (grant : Grant). grant.config.chunks) c.end.ensures.ended.1)
    (ap (λ (seat : SeatState). seat.dry) (c.into_seat-seat.ensures.seat ∙ c.end.ensures.ended.2))
