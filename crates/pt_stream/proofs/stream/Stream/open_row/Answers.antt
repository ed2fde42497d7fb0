use Rattle.std.proofs.Common.{◌≡◌, ◌∙◌, ◌+◌, ◌-◌, ◌<◌, ◌≤◌, ℕ, List, false, sym, ap, subst, arith}
use Rattle.std.specs.Prelude.{Bool, ◌&&◌, slice_set}
use Rattle.ep_defs.specs.declared.limits.TheConstants.{SESSION_THREADS}
use Rattle.ep_guarded.specs.Tied.{thread_of}
use Rattle.ep_live.specs.RowSet.{LiveRowsState}
use Rattle.ep_live_laws.specs.Tracing.{IsOneOf}
use Rattle.ep_stream.specs.Session.{rest_of}
use Rattle.pt_stream.specs.declared.place.Place.{Place}
use Rattle.pt_stream.specs.Kept.{IsKept}
use Rattle.pt_stream.specs.Setting.{watch_of}
use Rattle.pt_stream.specs.State.{StreamState, place_at, stays_early, with_place}
use Rattle.pt_stream.proofs.Keeping.{kept-moved, kept-opened, kept-same}
use Rattle.pt_stream.proofs.Places.{place-read}
use Rattle.pt_stream.proofs.Served.{fresh-thread, opened_place}
use Rattle.pt_stream.proofs.stream.Stream.open_row.Goals as goal

pub attach-requires-clause-new : goal.attach-requires-clause-new
attach-requires-clause-new g c hand tested was =
    let k = c.self.invariant.1 in
    let places = c.self.inside.places.items in
    let later = subst (λ (ps : List Place). (place_at ps c.args.row).next ≤ c.args.life) (sym (ap (λ (v : StreamState). v.places) c.self.view_is)) c.requires.later in
    let thread = tested.0 ∙ ap (λ (l : ℕ). thread_of g.P.Program.rows (c.args.row - 1) l) c.expect.ensures.expected in
    let there = c.an_opened_row_is_traced.ensures.fresh (watch_of g.P.Program.rows g.P.Program.events g.P.Program.writes g.P.Run.setting c.self.inside.session.config c.self.inside.seat.id) k.opened k.told.told hand.thread c.self.inside.session k.told.tracing was in
    fresh-thread g.P.Program.rows c.args.row c.args.life places k.opened c.requires.row.0 c.requires.row.1 later k.served (subst (IsOneOf k.opened) thread there)

pub attach-requires-clause-rows : goal.attach-requires-clause-rows
attach-requires-clause-rows g c =
    let moved = c.expect.ensures.set ∙ ap (λ (set : LiveRowsState). record set { lives = slice_set set.lives (c.args.row - 1) c.args.life }) c.resume-rows.ensures in
    let kept = kept-moved g.S.Sink g.P.Program.rows g.P.Program.events g.P.Program.writes g.P.Run.setting c.self.inside.openings c.self.inside.rows c.self.inside.session c.self.inside.seat c.self.inside.places.items c.self.inside.early c.self.inside.rows.stands c.self.inside.rows.ends (slice_set c.self.inside.rows.lives (c.args.row - 1) c.args.life) c.self.invariant.1 in
    let before = subst (λ (set : LiveRowsState). IsKept {S = g.row.S.Denot} g.S.Sink g.P.Program.rows g.P.Program.events g.P.Program.writes g.P.Run.setting set c.self.inside.session c.self.inside.openings c.self.inside.seat c.self.inside.places.items c.self.inside.early) (sym moved) kept in
    before.rows_are.own

pub invariant_of-stream : goal.invariant_of-stream
invariant_of-stream g c =
    let moved = c.expect.ensures.set ∙ ap (λ (set : LiveRowsState). record set { lives = slice_set set.lives (c.args.row - 1) c.args.life }) c.resume-rows.ensures in
    let kept = kept-moved g.S.Sink g.P.Program.rows g.P.Program.events g.P.Program.writes g.P.Run.setting c.self.inside.openings c.self.inside.rows c.self.inside.session c.self.inside.seat c.self.inside.places.items c.self.inside.early c.self.inside.rows.stands c.self.inside.rows.ends (slice_set c.self.inside.rows.lives (c.args.row - 1) c.args.life) c.self.invariant.1 in
    let before = subst (λ (set : LiveRowsState). IsKept {S = g.row.S.Denot} g.S.Sink g.P.Program.rows g.P.Program.events g.P.Program.writes g.P.Run.setting set c.self.inside.session c.self.inside.openings c.self.inside.seat c.self.inside.places.items c.self.inside.early) (sym moved) kept in
    let old = c.self.inside.session in
    let new = c.attach.new.self in
    let e = c.in-Ok.ensures in
    let places = c.self.inside.places.items in
    let places_are = ap (λ (v : StreamState). v.places) c.self.view_is in
    let later = subst (λ (ps : List Place). (place_at ps c.args.row).next ≤ c.args.life) (sym places_are) c.requires.later in
    let off = subst (λ (ps : List Place). (place_at ps c.args.row).is_open ≡ false) (sym places_are) c.requires.shut in
    let room : c.self.inside.openings < SESSION_THREADS = let few = c.self.invariant.1.few in let not = c.if-self-eq-SESSION_THREADS.false in omega (arith, few, not) in
    let after = kept-opened g.S.Sink g.P.Program.rows g.P.Program.events g.P.Program.writes g.P.Run.setting c.args.row c.args.life c.self.inside.openings c.expect.new.self c.attach.new.rows old new c.self.inside.seat places c.self.inside.early c.self.inside.stands
    c.requires.row.0 c.requires.row.1 c.requires.few.0 room later off c.expect.ensures.expected (ap (λ (set : LiveRowsState). set.stands) moved ∙ c.self.invariant.0)
    (λ watch opened thread opens. c.an_opened_row_is_traced.ensures.traced watch opened thread old new opens)
    e.attached e.count e.writer e.rows e.refused e.set.count_is e.set.attaches e.slots before
    in
    let long = before.places_are.count in
    let there : place_at places c.args.row ≡ c.index.result.now = place-read places c.args.row c.index.result.now c.requires.row.0 (omega (arith, long, c.requires.row.1)) c.index.ensures in
    let early = ap (λ (p : Place). c.self.inside.early && stays_early c.self.inside.stands p c.args.life) there ∙ sym c.stays_early-early.ensures in
    let stands = c.same_tests_have_the_same_stands.ensures g.P.Program.rows c.expect.new.self c.attach.new.rows e.set.hands in (
      ap (λ (set : LiveRowsState). set.stands) c.park.ensures ∙ stands ∙ ap (λ (set : LiveRowsState). set.stands) moved ∙ c.self.invariant.0,
      subst (λ (set : LiveRowsState). IsKept {S = g.row.S.Denot} g.S.Sink g.P.Program.rows g.P.Program.events g.P.Program.writes g.P.Run.setting set new (c.self.inside.openings + 1) c.self.inside.seat (with_place c.args.row (opened_place c.args.life) places) c.stays_early-early.result) (sym c.park.ensures)
          (subst (λ (b : Bool). IsKept {S = g.row.S.Denot} g.S.Sink g.P.Program.rows g.P.Program.events g.P.Program.writes g.P.Run.setting c.attach.new.rows new (c.self.inside.openings + 1) c.self.inside.seat (with_place c.args.row (opened_place c.args.life) places) b) early after),
    )

pub invariant_of-stream-in-Err : goal.invariant_of-stream-in-Err
invariant_of-stream-in-Err g c =
    let moved = c.expect.ensures.set ∙ ap (λ (set : LiveRowsState). record set { lives = slice_set set.lives (c.args.row - 1) c.args.life }) c.resume-rows.ensures in
    let kept = kept-moved g.S.Sink g.P.Program.rows g.P.Program.events g.P.Program.writes g.P.Run.setting c.self.inside.openings c.self.inside.rows c.self.inside.session c.self.inside.seat c.self.inside.places.items c.self.inside.early c.self.inside.rows.stands c.self.inside.rows.ends (slice_set c.self.inside.rows.lives (c.args.row - 1) c.args.life) c.self.invariant.1 in
    let before = subst (λ (set : LiveRowsState). IsKept {S = g.row.S.Denot} g.S.Sink g.P.Program.rows g.P.Program.events g.P.Program.writes g.P.Run.setting set c.self.inside.session c.self.inside.openings c.self.inside.seat c.self.inside.places.items c.self.inside.early) (sym moved) kept in
    let old = c.self.inside.session in
    let new = c.attach.new.self in
    let e = c.in-Err.ensures in
    let after = kept-same g.S.Sink g.P.Program.rows g.P.Program.events g.P.Program.writes g.P.Run.setting c.self.inside.openings c.expect.new.self c.attach.new.rows old new c.self.inside.seat c.self.inside.places.items c.self.inside.early
    (λ watch opened. c.a_call_that_takes_nothing_changes_no_trace.ensures watch opened old new (record { in_hand = (rest_of old).in_hand; hands = e.hands; rest = e.rest; writer = e.writer }))
    e.hands e.rest e.none_count e.writer e.rows e.refused e.set.count_is e.set.attaches e.slots before
    in
    let stands = c.same_tests_have_the_same_stands.ensures g.P.Program.rows c.expect.new.self c.attach.new.rows e.set.hands in (
      ap (λ (set : LiveRowsState). set.stands) c.park-in-Err.ensures ∙ stands ∙ ap (λ (set : LiveRowsState). set.stands) moved ∙ c.self.invariant.0,
      subst (λ (set : LiveRowsState). IsKept {S = g.row.S.Denot} g.S.Sink g.P.Program.rows g.P.Program.events g.P.Program.writes g.P.Run.setting set new c.self.inside.openings c.self.inside.seat c.self.inside.places.items c.self.inside.early) (sym c.park-in-Err.ensures) after,
    )
