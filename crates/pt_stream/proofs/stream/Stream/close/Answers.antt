use Rattle.std.proofs.Common.{◌≡◌, ◌∙◌, ◌-◌, List, false, None, Some, sym, ap, subst, arith}
use Rattle.std.specs.Prelude.{slice_set}
use Rattle.ep_defs.specs.Definitions.{AreDistinct, definition_at}
use Rattle.ep_defs.specs.declared.event.EventDef.{EventDef}
use Rattle.ep_defs.specs.declared.session.Marks.{Marks}
use Rattle.ep_stream.specs.Named.{with_marks}
use Rattle.ep_stream.specs.Session.{Rest}
use Rattle.ep_live.specs.RowSet.{LiveRowsState}
use Rattle.ep_guarded.specs.Tied.{thread_of}
use Rattle.pt_stream.specs.declared.place.Place.{Place}
use Rattle.pt_stream.specs.Kept.{IsHandOf, IsKept}
use Rattle.pt_stream.specs.Setting.{watch_of}
use Rattle.pt_stream.specs.State.{StreamState, place_at}
use Rattle.pt_stream.proofs.Keeping.{detached-weaker, kept-closed, kept-moved}
use Rattle.pt_stream.proofs.Places.{place-read}
use Rattle.pt_stream.proofs.stream.Stream.close.Goals as goal

pub detach-requires-clause-rows : goal.detach-requires-clause-rows
detach-requires-clause-rows g c =
    let moved = c.close_at.ensures ∙ ap (λ (set : LiveRowsState). record set { ends = c.args.ends }) c.resume-rows.ensures in
    let kept = kept-moved g.S.Sink g.P.Program.rows g.P.Program.events g.P.Program.writes g.P.Run.setting c.self.inside.openings c.self.inside.rows c.self.inside.session c.self.inside.seat c.self.inside.places.items c.self.inside.early c.self.inside.rows.stands c.args.ends c.self.inside.rows.lives c.self.invariant.1 in
    (subst (λ (set : LiveRowsState). IsKept {S = g.row.S.Denot} g.S.Sink g.P.Program.rows g.P.Program.events g.P.Program.writes g.P.Run.setting set c.self.inside.session c.self.inside.openings c.self.inside.seat c.self.inside.places.items c.self.inside.early) (sym moved) kept).rows_are.own

pub detach-requires-clause-distinct : goal.detach-requires-clause-distinct
detach-requires-clause-distinct g c = subst (λ (es : List EventDef). AreDistinct (definition_at es)) (sym c.events.ensures) c.requires.events.distinct

pub invariant_of-result : goal.invariant_of-result
invariant_of-result g c =
    let old = c.self.inside.session in
    let mid = c.detach.new.self in
    let new = c.give.new.self in
    let places = c.self.inside.places.items in
    let d = c.detach.ensures.detached in
    let moved = c.close_at.ensures ∙ ap (λ (set : LiveRowsState). record set { ends = c.args.ends }) c.resume-rows.ensures in
    let kept = kept-moved g.S.Sink g.P.Program.rows g.P.Program.events g.P.Program.writes g.P.Run.setting c.self.inside.openings c.self.inside.rows old c.self.inside.seat places c.self.inside.early c.self.inside.rows.stands c.args.ends c.self.inside.rows.lives c.self.invariant.1 in
    let before = subst (λ (set : LiveRowsState). IsKept {S = g.row.S.Denot} g.S.Sink g.P.Program.rows g.P.Program.events g.P.Program.writes g.P.Run.setting set old c.self.inside.openings c.self.inside.seat c.self.inside.places.items c.self.inside.early) (sym moved) kept in
    let now = c.park.ensures in
    let stands =
    c.same_tests_have_the_same_stands.ensures g.P.Program.rows c.detach.new.rows c.give.new.rows c.give.ensures.set.hands
    ∙ c.same_tests_have_the_same_stands.ensures g.P.Program.rows c.close_at.new.self c.detach.new.rows c.detach.ensures.set.hands
    ∙ ap (λ (set : LiveRowsState). set.stands) moved ∙ c.self.invariant.0
    in
    let told = c.a_closed_row_is_traced.ensures (watch_of g.P.Program.rows g.P.Program.events g.P.Program.writes g.P.Run.setting c.self.inside.session.config c.self.inside.seat.id) old mid
    (record {
      given = c.events.result.now;
      row = c.args.row;
      told_old = None;
      told_new = None;
      result = c.detach.result;
      events = c.events.ensures;
      detached = detached-weaker _ _ _ _ _ c.events.result.now c.args.row old mid (λ marks passed. passed.0) d;
      faulty = c.detach.ensures.faulty;
    })
    in
    let long = before.places_are.count in
    let there : place_at places c.args.row ≡ c.index_mut.result.now = place-read places c.args.row c.index_mut.result.now c.requires.row.0 (omega (arith, long, c.requires.row.1)) c.index_mut.ensures.value in
    let after = kept-closed g.S.Sink g.P.Program.rows g.P.Program.events g.P.Program.writes g.P.Run.setting c.args.row c.self.inside.openings c.close_at.new.self c.detach.new.rows c.give.new.rows old mid new c.self.inside.seat places c.self.inside.early
    _ _ _ _ c.events.result.now c.detach.result c.requires.row.0 c.requires.row.1 told
    (λ watch opened. c.a_call_that_takes_nothing_changes_no_trace.ensures watch opened mid new (record { in_hand = 0; hands = c.give.ensures.hands; rest = c.give.ensures.rest; writer = c.give.ensures.writer }))
    d c.detach.ensures.faulty c.detach.ensures.count c.detach.ensures.rows c.detach.ensures.refused c.detach.ensures.set.count_is c.detach.ensures.set.attaches c.detach.ensures.slots
    c.give.ensures.hands c.give.ensures.rest c.give.ensures.count c.give.ensures.writer c.give.ensures.rows c.give.ensures.refused c.give.ensures.set.count_is c.give.ensures.set.attaches c.give.ensures.slots
    before
    in (
      ap (λ (set : LiveRowsState). set.stands) now ∙ stands,
      subst (λ (set : LiveRowsState). IsKept {S = g.row.S.Denot} g.S.Sink g.P.Program.rows g.P.Program.events g.P.Program.writes g.P.Run.setting set new c.self.inside.openings c.self.inside.seat (slice_set places (c.args.row - 1) (record { next = c.index_mut.result.now.next; is_open = false })) c.self.inside.early) (sym now)
          (subst (λ (p : Place). IsKept {S = g.row.S.Denot} g.S.Sink g.P.Program.rows g.P.Program.events g.P.Program.writes g.P.Run.setting c.give.new.rows new c.self.inside.openings c.self.inside.seat (slice_set places (c.args.row - 1) (record { next = p.next; is_open = false })) c.self.inside.early) there after),
    )

pub returns-clause-marked : goal.returns-clause-marked
returns-clause-marked g c =
    let d = c.detach.ensures.detached in
    let moved = c.close_at.ensures ∙ ap (λ (set : LiveRowsState). record set { ends = c.args.ends }) c.resume-rows.ensures in
    let stands = ap (λ (set : LiveRowsState). set.stands) moved ∙ c.self.invariant.0 ∙ ap (λ (v : StreamState). v.stands) c.self.view_is in
    let place = place_at c.self.inside.places.items c.args.row in
    let own : IsHandOf g.P.Program.rows c.args.row place (Some d.hand) =
    subst (IsHandOf g.P.Program.rows c.args.row place) d.was (c.self.invariant.1.places_are.hands_are c.args.row c.requires.row.0)
    in
    record {
      mark = d.marks;
      more = ap (λ (r : Rest). r.marks) c.give.ensures.rest ∙ ap (λ (r : Rest). r.marks) d.rest ∙ ap (λ (ms : List Marks). with_marks d.marks ms) (ap (λ (v : StreamState). v.marks) c.self.view_is);
      thread_is = d.marked.thread ∙ own.2 ∙ ap (λ (v : StreamState). thread_of g.P.Program.rows (c.args.row - 1) ((place_at v.places c.args.row).next - 1)) c.self.view_is;
      stands_at = λ index is. d.tested_marks.1 index (stands ∙ is);
      ends_at = λ none index is. d.tested_marks.2 (stands ∙ none) index (ap (λ (set : LiveRowsState). set.ends) moved ∙ is);
    }
