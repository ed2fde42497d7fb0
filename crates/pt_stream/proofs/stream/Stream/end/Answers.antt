use Rattle.std.proofs.Common.{◌∙◌, ◌≡◌, ◌<◌, ◌≤◌, ℕ, false, List, ap, subst, sym}
use Rattle.ep_defs.specs.Definitions.{AreDistinct, definition_at}
use Rattle.ep_defs.specs.declared.event.EventDef.{EventDef}
use Rattle.ep_live.specs.RowSet.{LiveRowsState, expected_in}
use Rattle.pt_stream.specs.declared.place.Place.{Place}
use Rattle.pt_stream.specs.End.{HasEnded}
use Rattle.pt_stream.specs.Setting.{watch_of}
use Rattle.pt_stream.specs.State.{StreamState, place_at}
use Rattle.pt_stream.proofs.Ends.{has-ended, no-hands, none-expected}
use Rattle.pt_stream.proofs.stream.Stream.end.Goals as goal

pub returns-clause-ended : goal.returns-clause-ended
returns-clause-ended g c =
    let session = c.self.inside.session in
    let e = c.finish.ensures in
    let shut = subst (λ (places : List Place). (row : ℕ) → 0 < row → row ≤ g.P.Program.rows → (place_at places row).is_open ≡ false) (sym (ap (λ (v : StreamState). v.places) c.self.view_is)) c.requires.shut in
    subst (λ (v : StreamState). HasEnded {S = g.row.S.Denot} g.S.Sink (watch_of g.P.Program.rows g.P.Program.events g.P.Program.writes g.P.Run.setting v.config v.id) g.P.Program.rows g.P.Run.setting.lives (g.P.Run.setting.faults v.id) v c.args.fate c.finish.result) c.self.view_is
    (has-ended g.S.Sink g.P.Program.rows g.P.Program.events g.P.Program.writes g.P.Run.setting c.self.inside.rows session c.self.inside.openings c.self.inside.seat c.self.inside.places.items c.self.inside.early c.self.inside.stands c.events.result.now c.args.stamp c.args.fate c.finish.result
    c.events.ensures c.self.invariant.1 shut c.requires.own.0
    (λ watch opened over. c.a_session_that_ends_has_traced.ensures watch opened c.args.fate c.finish.result.fate session c.finish.result.sink over)
    e.id e.slot e.conn e.config e.marks e.ended e.later e.other_side)

pub end-ended-requires-clause-closed : goal.end-ended-requires-clause-closed
end-ended-requires-clause-closed g c row slot =
    let k = c.self.invariant.1 in
    let shut = subst (λ (places : List Place). (r : ℕ) → 0 < r → r ≤ g.P.Program.rows → (place_at places r).is_open ≡ false) (sym (ap (λ (v : StreamState). v.places) c.self.view_is)) c.requires.shut in
    let none = no-hands g.P.Program.rows g.P.Run.setting.lives c.self.inside.places.items c.self.inside.session shut k.places_are in
    ap (λ (set : LiveRowsState). expected_in set row slot) c.resume.ensures ∙ none-expected g.P.Program.rows c.self.inside.rows c.self.inside.session k.rows_are none row slot

pub finish-requires-clause-closed : goal.finish-requires-clause-closed
finish-requires-clause-closed g c =
    let k = c.self.invariant.1 in
    let shut = subst (λ (places : List Place). (r : ℕ) → 0 < r → r ≤ g.P.Program.rows → (place_at places r).is_open ≡ false) (sym (ap (λ (v : StreamState). v.places) c.self.view_is)) c.requires.shut in
    no-hands g.P.Program.rows g.P.Run.setting.lives c.self.inside.places.items c.self.inside.session shut k.places_are

pub finish-requires-clause-distinct : goal.finish-requires-clause-distinct
finish-requires-clause-distinct g c = subst (λ (es : List EventDef). AreDistinct (definition_at es)) (sym c.events.ensures) c.requires.events.distinct
