use Rattle.std.proofs.Common.{◌∙◌, None, sym, ap, subst}
use Rattle.ep_live.specs.RowSet.{LiveRowsState}
use Rattle.pt_stream.specs.Kept.{IsKept}
use Rattle.pt_stream.specs.State.{StreamState}
use Rattle.pt_stream.proofs.Keeping.{kept-moved}
use Rattle.pt_stream.proofs.stream.Stream.lend.Goals as goal

pub invariant_of-stream : goal.invariant_of-stream
invariant_of-stream g c =
    let session = c.self.inside.session in
    let moved = c.park.ensures ∙ c.lend-halves.ensures.lent ∙ ap (λ (set : LiveRowsState). record set { stands = None }) c.resume-rows.ensures in
    let kept = kept-moved g.S.Sink g.P.Program.rows g.P.Program.events g.P.Program.writes g.P.Run.setting c.self.inside.openings c.self.inside.rows session c.self.inside.seat c.self.inside.places.items c.self.inside.early None c.self.inside.rows.ends c.self.inside.rows.lives c.self.invariant.1
    in (
      ap (λ (set : LiveRowsState). set.stands) moved,
      subst (λ (set : LiveRowsState). IsKept {S = g.row.S.Denot} g.S.Sink g.P.Program.rows g.P.Program.events g.P.Program.writes g.P.Run.setting set session c.self.inside.openings c.self.inside.seat c.self.inside.places.items c.self.inside.early) (sym moved) kept,
    )

pub returns-clause-halves : goal.returns-clause-halves
returns-clause-halves g c index is =
    c.lend-halves.ensures.halves index (ap (λ (set : LiveRowsState). set.stands) c.resume-rows.ensures ∙ c.self.invariant.0 ∙ ap (λ (v : StreamState). v.stands) c.self.view_is ∙ is)
