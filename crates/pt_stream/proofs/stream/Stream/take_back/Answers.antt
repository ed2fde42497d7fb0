use Rattle.std.proofs.Common.{◌∙◌, Some, sym, ap, subst}
use Rattle.ep_live.specs.RowSet.{LiveRowsState}
use Rattle.pt_stream.specs.Kept.{IsKept}
use Rattle.pt_stream.proofs.Keeping.{kept-moved}
use Rattle.pt_stream.proofs.stream.Stream.take_back.Goals as goal

pub invariant_of-result : goal.invariant_of-result
invariant_of-result g c =
    let session = c.self.inside.session in
    let moved = c.park.ensures ∙ c.take_back.ensures ∙ ap (λ (set : LiveRowsState). record set { stands = Some c.args.index }) c.resume-rows.ensures in
    let kept = kept-moved g.S.Sink g.P.Program.rows g.P.Program.events g.P.Program.writes g.P.Run.setting c.self.inside.openings c.self.inside.rows session c.self.inside.seat c.self.inside.places.items c.self.inside.early (Some c.args.index) c.self.inside.rows.ends c.self.inside.rows.lives c.self.invariant.1
    in (
      ap (λ (set : LiveRowsState). set.stands) moved,
      subst (λ (set : LiveRowsState). IsKept {S = g.row.S.Denot} g.S.Sink g.P.Program.rows g.P.Program.events g.P.Program.writes g.P.Run.setting set session c.self.inside.openings c.self.inside.seat c.self.inside.places.items c.self.inside.early) (sym moved) kept,
    )
