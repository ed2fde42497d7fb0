use Rattle.std.proofs.Common.{◌∙◌, List, true, sym, ap, subst}
use Rattle.ep_live.specs.RowSet.{LiveRowsState}
use Rattle.pt_stream.specs.declared.place.Place.{Place}
use Rattle.pt_stream.specs.Kept.{IsKept}
use Rattle.pt_stream.specs.Setting.{watch_of}
use Rattle.pt_stream.proofs.Starts.{is-new, kept-new}
use Rattle.pt_stream.proofs.stream.begin.Goals as goal

pub invariant_of-result : goal.invariant_of-result
invariant_of-result g c =
    let session = c.in-Ok.session in
    let e = c.in-Ok.ensures in
    let new = is-new g.S.Sink g.P.Program.rows g.P.Program.events g.P.Program.writes g.P.Run.setting c.args.sink session c.args.fresh.seat c.args.fresh.config c.args.reply.now c.args.info.now c.requires.info e.started e.told c.requires.before e.hands e.rest in
    let tracing = c.a_session_starts_with_no_trace.ensures (watch_of g.P.Program.rows g.P.Program.events g.P.Program.writes g.P.Run.setting c.args.fresh.config c.args.fresh.seat.id) session new in
    let kept = kept-new g.S.Sink g.P.Program.rows g.P.Program.events g.P.Program.writes g.P.Run.setting c.args.fresh.rows session c.args.fresh.seat c.args.fresh.config c.args.fresh.rows.lives (sym c.requires.slot.0) (sym c.requires.config) c.requires.fresh c.requires.dry e.hands e.rest e.count tracing e.sound (e.wrote ∙ c.requires.faults) in (
      ap (λ (set : LiveRowsState). set.stands) c.park.ensures ∙ c.requires.fresh.stands_are,
      subst (λ (set : LiveRowsState). IsKept {S = g.row.S.Denot} g.S.Sink g.P.Program.rows g.P.Program.events g.P.Program.writes g.P.Run.setting set session 0 c.args.fresh.seat c.args.fresh.places.items true) (sym c.park.ensures)
          (subst (λ (ps : List Place). IsKept {S = g.row.S.Denot} g.S.Sink g.P.Program.rows g.P.Program.events g.P.Program.writes g.P.Run.setting c.args.fresh.rows session 0 c.args.fresh.seat ps true) (sym c.requires.places) kept),
    )
