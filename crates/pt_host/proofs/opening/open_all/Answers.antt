use Rattle.std.proofs.Common.{◌≡◌, ℕ, ◌<◌, arith, subst}
use Rattle.pt_stream.specs.State.{is_complete}
use Rattle.std.proofs.Common.{ap, ◌∙◌}
use Rattle.pt_host.proofs.Openings.{IsOpenTo, open-all, open-more, open-some}
use Rattle.pt_host.proofs.opening.open_all.Goals as goal

pub returns-then-not-opened-clause-complete : goal.returns-then-not-opened-clause-complete
returns-then-not-opened-clause-complete g c =
    let within : c.loop-number.number < g.W.Program.rows = omega (arith, c.loop-number-test.true, c.args.scene.now.rows_are) in
    ap is_complete (c.open_row-next.ensures.stays c.if-not-opened.true) ∙ open-some c.args.early g.W.Program.rows c.loop-number.number c.args.stream c.loop-number.stream within c.loop-number.invariant

pub loop-number-preserved : goal.loop-number-preserved
loop-number-preserved g c =
    let within : c.loop-number.number < g.W.Program.rows = omega (arith, c.loop-number-test.true, c.args.scene.now.rows_are) in
    open-more c.args.early g.W.Program.rows c.loop-number.number c.args.stream c.loop-number.stream c.open_row-next.result.0 c.requires.stands within c.loop-number.invariant (c.open_row-next.ensures.opened c.if-not-opened.false)

pub returns-clause-complete : goal.returns-clause-complete
returns-clause-complete g c =
    let all : c.loop-number.number ≡ g.W.Program.rows = omega (arith, c.loop-number-test.false, c.loop-number.auto.number-end, c.args.scene.now.rows_are) in
    let to : IsOpenTo c.args.early g.W.Program.rows g.W.Program.rows c.args.stream c.loop-number.stream = subst (λ (n : ℕ). IsOpenTo c.args.early g.W.Program.rows n c.args.stream c.loop-number.stream) all c.loop-number.invariant in
    open-all c.args.early g.W.Program.rows c.args.stream c.loop-number.stream to
