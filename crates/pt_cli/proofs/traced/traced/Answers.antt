-- The command ended as the session over its run did.
use Rattle.std.proofs.Common.{refl, subst}
use Rattle.ep_defs.specs.declared.session.TraceInfo.{TraceInfo}
use Rattle.pt_live.specs.Trace.{Traced}
use Rattle.pt_cli.proofs.Tracing.{traces-to}
use Rattle.pt_cli.proofs.traced.traced.Goals as goal

pub returns-in-Ok-clause-traced : goal.returns-in-Ok-clause-traced
returns-in-Ok-clause-traced g c =
    let run = c.in-Ok.field-0 in
    let Runs : TraceInfo → Type 0 = λ info. Traced g.O.Sink info c.args.asked.plan c.args.asked.config c.args.output.now c.run_trace.new.output run in (
      c.end_of-end.result,
      record { status_is = c.status.ensures; code_is = c.code.ensures; at_is = c.at.ensures },
      traces-to g.O.Sink c.args.asked c.args.output.now c.run_trace.new.output run run.fate c.end_of-end.result refl c.end_of-end.ensures
          (subst Runs c.standard_info.ensures (rw c.in-Ok.is at c.run_trace.ensures.ended)),
    )
