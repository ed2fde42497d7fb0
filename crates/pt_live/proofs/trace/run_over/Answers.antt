use Rattle.std.proofs.Common.{◌∙◌, ◌≤◌, refl, sym, ap, arith}
use Rattle.std.specs.Prelude.{Ok}
use Rattle.std.proofs.lemmas.List.{append-nil}
use Rattle.pt_load.specs.declared.plan.Plan.{Plan}
use Rattle.ep_defs.specs.declared.limits.TheConstants.{WRITES}
use Rattle.ep_defs.specs.declared.session.Config.{Config}
use Rattle.ep_defs.specs.declared.session.TraceInfo.{TraceInfo}
use Rattle.pt_io.specs.declared.sink.Sink.{Ghosts as Sink}
use Rattle.pt_live.specs.declared.trace.TraceEnd.{TraceEnd}
use Rattle.pt_load.specs.Sample.{sample}
use Rattle.pt_writers.specs.Written.{writes_of}
use Rattle.pt_live.specs.Trace.{Traced, Traces}
use Rattle.pt_stream.specs.Setting.{Setting}
use Rattle.pt_stream.specs.State.{StreamState}
use Rattle.pt_live.proofs.Answering.{of-sample, other-fault, traces-by, traces-end, traces-memory, traces-none, unwritten-end, unwritten-none, unwritten-start}
use Rattle.pt_live.proofs.Opening.{open-none}
use Rattle.pt_live.proofs.trace.run_over.Goals as goal

pub returns-in-Err-clause-traces : goal.returns-in-Err-clause-traces
returns-in-Err-clause-traces g c =
    let run = g.P.TraceRun.run in
    let plan = g.P.SampleRun.plan in
    traces-memory g.O.Sink run.info plan run.config _ _ _ (λ told. unwritten-none run.info plan run.config _)

pub start-requires-clause-info : goal.start-requires-clause-info
start-requires-clause-info g c = c.requires.asked.0 ∙ ap (λ (s : Setting). s.info) (sym c.requires.setting)

pub start-requires-clause-before : goal.start-requires-clause-before
start-requires-clause-before g c told = append-nil _ ∙ c.requires.lent.before_is ∙ ap (λ (s : Setting). s.before 1) (sym c.requires.setting)

pub start-requires-clause-faults : goal.start-requires-clause-faults
start-requires-clause-faults g c = c.requires.lent.faults_are ∙ ap (λ (s : Setting). s.faults 1) (sym c.requires.setting)

pub streamed-output-requires-clause-is_open : goal.streamed-output-requires-clause-is_open
streamed-output-requires-clause-is_open g c κs within =
    let now = c.take_back-stream.ensures in
    let begun = c.in-Ok-start.ensures.started in
    open-none g.P.TraceRun.run g.P.Program.rows _
    (ap (λ (s : StreamState). s.id) now ∙ ap (λ (s : StreamState). s.id) begun)
    (ap (λ (s : StreamState). s.config) now ∙ ap (λ (s : StreamState). s.config) begun ∙ c.requires.asked.1)
    (ap (λ (s : StreamState). s.places) now ∙ ap (λ (s : StreamState). s.places) begun)
    (ap (λ (s : StreamState). s.early) now ∙ ap (λ (s : StreamState). s.early) begun)

pub returns-in-Ok-start-clause-traces : goal.returns-in-Ok-start-clause-traces
returns-in-Ok-start-clause-traces g c =
    let run = g.P.TraceRun.run in
    let plan = g.P.SampleRun.plan in
    let old = c.args.lent.output.now in
    let last = c.streamed-output.result.0 in
    let all = c.args.around.now.is_run.rows_are ∙ ap (λ (p : Plan). p.threads) c.args.around.now.plan_is in
    let writes = ap (λ (p : Plan). p.writes) c.args.around.now.plan_is in
    let most : plan.writes ≤ WRITES = omega (arith, writes, c.args.around.now.is_run.few_writes) in
    traces-by g.O.Sink run.info plan run.config old last.lent.output.now c.streamed-output.result.1 _ _ _ _
    (λ end rows ended spent. traces-end _ g.O.Sink _ run plan old _ c.requires.lent (λ l. refl) (λ l. refl) (λ l. refl) (record { traces = c.a_traced_stream_is_found.ensures sample run.config (writes_of plan); parts = c.a_part_is_found.ensures sample run.config (writes_of plan); lacks = c.sample_events_are_valid.ensures.lacks }) end g.P.Program.rows last most rows all
    (of-sample _ run plan g.P.Program.events g.P.Program.writes g.P.Program.rows plan.writes _ end.marks end.fate last c.args.around.now.is_run.events_are c.requires.writes ended)
    spent)
    (λ ended told.
    let (opened, marks, end, few, e) = ended in
    let within : opened ≤ plan.threads = omega (arith, few, all) in
    unwritten-end _ g.O.Sink _ run plan old _ c.requires.lent (λ l. refl) (λ l. refl) (λ l. refl) (record { traces = c.a_traced_stream_is_found.ensures sample run.config (writes_of plan); parts = c.a_part_is_found.ensures sample run.config (writes_of plan); lacks = c.sample_events_are_valid.ensures.lacks }) opened marks end last most within
    (of-sample _ run plan g.P.Program.events g.P.Program.writes opened 0 _ marks end last c.args.around.now.is_run.events_are c.requires.writes e)
    told)
    c.streamed-output.ensures.rows
    c.streamed-output.ensures.ended
    c.streamed-output.ensures.spent
    c.streamed-output.ensures.memory

pub returns-in-OutOfMemory-clause-traces : goal.returns-in-OutOfMemory-clause-traces
returns-in-OutOfMemory-clause-traces g c =
    let run = g.P.TraceRun.run in
    let plan = g.P.SampleRun.plan in
    let start = rw c.requires.asked.0 at c.in-Err-start.ensures.part in
    traces-memory g.O.Sink run.info plan run.config _ _ _
    (unwritten-start run plan (record { traces = c.a_traced_stream_is_found.ensures sample run.config (writes_of plan); parts = c.a_part_is_found.ensures sample run.config (writes_of plan); lacks = c.sample_events_are_valid.ensures.lacks }) g.O.Sink _ c.args.lent.output.now c.in-Err-start.failed.sink.lent.output.now c.requires.lent start)

pub returns : goal.returns
returns g c =
    let run = g.P.TraceRun.run in
    let plan = g.P.SampleRun.plan in
    let start = rw c.requires.asked.0 at c.in-Err-start.ensures.part in
    let sink = c.in-Err-start.failed.sink in
    record {
      same = sink.same ∙ sym c.requires.lent.same;
      traces =
          ended-so
          (traces-none run plan (record { traces = c.a_traced_stream_is_found.ensures sample run.config (writes_of plan); parts = c.a_part_is_found.ensures sample run.config (writes_of plan); lacks = c.sample_events_are_valid.ensures.lacks }) g.O.Sink _ c.args.lent.output.now sink.lent.output.now c.requires.lent _
          c.untold-rows.ensures
          (c.new-marks.ensures ∙ c.new-in_default.ensures.items)
          refl
          refl
          (c.in-Err-start.ensures.write_fault (other-fault c.in-Err-start.failed.fault c.in-Err-start.ensures.not_long c.in_default.not-OutOfMemory))
          start);
    }
  where
    ended-so : {O E : Type 0} {output : Sink O} {info : TraceInfo} {plan : Plan} {config : Config} {old new : O} {end : TraceEnd} → Traced output info plan config old new end → Traces {E = E} output info plan config old new (Ok end)
    ended-so traced = record { ended = traced; memory = tt }
