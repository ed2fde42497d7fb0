use Rattle.std.proofs.Common.{◌∙◌, inl, inr, List, length, sym, ap, subst, arith}
use Rattle.std.specs.List.{AllByRecursion}
use Rattle.ep_defs.specs.declared.event.EventDef.{EventDef}
use Rattle.ep_defs.specs.declared.session.Marks.{Marks}
use Rattle.ep_defs.specs.declared.session.Write.{Write}
use Rattle.pt_load.specs.declared.plan.Plan.{Plan}
use Rattle.pt_stream.specs.State.{AreEvents, EndsAt}
use Rattle.pt_writers.proofs.Load.{count-writes}
use Rattle.pt_live.proofs.Ending.{ended-at, faulty-memory, memory-apart, never-asked, own-end, spent-so}
use Rattle.pt_live.proofs.Firsts.{all-done}
use Rattle.pt_live.proofs.Opening.{closed-all, opened-each}
use Rattle.pt_live.proofs.session.ended.Goals as goal

pub end-end-requires-clause-shut : goal.end-end-requires-clause-shut
end-end-requires-clause-shut g c = closed-all g.P.TraceRun.run g.P.Program.rows c.args.opened c.close_all-streaming.result.stream c.close_all-streaming.ensures.is_open

pub end-end-requires-clause-own : goal.end-end-requires-clause-own
end-end-requires-clause-own g c =
    own-end c.args.fate (elim c.requires.why [
      | inl why ↦ inl why.0
      | inr why ↦ inr why.0
    ])

pub end-end-requires-clause-complete : goal.end-end-requires-clause-complete
end-end-requires-clause-complete g c sound =
    elim c.requires.why [
      | inl why ↦ absurd (faulty-memory c.args.fate why.0 sound)
      | inr why ↦ opened-each g.P.TraceRun.run g.P.Program.rows c.args.opened c.close_all-streaming.result.stream (let all = why.1 in omega (arith, all)) c.close_all-streaming.ensures.is_open
    ]

pub end-end-requires-clause-done : goal.end-end-requires-clause-done
end-end-requires-clause-done g c is =
    elim c.requires.why [
      | inl why ↦ absurd (memory-apart c.args.fate why.0 is)
      | inr why ↦
          all-done g.P.Program.writes g.P.SampleRun.plan.writes c.close_all-streaming.result.stream.marks
          (λ thread. ap (λ (ws : List Write). length ws) (c.args.around.now.is_run.writes_are thread) ∙ count-writes c.args.around.now.plan.now thread ∙ ap (λ (p : Plan). p.writes) c.args.around.now.plan_is)
          (c.close_all-streaming.ensures.ends g.P.SampleRun.plan.writes why.2 (subst (λ (ms : List Marks). AllByRecursion (EndsAt g.P.SampleRun.plan.writes) ms) (sym c.requires.marks) tt))
    ]

pub end-end-requires-clause-events : goal.end-end-requires-clause-events
end-end-requires-clause-events g c =
    let sound = c.sample_events_are_valid.ensures in
    subst (λ (es : List EventDef). AreEvents es) (sym c.args.around.now.is_run.events_are)
    (record { few = sound.few; valid = sound.valid; distinct = sound.distinct; lacks = sound.lacks })

pub returns-clause-ended : goal.returns-clause-ended
returns-clause-ended g c to stands =
    let around = c.args.around.now in
    ended-at g.S.Sink g.P.TraceRun.run g.P.SampleRun.plan g.P.Program.events g.P.Program.writes g.P.Program.rows c.args.opened to g.P.Run.setting c.close_all-streaming.result.stream c.args.fate c.end-end.result.0
    (around.is_run.rows_are ∙ ap (λ (p : Plan). p.threads) around.plan_is)
    c.args.streaming.setting_is
    c.requires.few
    c.close_all-streaming.ensures.is_open
    (c.close_all-streaming.ensures.ends to stands (subst (λ (ms : List Marks). AllByRecursion (EndsAt to) ms) (sym c.requires.marks) tt))
    (never-asked c.args.fate (elim c.requires.why [
      | inl why ↦ inl why.0
      | inr why ↦ inr why.0
    ]))
    c.end-end.ensures.ended

pub returns-clause-spent : goal.returns-clause-spent
returns-clause-spent g c =
    spent-so g.P.TraceRun.run.config c.close_all-streaming.result.stream c.end-end.result.0 c.end-end.result.1 c.into_seat.result
    c.close_all-streaming.ensures.is_open.config_is c.end-end.ensures.ended.marks_are c.end-end.ensures.left
    c.into_seat.ensures.seat c.into_seat.ensures.shares c.into_seat.ensures.back c.into_seat.ensures.chunks
