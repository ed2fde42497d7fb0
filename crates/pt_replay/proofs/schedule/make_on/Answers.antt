-- Why the machine does not make the step is why the line is refused.
use Rattle.std.proofs.Common.{ap, ◌∙◌}
use Rattle.std.specs.Prelude.{Err}
use Rattle.ep_defs.specs.Session.{standard_info_of}
use Rattle.pt_replay.proofs.OneMore.{same_fault}
use Rattle.pt_replay.proofs.schedule.make_on.Goals as goal

pub returns-in-Err-clause-refused : goal.returns-in-Err-clause-refused
returns-in-Err-clause-refused c = λ events past refusal follows is.
    let why = c.fault_at.ensures refusal (same_fault c.fault_at.result refusal is) in
    let kind = c.step.ensures.unlawful events (standard_info_of 1 1) past why.0 follows (c.in-Err.is ∙ ap (λ fault. Err fault) why.1) in
    (why.0.kind, kind.0, why.2)

pub returns-in-Ok-clause-made : goal.returns-in-Ok-clause-made
returns-in-Ok-clause-made c = λ events past follows. c.in-Ok.ensures.made events (standard_info_of 1 1) past follows
