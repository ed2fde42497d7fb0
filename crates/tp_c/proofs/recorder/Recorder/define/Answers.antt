use Rattle.std.proofs.Common.{◌≡◌, Some, None, arith, subst}
use Rattle.std.specs.Option.{option_or}
use Rattle.std.specs.Prelude.{◌⊎◌, not, if◌then◌else◌}
use Rattle.ep_defs.specs.declared.event.EventDef.{EventDef}
use Rattle.tp_c.specs.declared.refusal.Refusal.TheVariants.{BadNames, OutOfMemory}
use Rattle.tp_c.specs.Defining.{definition_refused}
use Rattle.tp_c.specs.Recording.{call_refused}
use Rattle.tp_c.specs.Shapes.{are_named}
use Rattle.tp_c.proofs.Recordings.{defined-goes-on, why-refused}
use Rattle.tp_c.proofs.recorder.Recorder.define.Goals as goal

pub returns-clause-refused : goal.returns-clause-refused
returns-clause-refused c refusal is =
    let old = c.args.self.now in
    let named = are_named c.args.fields.now c.args.names.now in
    let taking : call_refused old ≡ None = grind arith in
    subst (λ (d : EventDef). (refusal ≡ OutOfMemory) ⊎ (option_or (call_refused old) (if not named then Some BadNames else definition_refused old.definitions d) ≡ Some refusal)) c.in_ok-def.ensures.ok
    (why-refused (call_refused old) named (definition_refused old.definitions c.in_ok-def.def) c.add.result refusal taking c.in_ok-def.ensures.named c.add.ensures.refused c.add.ensures.memory is)

pub returns-clause-goes_on : goal.returns-clause-goes_on
returns-clause-goes_on c info entries pulled h =
    defined-goes-on info entries pulled _ c.add.new.self c.args.self.now c.add.result c.add.ensures.added c.add.ensures.distinct h
