use Rattle.std.proofs.Common.{◌≡◌, ℕ, List, [], ◌∷◌, None, Some, ap, sym, ◌∙◌, subst, arith}
use Rattle.ep_defs.specs.declared.event.EventDef.{EventDef}
use Rattle.ep_defs.specs.Entry.{Entry, Event}
use Rattle.ep_defs.specs.Samples.{zero_id}
use Rattle.ep_rundown.specs.Rundown.{rundown_def, description, describing}
use Rattle.nt_write.specs.declared.fault.Fault.TheVariants.{OutOfMemory}
use Rattle.ep_stream.specs.Telling.{Tells}
use Rattle.ep_stream.proofs.Telling.{tells_one}
use Rattle.ep_stream.proofs.Describing.{tells_none, not_long}
use Rattle.ep_stream.proofs.rundown.describe_one.Goals as goal

pub returns-in_default-clause-writes : goal.returns-in_default-clause-writes
returns-in_default-clause-writes g c defs distinct at before info told telling =
    tells_none g.S.Sink.tells_taken g.S.Sink.taken before defs info told (Event (describing c.args.stamp c.args.id c.args.def.now) ∷ []) OutOfMemory c.give_up.new.self
    c.give_up.ensures.fault (c.give_up.ensures.part before defs info told (telling.sound c.requires.sound)) not_long

pub returns-clause-writes : goal.returns-clause-writes
returns-clause-writes g c defs distinct at before info told telling =
    let bytes : List ℕ = c.deref.result.now in
    let make : EventDef → List ℕ → Entry =
    λ def payload. Event (record { thread = 0; number = c.args.id; stamp = c.args.stamp; def = def; activity = zero_id; related = zero_id; stack = []; payload = payload })
    in
    let same : bytes ≡ description c.args.id c.args.def.now = c.deref.ensures.value ∙ c.in-Ok.ensures.is in
    let entry : make rundown_def (description c.args.id c.args.def.now) ≡ make c.args.rundown.now bytes =
    ap (λ (payload : List ℕ). make rundown_def payload) (sym same) ∙ ap (λ (def : EventDef). make def bytes) (sym c.requires.rundown)
    in
    let defined = at ∙ ap (λ (def : EventDef). Some def) (sym c.requires.rundown) in
    subst (λ (e : Entry). Tells g.S.Sink.tells_taken g.S.Sink.taken before defs info told (e ∷ []) c.event.result c.event.new.self) (sym entry)
    (tells_one g.S.Sink.tells_taken g.S.Sink.taken before defs info told (make c.args.rundown.now bytes) c.args.writer.now c.event.new.self None c.event.result c.requires.sound telling
    (λ w. c.event.ensures.ok before defs info told w distinct defined)
    (λ w. c.event.ensures.part before defs info told w distinct defined)
    (λ w e. let long = (c.event.ensures.too_long before defs info told w).0 e in absurd (omega (arith, long.0)))
    c.event.ensures.fails c.event.ensures.sound c.event.ensures.stays)
