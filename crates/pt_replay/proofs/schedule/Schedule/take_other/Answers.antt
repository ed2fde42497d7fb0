-- What is read of a line is what it says behind those before it.
use Rattle.std.specs.Prelude.{◌∷◌}
use Rattle.std.proofs.lemmas.Result.{on_ok_weaker}
use Rattle.ep_plan.specs.declared.line.Line.{Line}
use Rattle.ep_plan.specs.declared.line.Line.TheVariants.{Event, Step}
use Rattle.pt_replay.specs.Schedule.{CanBeMade, Takes}
use Rattle.pt_replay.specs.Reading.{HasTaken}
use Rattle.pt_replay.proofs.OneMore.{says-read}
use Rattle.pt_replay.proofs.schedule.Schedule.take_other.Goals as goal

pub returns-in-Ok-Step-clause-refused : goal.returns-in-Ok-Step-clause-refused
returns-in-Ok-Step-clause-refused c = λ lines refusal stands is.
    let read = rw c.in-Ok-Step.field-0-is at c.in-Ok-Step.ensures.read in
    c.take_step.ensures.refused lines refusal c.args.text.now stands is
    (says-read lines c.args.text.now (Step c.in-Ok-Step.step) c.args.self.now c.deref.result.now c.is_some.result stands c.deref.ensures.value c.is_some.ensures read)

pub returns-in-Ok-Step-clause-taken : goal.returns-in-Ok-Step-clause-taken
returns-in-Ok-Step-clause-taken c = λ lines stands.
    let step = c.in-Ok-Step.step in
    let schedule = c.args.self.now in
    let read = rw c.in-Ok-Step.field-0-is at c.in-Ok-Step.ensures.read in
    let says = says-read lines c.args.text.now (Step step) schedule c.deref.result.now c.is_some.result stands c.deref.ensures.value c.is_some.ensures read in
    let Made : Type 0 = CanBeMade lines (Step step) × HasTaken (Step step ∷ lines) c.take_step.new.self in
    let Taken : Type 0 = (line : Line) × Takes lines c.args.text.now line × HasTaken (line ∷ lines) c.take_step.new.self in
    let taken : Made → Taken = λ made. (Step step, record { says = says; made = made.0 }, made.1) in
    on_ok_weaker c.take_step.result taken (c.take_step.ensures.taken lines stands)

pub returns-in-Ok-Event-clause-taken : goal.returns-in-Ok-Event-clause-taken
returns-in-Ok-Event-clause-taken c = λ lines stands.
    let index = c.in-Ok-Event.field-0-0 in
    let def = c.in-Ok-Event.def in
    let schedule = c.args.self.now in
    let read = rw c.in-Ok-Event.field-0-is at c.in-Ok-Event.ensures.read in
    let says = says-read lines c.args.text.now (Event index def) schedule c.deref.result.now c.is_some.result stands c.deref.ensures.value c.is_some.ensures read in
    let Made : Type 0 = HasTaken (Event index def ∷ lines) c.take_event.new.self in
    let Taken : Type 0 = (line : Line) × Takes lines c.args.text.now line × HasTaken (line ∷ lines) c.take_event.new.self in
    let taken : Made → Taken = λ made. (Event index def, record { says = says; made = tt }, made) in
    on_ok_weaker c.take_event.result taken (c.take_event.ensures.taken lines c.args.text.now index stands says)
