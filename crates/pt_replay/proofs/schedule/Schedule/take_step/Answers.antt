-- The machine makes the step or says why not.
use Rattle.std.proofs.Common.{◌≡◌, ◌+◌, List, ◌∷◌, refl, sym, ap, ◌∙◌, subst}
use Rattle.ep_defs.specs.declared.event.EventDef.{EventDef}
use Rattle.ep_model.specs.Lawful.{objection_to}
use Rattle.std.specs.Prelude.{None, Result, Ok, Err, IsErrAnd}
use Rattle.pt_replay.specs.declared.schedule.Fault.TheVariants.{Refused}
use Rattle.pt_replay.specs.Schedule.{definitions_of, past_of}
use Rattle.pt_replay.specs.Machines.{IsMachineOf, IsUnlawful}
use Rattle.pt_replay.proofs.OneMore.{step-more, unlawful-refuses}
use Rattle.pt_replay.proofs.schedule.Schedule.take_step.Goals as goal

-- A fault that is passed on is the same.
err-is : {T E : Type 0} (r : Result T E) (e f : E) → IsErrAnd r (λ x. x ≡ e) → r ≡ Err f → ◌≡◌ {A = Result T E} (Err e) (Err f)
err-is (Ok x) e f passed is = absurd passed
err-is (Err x) e f passed is = ap (λ y. Err y) (sym passed) ∙ is

pub returns-clause-taken : goal.returns-clause-taken
returns-clause-taken c = λ lines stands.
    let events_are : definitions_of lines ≡ c.deref.result.now = sym stands.events_are ∙ sym c.deref.ensures.value in
    let Machines : List EventDef → Type 0 = λ events. IsMachineOf events (past_of lines) c.args.self.now.lines c.args.self.now.machine in
    let made = c.in_ok-make.ensures.made (past_of lines) (subst Machines events_are stands.machine_is) in
    let Lawful : List EventDef → Type 0 = λ events. objection_to events (past_of lines) c.args.step ≡ None in
    let lawful : objection_to (definitions_of lines) (past_of lines) c.args.step ≡ None = subst Lawful (sym events_are) made.0 in
    let More : List EventDef → Type 0 = λ events. IsMachineOf events (c.args.step ∷ past_of lines) (c.args.self.now.lines + 1) c.make.new.machine in
    (lawful, step-more lines c.args.step c.args.self.now _ stands refl refl lawful (subst More (sym events_are) made.1))

pub returns-in_err-make-clause-refused : goal.returns-in_err-make-clause-refused
returns-in_err-make-clause-refused c = λ lines refusal text stands is says.
    let events_are : definitions_of lines ≡ c.deref.result.now = sym stands.events_are ∙ sym c.deref.ensures.value in
    let Machines : List EventDef → Type 0 = λ events. IsMachineOf events (past_of lines) c.args.self.now.lines c.args.self.now.machine in
    let why = c.in_err-make.ensures.refused (past_of lines) refusal (subst Machines events_are stands.machine_is) (err-is c.from_residual.result c.in_err-make.field-0.0 (Refused refusal) c.from_residual.ensures.1 is) in
    let Why : List EventDef → Type 0 = λ events. IsUnlawful events (past_of lines) c.args.step (c.args.self.now.lines + 1) refusal in
    unlawful-refuses lines text c.args.step c.args.self.now.lines refusal stands.count says (subst Why (sym events_are) why)

pub make-requires-clause-stands : goal.make-requires-clause-stands
make-requires-clause-stands c =
    let lines = c.requires.stands.0 in
    let stands = c.requires.stands.1 in
    let events_are : definitions_of lines ≡ c.deref.result.now = sym stands.events_are ∙ sym c.deref.ensures.value in
    let Machines : List EventDef → Type 0 = λ events. IsMachineOf events (past_of lines) c.args.self.now.lines c.args.self.now.machine in
    (past_of lines, subst Machines events_are stands.machine_is)
