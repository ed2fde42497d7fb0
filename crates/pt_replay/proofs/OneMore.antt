-- What a schedule stands for, with a line more.
use Rattle.std.proofs.Common.{◌≡◌, ℕ, ◌+◌, Bool, false, List, [], ◌∷◌, length, Option, Some, None, refl, sym, ap, ◌∙◌, subst, arith}
use Rattle.ep_defs.specs.declared.event.EventDef.{EventDef}
use Rattle.ep_model.specs.History.{Past}
use Rattle.ep_model.specs.Lawful.{IsLawful}
use Rattle.ep_core.specs.declared.machine.Machine.{Machine}
use Rattle.std.specs.Prelude.{is_some, Result, Err}
use Rattle.ep_plan.specs.Lines.{IsLine}
use Rattle.pt_replay.specs.declared.schedule.Fault.{Fault}
use Rattle.pt_replay.specs.declared.schedule.Fault.TheVariants.{Refused}
use Rattle.pt_replay.specs.declared.schedule.Schedule.{Schedule}
use Rattle.pt_replay.specs.Reading.{HasTaken}
use Rattle.ep_model.specs.declared.step.Step.{Step}
use Rattle.ep_plan.specs.declared.line.Line.{Line}
use Rattle.ep_plan.specs.declared.line.Line.TheVariants as line
use Rattle.pt_replay.specs.declared.errors.Refusal.{Refusal}
use Rattle.pt_replay.specs.Schedule.{definitions_of, past_of, has_stepped, CanBeMade, Says, Refuses}
use Rattle.pt_replay.specs.Machines.{IsMachineOf, IsUnlawful}

-- Without a step there is no machine, whatever the definitions are.
pub machine-unused : (events more : List EventDef) (past : Past) (lines lines' : ℕ) (machine : Option Machine) → has_stepped past ≡ false → IsMachineOf events past lines machine → IsMachineOf more past lines' machine
machine-unused events more past lines lines' None unused is = is
machine-unused events more past lines lines' (Some machine) unused is = let e = is.2 in cc

-- Before the first step any definitions will do.
pub lawful-unused : (events : List EventDef) (past : Past) → has_stepped past ≡ false → IsLawful events past
lawful-unused events [] unused = tt
lawful-unused events (step ∷ past) unused = cc

-- A step that can't be made refuses its line.
pub unlawful-refuses : (lines : List Line) (text : List ℕ) (s : Step) (count : ℕ) (refusal : Refusal) → count ≡ length lines → Says lines text (line.Step s) → IsUnlawful (definitions_of lines) (past_of lines) s (count + 1) refusal → Refuses lines text refusal
unlawful-refuses lines text s count refusal count_is says why =
    let P : Refusal → Type 0 = λ r. Refuses lines text r in
    subst P (sym why.2) (record { number = ap (λ n. n + 1) count_is; why = (refl, (s, says, why.1)) })

-- A fault that is answered is the one that the answer has.
pub same_fault : {T : Type 0} (fault : Fault) (refusal : Refusal) → ◌≡◌ {A = Result T Fault} (Err fault) (Err (Refused refusal)) → fault ≡ Refused refusal
same_fault fault refusal is = cc

-- ---- a step more

-- Where there is a machine, it stands for the steps of the lines.
pub machine-there : (lines : List Line) (schedule : Schedule) (machine : Machine) → HasTaken lines schedule → schedule.machine ≡ Some machine → IsMachineOf (definitions_of lines) (past_of lines) schedule.lines (Some machine)
machine-there lines schedule machine stands is =
    subst (λ found. IsMachineOf (definitions_of lines) (past_of lines) schedule.lines found) is stands.machine_is

-- With the step of a line more.
pub step-more : (lines : List Line) (s : Step) (old new : Schedule) → HasTaken lines old → new.events.items ≡ old.events.items → new.lines ≡ old.lines + 1 → CanBeMade lines (line.Step s)
    → IsMachineOf (definitions_of lines) (s ∷ past_of lines) new.lines new.machine → HasTaken (line.Step s ∷ lines) new
step-more lines s old new stands events count lawful machine =
    record {
      count = omega (arith, count, stands.count);
      events_are = events ∙ stands.events_are;
      machine_is = machine;
      few = stands.few;
      valid = stands.valid;
      distinct = stands.distinct;
      lacks = stands.lacks;
      lawful = (stands.lawful, lawful);
    }

-- ---- what a line says

-- There is a machine exactly from the first step on.
stepped-is : (events : List EventDef) (past : Past) (lines : ℕ) (machine : Option Machine) → IsMachineOf events past lines machine → is_some machine ≡ has_stepped past
stepped-is events past lines None is = ap has_stepped (sym is)
stepped-is events past lines (Some machine) is = sym is.2

-- What a line is read as is what it says behind the lines for which the schedule stands.
pub says-read : (lines : List Line) (text : List ℕ) (line : Line) (schedule : Schedule) (events : List EventDef) (stepped : Bool) → HasTaken lines schedule → events ≡ schedule.events.items → stepped ≡ is_some schedule.machine → IsLine events stepped text line → Says lines text line
says-read lines text line schedule events stepped stands events_are stepped_is is =
    let events_of : events ≡ definitions_of lines = events_are ∙ stands.events_are in
    let stepped_of : stepped ≡ has_stepped (past_of lines) =
    stepped_is ∙ stepped-is (definitions_of lines) (past_of lines) schedule.lines schedule.machine stands.machine_is in
    let P : List EventDef → Type 0 = λ es. IsLine es stepped text line in
    let Q : Bool → Type 0 = λ b. IsLine (definitions_of lines) b text line in
    subst Q stepped_of (subst P events_of is)
