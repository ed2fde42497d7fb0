-- What the parts of the machine stand for.
use Rattle.std.specs.Prelude.{◌≡◌, ℕ, true, false, List, ◌∷◌, Option, None, Some}
use Rattle.std.specs.BTreeMap.{BTreeMap, get}
use Rattle.std.specs.Ordering.{nat_cmp}
use Rattle.ep_defs.specs.declared.event.EventDef.{EventDef}
use Rattle.ep_defs.specs.declared.session.TraceInfo.{TraceInfo}
use Rattle.nt_write.specs.Canonical.{IsCanonical}
use Rattle.ep_model.specs.declared.step.Step.{Step}
use Rattle.ep_model.specs.declared.step.Step.TheVariants as step
use Rattle.ep_model.specs.History.{Past, is_finished}
use Rattle.ep_model.specs.Marks.{marks_of}
use Rattle.ep_told.specs.Told.{told_entries}
use Rattle.ep_tables.specs.declared.judged.Judged.{Judged}
use Rattle.ep_tables.specs.Judged.{IsReady, step_of}
use Rattle.ep_core_laws.specs.Works.{Works, WorksBefore, CanGoOn, WorksOnWith}
use Rattle.ep_core.specs.declared.ended.Ended.{Ended}
use Rattle.ep_core.specs.declared.work.Work.{Work}

-- The tables and the writes that were begun are what the steps so far say.
abbrev pub HasWorked : List EventDef → TraceInfo → Past → Work → Type 0
HasWorked events info past work = Works events info past work.tables work.begun.items

-- The step can be made next.
abbrev pub CanWork : List EventDef → TraceInfo → Step → Past → Work → Type 0
CanWork events info next past work = WorksBefore events info next past work.tables work.begun.items

-- The step can be made next, with what was found.
pub record IsNext (judged : Judged) (work : Work) : Type 0 where
  pub ready : IsReady work.tables judged
  pub goes : ∥ CanGoOn (step_of judged) work.tables work.begun.items ∥₁

-- The step was made, whatever the steps before were.
abbrev pub MakesWith : TraceInfo → Judged → Work → Work → Type 0
MakesWith info judged old new =
    WorksOnWith info (step_of judged) old.tables old.begun.items new.tables new.begun.items

-- The same, with whatever a stream says of the machine that was traced.
abbrev pub Makes : Judged → Work → Work → Type 0
Makes judged old new = (info : TraceInfo) → MakesWith info judged old new

-- What is left of a finished session is its stream and its marks.
pub record EndedFollows (events : List EventDef) (info : TraceInfo) (session : ℕ) (past : Past) (ended : Ended) : Type 0 where
  pub finished : is_finished session past ≡ true
  pub canonical : IsCanonical info (told_entries events session past) ended.sink.taken
  pub marks_are : ended.marks ≡ marks_of session past

-- This is left of the session that a Finish ends.
abbrev pub EndsWith : ℕ → ℕ → Work → Ended → Type 0
EndsWith session stamp work ended =
    (events : List EventDef) (info : TraceInfo) (past : Past)
    → CanWork events info (step.Finish session stamp) past work → EndedFollows events info session (step.Finish session stamp ∷ past) ended

-- What is left of a session, if it was finished.
abbrev pub EndedAt : List EventDef → TraceInfo → ℕ → Past → Option Ended → Type 0
EndedAt events info session past None = is_finished session past ≡ false
EndedAt events info session past (Some ended) = EndedFollows events info session past ended

-- What is left of each session.
abbrev pub EndedFollow : List EventDef → TraceInfo → Past → BTreeMap ℕ Ended → Type 0
EndedFollow events info past ended = (session : ℕ) → EndedAt events info session past (get nat_cmp ended session)

-- Where the step was made, it is known again what is left of each session, whatever the steps before were.
abbrev pub EndedFollowOnWith : TraceInfo → Judged → Work → BTreeMap ℕ Ended → BTreeMap ℕ Ended → Type 0
EndedFollowOnWith info judged work old new =
    (events : List EventDef) (past : Past) → CanWork events info (step_of judged) past work
    → EndedFollow events info past old → EndedFollow events info (step_of judged ∷ past) new

-- The same, with whatever a stream says of the machine that was traced.
abbrev pub EndedFollowOn : Judged → Work → BTreeMap ℕ Ended → BTreeMap ℕ Ended → Type 0
EndedFollowOn judged work old new = (info : TraceInfo) → EndedFollowOnWith info judged work old new

-- Some lawful steps led to this.
pub record Standing (info : TraceInfo) (work : Work) : Type 0 where
  pub events : List EventDef
  pub past : Past
  pub works : HasWorked events info past work
