-- What holds of every list of steps, or of every lawful one.
use Rattle.std.proofs.Common.{◌≡◌, ℕ, ◌-◌, ◌<◌, Bool, false, inl, inr, List, [], ◌∷◌, length, Option, Some, ap, sym, ◌∙◌, arith, if◌then◌else◌}
use Rattle.std.specs.Prelude.{slice_get, ◌==◌}
use Rattle.std.specs.Option.{option_map_or}
use Rattle.std.proofs.lemmas.Bool.{leb-false, and_right, cases_Bool}
use Rattle.ep_defs.specs.declared.limits.TheConstants.{SCHEDULE_WRITES, WRITES}
use Rattle.ep_defs.specs.declared.event.EventDef.{EventDef}
use Rattle.ep_defs.specs.declared.session.Config.{Config}
use Rattle.ep_defs.specs.declared.session.Write.{Write}
use Rattle.ep_model.specs.declared.step.Step.TheVariants as step
use Rattle.ep_model.specs.History.{Past, Begun, accepted, present, is_present, writes_of, last_begun}
use Rattle.ep_model.specs.Lawful.{objections, IsLawful, begins}
use Rattle.ep_model.proofs.Lists.{has}
use Rattle.ep_model.proofs.Objections.{none_there}
use Rattle.ep_model.proofs.Sessions.{writes_begun, accept_new}
use Rattle.ep_tables.proofs.Lists.{has-filter}
use Rattle.ep_core_laws.specs.Kept.{IsLast}
use Rattle.ep_core_laws.proofs.FollowPasts.{never_came, enters_anew}
use Rattle.ep_core_laws.proofs.RestLists.{get_last-push}

-- ---- the last write of a thread

-- The last of a thread's writes is the one that it began last.
pub last_written : (thread : ℕ) (past : Past) (stamp : ℕ) (write : Write) → IsLast thread past stamp write → slice_get (writes_of thread past) (length (writes_of thread past) - 1) ≡ Some write
last_written thread [] stamp write last = cc
last_written thread (step.Begin t n w ∷ past) stamp write last =
    elim (cases_Bool (t == thread)) [
      | inl same ↦
          let begun : Some (record { stamp = n; write = w }) ≡ Some (record { stamp = stamp; write = write }) =
          sym (ap (λ (b : Bool). if b then Some (record { stamp = n; write = w }) else last_begun thread past) same) ∙ last in
          let it : w ≡ write = ap (λ (o : Option Begun). option_map_or (λ b. b.write) o w) begun in
          rw same (get_last-push (writes_of thread past) w ∙ ap (λ v. Some v) it)
      | inr other ↦
          let before : last_begun thread past ≡ Some (record { stamp = stamp; write = write }) =
          sym (ap (λ (b : Bool). if b then Some (record { stamp = n; write = w }) else last_begun thread past) other) ∙ last in
          rw other (last_written thread past stamp write before)
    ]
last_written thread (_ ∷ past) stamp write last = last_written thread past stamp write last

-- ---- how many writes there are

-- Where a write can begin, its thread has made fewer than there are numbers.
pub few_writes : (events : List EventDef) (past : Past) (thread stamp : ℕ) (write : Write) → IsLawful events (step.Begin thread stamp write ∷ past) → length (writes_of thread past) < WRITES
few_writes events past thread stamp write lawful =
    let few = (none_there (objections events past (step.Begin thread stamp write)) lawful.1).1.1.1.1.0 in
    let less = leb-false SCHEDULE_WRITES (begins past) few in
    let all = writes_begun thread past in
    omega (arith, less, all)

-- ---- a thread that comes

-- A thread that enters has made no write.
pub enters_unwritten : (events : List EventDef) (thread : ℕ) (past : Past) → IsLawful events (step.Enter thread ∷ past) → writes_of thread past ≡ []
enters_unwritten events thread past lawful = (never_came events thread past lawful.0 (enters_anew events thread past lawful)).0

-- ---- a session that comes

-- A session that is accepted is not present.
pub accepts_absent : (events : List EventDef) (session : ℕ) (config : Config) (past : Past) → IsLawful events (step.Accept session config ∷ past) → has session (present past) ≡ false
accepts_absent events session config past lawful =
    has-filter (λ s. is_present s past) session (accepted past)
    ∙ and_right (is_present session past) (has session (accepted past)) (accept_new events past session config lawful.1)
