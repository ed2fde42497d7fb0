-- How the writes that a session admits grow.
use Rattle.std.proofs.Common.{◌≡◌, ℕ, suc, ◌+◌, ◌≤◌, Bool, true, false, cond, inl, inr, List, ◌∷◌, ◌++◌, length, take, drop, filter, Option, Some, None, eqb, refl, ap, sym, arith, []}
use Rattle.std.specs.Prelude.{◌&&◌, unwrap_or}
use Rattle.std.specs.Option.{option_map_or}
use Rattle.std.proofs.lemmas.Bool.{not-false, eq-eqb, ne_eqb, cases_Bool, cases_eq, false_from_ne_true}
use Rattle.std.proofs.lemmas.List.{length_push, append-nil, append_assoc, take-append-le, drop-append-le, length-drop, length-take}
use Rattle.std.proofs.lemmas.List.Elements.{filter-append}
use Rattle.std.proofs.Math.Seq.{drop-length, take-length}
use Rattle.ep_defs.specs.declared.event.EventDef.{EventDef}
use Rattle.ep_defs.specs.declared.session.Config.{Config}
use Rattle.ep_defs.specs.declared.session.Write.{Write}
use Rattle.ep_defs.specs.Admits.{session_admits}
use Rattle.ep_model.specs.declared.step.Step.TheVariants as step
use Rattle.ep_model.specs.History.{Past, event_at, admits_write, admitted_from, is_open, opened_at, closed_at, writes_of}
use Rattle.ep_model.specs.Lawful.{IsLawful, objections, was_opened}
use Rattle.ep_model.specs.Faithful.{numbered, contents_if}
use Rattle.ep_model.proofs.Objections.{none_there}
use Rattle.ep_model.proofs.Sessions.{open_opened, unopened_none}

-- ---- where a session stands on a thread

-- Not opened yet, open, or closed, each where the thread's writes so far were as many.
pub data Stands (from to : Option ℕ) (stands_open : Bool) (writes : ℕ) : Type 0 where
  Never : from ≡ None → to ≡ None → stands_open ≡ false → Stands from to stands_open writes
  Standing : (first : ℕ) → from ≡ Some first → to ≡ None → stands_open ≡ true → first ≤ writes → Stands from to stands_open writes
  Closed : (first last : ℕ) → from ≡ Some first → to ≡ Some last → stands_open ≡ false → last ≤ writes → Stands from to stands_open writes

abbrev pub StandsOn : ℕ → ℕ → Past → Type 0
StandsOn session thread past =
    Stands (opened_at session thread past) (closed_at session thread past) (is_open session thread past) (length (writes_of thread past))

-- More writes change nothing of it.
more_writes : (from to : Option ℕ) (stands_open : Bool) (writes more : ℕ) → writes ≤ more → Stands from to stands_open writes → Stands from to stands_open more
more_writes from to stands_open writes more grow (Never a b c) = Never a b c
more_writes from to stands_open writes more grow (Standing first a b c d) = Standing first a b c (omega arith)
more_writes from to stands_open writes more grow (Closed first last a b c d) = Closed first last a b c (omega arith)

-- It is open after it was opened for the first time.
opened_first : (from to : Option ℕ) (stands_open : Bool) (writes : ℕ) → from ≡ None → stands_open ≡ false → Stands from to stands_open writes → Stands (Some writes) to true writes
opened_first from to stands_open writes none outside (Never a b c) = Standing writes refl b refl (omega arith)
opened_first from to stands_open writes none outside (Standing first a b c d) = cc
opened_first from to stands_open writes none outside (Closed first last a b c d) = cc

-- It is closed after it was open.
closed_last : (from to : Option ℕ) (stands_open : Bool) (writes : ℕ) → stands_open ≡ true → Stands from to stands_open writes → Stands from (Some writes) false writes
closed_last from to stands_open writes inside (Never a b c) = cc
closed_last from to stands_open writes inside (Standing first a b c d) = Closed first writes a refl refl (omega arith)
closed_last from to stands_open writes inside (Closed first last a b c d) = cc

-- A session that was not opened on a thread is not open there.
pub unopened-shut : (session thread : ℕ) (past : Past) → was_opened session thread past ≡ false → is_open session thread past ≡ false
unopened-shut session thread past h = false_from_ne_true (is_open session thread past) (λ e. let f = open_opened session thread past e in cc)

-- A session stands on each thread in one of the three ways.
pub stands : (events : List EventDef) (session thread : ℕ) (past : Past) → IsLawful events past → StandsOn session thread past
stands events session thread [] lawful = Never refl refl refl
stands events session thread (step.Open s t ∷ past) lawful =
    let before = stands events session thread past lawful.0 in
    elim (cases_eq s session) [
      | inl same ↦
          elim (cases_eq t thread) [
            | inl same_thread ↦
                let fresh = (none_there (objections events past (step.Open s t)) lawful.1).1.1.0 in
                let unopened : was_opened session thread past ≡ false = rw same_thread at (rw same at fresh) in
                rw (eq-eqb s session same, eq-eqb t thread same_thread)
                (opened_first _ _ _ _ (unopened_none session thread past unopened) (unopened-shut session thread past unopened) before)
            | inr other ↦ rw (eq-eqb s session same, ne_eqb t thread other) before
          ]
      | inr other ↦ rw (ne_eqb s session other) before
    ]
stands events session thread (step.Close s t ∷ past) lawful =
    let before = stands events session thread past lawful.0 in
    elim (cases_eq s session) [
      | inl same ↦
          elim (cases_eq t thread) [
            | inl same_thread ↦
                let inside = not-false (is_open s t past) (none_there (objections events past (step.Close s t)) lawful.1).1.1.0 in
                let here : is_open session thread past ≡ true = rw same_thread at (rw same at inside) in
                rw (eq-eqb s session same, eq-eqb t thread same_thread) (closed_last _ _ _ _ here before)
            | inr other ↦ rw (eq-eqb s session same, ne_eqb t thread other) before
          ]
      | inr other ↦ rw (ne_eqb s session other) before
    ]
stands events session thread (step.Begin t stamp write ∷ past) lawful =
    let before = stands events session thread past lawful.0 in
    let grow : length (writes_of thread past) ≤ length (writes_of thread past ++ write ∷ []) = omega (arith, length_push (writes_of thread past) write) in
    elim (cases_Bool (eqb t thread)) [
      | inl same ↦ rw same (more_writes _ _ _ _ _ grow before)
      | inr other ↦ rw other before
    ]
stands events session thread (_ ∷ past) lawful = stands events session thread past lawful.0

-- It was not closed where it was never opened, nor where it is open.
pub never-closed : (from to : Option ℕ) (stands_open : Bool) (writes : ℕ) → from ≡ None → Stands from to stands_open writes → to ≡ None
never-closed from to stands_open writes none (Never a b c) = b
never-closed from to stands_open writes none (Standing first a b c d) = b
never-closed from to stands_open writes none (Closed first last a b c d) = cc

-- It is not open where it was never opened.
pub never-open : (from to : Option ℕ) (stands_open : Bool) (writes : ℕ) → from ≡ None → Stands from to stands_open writes → stands_open ≡ false
never-open from to stands_open writes none (Never a b c) = c
never-open from to stands_open writes none (Standing first a b c d) = cc
never-open from to stands_open writes none (Closed first last a b c d) = c

pub open-not_closed : (from to : Option ℕ) (stands_open : Bool) (writes : ℕ) → stands_open ≡ true → Stands from to stands_open writes → to ≡ None
open-not_closed from to stands_open writes inside (Never a b c) = b
open-not_closed from to stands_open writes inside (Standing first a b c d) = b
open-not_closed from to stands_open writes inside (Closed first last a b c d) = cc

-- ---- the writes that a session admits

-- The admitted writes, by where the session stands.
abbrev pub admitted_within : List EventDef → Option Config → Option ℕ → Option ℕ → List Write → List Write
admitted_within events config from to writes =
    option_map_or (λ first. admitted_from events config first (take (unwrap_or to (length writes)) writes)) from []

-- The write, where the session is open and admits it.
abbrev pub if_admitted : List EventDef → Option Config → Bool → Write → List Write
if_admitted events config stands_open write = cond (stands_open && admits_write events config write) (write ∷ []) []

-- A write is admitted from its Begin on.
pub begin-admitted : (events : List EventDef) (config : Option Config) (from to : Option ℕ) (stands_open : Bool) (writes : List Write) (write : Write) → Stands from to stands_open (length writes) → admitted_within events config from to (writes ++ write ∷ []) ≡ admitted_within events config from to writes ++ if_admitted events config stands_open write
begin-admitted events config from to stands_open writes write (Never a b c) = rw (a, c) refl
begin-admitted events config from to stands_open writes write (Standing first a b c d) =
    let p = λ (w : Write). admits_write events config w in
    rw (a, b, c, take-length (writes ++ write ∷ []), take-length writes, drop-append-le first writes (write ∷ []) d, filter-append p (drop first writes) (write ∷ [])) refl
begin-admitted events config from to stands_open writes write (Closed first last a b c d) =
    rw (a, b, c, take-append-le last writes (write ∷ []) d, append-nil) refl

-- Nothing is admitted where the session is opened.
pub open-admitted : (events : List EventDef) (config : Option Config) (writes : List Write) → admitted_within events config (Some (length writes)) None writes ≡ []
open-admitted events config writes = rw (take-length writes, drop-length writes) refl

-- ---- the contents of admitted writes

-- The numbers go on where they ended.
pub numbered-append : (events : List EventDef) (stacks : Bool) (number : ℕ) (writes more : List Write) → numbered events stacks number (writes ++ more) ≡ numbered events stacks number writes ++ numbered events stacks (number + length writes) more
numbered-append events stacks number [] more = ap (λ n. numbered events stacks n more) (omega arith)
numbered-append events stacks number (write ∷ writes) more =
    let later = numbered-append events stacks (number + 1) writes more in
    let next : number + 1 + length writes ≡ number + length (write ∷ writes) = omega arith in
    rw (later, next) (sym (append_assoc (contents_if stacks number write (event_at events write.event)) (numbered events stacks (number + 1) writes) _))

-- A write that is admitted has a definition.
pub admits-defined : (config : Option Config) (o : Option EventDef) → option_map_or (λ c. option_map_or (λ def. session_admits c def) o false) config false ≡ true → (def : EventDef) × (o ≡ Some def)
admits-defined None o h = cc
admits-defined (Some config) None h = cc
admits-defined (Some config) (Some def) h = (def, refl)

-- So each admitted write has contents.
pub numbered-long : (events : List EventDef) (stacks : Bool) (config : Option Config) (number : ℕ) (writes : List Write) → length (numbered events stacks number (filter (λ write. admits_write events config write) writes)) ≡ length (filter (λ write. admits_write events config write) writes)
numbered-long events stacks config number [] = refl
numbered-long events stacks config number (write ∷ writes) =
    elim (cases_Bool (admits_write events config write)) [
      | inl admits ↦
          let def = admits-defined config (event_at events write.event) admits in
          rw (admits, def.1) (ap suc (numbered-long events stacks config (number + 1) writes))
      | inr refused ↦ rw refused (numbered-long events stacks config number writes)
    ]

pub contents-long : (events : List EventDef) (stacks : Bool) (config : Option Config) (from to : Option ℕ) (writes : List Write) → length (numbered events stacks 1 (admitted_within events config from to writes)) ≡ length (admitted_within events config from to writes)
contents-long events stacks config None to writes = refl
contents-long events stacks config (Some first) to writes = numbered-long events stacks config 1 (drop first (take (unwrap_or to (length writes)) writes))

-- No more writes are admitted than were begun.
pub filter-shorter : {A : Type 0} (p : A → Bool) (xs : List A) → length (filter p xs) ≤ length xs
filter-shorter p [] = omega arith
filter-shorter p (x ∷ xs) =
    let later = filter-shorter p xs in
    elim (cases_Bool (p x)) [ inl passes ↦ rw passes (omega arith) | inr fails ↦ rw fails (omega arith) ]

pub admitted-few : (events : List EventDef) (config : Option Config) (from to : Option ℕ) (writes : List Write) → length (admitted_within events config from to writes) ≤ length writes
admitted-few events config None to writes = omega arith
admitted-few events config (Some first) to writes =
    let upto = unwrap_or to (length writes) in
    let some = filter-shorter (λ write. admits_write events config write) (drop first (take upto writes)) in
    let a = length-drop first (take upto writes) in
    let b = length-take upto writes in
    omega arith
