-- What holds where a step can be made.
use Rattle.std.proofs.Common.{◌≡◌, ℕ, Bool, true, false, cond, List, ◌∷◌, Option, Some, None, refl, []}
use Rattle.std.specs.List.{AllByRecursion}
use Rattle.std.proofs.lemmas.Bool.{not-false}
use Rattle.ep_defs.specs.declared.event.EventDef.{EventDef}
use Rattle.ep_model.specs.declared.step.Step.{Step}
use Rattle.ep_model.specs.declared.step.Step.TheVariants as step
use Rattle.ep_model.specs.declared.step.Kind.{Kind}
use Rattle.ep_model.specs.History.{Past, is_present, is_open, is_due}
use Rattle.ep_model.specs.Lawful.{Objection, first_kind, objections, objection_to, was_opened}

-- Where the first objection is not there, the others decide.
passes_first : (there : Bool) (kind : Kind) (others : Option Kind) → cond there (Some kind) others ≡ None → (there ≡ false) × (others ≡ None)
passes_first true kind others h = cc
passes_first false kind others h = (refl, h)

-- No objection is there against it.
pub none_there : (all : List Objection) → first_kind all ≡ None → AllByRecursion (λ objection. objection.there ≡ false) all
none_there [] h = tt
none_there (objection ∷ others) h =
    let parts = passes_first objection.there objection.kind (first_kind others) h in
    (parts.0, none_there others parts.1)

-- The session of the step, where it has one and does not begin it, is present.
abbrev pub NeedsPresent : Past → Step → Type 0
NeedsPresent past (step.Open s t) = is_present s past ≡ true
NeedsPresent past (step.Show t s) = is_present s past ≡ true
NeedsPresent past (step.Steal s t) = is_present s past ≡ true
NeedsPresent past (step.Give s) = is_present s past ≡ true
NeedsPresent past (step.Point s stamp) = is_present s past ≡ true
NeedsPresent past (step.Close s t) = is_present s past ≡ true
NeedsPresent past (step.Finish s stamp) = is_present s past ≡ true
NeedsPresent past _ = Unit {0}

pub needs_present : (events : List EventDef) (past : Past) (made : Step) → objection_to events past made ≡ None → NeedsPresent past made
needs_present events past (step.Open s t) h = not-false _ (none_there (objections events past (step.Open s t)) h).0
needs_present events past (step.Show t s) h = not-false _ (none_there (objections events past (step.Show t s)) h).1.0
needs_present events past (step.Steal s t) h = not-false _ (none_there (objections events past (step.Steal s t)) h).0
needs_present events past (step.Give s) h = not-false _ (none_there (objections events past (step.Give s)) h).0
needs_present events past (step.Point s stamp) h = not-false _ (none_there (objections events past (step.Point s stamp)) h).0
needs_present events past (step.Close s t) h = not-false _ (none_there (objections events past (step.Close s t)) h).0
needs_present events past (step.Finish s stamp) h = not-false _ (none_there (objections events past (step.Finish s stamp)) h).0
needs_present events past (step.Accept s config) h = tt
needs_present events past (step.Enter t) h = tt
needs_present events past (step.Leave t) h = tt
needs_present events past (step.Begin t stamp write) h = tt
needs_present events past (step.End t) h = tt

-- A session is opened on a thread once.
pub open_new : (events : List EventDef) (past : Past) (s t : ℕ) → objection_to events past (step.Open s t) ≡ None → was_opened s t past ≡ false
open_new events past s t h = (none_there (objections events past (step.Open s t)) h).1.1.0

-- What is shown is due.
pub show_due : (events : List EventDef) (past : Past) (t s : ℕ) → objection_to events past (step.Show t s) ≡ None → is_due events s t past ≡ true
show_due events past t s h = not-false (is_due events s t past) (none_there (objections events past (step.Show t s)) h).1.1.1.0

-- A Steal or a Close is of a thread on which the session is open.
pub steal_open : (events : List EventDef) (past : Past) (s t : ℕ) → objection_to events past (step.Steal s t) ≡ None → is_open s t past ≡ true
steal_open events past s t h = not-false (is_open s t past) (none_there (objections events past (step.Steal s t)) h).1.1.0

pub close_open : (events : List EventDef) (past : Past) (s t : ℕ) → objection_to events past (step.Close s t) ≡ None → is_open s t past ≡ true
close_open events past s t h = not-false (is_open s t past) (none_there (objections events past (step.Close s t)) h).1.1.0
