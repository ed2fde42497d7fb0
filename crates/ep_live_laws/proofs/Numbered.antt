-- The contents of admitted writes, by their numbers.
use Rattle.std.proofs.Common.{◌≡◌, ℕ, zero, suc, ◌+◌, ◌-◌, ◌<◌, Bool, inl, inr, List, [], ◌∷◌, length, filter, drop, Option, Some, refl, ap, ◌∙◌, arith}
use Rattle.std.specs.Prelude.{slice_get}
use Rattle.std.specs.List.{AllByRecursion}
use Rattle.std.proofs.lemmas.Bool.{cases_Bool}
use Rattle.ep_defs.specs.declared.event.EventDef.{EventDef}
use Rattle.ep_defs.specs.declared.session.Config.{Config}
use Rattle.ep_defs.specs.declared.session.Write.{Write}
use Rattle.ep_defs.specs.Definitions.{definition_at}
use Rattle.ep_model.specs.Faithful.{numbered, write_contents}
use Rattle.ep_model.specs.History.{admits_write, admitted_from}
use Rattle.ep_model.proofs.Admitted.{admits-defined}
use Rattle.ep_live_laws.specs.Traced.{contents_from}
use Rattle.ep_live_laws.proofs.Shares.{AreFrom}

-- The event of each write is defined.
abbrev AreDefined : List EventDef → List Write → Type 0
AreDefined events writes = AllByRecursion (λ write. (def : EventDef) × (definition_at events write.event ≡ Some def)) writes

-- So it is where the writes are admitted.
admitted-defined : (events : List EventDef) (config : Option Config) (writes : List Write) → AreDefined events (filter (λ write. admits_write events config write) writes)
admitted-defined events config [] = tt
admitted-defined events config (write ∷ writes) =
    let later = admitted-defined events config writes in
    elim (cases_Bool (admits_write events config write)) [
      | inl admits ↦ rw admits (admits-defined config (definition_at events write.event) admits, later)
      | inr out ↦ rw out later
    ]

defined-from : (events : List EventDef) (stacks : Bool) (number : ℕ) (writes : List Write) → AreDefined events writes → AreFrom number (numbered events stacks number writes)
defined-from events stacks number [] defined = tt
defined-from events stacks number (write ∷ writes) defined = rw defined.0.1 (refl, defined-from events stacks (number + 1) writes defined.1)

defined-long : (events : List EventDef) (stacks : Bool) (number : ℕ) (writes : List Write) → AreDefined events writes → length (numbered events stacks number writes) ≡ length writes
defined-long events stacks number [] defined = refl
defined-long events stacks number (write ∷ writes) defined = rw defined.0.1 (ap suc (defined-long events stacks (number + 1) writes defined.1))

defined-at : (events : List EventDef) (stacks : Bool) (number place : ℕ) (writes : List Write) (write : Write) (def : EventDef) → AreDefined events writes → slice_get writes place ≡ Some write → definition_at events write.event ≡ Some def
    → slice_get (numbered events stacks number writes) place ≡ Some (write_contents stacks (number + place) write def)
defined-at events stacks number place [] write def defined at is = cc
defined-at events stacks number zero (first ∷ writes) write def defined at is =
    let same : first ≡ write = cc in
    let here : definition_at events first.event ≡ Some def = rw same is in
    rw (here, same) (ap (λ n. Some (write_contents stacks n write def)) (omega arith))
defined-at events stacks number (suc place) (first ∷ writes) write def defined at is =
    let later = defined-at events stacks (number + 1) place writes write def defined.1 at is in
    rw defined.0.1 (later ∙ ap (λ n. Some (write_contents stacks n write def)) (omega arith))

-- ---- what a session has to tell

-- It has the numbers from 1 on.
pub contents-from : (events : List EventDef) (config : Config) (from : ℕ) (writes : List Write) → AreFrom 1 (contents_from events config from writes)
contents-from events config from writes = defined-from events config.stackwalk 1 _ (admitted-defined events (Some config) (drop from writes))

-- It has each admitted write.
pub contents-length : (events : List EventDef) (config : Config) (from : ℕ) (writes : List Write) → length (contents_from events config from writes) ≡ length (admitted_from events (Some config) from writes)
contents-length events config from writes = defined-long events config.stackwalk 1 _ (admitted-defined events (Some config) (drop from writes))

-- A write that the session gets stands among them at the place that its number says.
pub contents-at : (events : List EventDef) (config : Config) (from number : ℕ) (writes : List Write) (write : Write) (def : EventDef) → 0 < number → slice_get (admitted_from events (Some config) from writes) (number - 1) ≡ Some write → definition_at events write.event ≡ Some def
    → slice_get (contents_from events config from writes) (number - 1) ≡ Some (write_contents config.stackwalk number write def)
contents-at events config from number writes write def some at is =
    defined-at events config.stackwalk 1 (number - 1) _ write def (admitted-defined events (Some config) (drop from writes)) at is
    ∙ ap (λ n. Some (write_contents config.stackwalk n write def)) (omega arith)
