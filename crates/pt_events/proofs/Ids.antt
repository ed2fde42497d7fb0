-- The names after one more, and why an item can't stand after them.
use Rattle.std.proofs.Common.{◌≡◌, ℕ, true, false, cond, eqb, zero, suc, List, [], ◌∷◌, Option, Some, None, Ok, Err, refl, ap, ◌∙◌}
use Rattle.std.specs.Prelude.{is_some}
use Rattle.ep_defs.specs.declared.event.EventDef.{EventDef}
use Rattle.nt_blocks.specs.Ordered.{Disorder, Names, lookup, stack_of, unless_there}
use Rattle.nt_check.specs.state.Ids.{value_at}
use Rattle.pt_events.specs.declared.names.KnownNames.{KnownNames}
use Rattle.pt_events.specs.state.Known.{Knows}

-- What the ids stand for after one more.
pub known-more : {A : Type 0} (id q : ℕ) (thing : A) (named : List (ℕ × A)) (before : Option A) → before ≡ lookup q named → cond (eqb id q) (Some thing) before ≡ lookup q ((id, thing) ∷ named)
known-more {A} id q thing named before is = ap (λ (o : Option A). cond (eqb id q) (Some thing) o) is

-- A name that is there already, or is not.
pub name-there : {A : Type 0} (found : Option A) (fault : Disorder) → is_some found ≡ true → unless_there found fault ≡ Err fault
name-there (Some thing) fault there = refl
name-there None fault there = absurd (cc)

pub name-new : {A : Type 0} (found : Option A) (fault : Disorder) → is_some found ≡ false → unless_there found fault ≡ Ok []
name-new (Some thing) fault there = absurd (cc)
name-new None fault there = refl

-- An id other than 0 stands for what was defined under it.
pub stack-defined : (names : Names) (id : ℕ) → eqb id 0 ≡ false → stack_of names id ≡ lookup id names.stacks
stack-defined names zero e = absurd (cc)
stack-defined names (suc id) e = refl

-- The names after one definition more, and after one stack more.
pub defined-more : (names : Names) (id : ℕ) (def : EventDef) (old new : KnownNames) → Knows names old → ((q : ℕ) → value_at new.definitions q ≡ cond (eqb id q) (Some def) (value_at old.definitions q)) → new.stacks ≡ old.stacks → new.none ≡ old.none → Knows (record names { definitions = (id, def) ∷ names.definitions }) new
defined-more names id def old new known put same empty =
    record {
      definitions = λ q. put q ∙ known-more id q def names.definitions (value_at old.definitions q) (known.definitions q);
      stacks = λ q. rw same (known.stacks q);
      none = empty ∙ known.none;
    }

pub stacked-more : (names : Names) (id : ℕ) (bytes : List ℕ) (old new : KnownNames) → Knows names old → ((q : ℕ) → value_at new.stacks q ≡ cond (eqb id q) (Some bytes) (value_at old.stacks q)) → new.definitions ≡ old.definitions → new.none ≡ old.none → Knows (record names { stacks = (id, bytes) ∷ names.stacks }) new
stacked-more names id bytes old new known put same empty =
    record {
      definitions = λ q. rw same (known.definitions q);
      stacks = λ q. put q ∙ known-more id q bytes names.stacks (value_at old.stacks q) (known.stacks q);
      none = empty ∙ known.none;
    }
