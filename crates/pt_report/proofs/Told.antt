-- The items of events, one after another.
use Rattle.std.proofs.Common.{◌≡◌, ℕ, zero, suc, ◌<◌, List, [], ◌∷◌, ◌++◌, length, get_or, take, refl, ap, arith}
use Rattle.ep_defs.specs.declared.item.Item.{Item}
use Rattle.nt_check.specs.Events.{EventRest}
use Rattle.nt_names.specs.declared.take.EventAt.{EventAt}
use Rattle.nt_names.specs.Told.{AreEvents, item_of}

-- The item after some is the event after as many.
pub events-next : (events : List EventAt) (items : List Item) (count : ℕ) (other : EventAt) → AreEvents events items → count < length events → (rest : EventRest) × (take (suc count) items ≡ take count items ++ item_of (get_or events count other) rest ∷ [])
events-next [] items count other are there = absurd (omega arith)
events-next (event ∷ events) [] count other are there = absurd are
events-next (event ∷ events) (item ∷ items) zero other are there = (are.0.rest, ap (λ (i : Item). i ∷ []) are.0.is)
events-next (event ∷ events) (item ∷ items) (suc count) other are there =
    let next = events-next events items count other are.1 (omega arith) in
    (next.0, ap (λ (l : List Item). item ∷ l) next.1)

pub events-many : (events : List EventAt) (items : List Item) → AreEvents events items → length items ≡ length events
events-many [] [] are = refl
events-many [] (item ∷ items) are = absurd are
events-many (event ∷ events) [] are = absurd are
events-many (event ∷ events) (item ∷ items) are = ap suc (events-many events items are.1)
