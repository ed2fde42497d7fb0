-- The table that a row of locks stands on: which slots are at home, and what each step tells.
use Rattle.std.specs.Prelude.{◌≡◌, ◌≢◌, ℕ, ◌-◌, ◌*◌, ◌^◌, ◌<◌, List, [], ◌∷◌, ◌++◌, length, slice_index, replicate, Option, Some, None}
use mathlib.Core.Option.{some, none}
use lib.ListN.{get_elem?}
use Rattle.atomic_table.specs.Table.{State, Me, Step, rest}
use Rattle.atomic_table.specs.Seated.{TableId}
use Rattle.ep_locks.specs.declared.limits.TheConstants.{STRIDE, FREE}

-- where the word and the slot of a lock stand in the table
abbrev pub place_of : ℕ → ℕ
place_of k = k * STRIDE

-- the lock of this number has a word and a slot in the table
abbrev pub IsWithin : TableId → ℕ → Type 0
IsWithin t k = (place_of k < t.words) × (place_of k < t.slots) × (place_of k < 2 ^ 64)

module _ {T : Type 0} where
  -- the slots of one lock: its value, and the rest of its cache line
  abbrev pub in_its_line : T → List (Option T)
  in_its_line x = Some x ∷ replicate (STRIDE - 1) None

  -- the slots of the locks over these values
  abbrev pub spread : List T → List (Option T)
  spread [] = []
  spread (x ∷ xs) = in_its_line x ++ spread xs

module _ {T : Type 0} (holds : ℕ → T → Type 0) where
  -- a lock that is free has a value that meets what holds under its number; the value of a lock that is taken is out
  pub record IsLock (s : State (Option T) (Unit {0})) (k : ℕ) : Type 0 where
    pub free : slice_index s.words (place_of k) ≡ FREE → (x : T) × (get_elem? s.homes (place_of k) ≡ some (some (Some x))) × holds k x
    pub taken : slice_index s.words (place_of k) ≢ FREE → get_elem? s.homes (place_of k) ≡ some none

  -- the rule: each lock is free or taken
  pub record AreLocks (s : State (Option T) (Unit {0})) : Type 0 where
    pub side_by_side : length s.words ≡ length s.homes
    pub each : (k : ℕ) → place_of k < length s.words → IsLock s k

  -- the seat has the value of this lock, which meets what holds under its number
  abbrev pub HasTaken : ℕ → Me (Option T) (Unit {0}) → Type 0
  HasTaken k m = (x : T) × (m.1 ≡ (place_of k, Some x) ∷ []) × holds k x

  -- a try to take a lock: who finds it free has its value, and else nothing changes for the seat
  abbrev pub tried : Step (Option T) → Me (Option T) (Unit {0}) → ℕ → Me (Option T) (Unit {0}) → Type 0
  tried st m n w =
      (n ≡ FREE → (x : T) × (w.1 ≡ (st.word, Some x) ∷ m.1) × ((k : ℕ) → st.word ≡ place_of k → holds k x))
      × (n ≢ FREE → w.1 ≡ m.1)

module _ {T : Type 0} where
  -- the value that was taken last goes home
  abbrev pub gave : Step (Option T) → Me (Option T) (Unit {0}) → ℕ → Me (Option T) (Unit {0}) → Type 0
  gave st m n w = w.1 ≡ rest m.1
