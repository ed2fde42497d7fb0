-- The seats of the table that a set of ties stands on: what each knows, and the rule over all.
use Rattle.std.specs.Prelude.{◌≡◌, ℕ, ◌+◌, ◌<◌, ◌⊎◌, List, [], Option, Some, None}
use mathlib.Core.Option.{some}
use lib.ListN.{get_elem?}
use Rattle.atomic_table.specs.Table.{Me, Step}
use Rattle.ep_tie.specs.declared.steps.Sight.{Sight}
use Rattle.ep_tie.specs.declared.steps.Sight.TheVariants.{Spent, Maker, Half, Whole}
use Rattle.ep_tie.specs.Tied.{Tied}

-- how many places were made, and for each place the value of its tie and the seats of its two halves
pub record Seating (V : Type 0) : Type 0 where
  pub made : ℕ
  pub value : ℕ → Option V
  pub one : ℕ → ℕ
  pub other : ℕ → ℕ

module _ {V : Type 0} where
  -- what a seat knows is so: the one maker is the first seat, and a seat with both halves is both seats of its place
  abbrev pub Fits : Seating V → ℕ → Sight V → Type 0
  Fits s seat Spent = Unit {0}
  Fits s seat (Maker p) = (seat ≡ 0) × (p ≡ s.made)
  Fits s seat (Half p x) = (p < s.made) × (s.value p ≡ Some x) × ((seat ≡ s.one p) ⊎ (seat ≡ s.other p))
  Fits s seat (Whole p x y) = (p < s.made) × (s.value p ≡ Some x) × (s.value p ≡ Some y) × (seat ≡ s.one p) × (seat ≡ s.other p)

  -- the rule: there is a seating that each seat's knowledge fits
  abbrev pub Agrees : List (Sight V) → Type 0
  Agrees views = (s : Seating V) × ((seat : ℕ) (v : Sight V) → get_elem? views seat ≡ some v → Fits s seat v)

  -- a seat that has one half of a tie
  abbrev pub IsHalf : Sight V → Type 0
  IsHalf (Half p x) = Unit {0}
  IsHalf _ = ⊥

  -- the seat of the maker
  abbrev pub IsMaker : Sight V → Type 0
  IsMaker (Maker p) = Unit {0}
  IsMaker _ = ⊥

  -- a seat that has both halves of a tie
  abbrev pub IsWhole : Sight V → Type 0
  IsWhole (Whole p x y) = Unit {0}
  IsWhole _ = ⊥

  -- two seats that have one half each, of one place
  abbrev pub AreHalves : Sight V → Sight V → Type 0
  AreHalves (Half p x) (Half q y) = p ≡ q
  AreHalves _ _ = ⊥

  -- the half that a seat has
  abbrev pub half_of : Sight V → Tied V
  half_of (Half p x) = record { place = p; value = Some x }
  half_of _ = record { place = 0; value = None }

  -- what is known once two halves have met
  abbrev pub met : Sight V → Sight V → Sight V
  met (Half p x) (Half q y) = Whole p x y
  met v w = v

  -- one half of a tie whose halves part with the value that they have
  abbrev pub parted : Sight V → Sight V
  parted (Whole p x y) = Half p x
  parted v = Spent

  -- one half of a tie whose halves part with another value
  abbrev pub parted_with : Option V → Sight V → Sight V
  parted_with (Some z) (Whole p x y) = Half p z
  parted_with z v = Spent

  -- the maker, once it has made a place
  abbrev pub after_making : Sight V → Sight V
  after_making (Maker p) = Maker (p + 1)
  after_making v = v

  -- the tie that the maker makes
  abbrev pub made : Option V → Sight V → Sight V
  made (Some z) (Maker p) = Whole p z z
  made z v = Spent

  -- two halves that have met have one value
  abbrev pub AreAlike : Sight V → Type 0
  AreAlike (Whole p x y) = x ≡ y
  AreAlike v = Unit {0}

  -- a new seat knows nothing
  abbrev pub sat : Step (Unit {0}) → Me (Unit {0}) (Sight V) → ℕ → Me (Unit {0}) (Sight V) → Type 0
  sat st m n w = w ≡ (Spent, [])

  -- a look changes nothing, and shows that the halves that met are alike
  abbrev pub looked : Step (Unit {0}) → Me (Unit {0}) (Sight V) → ℕ → Me (Unit {0}) (Sight V) → Type 0
  looked st m n w = (w ≡ m) × AreAlike m.0
