-- The halves of all hands, dealt to the slots in turn.
use Rattle.std.proofs.Common.{◌≡◌, ℕ, ◌+◌, ◌-◌, ◌*◌, ◌/◌, ◌%◌, ◌<◌, List, Some, length, ap, ◌∙◌, arith}
use Rattle.std.specs.Prelude.{slice_get, slice_set}
use Rattle.std.proofs.Math.ListN.{length-set}
use Rattle.std.proofs.lemmas.Option.{slice_get_within}
use Rattle.ep_tie.specs.Tied.{Tied}
use Rattle.ep_guarded.specs.declared.agreed.Agreed.{Agreed}
use Rattle.ep_guarded.specs.Tied.{hand_in, hand_place}
use Rattle.ep_guarded.proofs.Resting.{each-set}
use Rattle.ep_live.specs.Free.{ColumnState, AreColumns}
use Rattle.ep_live.specs.Made.{IsHandTie, IsSlotTie}

-- How many halves a column has, of so many that were dealt.
abbrev pub in_column : ℕ → ℕ → ℕ
in_column dealt k = (dealt + 63 - k) / 64

-- The next half is the column's next one.
pub next-tie : (rows number : ℕ) (half : Tied Agreed) → IsHandTie rows number half → IsSlotTie rows (number % 64) (in_column number (number % 64)) half
next-tie rows number half tie =
    let is : number ≡ in_column number (number % 64) * 64 + number % 64 = omega arith in
    record {
      place = tie.place ∙ ap (hand_place rows) is;
      off = ap hand_in tie.nothing;
    }

-- One half more.
pub columns-more : (dealt : ℕ) (columns : List ColumnState) (column now : ColumnState) → AreColumns dealt columns → slice_get columns (dealt % 64) ≡ Some column → now ≡ record column { count = column.count + 1 } → AreColumns (dealt + 1) (slice_set columns (dealt % 64) now)
columns-more dealt columns column now are at is =
    record {
      count = length-set columns (dealt % 64) now ∙ are.count;
      each = each-set (λ k c. c ≡ record { slot = k; count = in_column (dealt + 1) k }) columns (dealt % 64) now
          (λ k c there other.
          let within = slice_get_within columns k c there in
          let small : k < 64 = omega (arith, within, are.count) in
          are.each k c there ∙ ap (λ (n : ℕ). record { slot = k; count = n }) (others k small other))
          (is ∙ ap (λ (c : ColumnState). record c { count = c.count + 1 }) (are.each (dealt % 64) column at) ∙ ap (λ (n : ℕ). record { slot = dealt % 64; count = n }) one);
    }
  where
    one : in_column dealt (dealt % 64) + 1 ≡ in_column (dealt + 1) (dealt % 64)
    one = omega arith

    others : (k : ℕ) → k < 64 → (k ≡ dealt % 64 → ⊥) → in_column dealt k ≡ in_column (dealt + 1) k
    others k small other = omega (arith, small, other)

-- At first no column has a half.
pub none-dealt : (columns : List ColumnState) → length columns ≡ 64 → ((k : ℕ) (column : ColumnState) → slice_get columns k ≡ Some column → column ≡ record { slot = k; count = 0 }) → AreColumns 0 columns
none-dealt columns count none =
    record {
      count = count;
      each = λ k c there.
          let within = slice_get_within columns k c there in
          let small : k < 64 = omega (arith, within, count) in
          let zero_is : 0 ≡ in_column 0 k = omega (arith, small) in
          none k c there ∙ ap (λ (n : ℕ). record { slot = k; count = n }) zero_is;
    }

-- At last each has one for each row.
pub all-dealt : (rows dealt k : ℕ) (columns : List ColumnState) (column : ColumnState) → dealt ≡ rows * 64 → AreColumns dealt columns → slice_get columns k ≡ Some column → (column.slot ≡ k) × (k < 64) × (column.count ≡ rows)
all-dealt rows dealt k columns column all are there =
    let within = slice_get_within columns k column there in
    let small : k < 64 = omega (arith, within, are.count) in
    let whole : in_column dealt k ≡ rows = omega (arith, all, small) in
    let is = are.each k column there in
    (ap (λ (c : ColumnState). c.slot) is, small, ap (λ (c : ColumnState). c.count) is ∙ whole)
