-- One name more and one use more of a tally.
use Rattle.std.proofs.Common.{◌≡◌, ℕ, ◌+◌, ◌-◌, ◌^◌, ◌<◌, zero, suc, Bool, true, false, cond, List, [], ◌∷◌, ◌++◌, length, get_or, min, Option, Some, None, is_some, refl, sym, ap, ◌∙◌, arith}
use Rattle.std.proofs.Math.ListN.{set}
use Rattle.std.proofs.lemmas.Option.{slice_get_within, get_or_from_slice_get}
use Rattle.std.proofs.lemmas.List.Sums.{sum_by-append, fold-append}
use Rattle.std.proofs.lemmas.Map.Made.{is_some-lookup}
use Rattle.std.specs.declared.cmp.Ordering.{Ordering}
use Rattle.std.specs.declared.cmp.Ordering.TheVariants.{Less, Equal, Greater}
use Rattle.std.specs.Ordering.{eq_by_cmp, match_ordering}
use Rattle.std.specs.Cmp.{IsTotalOrder, IsEquivalence, eq_by_cmp_equiv}
use Rattle.std.specs.List.{count_by, list_any, slice_get}
use Rattle.std.specs.Map.{keys_of, lookup}
use Rattle.std.specs.BTreeMap.{BTreeMap, get, keys, insert_entry, is_at}
use Rattle.std.specs.BTreeSet.{insert_key}
use Rattle.nt_check.specs.Numbers.{held}
use Rattle.nt_check.proofs.Under.{get-set_other, put-there}
use Rattle.pt_report.specs.declared.tally.Tally.{Tally}
use Rattle.pt_report.specs.Order.{with_key, in_order, uses_of}
use Rattle.pt_report.specs.state.Counts.{Counts}

-- ---- keys

keys-ordering : {K : Type 0} (o : Ordering) (a b c : List (K × ℕ)) → keys_of (match_ordering o a b c) ≡ match_ordering o (keys_of a) (keys_of b) (keys_of c)
keys-ordering Less a b c = refl
keys-ordering Equal a b c = refl
keys-ordering Greater a b c = refl

-- An entry more is a key more, at the same place.
keys-insert_entry : {K : Type 0} (cmp : K → K → Ordering) (entries : List (K × ℕ)) (key : K) (count : ℕ) → keys_of (insert_entry cmp entries key count) ≡ insert_key cmp (keys_of entries) key
keys-insert_entry cmp [] key count = refl
keys-insert_entry cmp (entry ∷ entries) key count =
    keys-ordering (cmp key entry.0) ((key, count) ∷ entry ∷ entries) ((entry.0, count) ∷ entries) (entry ∷ insert_entry cmp entries key count)
    ∙ ap (match_ordering (cmp key entry.0) (key ∷ entry.0 ∷ keys_of entries) (entry.0 ∷ keys_of entries)) (ap (λ ks. entry.0 ∷ ks) (keys-insert_entry cmp entries key count))

in_order-more : {K : Type 0} (cmp : K → K → Ordering) (names : List K) (key : K) → in_order cmp (names ++ key ∷ []) ≡ with_key cmp (in_order cmp names) key
in_order-more cmp names key = fold-append (with_key cmp) [] names (key ∷ [])

-- ---- uses

-- A key that counts is one use more.
pub one-use : {K : Type 0} (p : K → Bool) (uses : List K) (key : K) → p key ≡ true → count_by p (uses ++ key ∷ []) ≡ count_by p uses + 1
one-use p uses key is = sum_by-append (λ x. cond (p x) 1 0) uses (key ∷ []) ∙ ap (λ b. count_by p uses + (0 + cond b 1 0)) is

-- Any other is none.
pub no-use : {K : Type 0} (p : K → Bool) (uses : List K) (key : K) → p key ≡ false → count_by p (uses ++ key ∷ []) ≡ count_by p uses
no-use p uses key is = sum_by-append (λ x. cond (p x) 1 0) uses (key ∷ []) ∙ ap (λ b. count_by p uses + (0 + cond b 1 0)) is ∙ none (count_by p uses)
  where
    none : (m : ℕ) → m + 0 ≡ m
    none m = omega arith

-- Tied keys have the same uses.
same-uses : {K : Type 0} (eq : K → K → Bool) → IsEquivalence eq → (a b : K) → eq a b ≡ true → (uses : List K) → count_by (eq a) uses ≡ count_by (eq b) uses
same-uses eq laws a b tied [] = refl
same-uses eq laws a b tied (one ∷ uses) =
    sum_by-append (λ x. cond (eq a x) 1 0) (one ∷ []) uses
    ∙ ap (λ n. n + count_by (eq a) uses) (ap (λ t. 0 + cond t 1 0) (laws.congr a b one tied))
    ∙ ap (λ n. 0 + cond (eq b one) 1 0 + n) (same-uses eq laws a b tied uses)
    ∙ sym (sum_by-append (λ x. cond (eq b x) 1 0) (one ∷ []) uses)

pub held-more : (count : ℕ) → min (held count + 1) (2 ^ 64 - 1) ≡ held (count + 1)
held-more count = omega arith

-- ---- places

-- What stood in a list stands there with one more behind it.
get-front : (counts : List ℕ) (last place count : ℕ) → slice_get counts place ≡ Some count → slice_get (counts ++ last ∷ []) place ≡ Some count
get-front [] last place count e = absurd (cc)
get-front (first ∷ counts) last zero count e = e
get-front (first ∷ counts) last (suc place) count e = get-front counts last place count e

get-last : (counts : List ℕ) (last : ℕ) → slice_get (counts ++ last ∷ []) (length counts) ≡ Some last
get-last [] last = refl
get-last (first ∷ counts) last = get-last counts last

-- Tests that answer the same find the same.
lookup-same : {K : Type 0} (p q : K → Bool) → ((key : K) → p key ≡ q key) → (entries : List (K × ℕ)) → lookup p entries ≡ lookup q entries
lookup-same p q same [] = refl
lookup-same p q same (entry ∷ entries) =
    ap (λ b. cond b (Some entry.1) (lookup p entries)) (same entry.0) ∙ ap (λ rest. cond (q entry.0) (Some entry.1) rest) (lookup-same p q same entries)

-- The count at this place after one use more.
abbrev pub one_more : List ℕ → ℕ → ℕ
one_more counts place = min (get_or counts place 0 + 1) (2 ^ 64 - 1)

module _ {K : Type 0} (cmp : K → K → Ordering) (total : IsTotalOrder cmp) where
  laws : IsEquivalence (eq_by_cmp cmp)
  laws = eq_by_cmp_equiv total

  -- Tied keys have the same place.
  get-tied : (places : BTreeMap K ℕ) (a b : K) → eq_by_cmp cmp a b ≡ true → get cmp places a ≡ get cmp places b
  get-tied places a b tied = lookup-same (eq_by_cmp cmp a) (eq_by_cmp cmp b) (λ key. laws.congr a b key tied) places.entries

  -- The uses of a key after one use more of a key that it is tied with, or not.
  uses-tied : (uses : List K) (key q : K) → eq_by_cmp cmp key q ≡ true → min (uses_of cmp uses key + 1) (2 ^ 64 - 1) ≡ uses_of cmp (uses ++ key ∷ []) q
  uses-tied uses key q e =
      let tied : eq_by_cmp cmp q key ≡ true = laws.symm q key ∙ e in
      held-more (count_by (eq_by_cmp cmp key) uses)
      ∙ ap held
      (ap (λ m. m + 1) (same-uses (eq_by_cmp cmp) laws key q e uses) ∙ sym (one-use (eq_by_cmp cmp q) uses key tied))

  uses-apart : (uses : List K) (key q : K) → eq_by_cmp cmp key q ≡ false → count_by (eq_by_cmp cmp q) (uses ++ key ∷ []) ≡ count_by (eq_by_cmp cmp q) uses
  uses-apart uses key q e =
      no-use (eq_by_cmp cmp q) uses key (laws.symm q key ∙ e)

  pub count-step : (names uses : List K) (old new : Tally K) (key : K) (place : ℕ) → Counts cmp names uses old → new.places ≡ old.places → get cmp old.places key ≡ Some place → new.counts.items ≡ set old.counts.items place (min (get_or old.counts.items place 0 + 1) (2 ^ 64 - 1)) → Counts cmp names (uses ++ key ∷ []) new
  count-step names uses old new key place h same is now =
      record {
        ordered = ap keys same ∙ h.ordered;
        counted = λ q p found. counted q p (before q found) (eq_by_cmp cmp key q) refl;
        apart = λ one other p a b. h.apart one other p (before one a) (before other b);
        unused = λ q none. unused q (sym (ap (λ (m : BTreeMap K ℕ). get cmp m q) same) ∙ none) (eq_by_cmp cmp key q) refl;
      }
    where
      before : (q : K) {p : ℕ} → get cmp new.places q ≡ Some p → get cmp old.places q ≡ Some p
      before q found = sym (ap (λ (m : BTreeMap K ℕ). get cmp m q) same) ∙ found

      counted : (q : K) (p : ℕ) → get cmp old.places q ≡ Some p → (b : Bool) → eq_by_cmp cmp key q ≡ b → slice_get new.counts.items p ≡ Some (uses_of cmp (uses ++ key ∷ []) q)
      counted q p found true e =
          let there : Some place ≡ Some p = sym is ∙ get-tied old.places key q e ∙ found in
          let p-is : place ≡ p = cc in
          let was = h.counted key place is in
          ap (λ l. slice_get l p) now
          ∙ ap (λ i. slice_get (set old.counts.items place (one_more old.counts.items place)) i) (sym p-is)
          ∙ put-there old.counts.items place (uses_of cmp uses key) (one_more old.counts.items place) was
          ∙ ap (λ n. Some (min (n + 1) (2 ^ 64 - 1))) (get_or_from_slice_get old.counts.items place (uses_of cmp uses key) 0 was)
          ∙ ap Some (uses-tied uses key q e)
      counted q p found false e =
          ap (λ l. slice_get l p) now
          ∙ get-set_other old.counts.items place p (one_more old.counts.items place) (differ e)
          ∙ h.counted q p found
          ∙ ap (λ n. Some (held n)) (sym (uses-apart uses key q e))
        where
          differ : eq_by_cmp cmp key q ≡ false → place ≡ p → ⊥
          differ e p-is =
              let tied : eq_by_cmp cmp key q ≡ true = h.apart key q p (is ∙ ap Some p-is) found in cc

      unused : (q : K) → get cmp old.places q ≡ None → (b : Bool) → eq_by_cmp cmp key q ≡ b → count_by (eq_by_cmp cmp q) (uses ++ key ∷ []) ≡ 0
      unused q none true e =
          let there : Some place ≡ None = sym is ∙ get-tied old.places key q e ∙ none in
          absurd (cc)
      unused q none false e = uses-apart uses key q e ∙ h.unused q none

  pub name-new : (names uses : List K) (old new : Tally K) (key : K) (place : ℕ) → Counts cmp names uses old → get cmp old.places key ≡ None → place ≡ length old.counts.items → new.counts.items ≡ old.counts.items ++ 0 ∷ [] → new.places.entries ≡ insert_entry cmp old.places.entries key place → ((q : K) → get cmp new.places q ≡ cond (eq_by_cmp cmp key q) (Some place) (get cmp old.places q)) → Counts cmp (names ++ key ∷ []) uses new
  name-new names uses old new key place h absent last counts entries now =
      record {
        ordered =
            ap keys_of entries
            ∙ keys-insert_entry cmp old.places.entries key place
            ∙ ap (λ ks. insert_key cmp ks key) h.ordered
            ∙ ap (λ b. cond b (in_order cmp names) (insert_key cmp (in_order cmp names) key)) (sym unknown)
            ∙ sym (in_order-more cmp names key);
        counted = λ q p found. counted q p found (eq_by_cmp cmp key q) refl;
        apart = λ one other p a b. apart one other p a b (eq_by_cmp cmp key one) refl (eq_by_cmp cmp key other) refl;
        unused = λ q none. unused q none (eq_by_cmp cmp key q) refl;
      }
    where
      unknown : list_any (eq_by_cmp cmp key) (in_order cmp names) ≡ false
      unknown = ap (list_any (eq_by_cmp cmp key)) (sym h.ordered) ∙ sym (is_some-lookup (is_at (cmp key)) old.places.entries) ∙ ap is_some absent

      at-key : (q : K) (p : ℕ) → eq_by_cmp cmp key q ≡ true → get cmp new.places q ≡ Some p → p ≡ place
      at-key q p e found =
          let there : get cmp new.places q ≡ Some place = now q ∙ ap (λ b. cond b (Some place) (get cmp old.places q)) e in cc

      before : (q : K) {o : Option ℕ} → eq_by_cmp cmp key q ≡ false → get cmp new.places q ≡ o → get cmp old.places q ≡ o
      before q e found = sym (now q ∙ ap (λ b. cond b (Some place) (get cmp old.places q)) e) ∙ found

      counted : (q : K) (p : ℕ) → get cmp new.places q ≡ Some p → (b : Bool) → eq_by_cmp cmp key q ≡ b → slice_get new.counts.items p ≡ Some (uses_of cmp uses q)
      counted q p found true e =
          ap (λ l. slice_get l p) counts
          ∙ ap (λ i. slice_get (old.counts.items ++ 0 ∷ []) i) (at-key q p e found ∙ last)
          ∙ get-last old.counts.items 0
          ∙ ap (λ n. Some (held n)) (sym (h.unused key absent) ∙ same-uses (eq_by_cmp cmp) laws key q e uses)
      counted q p found false e =
          ap (λ l. slice_get l p) counts
          ∙ get-front old.counts.items 0 p (uses_of cmp uses q) (h.counted q p (before q e found))

      -- A key that stood there has not the last place.
      not-last : (q : K) (p : ℕ) → get cmp old.places q ≡ Some p → p ≡ place → ⊥
      not-last q p found same =
          let within : p < length old.counts.items = slice_get_within old.counts.items p (uses_of cmp uses q) (h.counted q p found) in
          omega (arith, within, same, last)

      apart : (one other : K) (p : ℕ) → get cmp new.places one ≡ Some p → get cmp new.places other ≡ Some p → (a : Bool) → eq_by_cmp cmp key one ≡ a → (b : Bool) → eq_by_cmp cmp key other ≡ b → eq_by_cmp cmp one other ≡ true
      apart one other p x y true e true f = sym (laws.congr key one other e) ∙ f
      apart one other p x y true e false f = absurd (not-last other p (before other f y) (at-key one p e x))
      apart one other p x y false e true f = absurd (not-last one p (before one e x) (at-key other p f y))
      apart one other p x y false e false f = h.apart one other p (before one e x) (before other f y)

      unused : (q : K) → get cmp new.places q ≡ None → (b : Bool) → eq_by_cmp cmp key q ≡ b → count_by (eq_by_cmp cmp q) uses ≡ 0
      unused q none true e =
          let there : get cmp new.places q ≡ Some place = now q ∙ ap (λ b. cond b (Some place) (get cmp old.places q)) e in
          absurd (cc)
      unused q none false e = h.unused q (before q e none)

  pub name-known : (names uses : List K) (old : Tally K) (key : K) → Counts cmp names uses old → list_any (eq_by_cmp cmp key) (in_order cmp names) ≡ true → Counts cmp (names ++ key ∷ []) uses old
  name-known names uses old key h known =
      record {
        ordered =
            h.ordered
            ∙ ap (λ b. cond b (in_order cmp names) (insert_key cmp (in_order cmp names) key)) (sym known)
            ∙ sym (in_order-more cmp names key);
        counted = h.counted;
        apart = h.apart;
        unused = h.unused;
      }

  pub name-old : (names uses : List K) (old : Tally K) (key : K) → Counts cmp names uses old → is_some (get cmp old.places key) ≡ true → Counts cmp (names ++ key ∷ []) uses old
  name-old names uses old key h there =
      name-known names uses old key h (ap (list_any (eq_by_cmp cmp key)) (sym h.ordered) ∙ sym (is_some-lookup (is_at (cmp key)) old.places.entries) ∙ there)

  -- How often a key was counted stands at its place, and is 0 where it has none.
  pub uses-at : (names uses : List K) (tally : Tally K) (key : K) (place : ℕ) → Counts cmp names uses tally → get cmp tally.places key ≡ Some place → get_or tally.counts.items place 0 ≡ uses_of cmp uses key
  uses-at names uses tally key place h is = get_or_from_slice_get tally.counts.items place (uses_of cmp uses key) 0 (h.counted key place is)

  pub uses-none : (names uses : List K) (tally : Tally K) (key : K) → Counts cmp names uses tally → get cmp tally.places key ≡ None → 0 ≡ uses_of cmp uses key
  uses-none names uses tally key h is = ap held (sym (h.unused key is))
