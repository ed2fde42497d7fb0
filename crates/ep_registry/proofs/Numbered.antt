-- Halves by their places.
use Rattle.std.proofs.Common.{◌≡◌, ◌≢◌, ℕ, zero, suc, ◌+◌, ◌<◌, true, false, Option, Some, None, IfSome, List, [], ◌∷◌, ◌++◌, length, length-append, replicate, set, slice_get, get_or, eqb, refl, ap, sym, ◌∙◌, arith, ◌⊎◌, inl, inr}
use Rattle.std.proofs.lemmas.Bool.Decides.{eqb_tells}
use Rattle.std.proofs.lemmas.List.{same_from_push, length-map, length-set, map-append, replicate-append-replicate}
use Rattle.std.proofs.lemmas.Option.{same_Some, slice_get_within, slice_get-map, slice_get-get_or}
use Rattle.std.proofs.Math.Seq.{map-set_same}
use Rattle.std.specs.Prelude.{option_map}
use Rattle.ep_table.proofs.Places.{get-set, get-set_other}
use Rattle.ep_tie.specs.Tied.{Tied}
use Rattle.ep_registry.specs.declared.hold.Hold.{Hold}
use Rattle.ep_registry.specs.Held.{AreInSlots}
use Rattle.ep_registry.specs.Places.{AreInPlace, value_of, values_of, numbered}
use Rattle.ep_journal.proofs.Items.{get-snoc-is}

pub in-place-snoc : {V : Type 0} (halves : List (Tied V)) (half : Tied V) → AreInPlace halves → half.place ≡ length halves → AreInPlace (halves ++ half ∷ [])
in-place-snoc halves half h p place x at = elim (get-snoc-is halves place x half at) [ inl t ↦ rw (t.0, t.1) p | inr t ↦ h place x t ]

-- A half of the same place in the place of another.
pub in-place-set : {V : Type 0} (halves : List (Tied V)) (k : ℕ) (half : Tied V) → AreInPlace halves → half.place ≡ k → AreInPlace (set halves k half)
in-place-set {V} halves k half h own place x at = by_test (eqb_tells place k)
  where
    by_test : ((eqb place k ≡ true) × (place ≡ k)) ⊎ ((eqb place k ≡ false) × (place ≢ k)) → x.place ≡ place
    by_test (inl t) =
        let n = length-set halves k half in
        let l : place < length (set halves k half) = slice_get_within (set halves k half) place x at in
        let put : slice_get (set halves k half) k ≡ Some half = get-set halves k half (omega (arith, n, l, t.1)) in
        let is : half ≡ x = same_Some half x (sym put ∙ ap (slice_get (set halves k half)) (sym t.1) ∙ at) in
        ap (λ (y : Tied V). y.place) (sym is) ∙ own ∙ sym t.1
    by_test (inr t) = h place x (sym (get-set_other halves k place half t.1) ∙ at)

-- The half of a place, and what is shown there.
pub half-at : {V : Type 0} (halves : List (Tied V)) (view : List (Option V)) (k : ℕ) (half : Tied V) → values_of halves ≡ view → k < length view → half ≡ get_or halves k half →
    slice_get halves k ≡ Some half
half-at {V} halves view k half shown l is =
    let n : length (values_of halves) ≡ length halves = length-map halves value_of in
    let m : length (values_of halves) ≡ length view = ap (λ (vs : List (Option V)). length vs) shown in
    slice_get-get_or halves k half (omega (arith, l, n, m)) ∙ ap (λ (x : Tied V). let q : Option (Tied V) = Some x in q) (sym is)

pub value-at : {V : Type 0} (halves : List (Tied V)) (view : List (Option V)) (k : ℕ) (half : Tied V) → values_of halves ≡ view → slice_get halves k ≡ Some half →
    slice_get view k ≡ Some half.value
value-at {V} halves view k half shown at = rw (← shown) (slice_get-map value_of halves k ∙ ap (option_map value_of) at)

pub values-same : {V : Type 0} (halves : List (Tied V)) (view : List (Option V)) (k : ℕ) (half new : Tied V) → values_of halves ≡ view → half ≡ get_or halves k half → new ≡ half →
    values_of (set halves k new) ≡ view
values-same {V} halves view k half new shown is same = map-set_same value_of halves k new half (ap (λ (x : Tied V). x.value) (same ∙ is)) ∙ shown

pub values-snoc : {V : Type 0} (halves : List (Tied V)) (half : Tied V) (n : ℕ) (v : Option V) → values_of halves ≡ replicate n v → half.value ≡ v →
    values_of (halves ++ half ∷ []) ≡ replicate (n + 1) v
values-snoc {V} halves half n v h e =
    map-append value_of halves (half ∷ []) ∙ ap2 (values_of halves) (replicate n v) half.value v h e ∙ replicate-append-replicate n 1 v
  where
    ap2 : (xs ys : List (Option V)) (x y : Option V) → xs ≡ ys → x ≡ y → xs ++ x ∷ [] ≡ ys ++ y ∷ []
    ap2 xs ys x y a b = rw (a, b) refl

pub numbered-snoc : {V : Type 0} (n : ℕ) (v : V) → numbered n v ++ record { place = n; value = Some v } ∷ [] ≡ numbered (n + 1) v
numbered-snoc n v = let e : n + 1 ≡ suc n = omega arith in rw e refl

pub numbered-more : {V : Type 0} (halves : List (Tied V)) (half : Tied V) (n : ℕ) (v : V) → halves ≡ numbered n v → half.place ≡ n → half.value ≡ Some v →
    halves ++ half ∷ [] ≡ numbered (n + 1) v
numbered-more {V} halves half n v h p e = ap2 halves (numbered n v) half.place n half.value (Some v) h p e ∙ numbered-snoc n v
  where
    ap2 : (xs ys : List (Tied V)) (a b : ℕ) (x y : Option V) → xs ≡ ys → a ≡ b → x ≡ y → xs ++ record { place = a; value = x } ∷ [] ≡ ys ++ record { place = b; value = y } ∷ []
    ap2 xs ys a b x y q r s = rw (q, r, s) refl

pub numbered-length : {V : Type 0} (n : ℕ) (v : V) → length (numbered n v) ≡ n
numbered-length zero v = refl
numbered-length (suc n) v = let more = length-append (numbered n v) (record { place = n; value = Some v } ∷ []) in let rest = numbered-length n v in omega (arith, more, rest)

-- The last half apart.
pub last-numbered : {V : Type 0} (n : ℕ) (v : V) (rest : List (Tied V)) (last : Tied V) → numbered (n + 1) v ≡ rest ++ last ∷ [] →
    (rest ≡ numbered n v) × (last ≡ record { place = n; value = Some v })
last-numbered n v rest last h = same_from_push rest (numbered n v) last (record { place = n; value = Some v }) (sym h ∙ sym (numbered-snoc n v))

-- ---- sessions in the places of their slots

pub in-slots-set : (places : List (Option Hold)) (k : ℕ) (o : Option Hold) → AreInSlots places → ((hold : Hold) → o ≡ Some hold → hold.slot ≡ k) → AreInSlots (set places k o)
in-slots-set places k o h own place hold at = by_test (eqb_tells place k)
  where
    by_test : ((eqb place k ≡ true) × (place ≡ k)) ⊎ ((eqb place k ≡ false) × (place ≢ k)) → hold.slot ≡ place
    by_test (inl t) =
        let n = length-set places k o in
        let l : place < length (set places k o) = slice_get_within (set places k o) place (Some hold) at in
        let put : slice_get (set places k o) k ≡ Some o = get-set places k o (omega (arith, n, l, t.1)) in
        let is : o ≡ Some hold = same_Some o (Some hold) (sym put ∙ ap (slice_get (set places k o)) (sym t.1) ∙ at) in
        own hold is ∙ sym t.1
    by_test (inr t) = h place hold (sym (get-set_other places k place o t.1) ∙ at)

pub in-slots-put : (places : List (Option Hold)) (slot : ℕ) (hold : Hold) → AreInSlots places → hold.slot ≡ slot → AreInSlots (set places slot (Some hold))
in-slots-put places slot hold h same = in-slots-set places slot (Some hold) h (λ x q. ap (λ (k : Hold). k.slot) (sym (same_Some hold x q)) ∙ same)

pub in-slots-take : (places : List (Option Hold)) (slot : ℕ) → AreInSlots places → AreInSlots (set places slot None)
in-slots-take places slot h = in-slots-set places slot None h (λ x q. absurd (let none : None ≡ Some x = q in cc))

pub in-slots-none : (n : ℕ) → AreInSlots (replicate n None)
in-slots-none n place hold at = absurd (nothing n place at)
  where
    nothing : (m k : ℕ) → slice_get (replicate m None) k ≡ Some (Some hold) → ⊥
    nothing zero k e = cc
    nothing (suc m) zero e = cc
    nothing (suc m) (suc k) e = nothing m k e

pub in-slot : (places : List (Option Hold)) (slot : ℕ) (o : Option Hold) → AreInSlots places → slice_get places slot ≡ Some o → IfSome o (λ hold. hold.slot ≡ slot)
in-slot places slot None h at = tt
in-slot places slot (Some hold) h at = h slot hold at
