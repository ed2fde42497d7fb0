-- The streaming roles, by number, and their halves.
use Rattle.std.proofs.Common.{◌≡◌, ◌∙◌, ℕ, zero, suc, ◌<◌, ◌≤◌, ⊎_elim, false, List, [], ◌∷◌, ◌++◌, Some, length, get_or, take, sym, ap, arith}
use Rattle.std.specs.Prelude.{slice_get}
use Rattle.std.proofs.lemmas.Bool.{cases_lt}
use Rattle.std.proofs.lemmas.List.{get_or-take, get_or_append_left, length-take}
use Rattle.std.proofs.lemmas.Option.{slice_get-get_or}
use Rattle.std.proofs.Math.Seq.{get_or-append_seam}
use Rattle.ep_table.specs.declared.limits.TheConstants.{SLOTS}
use Rattle.ep_tie.specs.Tied.{Tied}
use Rattle.ep_registry.proofs.Numbered.{numbered-length}
use Rattle.ep_registry.specs.Places.{numbered}
use Rattle.ep_registry.specs.Registered.{RoleHalf}
use Rattle.pt_roles.specs.Streamers.{AreThere}

-- ---- the halves

-- The half at a place of so many that all show this.
abbrev half_at : {V : Type 0} → V → ℕ → Tied V
half_at v k = record { place = k; value = Some v }

numbered-at : {V : Type 0} (n : ℕ) (v : V) (d : Tied V) (k : ℕ) → k < n → get_or (numbered n v) k d ≡ half_at v k
numbered-at zero v d k few = absurd (omega arith)
numbered-at {V} (suc n) v d k few =
    ⊎_elim
    (λ (small : k < n).
    let long = numbered-length n v in
    get_or_append_left (numbered n v) (half_at v n ∷ []) d k (omega (arith, small, long)) ∙ numbered-at n v d k small)
    (λ (big : n ≤ k).
    let long = numbered-length n v in
    let place : k ≡ length (numbered n v) = omega (arith, long, big, few) in
    let same : n ≡ k = omega (arith, big, few) in
    ap (λ (i : ℕ). get_or (numbered n v ++ half_at v n ∷ []) i d) place
    ∙ get_or-append_seam (numbered n v) (half_at v n) [] d
    ∙ ap (half_at v) same)
    (cases_lt k n)

-- The half at a place below the number of roles, of those that are taken.
pub half-at : {V : Type 0} (halves : List (Tied V)) (n count k : ℕ) (v : V) (half : Tied V) → halves ≡ take count (numbered n v) → k < count → count ≤ n → half ≡ get_or halves k half → half ≡ half_at v k
half-at {V} halves n count k v half are few within is =
    is
    ∙ ap (λ (hs : List (Tied V)). get_or hs k half) are
    ∙ get_or-take count (numbered n v) k half few
    ∙ numbered-at n v half k (omega (arith, few, within))

pub count-halves : {V : Type 0} (halves : List (Tied V)) (n count : ℕ) (v : V) → halves ≡ take count (numbered n v) → count ≤ n → length halves ≡ count
count-halves halves n count v are within =
    let long = numbered-length n v in
    let cut = length-take count (numbered n v) in
    let same : length halves ≡ length (take count (numbered n v)) = ap length are in
    omega (arith, long, cut, same, within)

-- ---- the roles

-- They are the first ones of so many roles, none of which has ended.
abbrev pub AreFirst : ℕ → List RoleHalf → Type 0
AreFirst count roles = (k : ℕ) (role : RoleHalf) → slice_get roles k ≡ Some role → role ≡ record { number = k; roles = count; left = false }

pub are-there : (count : ℕ) (roles : List RoleHalf) → 0 < count → count ≤ SLOTS → length roles ≡ count → AreFirst count roles → AreThere roles
are-there count roles some few long first =
    record {
      some = omega (arith, some, long);
      few = omega (arith, few, long);
      each = λ number within.
          let none : RoleHalf = record { number = number; roles = count; left = false } in
          slice_get-get_or roles number none within
          ∙ ap Some (first number (get_or roles number none) (slice_get-get_or roles number none within) ∙ ap (λ (n : ℕ). record { number = number; roles = n; left = false }) (sym long));
    }
