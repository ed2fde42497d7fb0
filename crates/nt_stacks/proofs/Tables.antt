-- A table of stacks as a finite map.
use Rattle.std.proofs.Common.{◌≡◌, ℕ, Bool, true, false, cond, List, [], ◌∷◌, map, Option, Some, None, is_some, refl, sym, ◌∙◌, ap}
use Rattle.std.specs.Ordering.{nat_cmp, is_eq, eq_by_cmp}
use Rattle.std.specs.Cmp.{nat_cmp_total, eq_by_cmp_equiv}
use Rattle.std.specs.Option.{option_map}
use Rattle.std.specs.Map.{lookup}
use Rattle.std.specs.FinMap.{FinMap, from_entries, get, find, insert, get-from_entries, get-insert, same_map, nat_cmp-IsAntisymmetric}

-- The finite map that entries stand for.
abbrev pub seen : {X : Type 0} → (X → List ℕ) → List (ℕ × X) → FinMap nat_cmp (List ℕ)
seen items entries = from_entries (map (λ entry. (entry.0, items entry.1)) entries)

option_map-cond : {X : Type 0} (f : X → List ℕ) (b : Bool) (x : X) (o : Option X) → option_map f (cond b (Some x) o) ≡ cond b (Some (f x)) (option_map f o)
option_map-cond f true x o = refl
option_map-cond f false x o = refl

find-seen : {X : Type 0} (items : X → List ℕ) (entries : List (ℕ × X)) (q : ℕ) → find nat_cmp q (map (λ entry. (entry.0, items entry.1)) entries) ≡ option_map items (lookup (λ k. is_eq (nat_cmp q k)) entries)
find-seen items [] q = refl
find-seen items (entry ∷ entries) q =
    ap (cond (eq_by_cmp nat_cmp q entry.0) (Some (items entry.1))) (find-seen items entries q)
    ∙ sym (option_map-cond items (eq_by_cmp nat_cmp q entry.0) entry.1 (lookup (λ k. is_eq (nat_cmp q k)) entries))

-- What the map has under an id is what the entries have there.
pub get-seen : {X : Type 0} (items : X → List ℕ) (entries : List (ℕ × X)) (q : ℕ) → get (seen items entries) q ≡ option_map items (lookup (λ k. is_eq (nat_cmp q k)) entries)
get-seen items entries q =
    get-from_entries nat_cmp_total (map (λ entry. (entry.0, items entry.1)) entries) q ∙ find-seen items entries q

is_some-mapped : {X : Type 0} (f : X → List ℕ) (o : Option X) → is_some (option_map f o) ≡ is_some o
is_some-mapped f None = refl
is_some-mapped f (Some x) = refl

-- The map has an id exactly if the entries have it.
pub contains-seen : {X : Type 0} (items : X → List ℕ) (entries : List (ℕ × X)) (q : ℕ) → is_some (get (seen items entries) q) ≡ is_some (lookup (λ k. is_eq (nat_cmp q k)) entries)
contains-seen items entries q =
    ap is_some (get-seen items entries q) ∙ is_some-mapped items (lookup (λ k. is_eq (nat_cmp q k)) entries)

-- An entry more is an insertion into the map.
pub seen-insert : {X : Type 0} (items : X → List ℕ) (old new : List (ℕ × X)) (id : ℕ) (stack : X)
    → ((q : ℕ) → lookup (λ k. is_eq (nat_cmp q k)) new ≡ cond (is_eq (nat_cmp id q)) (Some stack) (lookup (λ k. is_eq (nat_cmp q k)) old))
    → seen items new ≡ insert (seen items old) id (items stack)
seen-insert items old new id stack updates =
    same_map nat_cmp_total nat_cmp-IsAntisymmetric _ _
    (λ q. get-seen items new q
    ∙ ap (option_map items) (updates q)
    ∙ option_map-cond items (is_eq (nat_cmp id q)) stack (lookup (λ k. is_eq (nat_cmp q k)) old)
    ∙ ap (λ b. cond b (Some (items stack)) (option_map items (lookup (λ k. is_eq (nat_cmp q k)) old))) ((eq_by_cmp_equiv nat_cmp_total).symm id q)
    ∙ ap (cond (eq_by_cmp nat_cmp q id) (Some (items stack))) (sym (get-seen items old q))
    ∙ sym (get-insert nat_cmp_total (seen items old) id (items stack) q))
