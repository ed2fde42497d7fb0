-- Steps of what is appended piece by piece.
use Rattle.std.proofs.Common.{◌≡◌, ℕ, Result, Ok, Err, List, [], ◌∷◌, ◌++◌, length, sym, ap, ◌∙◌, refl, append_assoc}
use Rattle.std.proofs.lemmas.List.{take_at}
use Rattle.std.specs.Int.{w32}
use Rattle.std.specs.Result.{OnErr}
use Rattle.pt_num.specs.Numbers.{fixed}
use Rattle.pt_num.specs.Begins.{Keeps}
use Rattle.pt_num.proofs.Joined.{four_grouped}
use Rattle.nt_object.specs.Making.{begun_object}
use Rattle.nt_object.specs.Object.{object}

-- Where the last piece is not put, what was put before stays.
pub kept_on_error : {A E : Type 0} (r : Result A E) (before now after : List ℕ) → Keeps before now → OnErr r (after ≡ now) → OnErr r (Keeps before after)
kept_on_error (Ok a) before now after kept e = e
kept_on_error (Err e) before now after kept same = rw same kept

-- An object by what it begins with, its payload and its end.
object_grouped : (front payload : List ℕ) → front ++ 6 ∷ payload ++ 6 ∷ [] ≡ ((front ++ 6 ∷ []) ++ payload) ++ 6 ∷ []
object_grouped front payload = simp append_assoc

-- Five pieces, the middle ones together.
five_grouped : (old begun first second third end : List ℕ) → ((((old ++ begun) ++ first) ++ second) ++ third) ++ end ≡ old ++ ((begun ++ (first ++ second ++ third)) ++ end)
five_grouped old begun first second third end = simp append_assoc

-- An object that is put piece by piece.
pub object_put : (version : ℕ) (name first second third old begun o1 o2 o3 new : List ℕ) → begun ≡ old ++ begun_object version name → o1 ≡ begun ++ first → o2 ≡ o1 ++ second → o3 ≡ o2 ++ third → new ≡ o3 ++ 6 ∷ [] → new ≡ old ++ object version name (first ++ second ++ third)
object_put version name first second third old begun o1 o2 o3 new e0 e1 e2 e3 e4 =
    let front : List ℕ = 5 ∷ 5 ∷ 1 ∷ [] ++ fixed w32 version ++ fixed w32 version ++ fixed w32 (length name) ++ name in
    rw (e4, e3, e2, e1, e0)
    (five_grouped old (begun_object version name) first second third (6 ∷ [])
    ∙ ap (λ (bytes : List ℕ). old ++ bytes) (sym (object_grouped front (first ++ second ++ third))))

-- Six pieces, the first three together and the last three.
six_grouped : (old first second third begun payload end : List ℕ) → (((((old ++ first) ++ second) ++ third) ++ begun) ++ payload) ++ end ≡ old ++ (((first ++ second) ++ third) ++ ((begun ++ payload) ++ end))
six_grouped old first second third begun payload end = simp append_assoc

-- Three pieces and an object that are put in turn.
pub start_put : (version : ℕ) (name first second third payload old o1 o2 o3 begun paid new : List ℕ) → o1 ≡ old ++ first → o2 ≡ o1 ++ second → o3 ≡ o2 ++ third → begun ≡ o3 ++ begun_object version name → paid ≡ begun ++ payload → new ≡ paid ++ 6 ∷ [] → new ≡ old ++ ((first ++ second ++ third) ++ object version name payload)
start_put version name first second third payload old o1 o2 o3 begun paid new e1 e2 e3 e4 e5 e6 =
    let front : List ℕ = 5 ∷ 5 ∷ 1 ∷ [] ++ fixed w32 version ++ fixed w32 version ++ fixed w32 (length name) ++ name in
    rw (e6, e5, e4, e3, e2, e1)
    (six_grouped old first second third (begun_object version name) payload (6 ∷ [])
    ∙ ap (λ (bytes : List ℕ). old ++ ((first ++ second ++ third) ++ bytes)) (sym (object_grouped front payload)))

-- What was there before four pieces are put stays.
pub begun_kept : (old first second third fourth o1 o2 o3 o4 : List ℕ) → o1 ≡ old ++ first → o2 ≡ o1 ++ second → o3 ≡ o2 ++ third → o4 ≡ o3 ++ fourth → Keeps old o4
begun_kept old first second third fourth o1 o2 o3 o4 e1 e2 e3 e4 =
    rw (e4, e3, e2, e1, four_grouped old first second third fourth) (take_at old (first ++ (second ++ (third ++ fourth))) (length old) refl)
