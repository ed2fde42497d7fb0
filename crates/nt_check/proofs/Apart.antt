-- What stands under ids in the order in which they were put in, where each id's place is found.
use Rattle.std.proofs.Common.{◌≡◌, ℕ, zero, suc, Bool, true, false, cond, eqb, ◌⊎◌, inl, inr, List, [], ◌∷◌, ◌++◌, length, Option, Some, None, refl, sym, ap, ◌∙◌, subst}
use Rattle.std.proofs.lemmas.Bool.{cases_Bool, eqb-true, eqb-false, ne_eqb}
use Rattle.std.proofs.lemmas.Option.{none-some, same_Some, slice_get_read}
use Rattle.std.proofs.Math.ListN.{set, get_or}
use Rattle.std.specs.List.{slice_get}
use Rattle.nt_check.specs.state.Scattered.{under, AreFound, IsAt}
use Rattle.nt_check.proofs.Under.{get-set_other, put-there}

-- What stands under an id has a place.
pub place-of : {V : Type 0} (id : ℕ) (values : List (ℕ × V)) (value : V) → under id values ≡ Some value → (place : ℕ) × (slice_get values place ≡ Some (id, value))
place-of id [] value e = absurd cc
place-of {V} id (held ∷ more) value e =
    elim (cases_Bool (eqb held.0 id)) [
      | inl same ↦ (zero, first (eqb-true held.0 id same) (same_Some held.1 value (rw same at e)))
      | inr apart ↦ let later = place-of id more value (rw apart at e) in (suc later.0, later.1)
    ]
  where
    first : held.0 ≡ id → held.1 ≡ value → ◌≡◌ {A = Option (ℕ × V)} (Some held) (Some (id, value))
    first a b = ap (λ n. Some (n, held.1)) a ∙ ap (λ v. Some (id, v)) b

-- Where nothing stands under an id, it has no place.
pub no-place : {V : Type 0} (id : ℕ) (values : List (ℕ × V)) (place : ℕ) (value : V) → under id values ≡ None → slice_get values place ≡ Some (id, value) → ⊥
no-place id [] place value none e = cc
no-place id (held ∷ more) zero value none e =
    let own : held ≡ (id, value) = same_Some held (id, value) e in
    let there : under id ((id, value) ∷ more) ≡ None = subst (λ h. under id (h ∷ more) ≡ None) own none in
    elim (cases_Bool (eqb id id)) [
      | inl same ↦ none-some value (sym (rw same at there))
      | inr apart ↦ eqb-false id id apart refl
    ]
no-place id (held ∷ more) (suc place) value none e =
    elim (cases_Bool (eqb held.0 id)) [
      | inl same ↦ none-some held.1 (sym (rw same at none))
      | inr apart ↦ no-place id more place value (rw apart at none) e
    ]

-- Nothing stands under an id of which no place is found that is its own.
pub none-found : {V : Type 0} (find : ℕ → Option ℕ) (id : ℕ) (values : List (ℕ × V)) → AreFound find values → ((place : ℕ) (value : V) → find id ≡ Some place → slice_get values place ≡ Some (id, value) → ⊥) → under id values ≡ None
none-found {V} find id values found never = by-value (under id values) refl
  where
    by-value : (held : Option V) → under id values ≡ held → under id values ≡ None
    by-value None none = none
    by-value (Some value) some =
        let there = place-of id values value some in absurd (never there.0 value (found there.0 (id, value) there.1) there.1)

pub found-at : {V : Type 0} (find : ℕ → Option ℕ) (id : ℕ) (values : List (ℕ × V)) (there : ℕ) → Some there ≡ find id → ((value : V) → slice_get values there ≡ Some (id, value) → ⊥) → (place : ℕ) (value : V) → find id ≡ Some place → slice_get values place ≡ Some (id, value) → ⊥
found-at find id values there is never place value finds e =
    never value (ap (slice_get values) (same_Some there place (is ∙ finds)) ∙ e)

pub found-none : {V : Type 0} (find : ℕ → Option ℕ) (id : ℕ) (values : List (ℕ × V)) → None ≡ find id → (place : ℕ) (value : V) → find id ≡ Some place → slice_get values place ≡ Some (id, value) → ⊥
found-none find id values is place value finds e = none-some place (is ∙ finds)

-- At an id's place stands what stands under it.
pub under-at : {V : Type 0} (find : ℕ → Option ℕ) (id : ℕ) (values : List (ℕ × V)) (place : ℕ) (value : V) → AreFound find values → slice_get values place ≡ Some (id, value) → under id values ≡ Some value
under-at {V} find id values place value found e = by-value (under id values) refl
  where
    by-value : (held : Option V) → under id values ≡ held → under id values ≡ Some value
    by-value None none = absurd (no-place id values place value none e)
    by-value (Some other) some =
        let there = place-of id values other some in
        let same : there.0 ≡ place = same_Some there.0 place (sym (found there.0 (id, other) there.1) ∙ found place (id, value) e) in
        let both : (id, other) ≡ (id, value) = same_Some (id, other) (id, value) (sym there.1 ∙ ap (slice_get values) same ∙ e) in
        some ∙ ap (λ (held : ℕ × V). Some held.1) both

at-is : {V : Type 0} (id : ℕ) (values : List (ℕ × V)) (place : ℕ) (held : ℕ × V) → IsAt id place values → held ≡ get_or values place held → slice_get values place ≡ Some (id, held.1)
at-is id values place held at is =
    let there = slice_get_read values (length values) place held refl at.0 is in
    there ∙ ap (λ n. Some (n, held.1)) (at.1 held there)

-- What is read at an id's place stands under it.
pub at-value : {V : Type 0} (find : ℕ → Option ℕ) (values now : List (ℕ × V)) (place : ℕ) (held : ℕ × V) → values ≡ now → AreFound find values → held ≡ get_or values place held → (id : ℕ) → IsAt id place now → under id now ≡ Some held.1
at-value find values now place held same found is =
    subst (λ list. (id : ℕ) → IsAt id place list → under id list ≡ Some held.1) same
    (λ id at. under-at find id values place held.1 found (at-is id values place held at is))

-- ---- a value at the place of another

under-set_other : {V : Type 0} (id other : ℕ) (values : List (ℕ × V)) (place : ℕ) (before value : V) → slice_get values place ≡ Some (id, before) → eqb id other ≡ false → under other (set values place (id, value)) ≡ under other values
under-set_other id other [] place before value e apart = absurd cc
under-set_other id other (held ∷ more) zero before value e apart =
    let own : held ≡ (id, before) = same_Some held (id, before) e in
    rw (own, apart) refl
under-set_other id other (held ∷ more) (suc place) before value e apart =
    ap (cond (eqb held.0 other) (Some held.1)) (under-set_other id other more place before value e apart)

pub set-found : {V : Type 0} (find : ℕ → Option ℕ) (id : ℕ) (values : List (ℕ × V)) (place : ℕ) (before value : V) → AreFound find values → slice_get values place ≡ Some (id, before) → AreFound find (set values place (id, value))
set-found {V} find id values place before value found e = λ other held there.
    elim (cases_Bool (eqb place other)) [
      | inl same ↦
          let at : place ≡ other = eqb-true place other same in
          let own : held ≡ (id, value) = same_Some held (id, value) (sym there ∙ ap (slice_get (set values place (id, value))) (sym at) ∙ put-there values place (id, before) (id, value) e) in
          ap (λ (h : ℕ × V). find h.0) own ∙ found place (id, before) e ∙ ap Some at
      | inr apart ↦ found other held (sym (get-set_other values place other (id, value) (eqb-false place other apart)) ∙ there)
    ]

pub under-set : {V : Type 0} (find : ℕ → Option ℕ) (id other : ℕ) (values : List (ℕ × V)) (place : ℕ) (before value : V) → AreFound find values → slice_get values place ≡ Some (id, before) → under other (set values place (id, value)) ≡ cond (eqb id other) (Some value) (under other values)
under-set find id other values place before value found e =
    elim (cases_Bool (eqb id other)) [
      | inl same ↦ rw same (ap (λ n. under n (set values place (id, value))) (sym (eqb-true id other same)) ∙ under-at find id (set values place (id, value)) place value (set-found find id values place before value found e) (put-there values place (id, before) (id, value) e))
      | inr apart ↦ rw apart (under-set_other id other values place before value e apart)
    ]

-- What is written at an id's place stands under it, and what stands under others stays.
pub at-put : {V : Type 0} (find : ℕ → Option ℕ) (values now : List (ℕ × V)) (place : ℕ) (held : ℕ × V) (value put : V) → values ≡ now → AreFound find values → held ≡ get_or values place held → put ≡ value → (id : ℕ) → IsAt id place now → (other : ℕ) → under other (set values place (held.0, put)) ≡ cond (eqb id other) (Some value) (under other now)
at-put {V} find values now place held value put same found is written =
    subst (λ list. (id : ℕ) → IsAt id place list → (other : ℕ) → under other (set values place (held.0, put)) ≡ cond (eqb id other) (Some value) (under other list)) same
    (λ id at other.
    let own : held.0 ≡ id = at.1 held (slice_get_read values (length values) place held refl at.0 is) in
    ap (λ n. under other (set values place (n, put))) own
    ∙ ap (λ v. under other (set values place (id, v))) written
    ∙ under-set find id other values place held.1 value found (at-is id values place held at is))

-- ---- a value more

pub under-add : {V : Type 0} (id other : ℕ) (values : List (ℕ × V)) (value : V) → under id values ≡ None → under other (values ++ (id, value) ∷ []) ≡ cond (eqb id other) (Some value) (under other values)
under-add id other [] value none = refl
under-add {V} id other (held ∷ more) value none =
    elim (cases_Bool (eqb held.0 id)) [
      | inl same ↦ absurd (none-some held.1 (sym (rw same at none)))
      | inr apart ↦
          elim (cases_Bool (eqb held.0 other)) [
            | inl there ↦ rw (there, ne_eqb id other (λ e. eqb-false held.0 id apart (eqb-true held.0 other there ∙ sym e))) refl
            | inr elsewhere ↦ rw elsewhere (under-add id other more value (rw apart at none))
          ]
    ]

get-append : {A : Type 0} (xs : List A) (x y : A) (place : ℕ) → slice_get (xs ++ x ∷ []) place ≡ Some y → (slice_get xs place ≡ Some y) ⊎ ((place ≡ length xs) × (x ≡ y))
get-append [] x y zero e = inr (refl, same_Some x y e)
get-append [] x y (suc place) e = absurd cc
get-append (z ∷ xs) x y zero e = inl e
get-append (z ∷ xs) x y (suc place) e =
    elim (get-append xs x y place e) [
      | inl there ↦ inl there
      | inr last ↦ inr (ap suc last.0, last.1)
    ]

-- A place more that is found changes none of those that were.
pub still-found : {V : Type 0} (find more : ℕ → Option ℕ) (id last : ℕ) (values : List (ℕ × V)) → ((other : ℕ) → more other ≡ cond (eqb id other) (Some last) (find other)) → under id values ≡ None → AreFound find values → AreFound more values
still-found find more id last values is none found = λ place held there.
    elim (cases_Bool (eqb id held.0)) [
      | inl same ↦ absurd (no-place id values place held.1 none (there ∙ ap (λ n. Some (n, held.1)) (sym (eqb-true id held.0 same))))
      | inr apart ↦ is held.0 ∙ rw apart (found place held there)
    ]

pub add-found : {V : Type 0} (find more : ℕ → Option ℕ) (id last : ℕ) (values : List (ℕ × V)) (value : V) → ((other : ℕ) → more other ≡ cond (eqb id other) (Some last) (find other)) → last ≡ length values → under id values ≡ None → AreFound find values → AreFound more (values ++ (id, value) ∷ [])
add-found {V} find more id last values value is at none found = λ place held there.
    elim (get-append values (id, value) held place there) [
      | inl before ↦ still-found find more id last values is none found place held before
      | inr end ↦ sym (ap (λ (h : ℕ × V). more h.0) end.1) ∙ is id ∙ own (eqb id id) refl ∙ ap Some (at ∙ sym end.0)
    ]
  where
    own : (b : Bool) → eqb id id ≡ b → cond b (Some last) (find id) ≡ Some last
    own true e = refl
    own false e = absurd (eqb-false id id e refl)
