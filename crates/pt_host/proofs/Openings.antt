-- A session that is opened on one row after another.
use Rattle.std.proofs.Common.{◌≡◌, ◌≢◌, ℕ, suc, ◌+◌, ◌-◌, ◌<◌, ◌≤◌, Bool, true, false, List, [], ◌∷◌, length, get_or, Option, Some, refl, ap, ◌∙◌, sym, subst, arith, ⊎_elim}
use Rattle.std.specs.Prelude.{◌&&◌, nat_lt, replicate, slice_index_or}
use Rattle.std.specs.List.{list_all}
use Rattle.std.proofs.lemmas.Bool.{cases_lt, lt-ltb}
use Rattle.std.proofs.lemmas.List.{length-set, length-replicate}
use Rattle.std.proofs.lemmas.List.Folds.{list_all_at}
use Rattle.pt_stream.specs.declared.place.Place.{Place}
use Rattle.pt_stream.specs.State.{StreamState, is_complete, no_place, place_at, stays_early, with_place}
use Rattle.pt_stream.proofs.Places.{place-here, place-none, place-other}
use Rattle.pt_roles.specs.Serving.{IsOpenedOnce}

-- The session is the one that it was, opened on the first rows, so many, and on none of the others.
pub record IsOpenTo (early : Bool) (rows number : ℕ) (old new : StreamState) : Type 0 where
  pub same : new ≡ record old { places = new.places; early = new.early }
  pub count : length new.places ≡ rows
  pub opened : (row : ℕ) → 0 < row → row ≤ number → 0 < (place_at new.places row).next
  pub never : (row : ℕ) → number < row → place_at new.places row ≡ no_place
  pub early_is : early ≡ true → new.early ≡ true

-- It is open on no row.
pub open-none : (early : Bool) (rows : ℕ) (stream : StreamState) → stream.places ≡ replicate rows no_place → stream.early ≡ true → IsOpenTo early rows 0 stream stream
open-none early rows stream none is =
    record {
      same = refl;
      count = ap (λ (ps : List Place). length ps) none ∙ length-replicate {A = Place} rows no_place;
      opened = λ row some few. absurd (omega (arith, some, few));
      never = λ row later. ap (λ (ps : List Place). place_at ps row) none ∙ place-none rows row;
      early_is = λ e. is;
    }

-- An opening in a row's first life, before any write, leaves the session an early one.
stays : (e : Bool) (stands : Option ℕ) (place : Place) (life : ℕ) → e ≡ true → stands ≡ Some 0 → place ≡ no_place → life ≡ 0 → (e && stays_early stands place life) ≡ true
stays e stands place life is at none first =
    ap (λ (b : Bool). b && stays_early stands place life) is
    ∙ ap (λ (s : Option ℕ). stays_early s place life) at
    ∙ ap (λ (p : Place). stays_early (Some 0) p life) none
    ∙ ap (λ (l : ℕ). stays_early (Some 0) no_place l) first

-- It was opened on the next row.
pub open-more : (early : Bool) (rows number : ℕ) (old mid new : StreamState) → (early ≡ true → old.stands ≡ Some 0) → number < rows
    → IsOpenTo early rows number old mid → IsOpenedOnce early (number + 1) mid new → IsOpenTo early rows (number + 1) old new
open-more early rows number old mid new stands within to one =
    subst (λ (s : StreamState). IsOpenTo early rows (number + 1) old s) (sym one.is)
    (record {
      same = ap (λ (s : StreamState). record s { places = places; early = is_early }) to.same;
      count = length-set mid.places (number + 1 - 1) place ∙ to.count;
      opened = opened;
      never = λ row later. other row (omega (arith, later)) (omega (arith, later)) ∙ to.never row (omega (arith, later));
      early_is = λ is. stays mid.early mid.stands (place_at mid.places (number + 1)) one.life (to.early_is is) (ap (λ (s : StreamState). s.stands) to.same ∙ stands is) (to.never (number + 1) (omega arith)) (one.first is);
    })
  where
    place : Place
    place = record { next = one.life + 1; is_open = true }

    places : List Place
    places = with_place (number + 1) place mid.places

    is_early : Bool
    is_early = mid.early && stays_early mid.stands (place_at mid.places (number + 1)) one.life

    other : (row : ℕ) → 0 < row → row ≢ number + 1 → place_at places row ≡ place_at mid.places row
    other row some is = place-other mid.places (number + 1) row place (omega arith) some is

    here : place_at places (number + 1) ≡ place
    here = place-here mid.places (number + 1) place (omega arith) (omega (arith, to.count, within))

    positive : 0 < place.next
    positive = omega arith

    opened : (row : ℕ) → 0 < row → row ≤ number + 1 → 0 < (place_at places row).next
    opened row some few =
        ⊎_elim
        (λ (before : row < number + 1). subst (λ (p : Place). 0 < p.next) (sym (other row some (omega (arith, before)))) (to.opened row some (omega (arith, before))))
        (λ (after : number + 1 ≤ row).
        let last : row ≡ number + 1 = omega (arith, few, after) in
        subst (λ (r : ℕ). 0 < (place_at places r).next) (sym last) (subst (λ (p : Place). 0 < p.next) (sym here) positive))
        (cases_lt row (number + 1))

-- Each place says that the session was opened there.
all-opened : (places : List Place) → ((k : ℕ) → k < length places → 0 < (get_or places k no_place).next) → list_all (λ place. nat_lt 0 place.next) places ≡ true
all-opened [] each = refl
all-opened (p ∷ ps) each =
    let first : nat_lt 0 p.next ≡ true = lt-ltb 0 p.next (each 0 (omega arith)) in
    let rest : list_all (λ place. nat_lt 0 place.next) ps ≡ true = all-opened ps (λ k few. each (suc k) (omega (arith, few))) in
    rw first rest

-- It is open on all rows.
pub open-all : (early : Bool) (rows : ℕ) (old new : StreamState) → IsOpenTo early rows rows old new → is_complete new ≡ true
open-all early rows old new to =
    all-opened new.places
    (λ k few.
    let one : 0 < (place_at new.places (k + 1)).next = to.opened (k + 1) (omega arith) (omega (arith, few, to.count)) in
    let at : k + 1 - 1 ≡ k = omega arith in
    subst (λ (n : ℕ). 0 < (slice_index_or new.places n no_place).next) at one)

-- It is not, where one is left.
pub open-some : (early : Bool) (rows number : ℕ) (old new : StreamState) → number < rows → IsOpenTo early rows number old new → is_complete new ≡ false
open-some early rows number old new within to =
    let never : place_at new.places (number + 1) ≡ no_place = to.never (number + 1) (omega arith) in
    let same : number + 1 - 1 ≡ number = omega arith in
    let at : get_or new.places number no_place ≡ no_place = subst (λ (n : ℕ). slice_index_or new.places n no_place ≡ no_place) same never in
    list_all_at (λ place. nat_lt 0 place.next) new.places number no_place (omega (arith, within, to.count)) (ap (λ (p : Place). nat_lt 0 p.next) at)
