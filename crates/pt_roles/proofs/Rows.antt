-- What becomes of a session's stream where it is opened or closed on a row.
use Rattle.std.proofs.Common.{◌≡◌, ◌≢◌, ◌∙◌, ℕ, zero, suc, ◌+◌, ◌-◌, ◌<◌, ◌≤◌, Bool, true, false, List, [], ◌∷◌, length, get_or, refl, sym, ap, subst, arith}
use Rattle.std.specs.Prelude.{◌&&◌, ◌||◌, nat_lt, not}
use Rattle.std.specs.List.{list_all}
use Rattle.std.proofs.Math.ListN.{set}
use Rattle.std.proofs.lemmas.Bool.{lt-ltb}
use Rattle.ep_defs.specs.declared.session.Marks.{Marks}
use Rattle.ep_table.proofs.Places.{list_all-at, list_all-set}
use Rattle.pt_stream.specs.declared.place.Place.{Place}
use Rattle.pt_stream.specs.State.{IsShut, StreamState, closed_on, is_complete, no_place, opened_on, place_at, stays_early, with_place}
use Rattle.pt_stream.proofs.Places.{by-row, place-here, place-other}
use Rattle.pt_roles.specs.Serving.{KeepsSession}

-- ---- the session

pub keeps-closed : (row : ℕ) (marks : List Marks) (old new : StreamState) → new ≡ closed_on row marks old → KeepsSession old new
keeps-closed row marks old new is =
    record {
      id = ap (λ (s : StreamState). s.id) is;
      slot = ap (λ (s : StreamState). s.slot) is;
      conn = ap (λ (s : StreamState). s.conn) is;
      config = ap (λ (s : StreamState). s.config) is;
      early = ap (λ (s : StreamState). s.early) is;
      gave = ap (λ (s : StreamState). s.gave) is;
      stands = ap (λ (s : StreamState). s.stands) is;
    }

-- ---- on each row

all-same : {A : Type 0} (p : A → Bool) (xs : List A) (i : ℕ) (d y : A) → i < length xs → p y ≡ p (get_or xs i d) → list_all p (set xs i y) ≡ list_all p xs
all-same p [] i d y few is = absurd (omega arith)
all-same p (x ∷ xs) zero d y few is = ap (λ b. b && list_all p xs) is
all-same p (x ∷ xs) (suc i) d y few is = ap (λ b. p x && b) (all-same p xs i d y (omega arith) is)

-- It was opened on each row after it is closed on one where it was so before.
pub complete-closed : (row : ℕ) (marks : List Marks) (old new : StreamState) → 0 < row → row ≤ length old.places → new ≡ closed_on row marks old → is_complete new ≡ is_complete old
complete-closed row marks old new some within is =
    ap (λ (s : StreamState). is_complete s) is
    ∙ all-same (λ place. nat_lt 0 place.next) old.places (row - 1) no_place (record (place_at old.places row) { is_open = false }) (omega (arith, some, within)) refl

pub complete-opened : (row life : ℕ) (old new : StreamState) → new ≡ opened_on row life old → is_complete old ≡ true → is_complete new ≡ true
complete-opened row life old new is complete =
    ap (λ (s : StreamState). is_complete s) is
    ∙ list_all-set (λ place. nat_lt 0 place.next) old.places (row - 1) (record { next = life + 1; is_open = true }) complete (lt-ltb 0 (life + 1) (omega arith))

and-true : (b c : Bool) → c ≡ true → (b && c) ≡ b
and-true true c is = is
and-true false c is = refl

or-true : (b c : Bool) → b ≡ true → (b || c) ≡ true
or-true true c is = refl
or-true false c is = absurd (cc)

-- Once it was opened on each row it stays as early as it is.
pub keeps-opened : (row life : ℕ) (old new : StreamState) → 0 < row → row ≤ length old.places → new ≡ opened_on row life old → is_complete old ≡ true → KeepsSession old new
keeps-opened row life old new some within is complete =
    let opened : nat_lt 0 (place_at old.places row).next ≡ true = list_all-at (λ place. nat_lt 0 place.next) old.places (row - 1) no_place complete (omega (arith, some, within)) in
    record {
      id = ap (λ (s : StreamState). s.id) is;
      slot = ap (λ (s : StreamState). s.slot) is;
      conn = ap (λ (s : StreamState). s.conn) is;
      config = ap (λ (s : StreamState). s.config) is;
      early = ap (λ (s : StreamState). s.early) is ∙ and-true old.early (stays_early old.stands (place_at old.places row) life) (or-true (nat_lt 0 (place_at old.places row).next) _ opened);
      gave = ap (λ (s : StreamState). s.gave) is;
      stands = ap (λ (s : StreamState). s.stands) is;
    }

-- ---- on the first rows

pub not-open : (b : Bool) → not b ≡ true → b ≡ false
not-open true is = absurd (cc)
not-open false is = refl

-- It is open on none of no rows.
pub shut-none : (stream : StreamState) → IsShut 0 stream
shut-none stream row some few = absurd (omega arith)

-- It is not open on the next row.
pub shut-more : (count : ℕ) (stream : StreamState) → (place_at stream.places (count + 1)).is_open ≡ false → IsShut count stream → IsShut (count + 1) stream
shut-more count stream off shut row some few =
    by-row ((place_at stream.places row).is_open ≡ false) row (count + 1)
    (λ is. subst (λ (r : ℕ). (place_at stream.places r).is_open ≡ false) (sym is) off)
    (λ (other : row ≢ count + 1). shut row some (omega (arith, few, other)))

-- It is closed on the next row.
pub shut-closed : (count : ℕ) (marks : List Marks) (old new : StreamState) → count < length old.places → new ≡ closed_on (count + 1) marks old → IsShut count old → IsShut (count + 1) new
shut-closed count marks old new within is shut row some few =
    let place : Place = record (place_at old.places (count + 1)) { is_open = false } in
    let places : new.places ≡ with_place (count + 1) place old.places = ap (λ (s : StreamState). s.places) is in
    by-row ((place_at new.places row).is_open ≡ false) row (count + 1)
    (λ here.
    ap (λ (ps : List Place). (place_at ps row).is_open) places
    ∙ ap (λ (r : ℕ). (place_at (with_place (count + 1) place old.places) r).is_open) here
    ∙ ap (λ (p : Place). p.is_open) (place-here old.places (count + 1) place (omega arith) (omega (arith, within))))
    (λ (other : row ≢ count + 1).
    ap (λ (ps : List Place). (place_at ps row).is_open) places
    ∙ ap (λ (p : Place). p.is_open) (place-other old.places (count + 1) row place (omega arith) some other)
    ∙ shut row some (omega (arith, few, other)))
