-- A session that made a step still has its slot and number, is expected by the rows, and knows each thread on which it was opened.
use Rattle.std.proofs.Common.{◌≡◌, ℕ, zero, suc, ◌+◌, ◌<◌, Bool, true, false, List, [], ◌∷◌, Option, None, Some, inl, inr, refl, ap, sym, ◌∙◌, subst, arith, cond}
use Rattle.std.specs.Prelude.{◌==◌, ◌||◌, if◌then◌else◌, is_some, nat_lt, slice_get}
use Rattle.std.specs.BTreeMap.{get, is_at, btree_map_len}
use Rattle.std.specs.Ordering.{nat_cmp, is_eq}
use Rattle.std.specs.declared.cmp.Ordering.TheVariants.{Less, Equal, Greater}
use Rattle.std.proofs.lemmas.Bool.{eq-eqb, eqb-true, ltb-true, ne_eqb}
use Rattle.ep_defs.specs.declared.session.Marks.{Marks}
use Rattle.ep_slot.specs.Hand.{HandState}
use Rattle.ep_stream.specs.declared.session.Session.{Session}
use Rattle.ep_stream.specs.declared.session.Seat.{Seat}
use Rattle.ep_stream.specs.Named.{insert_by, with_marks}
use Rattle.ep_stream.specs.Session.{rest_of, hand_on, opened_count, fault_of, WasOpened, AreRowsOf, SetsHand}
use Rattle.ep_rows.specs.declared.rows.Rows.{Rows}
use Rattle.ep_rows.specs.Rows.{configured_in, expected_in, out_in}
use Rattle.ep_tables.specs.declared.tables.Present.{Present}
use Rattle.ep_tables.specs.Tied.{IsTied}

-- ---- the threads on which a session is open or was

-- What holds of each thread of a hand and of each thread of marks holds of each on which the session was opened.
pub opened_all : {S : Type 0} (session : Session S) (Known : ℕ → Type 0)
    → ((r : ℕ) (hand : HandState) → hand_on session r ≡ Some hand → Known hand.thread)
    → ((place : ℕ) (mark : Marks) → slice_get (rest_of session).marks place ≡ Some mark → Known mark.thread)
    → (thread : ℕ) → WasOpened session thread → Known thread
opened_all session Known hands marks thread (inl (r, hand, is, same)) = subst Known same (hands r hand is)
opened_all session Known hands marks thread (inr (place, mark, is, same)) = subst Known same (marks place mark is)

pub of_hands : {S : Type 0} (session : Session S) (Known : ℕ → Type 0) → ((thread : ℕ) → WasOpened session thread → Known thread) → (r : ℕ) (hand : HandState) → hand_on session r ≡ Some hand → Known hand.thread
of_hands session Known all r hand is = all hand.thread (inl (r, hand, is, refl))

pub of_marks : {S : Type 0} (session : Session S) (Known : ℕ → Type 0) → ((thread : ℕ) → WasOpened session thread → Known thread) → (place : ℕ) (mark : Marks) → slice_get (rest_of session).marks place ≡ Some mark → Known mark.thread
of_marks session Known all place mark is = all mark.thread (inr (place, mark, is, refl))

-- One hand is set.
pub hands_set : {S : Type 0} (old new : Session S) (row : ℕ) (hand : Option HandState) (Known : ℕ → Type 0) → SetsHand row hand old new
    → ((h : HandState) → hand ≡ Some h → Known h.thread) → ((r : ℕ) (h : HandState) → hand_on old r ≡ Some h → Known h.thread)
    → (r : ℕ) (h : HandState) → hand_on new r ≡ Some h → Known h.thread
hands_set old new row hand Known sets here others r h is =
    elim (r == row) as (λ v. hand_on new r ≡ (if v then hand else hand_on old r) → Known h.thread) [
      | true ↦ λ e. here h (sym e ∙ is)
      | false ↦ λ e. others r h (sym e ∙ is)
    ]
    (sets r)

-- The first of a list, or one of the others.
first_or : (y : Marks) (ys : List Marks) (place : ℕ) (x : Marks) (P : Marks → Type 0) → P y → ((p : ℕ) → slice_get ys p ≡ Some x → P x) → slice_get (y ∷ ys) place ≡ Some x → P x
first_or y ys zero x P here others e = let same : y ≡ x = cc in subst P same here
first_or y ys (suc p) x P here others e = others p e

-- One that was put in its place, or one of the others.
inserted : (key : Marks → ℕ) (m : Marks) (ms : List Marks) (place : ℕ) (x : Marks) (P : Marks → Type 0) → slice_get (insert_by key m ms) place ≡ Some x → P m → ((p : ℕ) (y : Marks) → slice_get ms p ≡ Some y → P y) → P x
inserted key m [] place x P is here others = first_or m [] place x P here (λ p e. absurd (cc)) is
inserted key m (y ∷ ys) place x P is here others =
    let later : (p : ℕ) → slice_get (insert_by key m ys) p ≡ Some x → P x = λ p e. inserted key m ys p x P e here (λ q z at. others (suc q) z at) in
    elim (nat_lt (key m) (key y)) as (λ v. slice_get (if v then m ∷ y ∷ ys else y ∷ insert_by key m ys) place ≡ Some x → P x) [
      | true ↦ first_or m (y ∷ ys) place x P here (λ p e. others p x e)
      | false ↦ first_or y (insert_by key m ys) place x P (others zero y refl) later
    ]
    is

pub marks_set : (m : Marks) (ms : List Marks) (Known : ℕ → Type 0) → Known m.thread → ((p : ℕ) (y : Marks) → slice_get ms p ≡ Some y → Known y.thread)
    → (place : ℕ) (mark : Marks) → slice_get (with_marks m ms) place ≡ Some mark → Known mark.thread
marks_set m ms Known here others place mark is = inserted (λ x. x.thread) m ms place mark (λ x. Known x.thread) is here others

-- ---- a session that stays where it was opened

-- The session has opened itself nowhere anew.
pub turn_now : (old new : Rows) (was now : Present) → now.number ≡ was.number → now.slot ≡ was.slot → now.opened ≡ was.opened → (rest_of now.session).seat ≡ (rest_of was.session).seat
    → opened_count now.session ≡ opened_count was.session → AreRowsOf expected_in configured_in out_in new now.session → fault_of now.session ≡ None
    → ((r : ℕ) (hand : HandState) → hand_on now.session r ≡ Some hand → is_some (get nat_cmp was.opened hand.thread) ≡ true)
    → ((place : ℕ) (mark : Marks) → slice_get (rest_of now.session).marks place ≡ Some mark → is_some (get nat_cmp was.opened mark.thread) ≡ true)
    → IsTied old was → IsTied new now
turn_now old new was now number slot opened seat count rows_are sound hands marks h =
    record {
      slot = ap (λ (s : Seat). s.slot) seat ∙ h.slot ∙ sym slot;
      id = ap (λ (s : Seat). s.id) seat ∙ h.id ∙ sym number;
      rows_are = rows_are;
      count = count ∙ h.count ∙ ap btree_map_len (sym opened);
      ever = λ thread was_opened. ap (λ m. is_some (get nat_cmp m thread)) opened ∙ opened_all now.session (λ t. is_some (get nat_cmp was.opened t) ≡ true) hands marks thread was_opened;
      sound = sound;
    }

-- The session was opened on a thread's row.
pub open_now : (old new : Rows) (was now : Present) (row thread : ℕ) (hand : HandState) → now.number ≡ was.number → now.slot ≡ was.slot → (rest_of now.session).seat ≡ (rest_of was.session).seat
    → opened_count now.session ≡ opened_count was.session + 1 → btree_map_len now.opened ≡ btree_map_len was.opened + 1
    → ((t : ℕ) → is_some (get nat_cmp now.opened t) ≡ ((t == thread) || is_some (get nat_cmp was.opened t)))
    → AreRowsOf expected_in configured_in out_in new now.session → fault_of now.session ≡ None
    → SetsHand row (Some hand) was.session now.session → hand.thread ≡ thread → (rest_of now.session).marks ≡ (rest_of was.session).marks
    → IsTied old was → IsTied new now
open_now old new was now row thread hand number slot seat count len ever rows_are sound sets same marks h =
    let Known : ℕ → Type 0 = λ t. is_some (get nat_cmp now.opened t) ≡ true in
    let before : (t : ℕ) → is_some (get nat_cmp was.opened t) ≡ true → Known t =
    λ t some. ever t ∙ elim (t == thread) as (λ v. (v || is_some (get nat_cmp was.opened t)) ≡ true) [ true ↦ refl | false ↦ some ]
    in
    let here : Known thread = ever thread ∙ ap (λ (b : Bool). b || is_some (get nat_cmp was.opened thread)) (eq-eqb thread thread refl) in
    record {
      slot = ap (λ (s : Seat). s.slot) seat ∙ h.slot ∙ sym slot;
      id = ap (λ (s : Seat). s.id) seat ∙ h.id ∙ sym number;
      rows_are = rows_are;
      count = count ∙ ap (λ (n : ℕ). n + 1) h.count ∙ sym len;
      ever = opened_all now.session Known
          (hands_set was.session now.session row (Some hand) Known sets
          (λ x is. let e : hand ≡ x = cc in subst (λ (y : HandState). Known y.thread) e (subst Known (sym same) here))
          (λ r x is. before x.thread (h.ever x.thread (inl (r, x, is, refl)))))
          (λ place mark is. before mark.thread (h.ever mark.thread (inr (place, mark, ap (λ (ms : List Marks). slice_get ms place) (sym marks) ∙ is, refl))));
      sound = sound;
    }

-- ---- a thread more on which it was opened

pub at_key : (key n : ℕ) → is_at (nat_cmp key) n ≡ (n == key)
at_key key n =
    elim (nat_lt key n) as (λ v. nat_lt key n ≡ v → is_eq (if v then Less else (if (key == n) then Equal else Greater)) ≡ (n == key)) [
      | true ↦ λ below. sym (ne_eqb n key (λ same. let less : key < n = ltb-true key n below in omega (arith, same, less)))
      | false ↦ λ _. elim (key == n) as (λ w. (key == n) ≡ w → is_eq (if w then Equal else Greater) ≡ (n == key)) [
        | true ↦ λ same. sym (eq-eqb n key (sym (eqb-true key n same)))
        | false ↦ λ other. sym (ne_eqb n key (λ e. let clash : true ≡ false = sym (eq-eqb key n (sym e)) ∙ other in cc))
      ] refl
    ] refl

-- What a map has of a key once another key was put into it.
pub opened_more : {V : Type 0} (new old : Option V) (value : V) (thread t : ℕ) → new ≡ cond (is_at (nat_cmp thread) t) (Some value) old → is_some new ≡ ((t == thread) || is_some old)
opened_more new old value thread t updates =
    ap is_some updates
    ∙ elim (is_at (nat_cmp thread) t) as (λ v. is_at (nat_cmp thread) t ≡ v → is_some (cond v (Some value) old) ≡ ((t == thread) || is_some old)) [
      | true ↦ λ at. ap (λ (b : Bool). b || is_some old) (sym at ∙ at_key thread t)
      | false ↦ λ at. ap (λ (b : Bool). b || is_some old) (sym at ∙ at_key thread t)
    ]
    refl
