-- What each call makes of a row with its halves is at rest.
use Rattle.std.proofs.Common.{◌≡◌, ℕ, zero, suc, ◌+◌, ◌-◌, ◌*◌, ◌<◌, ◌≤◌, Bool, true, false, List, [], ◌∷◌, ◌++◌, length, take, Option, None, Some, refl, ap, sym, ◌∙◌, subst, arith, inl, inr, get_or}
use Rattle.std.specs.Prelude.{if◌then◌else◌, option_map, is_some, slice_get, slice_set, IsSome}
use Rattle.std.specs.Int.{bit_at}
use Rattle.std.proofs.Math.Seq.{take-suc}
use Rattle.std.proofs.lemmas.Bool.{cases_eq, true≢false}
use Rattle.std.proofs.lemmas.List.{get_or-set_other}
use Rattle.std.proofs.Math.ListN.{length-set}
use Rattle.std.proofs.lemmas.Option.{slice_get_within, get_or_from_slice_get}
use Rattle.ep_defs.specs.declared.event.EventDef.{EventDef}
use Rattle.ep_defs.specs.declared.session.Config.{Config}
use Rattle.ep_defs.specs.declared.session.Write.{Write}
use Rattle.ep_row.specs.declared.row.Opening.{Opening}
use Rattle.ep_row.specs.Row.{RowState, slot_of, mask_of, with_begin}
use Rattle.ep_row.specs.AtRest.{RowAtRest, IsUnwanted, KeepsRest, KeepsRestWith}
use Rattle.ep_tie.specs.Tied.{Tied}
use Rattle.ep_guarded.specs.declared.agreed.Told.{Told}
use Rattle.ep_guarded.specs.declared.agreed.Agreed.{Agreed}
use Rattle.ep_guarded.specs.declared.agreed.Agreed.TheVariants as agreed
use Rattle.ep_guarded.specs.Tied.{told_in, stand_in, left_in, thread_of}
use Rattle.ep_guarded.specs.Resting.{RowOver, IsToldBy, RowRests, stand_of, stand_as}
use Rattle.ep_guarded.specs.Calls.{raised, TellsDue, ShownBy}

-- ---- lists with one place set

pub get-set-same : {A : Type 0} (xs : List A) (i : ℕ) (x y : A) → slice_get (slice_set xs i y) i ≡ Some x → x ≡ y
get-set-same [] i x y is = absurd (none x is)
  where
    none : {A : Type 0} (x : A) → None ≡ Some x → ⊥
    none x e = cc
get-set-same (first ∷ xs) zero x y is = same y x is
  where
    same : {A : Type 0} (a b : A) → Some a ≡ Some b → b ≡ a
    same a b e = cc
get-set-same (first ∷ xs) (suc i) x y is = get-set-same xs i x y is

pub get-set-other : {A : Type 0} (xs : List A) (i k : ℕ) (y : A) → (k ≡ i → ⊥) → slice_get (slice_set xs i y) k ≡ slice_get xs k
get-set-other [] i k y ne = refl
get-set-other (first ∷ xs) zero zero y ne = absurd (ne refl)
get-set-other (first ∷ xs) zero (suc k) y ne = refl
get-set-other (first ∷ xs) (suc i) zero y ne = refl
get-set-other (first ∷ xs) (suc i) (suc k) y ne = get-set-other xs i k y (λ e. ne (ap suc e))

-- What holds of each holds where one is set for which it holds.
pub each-set : {A : Type 0} (Q : ℕ → A → Type 0) (xs : List A) (i : ℕ) (y : A) → ((k : ℕ) (x : A) → slice_get xs k ≡ Some x → (k ≡ i → ⊥) → Q k x) → Q i y → (k : ℕ) (x : A) → slice_get (slice_set xs i y) k ≡ Some x → Q k x
each-set Q xs i y others here k x is =
    elim (cases_eq k i) [
      | inl e ↦ let same = get-set-same xs i x y (sym (ap (λ (n : ℕ). slice_get (slice_set xs i y) n) e) ∙ is) in
          subst (λ (n : ℕ). Q n x) (sym e) (subst (Q i) (sym same) here)
      | inr ne ↦ others k x (sym (get-set-other xs i k y ne) ∙ is) ne
    ]

-- ---- the row alone

pub over-kept : (events : List EventDef) (configs : ℕ → Config) (writes : List Write) (old new : RowState) → RowOver events configs writes old → KeepsRest old new → length new.masks ≡ length old.masks → new.index ≡ old.index → new.left ≡ old.left → RowOver events configs writes new
over-kept events configs writes old new over keeps masks index left =
    record {
      events_are = over.events_are ∙ sym masks;
      rest = subst (λ (n : ℕ). RowAtRest events configs (take n writes) new) (sym index) (keeps events configs (take old.index writes) over.events_are over.rest);
      left = λ gone. index ∙ over.left (sym left ∙ gone);
    }

-- The thread has one write more.
over-more : (events : List EventDef) (configs : ℕ → Config) (writes : List Write) (old new : RowState) (write : Write) → RowOver events configs writes old → old.left ≡ false → KeepsRestWith write old new → new.index ≡ old.index + 1 → new.left ≡ old.left → new.masks ≡ old.masks → slice_get writes old.index ≡ Some write → RowOver events configs writes new
over-more events configs writes old new write over stays keeps index left masks next =
    let within = slice_get_within writes old.index write next in
    let more : take new.index writes ≡ take old.index writes ++ write ∷ [] =
    ap (λ (n : ℕ). take n writes) {x = new.index} {y = suc old.index} (omega (arith, index)) ∙ take-suc writes old.index write within
    ∙ ap (λ (w : Write). take old.index writes ++ w ∷ []) (get_or_from_slice_get writes old.index write write next)
    in
    record {
      events_are = over.events_are ∙ sym (ap (length {A = ℕ}) masks);
      rest = subst (λ (ws : List Write). RowAtRest events configs ws new) (sym more) (keeps events configs (take old.index writes) over.events_are over.rest);
      left = λ gone. absurd (true≢false (sym gone ∙ left ∙ stays));
    }

-- ---- the row and its thread

-- A half that tells where the thread stands tells that it has not left.
pub standing : (row : RowState) (value : Option Agreed) → value ≡ Some (stand_as row) → IsSome (stand_in value) → (row.left ≡ false) × (value ≡ Some (agreed.Stand (stand_of row)))
standing row value is some =
    elim row.left as (λ v. value ≡ Some (if v then agreed.Left (stand_of row) else agreed.Stand (stand_of row)) → (v ≡ false) × (value ≡ Some (agreed.Stand (stand_of row)))) [
      | true ↦ λ e. absurd (no (subst (λ (o : Option Agreed). IsSome (stand_in o)) e some))
      | false ↦ λ e. (refl, e)
    ]
    is
  where
    no : false ≡ true → ⊥
    no e = cc

-- A half that tells of a thread that has left tells that it has.
pub leaving : (row : RowState) (value : Option Agreed) → value ≡ Some (stand_as row) → IsSome (left_in value) → (row.left ≡ true) × (value ≡ Some (agreed.Left (stand_of row)))
leaving row value is some =
    elim row.left as (λ v. value ≡ Some (if v then agreed.Left (stand_of row) else agreed.Stand (stand_of row)) → (v ≡ true) × (value ≡ Some (agreed.Left (stand_of row)))) [
      | true ↦ λ e. (refl, e)
      | false ↦ λ e. absurd (no (subst (λ (o : Option Agreed). IsSome (left_in o)) e some))
    ]
    is
  where
    no : false ≡ true → ⊥
    no e = cc

-- ---- the row with its halves

pub told-kept : (old new : RowState) (config : Config) (s : ℕ) (value : Option Agreed) → slot_of new s ≡ slot_of old s → new.thread ≡ old.thread → IsToldBy old config s value → IsToldBy new config s value
told-kept old new config s value slots thread told =
    record {
      slot_is = slots ∙ told.slot_is;
      thread = λ t is. told.thread t is ∙ sym thread;
      config_is = told.config_is;
    }

-- Nothing but the end of a write.
pub row-ended : (rows : ℕ) (events : List EventDef) (writes : ℕ → List Write) (life : ℕ) (old new : RowState) (buffers : List (Tied Agreed)) (writer : Tied Agreed) → RowRests rows events writes life old buffers writer → KeepsRest old new → new ≡ record old { in_write = false } → RowRests rows events writes life new buffers writer
row-ended rows events writes life old new buffers writer rests keeps is =
    let thread : new.thread ≡ old.thread = ap (λ (r : RowState). r.thread) is in
    let index : new.index ≡ old.index = ap (λ (r : RowState). r.index) is in
    let over = over-kept events rests.configs (writes old.thread) old new rests.over keeps (ap (λ (r : RowState). length r.masks) is) index (ap (λ (r : RowState). r.left) is) in
    record {
      configs = rests.configs;
      over = subst (λ (t : ℕ). RowOver events rests.configs (writes t) new) (sym thread) over;
      count = rests.count;
      places = rests.places;
      told = λ s half at. told-kept old new (rests.configs s) s half.value (ap (λ (r : RowState). slot_of r s) is) thread (rests.told s half at);
      stands = rests.stands ∙ ap (λ (r : RowState). Some (stand_as r)) (sym is);
      thread_is = thread ∙ rests.thread_is;
    }

row-more : (rows : ℕ) (events : List EventDef) (writes : ℕ → List Write) (life : ℕ) (old new : RowState) (write : Write) (buffers : List (Tied Agreed)) (writer now : Tied Agreed) → RowRests rows events writes life old buffers writer → old.left ≡ false → KeepsRestWith write old new → new.thread ≡ old.thread → new.index ≡ old.index + 1 → new.left ≡ old.left → new.masks ≡ old.masks → new.slots ≡ old.slots → slice_get (writes old.thread) old.index ≡ Some write → now.place ≡ writer.place → now.value ≡ Some (agreed.Stand (record { thread = old.thread; index = old.index + 1 })) → RowRests rows events writes life new buffers now
row-more rows events writes life old new write buffers writer now rests stays keeps thread index left masks slots next place stands =
    let over = over-more events rests.configs (writes old.thread) old new write rests.over stays keeps index left masks next in
    record {
      configs = rests.configs;
      over = subst (λ (t : ℕ). RowOver events rests.configs (writes t) new) (sym thread) over;
      count = rests.count;
      places = λ s half at. subst (λ (p : ℕ). half.place ≡ rows + 2 * (p * 64 + s)) (sym place) (rests.places s half at);
      told = λ s half at. told-kept old new (rests.configs s) s half.value (ap (λ (os : List (Option Opening)). get_or os s None) slots) thread (rests.told s half at);
      stands = stands
          ∙ ap (λ (t : ℕ). Some (agreed.Stand (record { thread = t; index = old.index + 1 }))) (sym thread)
          ∙ ap (λ (i : ℕ). Some (agreed.Stand (record { thread = new.thread; index = i }))) (sym index)
          ∙ ap (λ (v : Bool). Some (if v then agreed.Left (stand_of new) else agreed.Stand (stand_of new))) (sym (left ∙ stays));
      thread_is = thread ∙ rests.thread_is ∙ ap (λ (p : ℕ). thread_of rows p life) (sym place);
    }

pub row-begun : (rows : ℕ) (events : List EventDef) (writes : ℕ → List Write) (life : ℕ) (old new : RowState) (stamp : ℕ) (write : Write) (buffers : List (Tied Agreed)) (writer now : Tied Agreed) → RowRests rows events writes life old buffers writer → old.left ≡ false → KeepsRestWith write old new → new ≡ with_begin old stamp write → slice_get (writes old.thread) old.index ≡ Some write → now.place ≡ writer.place → now.value ≡ Some (agreed.Stand (record { thread = old.thread; index = old.index + 1 })) → RowRests rows events writes life new buffers now
row-begun rows events writes life old new stamp write buffers writer now rests stays keeps is =
    row-more rows events writes life old new write buffers writer now rests stays keeps (ap (λ (r : RowState). r.thread) is) (ap (λ (r : RowState). r.index) is) (ap (λ (r : RowState). r.left) is) (ap (λ (r : RowState). r.masks) is) (ap (λ (r : RowState). r.slots) is)

pub row-passed : (rows : ℕ) (events : List EventDef) (writes : ℕ → List Write) (life : ℕ) (old new : RowState) (write : Write) (buffers : List (Tied Agreed)) (writer now : Tied Agreed) → RowRests rows events writes life old buffers writer → old.left ≡ false → KeepsRestWith write old new → new ≡ record old { index = old.index + 1 } → slice_get (writes old.thread) old.index ≡ Some write → now.place ≡ writer.place → now.value ≡ Some (agreed.Stand (record { thread = old.thread; index = old.index + 1 })) → RowRests rows events writes life new buffers now
row-passed rows events writes life old new write buffers writer now rests stays keeps is =
    row-more rows events writes life old new write buffers writer now rests stays keeps (ap (λ (r : RowState). r.thread) is) (ap (λ (r : RowState). r.index) is) (ap (λ (r : RowState). r.left) is) (ap (λ (r : RowState). r.masks) is) (ap (λ (r : RowState). r.slots) is)

-- No session that is open gets the write.
pub unwanted : (events : List EventDef) (configs : ℕ → Config) (writes : List Write) (row : RowState) (event : ℕ) (write : Write) → RowOver events configs writes row → write.event ≡ event → 0 < event → event ≤ length events → mask_of row event ≡ 0 → IsUnwanted write row
unwanted events configs writes row event write over is some within none =
    record {
      some = omega (arith, is, some);
      event = omega (arith, is, within, over.events_are);
      none = ap (mask_of row) is ∙ none;
    }

-- A slot that is on is told.
tells-on : (value : Option Agreed) → is_some (option_map (λ t. t.opening) (told_in value)) ≡ true → (told : Told) × (value ≡ Some (agreed.Told told))
tells-on None on = absurd (no on)
  where
    no : false ≡ true → ⊥
    no e = cc
tells-on (Some (agreed.Told told)) on = (told, refl)
tells-on (Some agreed.Nothing) on = absurd (no on)
  where
    no : false ≡ true → ⊥
    no e = cc
tells-on (Some (agreed.Held held)) on = absurd (no on)
  where
    no : false ≡ true → ⊥
    no e = cc
tells-on (Some (agreed.Stand stand)) on = absurd (no on)
  where
    no : false ≡ true → ⊥
    no e = cc
tells-on (Some (agreed.Left stand)) on = absurd (no on)
  where
    no : false ≡ true → ⊥
    no e = cc

pub tells-due : (rows : ℕ) (events : List EventDef) (writes : ℕ → List Write) (life : ℕ) (row : RowState) (buffers : List (Tied Agreed)) (writer half : Tied Agreed) (slot : ℕ) (write : Write) → RowRests rows events writes life row buffers writer → slot < 64 → bit_at row.due slot ≡ 1 → 0 < row.index → slice_get (writes row.thread) (row.index - 1) ≡ Some write → slice_get buffers slot ≡ Some half → TellsDue events (writes row.thread) slot write row half.value
tells-due rows events writes life row buffers writer half slot write rests within due begun last at =
    let told = rests.told slot half at in
    let on : is_some (slot_of row slot) ≡ true = (rests.over.rest.due slot within due).1 in
    let one = tells-on half.value (sym (ap (is_some {T = Opening}) told.slot_is) ∙ on) in
    let inside : told_in half.value ≡ Some one.0 = ap told_in one.1 in
    record {
      told = one.0;
      tells = one.1;
      due =
          record {
            due =
                record {
                  configs = rests.configs;
                  config_is = sym (told.config_is one.0 inside);
                  over = rests.over;
                  begun = begun;
                  last = last;
                  due = due;
                };
            known = told.slot_is ∙ ap (λ (t : Option Told). option_map (λ t. t.opening) t) inside;
            thread = told.thread one.0 inside;
          };
    }

pub row-shown : (rows : ℕ) (events : List EventDef) (writes : ℕ → List Write) (life : ℕ) (old new : RowState) (buffers : List (Tied Agreed)) (writer half now : Tied Agreed) (slot : ℕ) → RowRests rows events writes life old buffers writer → slice_get buffers slot ≡ Some half → now.place ≡ half.place → ShownBy slot old new half.value now.value → RowRests rows events writes life new (slice_set buffers slot now) writer
row-shown rows events writes life old new buffers writer half now slot rests at place shown =
    let is = shown.row_is.others in
    let thread : new.thread ≡ old.thread = ap (λ (r : RowState). r.thread) is in
    let index : new.index ≡ old.index = ap (λ (r : RowState). r.index) is in
    let over = over-kept events rests.configs (writes old.thread) old new rests.over shown.row_is.rest (ap (λ (r : RowState). length r.masks) is) index (ap (λ (r : RowState). r.left) is) in
    let was = rests.told slot half at in
    let inside : told_in half.value ≡ Some shown.told = ap told_in shown.tells in
    let next : told_in now.value ≡ Some (raised shown.told) = ap told_in shown.now in
    let raised_is : (t : Told) → told_in now.value ≡ Some t → raised shown.told ≡ t = λ t is. same_told _ _ (sym next ∙ is) in
    record {
      configs = rests.configs;
      over = subst (λ (t : ℕ). RowOver events rests.configs (writes t) new) (sym thread) over;
      count = ap (λ (n : ℕ). n) (length-set buffers slot now) ∙ rests.count;
      places = each-set (λ s half. half.place ≡ rows + 2 * (writer.place * 64 + s)) buffers slot now (λ s half at _. rests.places s half at) (place ∙ rests.places slot half at);
      told =
          each-set (λ s half. IsToldBy new (rests.configs s) s half.value) buffers slot now
          (λ s half at ne. told-kept old new (rests.configs s) s half.value (ap (λ (os : List (Option Opening)). get_or os s None) shown.row_is.slots ∙ get_or-set_other old.slots slot s (Some (raised shown.told).opening) None ne) thread (rests.told s half at))
          (record {
            slot_is = shown.row_is.known ∙ ap (λ (t : Option Told). option_map (λ t. t.opening) t) (sym next);
            thread = λ t is. ap (λ (t : Told). t.thread) (sym (raised_is t is)) ∙ was.thread shown.told inside ∙ sym thread;
            config_is = λ t is. ap (λ (t : Told). t.grant.now.config) (sym (raised_is t is)) ∙ was.config_is shown.told inside;
          });
      stands = rests.stands ∙ ap (λ (r : RowState). Some (stand_as r)) (sym is);
      thread_is = thread ∙ rests.thread_is;
    }
  where
    same_told : (a b : Told) → Some a ≡ Some b → a ≡ b
    same_told a b e = cc
