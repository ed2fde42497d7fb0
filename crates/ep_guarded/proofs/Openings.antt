-- Rows with their halves where a session is opened or closed.
use Rattle.std.proofs.Common.{◌≡◌, ℕ, zero, suc, ◌+◌, ◌*◌, ◌<◌, ◌≤◌, Bool, false, List, [], ◌∷◌, length, take, Option, None, Some, refl, ap, sym, ◌∙◌, subst, arith, get_or}
use Rattle.std.specs.Prelude.{if◌then◌else◌, option_map, slice_get, slice_set, replicate}
use Rattle.std.proofs.Math.ListN.{length-set}
use Rattle.std.proofs.lemmas.Bool.{true≢false, eq-eqb, ne_eqb}
use Rattle.std.proofs.lemmas.Option.{none-some, slice_get_read}
use Rattle.std.proofs.lemmas.List.{get_or-set_other, length-replicate, length-take}
use Rattle.ep_defs.specs.declared.event.EventDef.{EventDef}
use Rattle.ep_defs.specs.declared.session.Config.{Config}
use Rattle.ep_defs.specs.declared.session.Marks.{Marks}
use Rattle.ep_defs.specs.declared.session.Write.{Write}
use Rattle.ep_model.specs.History.{admitted_from}
use Rattle.ep_chunk.specs.Record.{Record}
use Rattle.ep_slot.specs.Hand.{HandState, hand_of}
use Rattle.ep_row.specs.declared.row.Opening.{Opening}
use Rattle.ep_row.specs.Row.{RowState, slot_of, new_row}
use Rattle.ep_row.specs.AtRest.{RowAtRest, KeepsRestOpened, RestsAnew, with_config}
use Rattle.ep_row.proofs.Masks.{bit_zero}
use Rattle.ep_tie.specs.Tied.{Tied}
use Rattle.ep_guarded.specs.declared.agreed.Told.{Told}
use Rattle.ep_guarded.specs.declared.agreed.Agreed.{Agreed}
use Rattle.ep_guarded.specs.declared.agreed.Agreed.TheVariants as agreed
use Rattle.ep_guarded.specs.declared.grant.Grant.{Grant}
use Rattle.ep_guarded.specs.declared.kept.Kept.{Kept}
use Rattle.ep_guarded.specs.Tied.{told_in, hand_in, grant_in, buffer_number, buffer_place, AreMarks, AreCounted}
use Rattle.ep_guarded.specs.Resting.{RowOver, IsToldBy, RowRests, held_as, stand_as}
use Rattle.ep_guarded.specs.Calls.{OpensRow, ClosesRow}
use Rattle.ep_guarded.proofs.Resting.{each-set, get-set-same, told-kept, over-kept}
use Rattle.ep_guarded.proofs.Lives.{first-life}

-- ---- lists

-- What was set twice at one place.
pub set-twice : {A : Type 0} (xs : List A) (i : ℕ) (x y : A) → slice_set (slice_set xs i x) i y ≡ slice_set xs i y
set-twice [] i x y = refl
set-twice (first ∷ xs) zero x y = refl
set-twice (first ∷ xs) (suc i) x y = ap (λ (rest : List _). first ∷ rest) (set-twice xs i x y)

-- What is read at a place where something was put is what was put there.
pub put-back : {A : Type 0} (xs : List A) (i : ℕ) (met x : A) → i < length xs → x ≡ get_or (slice_set xs i met) i x → x ≡ met
put-back xs i met x small read =
    get-set-same xs i x met (slice_get_read (slice_set xs i met) _ i x refl (omega (arith, small, length-set xs i met)) read)

none-set : {A : Type 0} (xs : List (Option A)) (i : ℕ) → get_or (slice_set xs i None) i None ≡ None
none-set [] i = refl
none-set (first ∷ xs) zero = refl
none-set (first ∷ xs) (suc i) = none-set xs i

same_told : (a b : Told) → Some a ≡ Some b → a ≡ b
same_told a b e = cc

same-hand : (a b : HandState) → Some a ≡ Some b → a ≡ b
same-hand a b e = cc

same-grant : (a b : Grant) → Some a ≡ Some b → a ≡ b
same-grant a b e = cc

-- ---- a half that tells a session

-- The hand is that of what is open.
pub hand-kept : (value : Option Agreed) (kept : Kept) (hand : HandState) → value ≡ Some (held_as (Some kept)) → hand_in value ≡ Some hand → hand ≡ hand_of kept.slot
hand-kept value kept hand held is = same-hand _ _ (sym is ∙ ap hand_in held)

-- What was granted is that of what is open.
pub grant-kept : (value : Option Agreed) (kept : Kept) (grant : Grant) → value ≡ Some (held_as (Some kept)) → grant_in value ≡ Some grant → kept.told.grant.now ≡ grant
grant-kept value kept grant held is = same-grant _ _ (sym (ap grant_in held) ∙ is)

pub told-slot : (row : RowState) (config : Config) (s : ℕ) (value : Option Agreed) (told : Told) → value ≡ Some (agreed.Told told) → IsToldBy row config s value → slot_of row s ≡ Some told.opening
told-slot row config s value told tells is = is.slot_is ∙ ap (λ (v : Option Agreed). option_map (λ t. t.opening) (told_in v)) tells

pub told-thread : (row : RowState) (config : Config) (s : ℕ) (value : Option Agreed) (told : Told) → value ≡ Some (agreed.Told told) → IsToldBy row config s value → told.thread ≡ row.thread
told-thread row config s value told tells is = is.thread told (ap told_in tells)

pub told-config : (row : RowState) (config : Config) (s : ℕ) (value : Option Agreed) (told : Told) → value ≡ Some (agreed.Told told) → IsToldBy row config s value → told.grant.now.config ≡ config
told-config row config s value told tells is = is.config_is told (ap told_in tells)

-- ---- an opening

over-opened : (events : List EventDef) (configs : ℕ → Config) (writes : List Write) (old new : RowState) (slot : ℕ) (config : Config) → RowOver events configs writes old → KeepsRestOpened events slot config old new → length new.masks ≡ length old.masks → new.index ≡ old.index → new.left ≡ old.left → RowOver events (with_config configs slot config) writes new
over-opened events configs writes old new slot config over keeps masks index left =
    record {
      events_are = over.events_are ∙ sym masks;
      rest = subst (λ (n : ℕ). RowAtRest events (with_config configs slot config) (take n writes) new) (sym index) (keeps configs (take old.index writes) over.rest);
      left = λ gone. index ∙ over.left (sym left ∙ gone);
    }

pub row-opened : (rows : ℕ) (events : List EventDef) (writes : ℕ → List Write) (life : ℕ) (old new : RowState) (buffers : List (Tied Agreed)) (writer half now : Tied Agreed) (slot : ℕ) (told : Told) → RowRests rows events writes life old buffers writer → slice_get buffers slot ≡ Some half → now.place ≡ half.place → now.value ≡ Some (agreed.Told told) → told.thread ≡ old.thread → OpensRow events slot told.grant.now.config told.opening old new → RowRests rows events writes life new (slice_set buffers slot now) writer
row-opened rows events writes life old new buffers writer half now slot told rests at place tells thread_is opens =
    let is = opens.others in
    let config = told.grant.now.config in
    let configs : ℕ → Config = with_config rests.configs slot config in
    let thread : new.thread ≡ old.thread = ap (λ (r : RowState). r.thread) is in
    let over = over-opened events rests.configs (writes old.thread) old new slot config rests.over opens.rest opens.masks (ap (λ (r : RowState). r.index) is) (ap (λ (r : RowState). r.left) is) in
    let inside : told_in now.value ≡ Some told = ap told_in tells in
    record {
      configs = configs;
      over = subst (λ (t : ℕ). RowOver events configs (writes t) new) (sym thread) over;
      count = length-set buffers slot now ∙ rests.count;
      places = each-set (λ s half. half.place ≡ rows + 2 * (writer.place * 64 + s)) buffers slot now (λ s half at _. rests.places s half at) (place ∙ rests.places slot half at);
      told =
          each-set (λ s half. IsToldBy new (configs s) s half.value) buffers slot now
          (λ s half at ne.
          subst (λ (c : Config). IsToldBy new c s half.value) (sym (ap (λ (v : Bool). if v then config else rests.configs s) (ne_eqb s slot ne)))
          (told-kept old new (rests.configs s) s half.value (ap (λ (os : List (Option Opening)). get_or os s None) opens.slots ∙ get_or-set_other old.slots slot s (Some told.opening) None ne) thread (rests.told s half at)))
          (record {
            slot_is = opens.known ∙ ap (λ (t : Option Told). option_map (λ t. t.opening) t) (sym inside);
            thread = λ t is. ap (λ (t : Told). t.thread) (sym (same_told _ _ (sym inside ∙ is))) ∙ thread_is ∙ sym thread;
            config_is = λ t is. ap (λ (t : Told). t.grant.now.config) (sym (same_told _ _ (sym inside ∙ is))) ∙ sym (ap (λ (v : Bool). if v then config else rests.configs slot) (eq-eqb slot slot refl));
          });
      stands = rests.stands ∙ ap (λ (r : RowState). Some (stand_as r)) (sym is);
      thread_is = thread ∙ rests.thread_is;
    }

-- ---- a closing

pub row-closed : (rows : ℕ) (events : List EventDef) (writes : ℕ → List Write) (life : ℕ) (old new : RowState) (buffers : List (Tied Agreed)) (writer half now : Tied Agreed) (slot : ℕ) → RowRests rows events writes life old buffers writer → slice_get buffers slot ≡ Some half → now.place ≡ half.place → now.value ≡ Some agreed.Nothing → ClosesRow slot old new → RowRests rows events writes life new (slice_set buffers slot now) writer
row-closed rows events writes life old new buffers writer half now slot rests at place nothing closes =
    let is = closes.others in
    let thread : new.thread ≡ old.thread = ap (λ (r : RowState). r.thread) is in
    let over = over-kept events rests.configs (writes old.thread) old new rests.over closes.rest closes.masks (ap (λ (r : RowState). r.index) is) (ap (λ (r : RowState). r.left) is) in
    let inside : told_in now.value ≡ None = ap told_in nothing in
    record {
      configs = rests.configs;
      over = subst (λ (t : ℕ). RowOver events rests.configs (writes t) new) (sym thread) over;
      count = length-set buffers slot now ∙ rests.count;
      places = each-set (λ s half. half.place ≡ rows + 2 * (writer.place * 64 + s)) buffers slot now (λ s half at _. rests.places s half at) (place ∙ rests.places slot half at);
      told =
          each-set (λ s half. IsToldBy new (rests.configs s) s half.value) buffers slot now
          (λ s half at ne. told-kept old new (rests.configs s) s half.value (ap (λ (os : List (Option Opening)). get_or os s None) closes.slots ∙ get_or-set_other old.slots slot s None None ne) thread (rests.told s half at))
          (record {
            slot_is = ap (λ (os : List (Option Opening)). get_or os slot None) closes.slots ∙ none-set old.slots slot ∙ ap (λ (t : Option Told). option_map (λ t. t.opening) t) (sym inside);
            thread = λ t is. absurd (none-some t (sym inside ∙ is));
            config_is = λ t is. absurd (none-some t (sym inside ∙ is));
          });
      stands = rests.stands ∙ ap (λ (r : RowState). Some (stand_as r)) (sym is);
      thread_is = thread ∙ rests.thread_is;
    }

pub are-counted : (events : List EventDef) (configs : ℕ → Config) (writes : ℕ → List Write) (row : RowState) (slot : ℕ) (opening : Opening) (config : Config) (hand : HandState) (records : List Record) (last : ℕ) (marks : Marks) → RowOver events configs (writes row.thread) row → slot < 64 → row.in_write ≡ false → slot_of row slot ≡ Some opening → configs slot ≡ config → hand.thread ≡ row.thread → hand.from ≡ opening.from → last ≡ opening.shown → AreMarks hand records last row.index marks → AreCounted events writes config marks
are-counted events configs writes row slot opening config hand records last marks over within quiet is config_is thread from shown are =
    let rest = over.rest in
    let open' = rest.slots slot within opening is in
    let none = bit_zero row.due slot (λ one. true≢false (sym (rest.due slot within one).0 ∙ quiet)) in
    let whole = length-take row.index (writes row.thread) in
    let threads : marks.thread ≡ row.thread = are.thread ∙ thread in
    let from_is : marks.from ≡ opening.from = are.from ∙ from in
    let count : marks.taken + marks.refused ≡ length (admitted_from events (Some (configs slot)) opening.from (take row.index (writes row.thread))) =
    omega (arith, are.refused, shown, open'.shown, none)
    in
    record {
      ordered = omega (arith, from_is, are.to_is, open'.from, rest.index);
      within = subst (λ (t : ℕ). marks.to ≤ length (writes t)) (sym threads) (omega (arith, are.to_is, rest.index, whole));
      counted =
          count
          ∙ ap (λ (c : Config). length (admitted_from events (Some c) opening.from (take row.index (writes row.thread)))) config_is
          ∙ ap (λ (f : ℕ). length (admitted_from events (Some config) f (take row.index (writes row.thread)))) (sym from_is)
          ∙ ap (λ (n : ℕ). length (admitted_from events (Some config) marks.from (take n (writes row.thread)))) (sym are.to_is)
          ∙ ap (λ (t : ℕ). length (admitted_from events (Some config) marks.from (take marks.to (writes t)))) (sym threads);
    }

-- ---- a new row

-- Nothing stands at any place of a list of nothing.
none-there : (s n : ℕ) → get_or {A = Option Opening} (replicate n None) s None ≡ None
none-there s zero = refl
none-there zero (suc n) = refl
none-there (suc s) (suc n) = none-there s n

no_config : Config
no_config = record { rules = []; chunks = 0; stackwalk = false; rundown = false }

pub row-new : (rows : ℕ) (events : List EventDef) (writes : ℕ → List Write) (number count : ℕ) (row : RowState) (buffers : List (Tied Agreed)) (writer : Tied Agreed) → row ≡ new_row (number + 1) count → RestsAnew row → count ≡ length events → writer.place ≡ number → length buffers ≡ 64 → ((s : ℕ) (half : Tied Agreed) → slice_get buffers s ≡ Some half → half.place ≡ buffer_place rows (buffer_number number s)) → ((s : ℕ) (half : Tied Agreed) → slice_get buffers s ≡ Some half → half.value ≡ Some agreed.Nothing) → writer.value ≡ Some (agreed.Stand (record { thread = number + 1; index = 0 })) → RowRests rows events writes 0 row buffers writer
row-new rows events writes number count row buffers writer is rests many place full places nothing stands =
    let masks : length row.masks ≡ count = ap (λ (r : RowState). length r.masks) is ∙ length-replicate count 0 in
    let index : row.index ≡ 0 = ap (λ (r : RowState). r.index) is in
    let events_are : length events ≡ length row.masks = sym many ∙ sym masks in
    let thread : row.thread ≡ number + 1 = ap (λ (r : RowState). r.thread) is in
    let off : (s : ℕ) → slot_of row s ≡ None = λ s. ap (λ (r : RowState). slot_of r s) is ∙ none-there s 64 in
    let tells : (s : ℕ) (half : Tied Agreed) → slice_get buffers s ≡ Some half → told_in half.value ≡ None = λ s half at. ap told_in (nothing s half at) in
    record {
      configs = λ _. no_config;
      over =
          record {
            events_are = events_are;
            rest = subst (λ (n : ℕ). RowAtRest events (λ _. no_config) (take n (writes row.thread)) row) (sym index) (rests events (λ _. no_config) events_are);
            left = λ gone. absurd (true≢false (sym gone ∙ ap (λ (r : RowState). r.left) is));
          };
      count = full;
      places = λ s half at. subst (λ (p : ℕ). half.place ≡ rows + 2 * (p * 64 + s)) (sym place) (places s half at);
      told =
          λ s half at.
          record {
            slot_is = off s ∙ ap (λ (t : Option Told). option_map (λ t. t.opening) t) (sym (tells s half at));
            thread = λ t told. absurd (none-some t (sym (tells s half at) ∙ told));
            config_is = λ t told. absurd (none-some t (sym (tells s half at) ∙ told));
          };
      stands = stands ∙ ap (λ (r : RowState). Some (stand_as r)) (sym is);
      thread_is = thread ∙ ap (λ (p : ℕ). p + 1) (sym place) ∙ sym (first-life rows writer.place);
    }
