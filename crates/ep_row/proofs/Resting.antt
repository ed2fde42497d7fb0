-- What each call makes of a row at rest is at rest.
use Rattle.std.proofs.Common.{◌≡◌, ℕ, zero, suc, ◌+◌, ◌-◌, ◌<◌, ◌≤◌, Bool, true, false, List, [], ◌∷◌, ◌++◌, length, drop, Option, None, Some, refl, ap, sym, ◌∙◌, subst, arith, inl, inr, get_or, length-append}
use Rattle.std.specs.Prelude.{◌&&◌, is_some, IsNone, slice_get, slice_index, slice_set, filter, if◌then◌else◌}
use Rattle.std.specs.Int.{bit_at}
use Rattle.std.specs.Option.{option_map_or}
use Rattle.std.proofs.lemmas.Bool.{true≢false, false≢true, and_parts, cases_eq, cases_lt, eq-eqb, ne_eqb}
use Rattle.std.proofs.lemmas.Nat.Bits.{bit_at-lt, bit_at-zero}
use Rattle.std.proofs.lemmas.List.{drop-append-le, drop_all, get_or_default, get_or-set_other, get_or-replicate}
use Rattle.std.proofs.lemmas.List.Elements.{filter-append, All-get_or}
use Rattle.std.specs.List.{All}
use Rattle.std.proofs.lemmas.Option.{same_Some}
use Rattle.ep_defs.specs.declared.limits.TheConstants.{WRITES}
use Rattle.ep_defs.specs.declared.event.EventDef.{EventDef}
use Rattle.ep_defs.specs.declared.session.Config.{Config}
use Rattle.ep_defs.specs.declared.session.Write.{Write}
use Rattle.ep_model.specs.History.{admits_write, admitted_from}
use Rattle.ep_row.specs.declared.row.Opening.{Opening}
use Rattle.ep_row.specs.Bits.{one_if, SetsBits, ClearsBit}
use Rattle.ep_row.specs.Row.{RowState, slot_of, mask_of, gets, with_begin, new_row}
use Rattle.ep_row.specs.AtRest.{OpenAtRest, RowAtRest, IsUnwanted, with_config}

-- The session gets the write, if there is one.
abbrev gets_of : List EventDef → Config → Option Write → Bool
gets_of events config o = option_map_or (λ write. admits_write events (Some config) write) o false

pub one_true : (b : Bool) → one_if b ≡ 1 → b ≡ true
one_true b = elim b as (λ v. one_if v ≡ 1 → v ≡ true) [ true ↦ λ e. refl | false ↦ λ e. absurd (omega arith) ]

-- No slot is due outside a write.
quiet-bit : (events : List EventDef) (configs : ℕ → Config) (writes : List Write) (row : RowState) (s : ℕ) → RowAtRest events configs writes row → row.in_write ≡ false → s < 64 → bit_at row.due s ≡ 0
quiet-bit events configs writes row s rest quiet h =
    elim (cases_eq (bit_at row.due s) 1) [
      | inl one ↦ absurd (true≢false (sym (rest.due s h one).0 ∙ quiet))
      | inr other ↦ let lt = bit_at-lt row.due s in omega arith
    ]

-- The last of a list.
slice_get-end : (writes : List Write) (write : Write) → slice_get (writes ++ write ∷ []) (length (writes ++ write ∷ []) - 1) ≡ Some write
slice_get-end writes write =
    let len : length (writes ++ write ∷ []) - 1 ≡ length writes = omega (arith, length-append writes (write ∷ [])) in
    ap (slice_get (writes ++ write ∷ [])) len ∙ at_end writes write
  where
    at_end : (writes : List Write) (write : Write) → slice_get (writes ++ write ∷ []) (length writes) ≡ Some write
    at_end [] write = refl
    at_end (first ∷ writes) write = at_end writes write

-- A write more is one admitted write more where the session gets it.
admitted-more : (events : List EventDef) (config : Config) (from : ℕ) (writes : List Write) (write : Write) → from ≤ length writes → length (admitted_from events (Some config) from (writes ++ write ∷ [])) ≡ length (admitted_from events (Some config) from writes) + one_if (admits_write events (Some config) write)
admitted-more events config from writes write h =
    let p : Write → Bool = λ w. admits_write events (Some config) w in
    let parts : filter p (drop from (writes ++ write ∷ [])) ≡ filter p (drop from writes) ++ filter p (write ∷ []) =
    ap (filter p) (drop-append-le from writes (write ∷ []) h) ∙ filter-append p (drop from writes) (write ∷ [])
    in
    ap (length {A = Write}) parts
    ∙ length-append (filter p (drop from writes)) (filter p (write ∷ []))
    ∙ ap (λ (n : ℕ). length (filter p (drop from writes)) + n) (one (p write) write)
  where
    one : (v : Bool) (write : Write) → length (if v then write ∷ [] else []) ≡ one_if v
    one v write = elim v as (λ v. length (if v then write ∷ [] else []) ≡ one_if v) [ true ↦ refl | false ↦ refl ]

-- Nothing is admitted from the end on.
admitted-none : (events : List EventDef) (config : Config) (writes : List Write) → length (admitted_from events (Some config) (length writes) writes) ≡ 0
admitted-none events config writes =
    ap (λ (xs : List Write). length (filter (λ w. admits_write events (Some config) w) xs)) (drop_all (length writes) writes (omega arith))

-- ---- a write

begin-at : (place : ℕ) (events : List EventDef) (configs : ℕ → Config) (writes : List Write) (row : RowState) (stamp : ℕ) (write : Write) → write.event ≡ suc place → length events ≡ length row.masks → RowAtRest events configs writes row → row.in_write ≡ false → row.left ≡ false → write.event ≤ length row.masks → row.index < WRITES → RowAtRest events configs (writes ++ write ∷ []) (with_begin row stamp write)
begin-at place events configs writes row stamp write event count rest quiet stays within few =
    let bit : (s : ℕ) → s < 64 → bit_at (mask_of row write.event) s ≡ one_if (is_some (slot_of row s) && admits_write events (Some (configs s)) write) =
    λ s h.
    ap (λ (e : ℕ). bit_at (mask_of row e) s) event
    ∙ rest.masks place s (omega arith) h
    ∙ ap (λ (e : ℕ). one_if (is_some (slot_of row s) && admits_write events (Some (configs s)) (record write { event = e }))) (sym event)
    in
    record {
      index = omega (arith, rest.index, length-append writes (write ∷ []));
      few = omega arith;
      masks = rest.masks;
      due =
          λ s h one.
          let both = and_parts (is_some (slot_of row s)) (admits_write events (Some (configs s)) write) (one_true _ (sym (bit s h) ∙ one)) in
          (refl, both.0, ap (λ (o : Option Write). gets_of events (configs s) o) (slice_get-end writes write) ∙ both.1);
      slots =
          λ s h opening is.
          let old = rest.slots s h opening is in
          let none = quiet-bit events configs writes row s rest quiet h in
          let on : is_some (slot_of row s) ≡ true = ap (is_some {T = Opening}) is in
          let now : bit_at (mask_of row write.event) s ≡ one_if (admits_write events (Some (configs s)) write) =
          bit s h ∙ ap (λ (v : Bool). one_if (v && admits_write events (Some (configs s)) write)) on
          in
          record {
            from = omega (arith, old.from, length-append writes (write ∷ []));
            shown = omega (arith, old.shown, admitted-more events (configs s) opening.from writes write old.from);
          };
      left = λ e. absurd (false≢true (sym stays ∙ e));
    }

pub begin-rests : (events : List EventDef) (configs : ℕ → Config) (writes : List Write) (row : RowState) (stamp : ℕ) (write : Write) → length events ≡ length row.masks → RowAtRest events configs writes row → row.in_write ≡ false → row.left ≡ false → 0 < write.event → write.event ≤ length row.masks → row.index < WRITES → RowAtRest events configs (writes ++ write ∷ []) (with_begin row stamp write)
begin-rests events configs writes row stamp write count rest quiet stays some within few =
    let e : write.event ≡ suc (write.event - 1) = omega arith in
    begin-at (write.event - 1) events configs writes row stamp write e count rest quiet stays within few

-- A write that no session gets leaves no slot due, and each with what it was shown.
pub pass-rests : (events : List EventDef) (configs : ℕ → Config) (writes : List Write) (row : RowState) (write : Write) → length events ≡ length row.masks → RowAtRest events configs writes row → row.in_write ≡ false → row.left ≡ false → IsUnwanted write row → row.index < WRITES → RowAtRest events configs (writes ++ write ∷ []) (record row { index = row.index + 1 })
pass-rests events configs writes row write count rest quiet stays unwanted few =
    let begun = begin-rests events configs writes row row.stamp write count rest quiet stays unwanted.some unwanted.event few in
    let unmasked : (s : ℕ) → bit_at (mask_of row write.event) s ≡ 0 = λ s. ap (λ (n : ℕ). bit_at n s) unwanted.none ∙ bit_at-zero s in
    record {
      index = begun.index;
      few = begun.few;
      masks = rest.masks;
      due = λ s h one. let none = quiet-bit events configs writes row s rest quiet h in absurd (omega (arith, none, one));
      slots =
          λ s h opening is.
          let now = begun.slots s h opening is in
          let none = quiet-bit events configs writes row s rest quiet h in
          let unmasked' = unmasked s in
          record { from = now.from; shown = omega (arith, now.shown, none, unmasked') };
      left = λ e. absurd (false≢true (sym stays ∙ e));
    }

-- ---- the other calls

pub end-rests : (events : List EventDef) (configs : ℕ → Config) (writes : List Write) (row : RowState) → row.due ≡ 0 → RowAtRest events configs writes row → RowAtRest events configs writes (record row { in_write = false })
end-rests events configs writes row seen rest =
    record {
      index = rest.index;
      few = rest.few;
      masks = rest.masks;
      due = λ s h one. absurd (none-due row.due s seen one);
      slots = rest.slots;
      left = λ _. refl;
    }
  where
    none-due : (due s : ℕ) → due ≡ 0 → bit_at due s ≡ 1 → ⊥
    none-due due s seen one = let z : bit_at due s ≡ 0 = ap (λ (n : ℕ). bit_at n s) seen ∙ bit_at-zero s in omega arith

pub leave-rests : (events : List EventDef) (configs : ℕ → Config) (writes : List Write) (row : RowState) → row.in_write ≡ false → RowAtRest events configs writes row → RowAtRest events configs writes (record row { left = true })
leave-rests events configs writes row quiet rest =
    record {
      index = rest.index;
      few = rest.few;
      masks = rest.masks;
      due = rest.due;
      slots = rest.slots;
      left = λ _. quiet;
    }

-- The mask that begin looks at.
pub mask-is : (row : RowState) (event found : ℕ) → 0 < event → event ≤ length row.masks → found ≡ get_or row.masks (event - 1) found → found ≡ mask_of row event
mask-is row event found some within is =
    let e : suc (event - 1) ≡ event = omega arith in
    is ∙ get_or_default row.masks (event - 1) found 0 (omega arith) ∙ ap (mask_of row) e

-- A slot that was set, and the others.
other-slot : (row : RowState) (slots : List (Option Opening)) (slot s : ℕ) (value : Option Opening) → slots ≡ slice_set row.slots slot value → (s ≡ slot → ⊥) → get_or slots s None ≡ slot_of row s
other-slot row slots slot s value is ne =
    ap (λ (xs : List (Option Opening)). get_or xs s None) is ∙ get_or-set_other row.slots slot s value None ne

pub show-rests : (events : List EventDef) (configs : ℕ → Config) (writes : List Write) (row : RowState) (slot due : ℕ) (slots : List (Option Opening)) (opening now : Opening) → slot < 64 → RowAtRest events configs writes row → bit_at row.due slot ≡ 1 → slot_of row slot ≡ Some opening → now.from ≡ opening.from → now.shown ≡ opening.shown + 1 → ClearsBit slot row.due due → slots ≡ slice_set row.slots slot (Some now) → get_or slots slot None ≡ Some now → RowAtRest events configs writes (record row { due = due; slots = slots })
show-rests events configs writes row slot due slots opening now within rest was on from shown clears is set' =
    let same : (s : ℕ) → is_some (get_or slots s None) ≡ is_some (slot_of row s) =
    λ s.
    elim (cases_eq s slot) [
      | inl e ↦ ap (λ (k : ℕ). is_some (get_or slots k None)) e
          ∙ ap (is_some {T = Opening}) set'
          ∙ sym (ap (λ (k : ℕ). is_some (slot_of row k)) e ∙ ap (is_some {T = Opening}) on)
      | inr ne ↦ ap (is_some {T = Opening}) (other-slot row slots slot s (Some now) is ne)
    ]
    in
    let cleared : (s : ℕ) → s < 64 → s ≡ slot → bit_at due s ≡ 0 =
    λ s h e. clears s h ∙ ap (λ (v : Bool). if v then 0 else bit_at row.due s) (eq-eqb s slot e)
    in
    let kept : (s : ℕ) → s < 64 → (s ≡ slot → ⊥) → bit_at due s ≡ bit_at row.due s =
    λ s h ne. clears s h ∙ ap (λ (v : Bool). if v then 0 else bit_at row.due s) (ne_eqb s slot ne)
    in
    record {
      index = rest.index;
      few = rest.few;
      masks = λ place s p h. rest.masks place s p h ∙ ap (λ (v : Bool). one_if (v && gets events (configs s) place)) (sym (same s));
      due =
          λ s h one.
          elim (cases_eq s slot) [
            | inl e ↦ let z = cleared s h e in absurd (omega arith)
            | inr ne ↦ let d = rest.due s h (sym (kept s h ne) ∙ one) in (d.0, same s ∙ d.1, d.2)
          ];
      slots =
          λ s h o here.
          elim (cases_eq s slot) [
            | inl e ↦ let z = cleared s h e in
                let it : now ≡ o = same_Some now o (sym set' ∙ ap (λ (k : ℕ). get_or slots k None) (sym e) ∙ here) in
                let old = rest.slots slot within opening on in
                let P : Opening → Type 0 = λ x. OpenAtRest events (configs s) writes (bit_at due s) x in
                let conf : configs slot ≡ configs s = ap configs (sym e) in
                subst P it
                (record {
                  from = subst (λ (n : ℕ). n ≤ length writes) (sym from) old.from;
                  shown =
                      omega (arith, z, shown, was, old.shown)
                      ∙ ap (λ (n : ℕ). length (admitted_from events (Some (configs slot)) n writes)) (sym from)
                      ∙ ap (λ (c : Config). length (admitted_from events (Some c) now.from writes)) conf;
                })
            | inr ne ↦ let old = rest.slots s h o (sym (other-slot row slots slot s (Some now) is ne) ∙ here) in
                record { from = old.from; shown = ap (λ (n : ℕ). o.shown + n) (kept s h ne) ∙ old.shown }
          ];
      left = rest.left;
    }

pub open-rests : (events : List EventDef) (configs : ℕ → Config) (writes : List Write) (row : RowState) (slot : ℕ) (config : Config) (masks : List ℕ) (slots : List (Option Opening)) (now : Opening) → slot < 64 → length events ≡ length row.masks → RowAtRest events configs writes row → row.in_write ≡ false → now.from ≡ row.index → now.shown ≡ 0 → SetsBits slot (gets events config) row.masks masks → slots ≡ slice_set row.slots slot (Some now) → get_or slots slot None ≡ Some now → RowAtRest events (with_config configs slot config) writes (record row { masks = masks; slots = slots })
open-rests events configs writes row slot config masks slots now within count rest quiet from shown sets is set' =
    let mine : (s : ℕ) → s ≡ slot → with_config configs slot config s ≡ config =
    λ s e. ap (λ (v : Bool). if v then config else configs s) (eq-eqb s slot e)
    in
    let theirs : (s : ℕ) → (s ≡ slot → ⊥) → with_config configs slot config s ≡ configs s =
    λ s ne. ap (λ (v : Bool). if v then config else configs s) (ne_eqb s slot ne)
    in
    record {
      index = rest.index;
      few = rest.few;
      masks =
          λ place s p h.
          sets.bits place s (omega arith) h
          ∙ elim (cases_eq s slot) [
            | inl e ↦ ap (λ (v : Bool). if v then one_if (gets events config place) else bit_at (slice_index row.masks place) s) (eq-eqb s slot e)
                ∙ ap (λ (c : Config). one_if (gets events c place)) (sym (mine s e))
                ∙ ap (λ (v : Bool). one_if (v && gets events (with_config configs slot config s) place)) (sym (ap (λ (k : ℕ). is_some (get_or slots k None)) e ∙ ap (is_some {T = Opening}) set'))
            | inr ne ↦ ap (λ (v : Bool). if v then one_if (gets events config place) else bit_at (slice_index row.masks place) s) (ne_eqb s slot ne)
                ∙ rest.masks place s p h
                ∙ ap (λ (c : Config). one_if (is_some (slot_of row s) && gets events c place)) (sym (theirs s ne))
                ∙ ap (λ (o : Option Opening). one_if (is_some o && gets events (with_config configs slot config s) place)) (sym (other-slot row slots slot s (Some now) is ne))
          ];
      due = λ s h one. let z = quiet-bit events configs writes row s rest quiet h in absurd (omega arith);
      slots =
          λ s h o here.
          let z = quiet-bit events configs writes row s rest quiet h in
          elim (cases_eq s slot) [
            | inl e ↦ let it : now ≡ o = same_Some now o (sym set' ∙ ap (λ (k : ℕ). get_or slots k None) (sym e) ∙ here) in
                let P : Opening → Type 0 = λ x. OpenAtRest events (with_config configs slot config s) writes (bit_at row.due s) x in
                let at : now.from ≡ length writes = from ∙ rest.index in
                subst P it
                (record {
                  from = omega arith;
                  shown =
                      omega (arith, z, shown, admitted-none events (with_config configs slot config s) writes)
                      ∙ ap (λ (n : ℕ). length (admitted_from events (Some (with_config configs slot config s)) n writes)) (sym at);
                })
            | inr ne ↦ let old = rest.slots s h o (sym (other-slot row slots slot s (Some now) is ne) ∙ here) in
                record {
                  from = old.from;
                  shown = old.shown ∙ ap (λ (c : Config). length (admitted_from events (Some c) o.from writes)) (sym (theirs s ne));
                }
          ];
      left = rest.left;
    }

pub close-rests : (events : List EventDef) (configs : ℕ → Config) (writes : List Write) (row : RowState) (slot : ℕ) (masks : List ℕ) (slots : List (Option Opening)) → length events ≡ length row.masks → RowAtRest events configs writes row → row.in_write ≡ false → SetsBits slot (λ _. false) row.masks masks → slots ≡ slice_set row.slots slot None → get_or slots slot None ≡ None → RowAtRest events configs writes (record row { masks = masks; slots = slots })
close-rests events configs writes row slot masks slots count rest quiet sets is set' =
    record {
      index = rest.index;
      few = rest.few;
      masks =
          λ place s p h.
          sets.bits place s (omega arith) h
          ∙ elim (cases_eq s slot) [
            | inl e ↦ ap (λ (v : Bool). if v then one_if false else bit_at (slice_index row.masks place) s) (eq-eqb s slot e)
                ∙ ap (λ (v : Bool). one_if (v && gets events (configs s) place)) (sym (ap (λ (k : ℕ). is_some (get_or slots k None)) e ∙ ap (is_some {T = Opening}) set'))
            | inr ne ↦ ap (λ (v : Bool). if v then one_if false else bit_at (slice_index row.masks place) s) (ne_eqb s slot ne)
                ∙ rest.masks place s p h
                ∙ ap (λ (o : Option Opening). one_if (is_some o && gets events (configs s) place)) (sym (other-slot row slots slot s None is ne))
          ];
      due = λ s h one. let z = quiet-bit events configs writes row s rest quiet h in absurd (omega arith);
      slots =
          λ s h o here.
          elim (cases_eq s slot) [
            | inl e ↦ absurd (no_some o (sym set' ∙ ap (λ (k : ℕ). get_or slots k None) (sym e) ∙ here))
            | inr ne ↦ rest.slots s h o (sym (other-slot row slots slot s None is ne) ∙ here)
          ];
      left = rest.left;
    }
  where
    no_some : (o : Opening) → None ≡ Some o → ⊥
    no_some o e = cc

-- ---- a row that begins anew

-- Nothing is on where no bit is set and no slot is open.
anew : (events : List EventDef) (configs : ℕ → Config) (row : RowState) → row.index ≡ 0 → row.left ≡ false → ((place s : ℕ) → place < length events → s < 64 → bit_at (slice_index row.masks place) s ≡ 0) → ((s : ℕ) → s < 64 → bit_at row.due s ≡ 0) → ((s : ℕ) → s < 64 → is_some (slot_of row s) ≡ false) → RowAtRest events configs [] row
anew events configs row first stays bits seen off =
    record {
      index = first;
      few = omega arith;
      masks = λ place s p h. bits place s p h ∙ ap (λ (v : Bool). one_if (v && gets events (configs s) place)) (sym (off s h));
      due = λ s h one. let z = seen s h in absurd (omega arith);
      slots = λ s h o here. absurd (false≢true (sym (off s h) ∙ ap (is_some {T = Opening}) here));
      left = λ e. absurd (false≢true (sym stays ∙ e));
    }

pub new-rests : (events : List EventDef) (configs : ℕ → Config) (thread count : ℕ) → length events ≡ count → RowAtRest events configs [] (new_row thread count)
new-rests events configs thread count same =
    anew events configs (new_row thread count) refl refl
    (λ place s p h. ap (λ (m : ℕ). bit_at m s) (get_or-replicate count place 0 0 (omega arith)) ∙ bit_at-zero s)
    (λ s h. bit_at-zero s)
    (λ s h. ap (is_some {T = Opening}) (get_or-replicate 64 s None None h))

pub enter-rests : (events : List EventDef) (configs : ℕ → Config) (writes : List Write) (row : RowState) (thread : ℕ) → row.left ≡ true → All IsNone row.slots → RowAtRest events configs writes row → RowAtRest events configs [] (record row { thread = thread; index = 0; left = false })
enter-rests events configs writes row thread gone off rest =
    let none : (s : ℕ) → is_some (slot_of row s) ≡ false =
    λ s.
    elim (cases_lt s (length row.slots)) [
      | inl h ↦ All-get_or IsNone row.slots s None h off
      | inr h ↦ ap (is_some {T = Opening}) (past row.slots s h)
    ]
    in
    anew events configs (record row { thread = thread; index = 0; left = false }) refl refl
    (λ place s p h. rest.masks place s p h ∙ ap (λ (v : Bool). one_if (v && gets events (configs s) place)) (none s))
    (λ s h. quiet-bit events configs writes row s rest (rest.left gone) h)
    (λ s h. none s)
  where
    past : (slots : List (Option Opening)) (s : ℕ) → length slots ≤ s → get_or slots s None ≡ None
    past [] s h = refl
    past (slot ∷ slots) zero h = absurd (omega arith)
    past (slot ∷ slots) (suc s) h = past slots s (omega arith)
