-- Which write a record was made of.
use Rattle.std.proofs.Common.{◌≡◌, ℕ, suc, ◌+◌, ◌-◌, ◌≤◌, Bool, true, false, List, [], ◌∷◌, ◌++◌, length, drop, Some, refl, ap, sym, ◌∙◌, subst, arith, inl, inr, append_assoc, length-append}
use Rattle.std.specs.Prelude.{slice_get, filter, if◌then◌else◌}
use Rattle.std.specs.List.{All}
use Rattle.std.proofs.lemmas.Bool.{cases_lt}
use Rattle.std.proofs.lemmas.List.{drop-append-le, drop_all}
use Rattle.std.proofs.lemmas.List.Elements.{filter-append, All-push}
use Rattle.std.proofs.lemmas.Option.{same_Some, none-some}
use Rattle.ep_defs.specs.declared.event.EventDef.{EventDef}
use Rattle.ep_defs.specs.declared.session.Config.{Config}
use Rattle.ep_defs.specs.declared.session.Write.{Write}
use Rattle.ep_model.specs.History.{admits_write, admitted_from}
use Rattle.ep_slot.specs.Slot.{SlotState, recorded, with_record, with_refusal}
use Rattle.ep_row.specs.AtRest.{IsNumbered, SlotAtRest}

-- A list by its last member.
record Ended (writes : List Write) (write : Write) : Type 0 where
  front : List Write
  is : writes ≡ front ++ write ∷ []

ended : (writes : List Write) (write : Write) → slice_get writes (length writes - 1) ≡ Some write → Ended writes write
ended [] write h = absurd (none-some write h)
ended (first ∷ []) write h = record { front = []; is = ap (λ (w : Write). w ∷ []) (same_Some first write h) }
ended (first ∷ next ∷ writes) write h =
    let len : length (first ∷ next ∷ writes) - 1 ≡ suc (length (next ∷ writes) - 1) = omega arith in
    let later = ended (next ∷ writes) write (sym (ap (slice_get (first ∷ next ∷ writes)) len) ∙ h) in
    record { front = first ∷ later.front; is = ap (λ (xs : List Write). first ∷ xs) later.is }

at_end : (front rest : List Write) (write : Write) → slice_get (front ++ write ∷ rest) (length front) ≡ Some write
at_end [] rest write = refl
at_end (first ∷ front) rest write = at_end front rest write

-- The last of the writes so far, which the session gets, is the last that is numbered.
last-numbered : (events : List EventDef) (config : Config) (from used : ℕ) (writes more : List Write) (write : Write) → slice_get writes (length writes - 1) ≡ Some write → admits_write events (Some config) write ≡ true → from ≤ length writes → used + 1 ≡ length (admitted_from events (Some config) from writes) → slice_get (admitted_from events (Some config) from (writes ++ more)) used ≡ Some write
last-numbered events config from used writes more write last gets within count =
    let p : Write → Bool = λ w. admits_write events (Some config) w in
    let e = ended writes write last in
    let front = e.front in
    elim (cases_lt (length front) from) [
      | inl past ↦ let none : drop from writes ≡ [] = drop_all from writes (omega (arith, ap (length {A = Write}) e.is, length-append front (write ∷ []))) in
          let zero' : length (admitted_from events (Some config) from writes) ≡ 0 = ap (λ (xs : List Write). length (filter p xs)) none in
          absurd (omega arith)
      | inr early ↦ let so_far : filter p (drop from writes) ≡ filter p (drop from front) ++ write ∷ [] =
          ap (λ (xs : List Write). filter p (drop from xs)) e.is
          ∙ ap (filter p) (drop-append-le from front (write ∷ []) early)
          ∙ filter-append p (drop from front) (write ∷ [])
          ∙ ap (λ (xs : List Write). filter p (drop from front) ++ xs) (ap (λ (v : Bool). if v then write ∷ [] else []) gets)
          in
          let whole : filter p (drop from (writes ++ more)) ≡ filter p (drop from front) ++ write ∷ filter p more =
          ap (filter p) (drop-append-le from writes more within)
          ∙ filter-append p (drop from writes) more
          ∙ ap (λ (xs : List Write). xs ++ filter p more) so_far
          ∙ append_assoc (filter p (drop from front)) (write ∷ []) (filter p more)
          in
          let place : used ≡ length (filter p (drop from front)) =
          omega (arith, count, ap (length {A = Write}) so_far, length-append (filter p (drop from front)) (write ∷ []))
          in
          ap (λ (xs : List Write). slice_get xs used) whole
          ∙ ap (slice_get (filter p (drop from front) ++ write ∷ filter p more)) place
          ∙ at_end (filter p (drop from front)) (filter p more) write
    ]

-- A record of the last write is numbered.
pub recorded-rests : (events : List EventDef) (config : Config) (writes more : List Write) (slot : SlotState) (stamp : ℕ) (write : Write) → slice_get writes (length writes - 1) ≡ Some write → admits_write events (Some config) write ≡ true → slot.from ≤ length writes → slot.used + 1 ≡ length (admitted_from events (Some config) slot.from writes) → SlotAtRest events config (writes ++ more) slot → All (IsNumbered events config (writes ++ more) slot.from) (slot.records ++ recorded slot stamp write ∷ [])
recorded-rests events config writes more slot stamp write last gets within count rest =
    let place : slot.used + 1 - 1 ≡ slot.used = omega arith in
    let is : IsNumbered events config (writes ++ more) slot.from (recorded slot stamp write) =
    ap (slice_get (admitted_from events (Some config) slot.from (writes ++ more))) place
    ∙ last-numbered events config slot.from slot.used writes more write last gets within count
    in
    All-push (IsNumbered events config (writes ++ more) slot.from) slot.records (recorded slot stamp write) rest is

-- Whatever came of the write, the slot stays at rest.
pub shown-rests : (refuses : Bool) (events : List EventDef) (config : Config) (writes more : List Write) (old new : SlotState) (stamp : ℕ) (write : Write) → new ≡ (if refuses then with_refusal old else with_record old stamp write) → slice_get writes (length writes - 1) ≡ Some write → admits_write events (Some config) write ≡ true → old.from ≤ length writes → old.used + 1 ≡ length (admitted_from events (Some config) old.from writes) → SlotAtRest events config (writes ++ more) old → SlotAtRest events config (writes ++ more) new
shown-rests refuses events config writes more old new stamp write is last gets within count rest =
    subst (SlotAtRest events config (writes ++ more)) (sym is)
    (elim refuses as (λ v. SlotAtRest events config (writes ++ more) (if v then with_refusal old else with_record old stamp write)) [
      | true ↦ rest
      | false ↦ recorded-rests events config writes more old stamp write last gets within count rest
    ])
