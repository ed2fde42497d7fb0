-- What a point tells of the threads that a session keeps by name.
use Rattle.std.proofs.Common.{◌≡◌, ℕ, ◌^◌, ◌<◌, true, inl, inr, List, [], ◌∷◌, ◌++◌, map, filter, Option, Some, None, refl, ap, sym, ◌∙◌, subst}
use Rattle.std.specs.Prelude.{◌==◌}
use Rattle.std.specs.List.{last_or, list_any}
use Rattle.std.proofs.lemmas.Bool.{cases_Bool, eq-eqb}
use Rattle.std.proofs.lemmas.List.{append-nil}
use Rattle.ep_defs.specs.declared.session.Marks.{Marks}
use Rattle.ep_defs.specs.Entry.{Entry, Point}
use Rattle.ep_defs.specs.Gaps.{sightings, missing}
use Rattle.ep_model.proofs.Finished.{all_filtered}
use Rattle.ep_model.proofs.Lists.{any_kept}
use Rattle.ep_model.proofs.Numbers.{knowns, knowns-none, knowns-some, knowns-last}
use Rattle.ep_model.proofs.Told.{any_dropped}
use Rattle.ep_slot.specs.Hand.{HandState}
use Rattle.ep_stream_laws.proofs.Lists.{filter-mapped, filter-both, map-mapped}
use Rattle.nt_write.specs.Writer.{point_of}
use Rattle.ep_stream.specs.declared.opened.Named.{Named}
use Rattle.ep_stream.specs.Named.{still_open, numbers_of}
use Rattle.ep_live_laws.specs.Tracing.{Account, IsHeld, IsOneOf, TellsAll, TellsPart, Traces, Watch, name_by}
use Rattle.ep_live_laws.proofs.Accounts.{with_point}
use Rattle.ep_live_laws.proofs.All.{all-other, all-pointed, all-same}
use Rattle.ep_live_laws.proofs.Part.{part-pointed}

-- The threads that the next point names.
abbrev pub named_to : (ℕ → Account) → List ℕ → List ℕ
named_to accounts opened = filter (λ t. (accounts t).is_named) opened

-- The numbers that a point gives the threads.
abbrev told_by : (ℕ → Account) → ℕ → ℕ
told_by accounts t = (accounts t).last

numbers-are : (accounts : ℕ → Account) (opened : List ℕ) (named : List Named) → named ≡ map (name_by accounts) (named_to accounts opened)
    → numbers_of named ≡ map (λ t. (t, told_by accounts t)) (named_to accounts opened)
numbers-are accounts opened named are = ap numbers_of are ∙ map-mapped (λ (n : Named). (n.thread, n.number)) (name_by accounts) (named_to accounts opened)

-- A point of these numbers.
abbrev point_by : (ℕ → Account) → List ℕ → ℕ → Entry
point_by accounts opened stamp = Point (point_of stamp (map (λ t. (t, told_by accounts t)) (named_to accounts opened)))

sightings-are : (accounts : ℕ → Account) (opened : List ℕ) (stamp thread : ℕ) → sightings thread (point_by accounts opened stamp ∷ []) ≡ knowns (told_by accounts) thread (named_to accounts opened)
sightings-are accounts opened stamp thread = append-nil (knowns (told_by accounts) thread (named_to accounts opened))

-- All that was taken of a thread was told, also behind the point.
all-behind : (accounts : ℕ → Account) (opened : List ℕ) (stamp thread : ℕ) (told : List Entry) → IsOneOf opened thread → (accounts thread).last < 2 ^ 32 → ((accounts thread).is_open ≡ true → (accounts thread).is_named ≡ true) → TellsAll thread (accounts thread) told
    → TellsAll thread (with_point accounts thread) (told ++ point_by accounts opened stamp ∷ [])
all-behind accounts opened stamp thread told row few open_named h =
    let are = sightings-are accounts opened stamp thread in
    elim (cases_Bool (accounts thread).is_named) [
      | inl there ↦
          let any : list_any (λ t. t == thread) (named_to accounts opened) ≡ true = any_kept (λ t. (accounts t).is_named) (λ t. t == thread) thread opened there (eq-eqb thread thread refl) row in
          all-pointed thread (accounts thread) (with_point accounts thread) told (point_of stamp (map (λ t. (t, told_by accounts t)) (named_to accounts opened)))
          (λ seen skipped later on. ap (λ ss. missing seen (ss ++ later)) are ∙ knowns-some (told_by accounts) thread seen skipped (named_to accounts opened) later any on few)
          (λ before. ap (λ ss. last_or before ss) are ∙ knowns-last (told_by accounts) thread (named_to accounts opened) before any)
          refl refl h
      | inr out ↦
          let none = any_dropped (λ t. (accounts t).is_named) thread out opened in
          let shut : (accounts thread).is_open ≡ (accounts thread).is_named =
          elim (cases_Bool (accounts thread).is_open) [ inl is ↦ is ∙ sym (open_named is) | inr off ↦ off ∙ sym out ] in
          all-same thread (accounts thread) (with_point accounts thread) (told ++ point_by accounts opened stamp ∷ []) refl refl shut
          (all-other thread (accounts thread) told (point_by accounts opened stamp ∷ []) refl (are ∙ knowns-none (told_by accounts) thread (named_to accounts opened) none) h)
    ]

-- The threads on which the session is still open.
still-open : (accounts : ℕ → Account) (opened : List ℕ) (named : List Named) → ((thread : ℕ) → (accounts thread).is_open ≡ true → (accounts thread).is_named ≡ true)
    → named ≡ map (name_by accounts) (named_to accounts opened) → still_open named ≡ map (name_by accounts) (filter (λ t. (accounts t).is_open) opened)
still-open accounts opened named open_named are =
    ap still_open are
    ∙ filter-mapped (λ (n : Named). n.is_open) (name_by accounts) (named_to accounts opened)
    ∙ ap (map (name_by accounts)) (filter-both (λ t. (accounts t).is_open) (λ t. (accounts t).is_named) opened open_named)

-- A row has its hand as before.
held-behind : (home : ℕ → ℕ) (opened : List ℕ) (accounts : ℕ → Account) (row : ℕ) (hand : Option HandState) → IsHeld home opened accounts row hand → IsHeld home opened (with_point accounts) row hand
held-behind home opened accounts row None held = held
held-behind home opened accounts row (Some hand) held =
    record { is_opened = held.is_opened; row_is = held.row_is; is_open = held.is_open; alone = held.alone; from = held.from; taken = held.taken; last = held.last }

-- The threads that the next point names, where a session forgot those on which it is closed.
abbrev pub AreNamedOpen : {watch : Watch} {opened : List ℕ} {Sound : Type 0} {hands : ℕ → Option HandState} {named : List Named} {marks : List Marks} {told : List Entry} → Traces watch opened Sound hands named marks told → Type 0
AreNamedOpen h = (t : ℕ) → (h.accounts t).is_named ≡ (h.accounts t).is_open

-- What a point says is told of the threads that the session keeps by name, and it keeps those on which it is open.
pub pointed : (watch : Watch) (opened : List ℕ) (Sound : Type 0) (hands : ℕ → Option HandState) (named : List Named) (marks : List Marks) (told : List Entry) (stamp : ℕ)
    → Traces watch opened Sound hands named marks told
    → (h : Traces watch opened Sound hands (still_open named) marks (told ++ Point (point_of stamp (numbers_of named)) ∷ [])) × AreNamedOpen h
pointed watch opened Sound hands named marks told stamp h =
    let accounts = h.accounts in
    let numbers = numbers-are accounts opened named h.keeps.named_are in
    let Is : List (ℕ × ℕ) → Type 0 = λ ns. (h : Traces watch opened Sound hands (still_open named) marks (told ++ Point (point_of stamp ns) ∷ [])) × AreNamedOpen h in
    let part = part-pointed watch opened accounts told (point_of stamp (map (λ t. (t, told_by accounts t)) (named_to accounts opened)))
    (all_filtered (λ t. (accounts t).is_named) (told_by accounts) opened opened (λ t is. is)) h.part in
    let behind : Traces watch opened Sound hands (still_open named) marks (told ++ point_by accounts opened stamp ∷ []) =
    record {
      accounts = with_point accounts;
      keeps = record {
        ascending = h.keeps.ascending;
        held = λ row. held-behind watch.home opened accounts row (hands row) (h.keeps.held row);
        named_are = still-open accounts opened named h.keeps.open_named h.keeps.named_are;
        marks_are = h.keeps.marks_are;
        open_named = λ thread is. is;
        within = h.keeps.within;
        counted = h.keeps.counted;
      };
      part = record { rising = part.rising; in_place = part.in_place; few = part.few; alone = part.alone };
      all = λ sound thread row few. all-behind accounts opened stamp thread told row few (h.keeps.open_named thread) (h.all sound thread row few);
    } in
    subst Is (sym numbers) (behind, λ t. refl)

-- What a point says speaks of the threads on which the session was opened.
pub pointed-part : (watch : Watch) (opened : List ℕ) (Sound : Type 0) (hands : ℕ → Option HandState) (named : List Named) (marks : List Marks) (told : List Entry) (stamp : ℕ)
    → (h : Traces watch opened Sound hands named marks told)
    → TellsPart watch opened h.accounts (told ++ Point (point_of stamp (numbers_of named)) ∷ [])
pointed-part watch opened Sound hands named marks told stamp h =
    let accounts = h.accounts in
    let Is : List (ℕ × ℕ) → Type 0 = λ ns. TellsPart watch opened accounts (told ++ Point (point_of stamp ns) ∷ []) in
    subst Is (sym (numbers-are accounts opened named h.keeps.named_are))
    (part-pointed watch opened accounts told (point_of stamp (map (λ t. (t, told_by accounts t)) (named_to accounts opened)))
    (all_filtered (λ t. (accounts t).is_named) (told_by accounts) opened opened (λ t is. is)) h.part)
