-- Which definitions are used.
use Rattle.std.proofs.Common.{◌≡◌, ◌≢◌, ℕ, zero, suc, ◌<◌, Bool, true, false, not, ◌⊎◌, inl, inr, List, [], ◌∷◌, ◌++◌, length, refl, ap, sym, ◌∙◌, arith, subst}
use Rattle.std.specs.Prelude.{slice_index_or, filter, Contains, All, AllPairs, Any}
use Rattle.std.proofs.lemmas.Bool.{cases_Bool, true≢false}
use Rattle.std.proofs.lemmas.List.Elements.{filter_passes, All-weaker}
use Rattle.std.proofs.lemmas.List.Kept.{AllPairs-cons, AllPairs-filter}
use Rattle.ep_defs.specs.declared.event.EventDef.{EventDef}
use Rattle.ep_defs.specs.Entry.{EventEntry, Entry, Event, Point}
use Rattle.ep_defs.specs.Event.{is_same_event}
use Rattle.ep_defs.proofs.Sameness.{event-means, event-itself}
use Rattle.ep_rundown.specs.Rundown.{used, Names}

-- ---- lists

-- An element stands in front or behind.
contains-cases : {A : Type 0} (y : A) (xs : List A) (x : A) → Contains (y ∷ xs) x → (y ≡ x) ⊎ Contains xs x
contains-cases y xs x (zero, low, is) = inl is
contains-cases y xs x (suc k, low, is) = inr (k, omega (arith, low), is)

-- What stands behind stands in the list.
contains-later : {A : Type 0} (y : A) (xs : List A) (x : A) → Contains xs x → Contains (y ∷ xs) x
contains-later y xs x (k, low, is) = (suc k, omega (arith, low), is)

-- What is kept was there.
contains-filtered : {A : Type 0} (test : A → Bool) (xs : List A) (x : A) → Contains (filter test xs) x → Contains xs x
contains-filtered test [] x h = h
contains-filtered test (y ∷ xs) x h =
    elim (cases_Bool (test y)) [
      | inl e ↦ elim (contains-cases y (filter test xs) x (rw e at h)) [
        | inl is ↦ (0, omega arith, is)
        | inr later ↦ contains-later y xs x (contains-filtered test xs x later)
      ]
      | inr e ↦ contains-later y xs x (contains-filtered test xs x (rw e at h))
    ]

-- What passes is kept.
contains-kept : {A : Type 0} (test : A → Bool) (xs : List A) (x : A) → test x ≡ true → Contains xs x → Contains (filter test xs) x
contains-kept test [] x passes h = h
contains-kept test (y ∷ xs) x passes h =
    elim (cases_Bool (test y)) [
      | inl e ↦ rw e (elim (contains-cases y xs x h) [
        | inl is ↦ (0, omega arith, is)
        | inr later ↦ contains-later y (filter test xs) x (contains-kept test xs x passes later)
      ])
      | inr e ↦ rw e (elim (contains-cases y xs x h) [
        | inl is ↦ absurd (true≢false (sym passes ∙ ap test (sym is) ∙ e))
        | inr later ↦ contains-kept test xs x passes later
      ])
    ]

-- ---- definitions

-- One that the test tells from another is another.
tells-apart : (a b : EventDef) → not (is_same_event a b) ≡ true → a ≢ b
tells-apart a b h e = true≢false (sym h ∙ ap not (ap (λ (x : EventDef). is_same_event a x) (sym e) ∙ event-itself a))

-- No definition is used twice.
pub used-once : (entries : List Entry) → AllPairs (λ a b. a ≢ b) (used entries)
used-once [] = λ i j d low high. absurd (omega arith)
used-once (Event event ∷ entries) =
    let others : EventDef → Bool = λ def. not (is_same_event event.def def) in
    AllPairs-cons (λ a b. a ≢ b) event.def (filter others (used entries))
    (All-weaker (λ def. others def ≡ true) (λ def. event.def ≢ def) (tells-apart event.def) (filter others (used entries)) (filter_passes others (used entries)))
    (AllPairs-filter (λ a b. a ≢ b) others (used entries) (used-once entries))
used-once (Point point ∷ entries) = used-once entries

-- What stands behind an entry holds in the list with it.
any-later : (P : Entry → Type 0) (entry : Entry) (entries : List Entry) → Any P entries → Any P (entry ∷ entries)
any-later P entry entries (k, x, low, is, holds) = (suc k, x, omega (arith, low), is, holds)

-- A definition that is used is one that an event names.
pub used-named : (entries : List Entry) (def : EventDef) → Contains (used entries) def → Any (Names def) entries
used-named [] def (k, low, is) = absurd (omega (arith, low))
used-named (Event event ∷ entries) def h =
    let others : EventDef → Bool = λ d. not (is_same_event event.def d) in
    elim (contains-cases event.def (filter others (used entries)) def h) [
      | inl is ↦ (0, Event event, omega arith, refl, is)
      | inr later ↦ any-later (Names def) (Event event) entries (used-named entries def (contains-filtered others (used entries) def later))
    ]
used-named (Point point ∷ entries) def h = any-later (Names def) (Point point) entries (used-named entries def h)

-- A definition that an event names is used.
pub named-used : (entries : List Entry) (def : EventDef) → Any (Names def) entries → Contains (used entries) def
named-used [] def (k, x, low, is, names) = absurd (omega (arith, low))
named-used (Event event ∷ entries) def (zero, x, low, is, names) = (0, omega arith, subst (Names def) (sym is) names)
named-used (Event event ∷ entries) def (suc k, x, low, is, names) =
    let others : EventDef → Bool = λ d. not (is_same_event event.def d) in
    let later : Contains (used entries) def = named-used entries def (k, x, omega (arith, low), is, names) in
    elim (cases_Bool (is_same_event event.def def)) [
      | inl same ↦ (0, omega arith, event-means event.def def same)
      | inr differs ↦ contains-later event.def (filter others (used entries)) def (contains-kept others (used entries) def (ap not differs) later)
    ]
named-used (Point point ∷ entries) def (zero, x, low, is, names) = absurd (subst (Names def) (sym is) names)
named-used (Point point ∷ entries) def (suc k, x, low, is, names) = named-used entries def (k, x, omega (arith, low), is, names)
