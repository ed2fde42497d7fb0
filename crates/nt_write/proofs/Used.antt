-- The definitions of a stream are those that its entries use, and a writer has no id for any other.
use Rattle.std.proofs.Common.{◌≡◌, ℕ, suc, ◌+◌, ◌<◌, Bool, true, false, not, inl, inr, List, [], ◌∷◌, ◌++◌, Option, Some, None, map, refl, ap, sym, ◌∙◌, subst, arith, append_assoc}
use Rattle.std.specs.Prelude.{◌&&◌, ◌==◌, filter, unwrap_or, Contains}
use Rattle.std.specs.List.{list_any, position_from}
use Rattle.std.proofs.lemmas.Bool.{cases_Bool, ne_eqb}
use Rattle.std.proofs.lemmas.List.{append-nil}
use Rattle.std.proofs.lemmas.Option.{none-some}
use Rattle.std.proofs.lemmas.List.Elements.{filter_agree}
use Rattle.ep_defs.specs.declared.event.EventDef.{EventDef}
use Rattle.ep_defs.specs.declared.session.TraceInfo.{TraceInfo}
use Rattle.ep_defs.specs.Event.{is_same_event}
use Rattle.ep_defs.specs.Entry.{Entry, Event, Point}
use Rattle.ep_defs.proofs.Sameness.{event-means}
use Rattle.ep_rundown.specs.Rundown.{used}
use Rattle.nt_write.specs.declared.ids.IdTable.{IdTable}
use Rattle.nt_write.specs.declared.writer.TraceWriter.{TraceWriter}
use Rattle.nt_write.specs.Layout.{Layout, empty_layout, id_in, with_member, needs_flush, with_entry, with_entries, with_point}
use Rattle.nt_write.specs.Writing.{AreIds, id_at, numbers_in}
use Rattle.nt_write.specs.Writer.{Extends, IsWriting}
use Rattle.nt_write.proofs.Flushing.{flushed_if-definitions}

-- ---- lists

-- No place passes a test where no member does.
none-any : {A : Type 0} (test : A → Bool) (n : ℕ) (xs : List A) → 0 < n → (unwrap_or (position_from test n xs) 0 == 0) ≡ not (list_any test xs)
none-any test n [] low = refl
none-any test n (x ∷ xs) low =
    elim (cases_Bool (test x)) [
      | inl e ↦ rw e (ne_eqb n 0 (λ zero. omega (arith, low)))
      | inr e ↦ rw e (none-any test (n + 1) xs (omega arith))
    ]

-- What passes both tests.
filter-both : {A : Type 0} (p q : A → Bool) (xs : List A) → filter p (filter q xs) ≡ filter (λ x. q x && p x) xs
filter-both p q [] = refl
filter-both p q (x ∷ xs) =
    elim (cases_Bool (q x)) [
      | inl e ↦ rw e (elim (cases_Bool (p x)) [
        | inl f ↦ rw f (ap (λ ys. x ∷ ys) (filter-both p q xs))
        | inr f ↦ rw f (filter-both p q xs)
      ])
      | inr e ↦ rw e (filter-both p q xs)
    ]

-- What always passes is the list.
filter-all : {A : Type 0} (xs : List A) → filter (λ x. true) xs ≡ xs
filter-all [] = refl
filter-all (x ∷ xs) = ap (λ ys. x ∷ ys) (filter-all xs)

-- No member passes where none of the first does, nor the last one.
none-last : {A : Type 0} (test : A → Bool) (xs : List A) (x : A) → not (list_any test (xs ++ x ∷ [])) ≡ (not (test x) && not (list_any test xs))
none-last test [] x = elim (cases_Bool (test x)) [ inl e ↦ rw e refl | inr e ↦ rw e refl ]
none-last test (y ∷ xs) x =
    elim (cases_Bool (test y)) [
      | inl e ↦ rw e (elim (cases_Bool (test x)) [ inl f ↦ rw f refl | inr f ↦ rw f refl ])
      | inr e ↦ rw e (none-last test xs x)
    ]

-- ---- definitions

-- The test of sameness has no order.
same-either : (a b : EventDef) → is_same_event a b ≡ is_same_event b a
same-either a b =
    elim (cases_Bool (is_same_event a b)) [
      | inl e ↦ ap (λ (x : EventDef). is_same_event x b) (event-means a b e) ∙ ap (λ (x : EventDef). is_same_event b x) (sym (event-means a b e))
      | inr e ↦ elim (cases_Bool (is_same_event b a)) [
        | inl f ↦ ap (λ (x : EventDef). is_same_event a x) (event-means b a f) ∙ ap (λ (x : EventDef). is_same_event x a) (sym (event-means b a f))
        | inr f ↦ e ∙ sym f
      ]
    ]

-- The definition has no id yet.
abbrev is_new : List EventDef → EventDef → Bool
is_new definitions def = id_in is_same_event def definitions == 0

-- It is none of them.
new-any : (definitions : List EventDef) (def : EventDef) → is_new definitions def ≡ not (list_any (λ other. is_same_event def other) definitions)
new-any definitions def = none-any (λ other. is_same_event def other) 1 definitions (omega arith)

-- With one more it is another than that one.
new-last : (definitions : List EventDef) (last def : EventDef) → is_new (definitions ++ last ∷ []) def ≡ (not (is_same_event last def) && is_new definitions def)
new-last definitions last def =
    new-any (definitions ++ last ∷ []) def
    ∙ none-last (λ other. is_same_event def other) definitions last
    ∙ ap (λ (b : Bool). not b && not (list_any (λ other. is_same_event def other) definitions)) (same-either def last)
    ∙ ap (λ (b : Bool). not (is_same_event last def) && b) (sym (new-any definitions def))

-- Another that is new is none that is there.
new-other : (definitions : List EventDef) (known def : EventDef) → is_new definitions known ≡ false → (not (is_same_event known def) && is_new definitions def) ≡ is_new definitions def
new-other definitions known def there =
    elim (cases_Bool (is_same_event known def)) [
      | inl e ↦ rw e (sym there ∙ ap (λ (x : EventDef). is_new definitions x) (event-means known def e))
      | inr e ↦ rw e refl
    ]

-- What the first entry uses, and the others.
with-first : (definitions : List EventDef) (first : EventDef) (others : List EventDef) → with_member is_same_event definitions first ++ filter (is_new (with_member is_same_event definitions first)) others ≡ definitions ++ filter (is_new definitions) (first ∷ filter (λ def. not (is_same_event first def)) others)
with-first definitions first others =
    elim (cases_Bool (is_new definitions first)) [ inl e ↦ rw e (fresh e) | inr e ↦ rw e (known e) ]
  where
    fresh : is_new definitions first ≡ true → (definitions ++ first ∷ []) ++ filter (is_new (definitions ++ first ∷ [])) others ≡ definitions ++ first ∷ filter (is_new definitions) (filter (λ def. not (is_same_event first def)) others)
    fresh e =
        append_assoc definitions (first ∷ []) (filter (is_new (definitions ++ first ∷ [])) others)
        ∙ ap (λ (defs : List EventDef). definitions ++ first ∷ defs)
        (filter_agree (is_new (definitions ++ first ∷ [])) (λ def. not (is_same_event first def) && is_new definitions def) (new-last definitions first) others
        ∙ sym (filter-both (is_new definitions) (λ def. not (is_same_event first def)) others))

    known : is_new definitions first ≡ false → definitions ++ filter (is_new definitions) others ≡ definitions ++ filter (is_new definitions) (filter (λ def. not (is_same_event first def)) others)
    known e =
        ap (λ (defs : List EventDef). definitions ++ defs)
        (sym (filter-both (is_new definitions) (λ def. not (is_same_event first def)) others
        ∙ filter_agree (λ def. not (is_same_event first def) && is_new definitions def) (is_new definitions) (λ def. new-other definitions first def e) others))

-- The definitions with those that more entries use.
definitions-more : (layout : Layout) (entries : List Entry) → (with_entries layout entries).definitions ≡ layout.definitions ++ filter (is_new layout.definitions) (used entries)
definitions-more layout [] = sym (append-nil layout.definitions)
definitions-more layout (Event event ∷ entries) =
    definitions-more (with_entry layout (Event event)) entries
    ∙ ap (λ (defs : List EventDef). with_member is_same_event defs event.def ++ filter (is_new (with_member is_same_event defs event.def)) (used entries)) (flushed_if-definitions (needs_flush layout event) layout)
    ∙ with-first layout.definitions event.def (used entries)
definitions-more layout (Point point ∷ entries) = definitions-more (with_point layout point) entries

-- The definitions of a stream are those that its entries use.
pub definitions-used : (entries : List Entry) → (with_entries empty_layout entries).definitions ≡ used entries
definitions-used entries = definitions-more empty_layout entries ∙ filter-all (used entries)

-- ---- more definitions by number

-- What is none of them has no id.
id-absent : (def : EventDef) (n : ℕ) (definitions : List EventDef) → (Contains definitions def → ⊥) → unwrap_or (position_from (λ other. is_same_event def other) n definitions) 0 ≡ 0
id-absent def n [] none = refl
id-absent def n (other ∷ definitions) none =
    elim (cases_Bool (is_same_event def other)) [
      | inl e ↦ absurd (none (0, omega arith, sym (event-means def other e)))
      | inr e ↦ rw e (id-absent def (n + 1) definitions (λ c. none (suc c.0, omega (arith, c.1), c.2)))
    ]

-- Numbers stand for the same.
map-more : (defs more : ℕ → Option EventDef) → ((number : ℕ) (def : EventDef) → defs number ≡ Some def → more number ≡ Some def) → (numbers : List ℕ) (definitions : List EventDef) → map defs numbers ≡ map Some definitions → map more numbers ≡ map Some definitions
map-more defs more same [] definitions e = e
map-more defs more same (number ∷ numbers) [] e = absurd (clash (defs number) (map defs numbers) e)
  where
    clash : (d : Option EventDef) (ds : List (Option EventDef)) → d ∷ ds ≡ [] → ⊥
    clash d ds e = cc
map-more defs more same (number ∷ numbers) (def ∷ definitions) e =
    ap (λ (d : Option EventDef). d ∷ map more numbers) (same number def (head e))
    ∙ ap (λ (ds : List (Option EventDef)). Some def ∷ ds) (map-more defs more same numbers definitions (tail e))
  where
    head : {d f : Option EventDef} {ds fs : List (Option EventDef)} → d ∷ ds ≡ f ∷ fs → d ≡ f
    head e = cc

    tail : {d f : Option EventDef} {ds fs : List (Option EventDef)} → d ∷ ds ≡ f ∷ fs → ds ≡ fs
    tail e = cc

-- The ids are those of more definitions too.
ids-more : (defs more : ℕ → Option EventDef) (definitions : List EventDef) (ids : IdTable) → Extends definitions defs more → AreIds defs definitions ids → AreIds more definitions ids
ids-more defs more definitions ids e h =
    record {
      used = h.used;
      id_is = λ number def at. known number def at (defs number) refl;
      none_is = λ number none. h.none_is number (undefined number none (defs number) refl);
      numbers = map-more defs more e.same (numbers_in ids) definitions h.numbers;
    }
  where
    known : (number : ℕ) (def : EventDef) → more number ≡ Some def → (found : Option EventDef) → defs number ≡ found → id_at ids number ≡ id_in is_same_event def definitions
    known number def at None none = h.none_is number none ∙ sym (id-absent def 1 definitions (e.new number def none at))
    known number def at (Some d) is = h.id_is number def (is ∙ sym (e.same number d is) ∙ at)

    undefined : (number : ℕ) → more number ≡ None → (found : Option EventDef) → defs number ≡ found → defs number ≡ None
    undefined number none None is = is
    undefined number none (Some d) is = absurd (none-some d (sym none ∙ e.same number d is))

-- A writer of events of some definitions is one of events of more.
pub writing-of-more : {S : Type 0} (tells : S → Bool) (taken : S → List ℕ) (before : List ℕ) (defs more : ℕ → Option EventDef) (info : TraceInfo) (entries : List Entry) (writer : TraceWriter S) → IsWriting tells taken before defs info entries writer → Extends (used entries) defs more → IsWriting tells taken before more info entries writer
writing-of-more tells taken before defs more info entries writer h e =
    record {
      sound = h.sound;
      at =
          record {
            kept = record {
              output = h.at.kept.output;
              pending = h.at.kept.pending;
              ids = ids-more defs more (with_entries empty_layout entries).definitions writer.ids
                  (subst (λ (ds : List EventDef). Extends ds defs more) (sym (definitions-used entries)) e) h.at.kept.ids;
              flushes = h.at.kept.flushes;
            };
            known = h.at.known;
            few = h.at.few;
          };
      framed_are = h.framed_are;
      info_fits = h.info_fits;
      can_tell = h.can_tell;
      stacks_fit = h.stacks_fit;
    }
