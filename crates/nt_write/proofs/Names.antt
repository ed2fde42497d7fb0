-- What items tell, one after another, and what their ids stand for.
use Rattle.std.proofs.Common.{◌≡◌, ℕ, suc, ◌+◌, ◌<◌, ◌≤◌, Bool, true, List, [], ◌∷◌, ◌++◌, length, Option, Some, None, Result, Ok, refl, ap, sym, ◌∙◌, inl, inr, arith, subst, length-append, append_assoc}
use Rattle.std.specs.Prelude.{unwrap_or, ◌⊎◌}
use Rattle.std.specs.List.{position_from}
use Rattle.std.proofs.lemmas.Bool.{cases_Bool, eq-eqb, ne_eqb}
use Rattle.ep_defs.specs.declared.event.EventDef.{EventDef}
use Rattle.ep_defs.specs.declared.item.ItemKind.{ItemKind}
use Rattle.ep_defs.specs.Entry.{EventEntry, Entry, Event}
use Rattle.nt_blocks.specs.Ordered.{Disorder, Names, lookup, stack_of, tell, names_after, told_after}
use Rattle.pt_num.specs.Steps.{◌>>=◌}
use Rattle.nt_write.specs.Layout.{event_draft, id_in, with_member}
use Rattle.nt_write.proofs.BlobBodies.{event_kind, meta_kinds}
use Rattle.nt_write.proofs.BlockSteps.{stack_kinds}

-- ---- reading

-- The kinds tell these entries after some names, and leave others.
abbrev pub Tells : Names → List ItemKind → List Entry → Names → Type 0
Tells names [] entries left = (entries ≡ []) × (names ≡ left)
Tells names (kind ∷ kinds) entries left =
    (first rest : List Entry) × (tell names kind ≡ Ok first) × Tells (names_after names kind) kinds rest left × (entries ≡ first ++ rest)

-- What is told by one list of kinds after another.
pub tells-append : (names : Names) (kinds more : List ItemKind) (entries others : List Entry) (mid left : Names) → Tells names kinds entries mid → Tells mid more others left → Tells names (kinds ++ more) (entries ++ others) left
tells-append names [] more entries others mid left h g =
    subst (λ (n : Names). Tells n more (entries ++ others) left) (sym h.1) (subst (λ (es : List Entry). Tells mid more (es ++ others) left) (sym h.0) g)
tells-append names (kind ∷ kinds) more entries others mid left h g =
    (h.0, h.1 ++ others, h.2, tells-append (names_after names kind) kinds more h.1 others mid left h.3 g, ap (λ (es : List Entry). es ++ others) h.4 ∙ append_assoc h.0 h.1 others)

-- One kind and then the others.
pub told-cons : (a b : Result (List Entry) Disorder) (x y : List Entry) → a ≡ Ok x → b ≡ Ok y → (a >>= (λ first. b >>= (λ rest. Ok (first ++ rest)))) ≡ Ok (x ++ y)
told-cons a b x y e f = rw (e, f) refl

-- What kinds tell is what a reader finds in them.
pub told-is : (names : Names) (kinds : List ItemKind) (entries : List Entry) (left : Names) → Tells names kinds entries left → told_after names kinds ≡ Ok entries
told-is names [] entries left h = ap (λ (es : List Entry). Ok es) (sym h.0)
told-is names (kind ∷ kinds) entries left h = told-cons (tell names kind) (told_after (names_after names kind) kinds) h.0 h.1 h.2 (told-is (names_after names kind) kinds h.1 left h.3) ∙ ap (λ (es : List Entry). Ok es) (sym h.4)

-- ---- names

-- What ids stand for, once these are named one after another from this id on.
abbrev pub named : {A : Type 0} → ℕ → List A → List (ℕ × A) → List (ℕ × A)
named id [] names = names
named id (x ∷ xs) names = named (id + 1) xs ((id, x) ∷ names)

-- The look-up of an id passes over the others.
lookup-other : {A : Type 0} (id n : ℕ) (x : A) (names : List (ℕ × A)) → (n ≡ id → ⊥) → lookup id ((n, x) ∷ names) ≡ lookup id names
lookup-other id n x names h = rw (ne_eqb n id h) refl

-- The look-up finds an id that is in front.
lookup-same : {A : Type 0} (id n : ℕ) (x : A) (names : List (ℕ × A)) → n ≡ id → lookup id ((n, x) ∷ names) ≡ Some x
lookup-same id n x names h = rw (eq-eqb n id h) refl

-- Later names leave the ids before them.
pub lookup-below : {A : Type 0} (id n : ℕ) (xs : List A) (names : List (ℕ × A)) → id < n → lookup id (named n xs names) ≡ lookup id names
lookup-below id n [] names h = refl
lookup-below id n (x ∷ xs) names h = lookup-below id (n + 1) xs ((n, x) ∷ names) (omega arith) ∙ lookup-other id n x names (λ e. omega arith)

-- Earlier names have no id after theirs.
pub lookup-above : {A : Type 0} (id n : ℕ) (xs : List A) (names : List (ℕ × A)) → n + length xs ≤ id → lookup id (named n xs names) ≡ lookup id names
lookup-above id n [] names h = refl
lookup-above id n (x ∷ xs) names h = lookup-above id (n + 1) xs ((n, x) ∷ names) (omega arith) ∙ lookup-other id n x names (λ e. omega arith)

-- What is named in one list after another.
pub named-append : {A : Type 0} (n : ℕ) (xs ys : List A) (names : List (ℕ × A)) → named n (xs ++ ys) names ≡ named (n + length xs) ys (named n xs names)
named-append n [] ys names = rw (zero-right n) refl
  where
    zero-right : (n : ℕ) → n + 0 ≡ n
    zero-right n = omega arith
named-append n (x ∷ xs) ys names = named-append (n + 1) xs ys ((n, x) ∷ names) ∙ ap (λ (k : ℕ). named k ys (named (n + 1) xs ((n, x) ∷ names))) (shift n (length xs))
  where
    shift : (n k : ℕ) → n + 1 + k ≡ n + suc k
    shift n k = omega arith

-- The id stands for this member of a list whose ids begin at 1.
pub record IsNumbered {A : Type 0} (xs : List A) (id : ℕ) (x : A) : Type 0 where
  pub some : 0 < id
  pub few : id ≤ length xs
  pub found : lookup id (named 1 xs []) ≡ Some x

-- More members leave the ids of those before them.
pub numbered-more : {A : Type 0} (xs more : List A) (id : ℕ) (x : A) → IsNumbered xs id x → IsNumbered (xs ++ more) id x
numbered-more {A} xs more id x h = record {
  some = h.some;
  few = omega (arith, h.few, length-append xs more);
  found = ap (λ (names : List (ℕ × A)). lookup id names) (named-append 1 xs more []) ∙ lookup-below id (1 + length xs) more (named 1 xs []) (omega (arith, h.few)) ∙ h.found;
}

-- A member at the end has the next id.
numbered-last : {A : Type 0} (xs : List A) (x : A) → IsNumbered (xs ++ x ∷ []) (1 + length xs) x
numbered-last {A} xs x = record {
  some = omega arith;
  few = omega (arith, length-append xs (x ∷ []));
  found = ap (λ (names : List (ℕ × A)). lookup (1 + length xs) names) (named-append 1 xs (x ∷ []) []) ∙ lookup-same (1 + length xs) (1 + length xs) x (named 1 xs []) refl;
}

-- ---- members

-- The id at which a test passes first: what it stands for passes.
record IsAt {A : Type 0} (test : A → Bool) (n : ℕ) (xs : List A) (names : List (ℕ × A)) (id : ℕ) : Type 0 where
  pub low : n ≤ id
  pub high : id < n + length xs
  pub value : A
  pub found : lookup id (named n xs names) ≡ Some value
  pub passes : test value ≡ true

-- Where there is an id, it is that of the first member that passes.
abbrev IsPlace : {A : Type 0} → (A → Bool) → ℕ → List A → List (ℕ × A) → Option ℕ → Type 0
IsPlace test n xs names None = Unit {0}
IsPlace test n xs names (Some id) = IsAt test n xs names id

-- A place in the rest of a list is one in the list.
at-later : {A : Type 0} (test : A → Bool) (n : ℕ) (x : A) (xs : List A) (names : List (ℕ × A)) (o : Option ℕ) → IsPlace test (n + 1) xs ((n, x) ∷ names) o → IsPlace test n (x ∷ xs) names o
at-later test n x xs names None h = tt
at-later test n x xs names (Some id) h = record { low = omega (arith, h.low); high = omega (arith, h.high); value = h.value; found = h.found; passes = h.passes }

-- The place that is searched for.
place-is : {A : Type 0} (test : A → Bool) (n : ℕ) (xs : List A) (names : List (ℕ × A)) → IsPlace test n xs names (position_from test n xs)
place-is test n [] names = tt
place-is test n (x ∷ xs) names =
    elim (cases_Bool (test x)) [
      | inl e ↦ rw e (record { low = omega arith; high = omega arith; value = x; found = lookup-below n (n + 1) xs ((n, x) ∷ names) (omega arith) ∙ lookup-same n n x names refl; passes = e })
      | inr e ↦ rw e (at-later test n x xs names (position_from test (n + 1) xs) (place-is test (n + 1) xs ((n, x) ∷ names)))
    ]

-- Where no member passes, the one at the end is the first that does.
place-last : {A : Type 0} (test : A → Bool) (n : ℕ) (xs : List A) (x : A) → position_from test n xs ≡ None → test x ≡ true → position_from test n (xs ++ x ∷ []) ≡ Some (n + length xs)
place-last test n [] x h p = rw p (ap (λ (k : ℕ). Some k) (nothing n))
  where
    nothing : (n : ℕ) → n ≡ n + 0
    nothing n = omega arith
place-last test n (y ∷ xs) x h p =
    elim (cases_Bool (test y)) [
      | inl e ↦ absurd (found (rw e at h))
      | inr e ↦ rw e (place-last test (n + 1) xs x (rw e at h) p ∙ ap (λ (k : ℕ). Some k) (shift n (length xs)))
    ]
  where
    shift : (n k : ℕ) → n + 1 + k ≡ n + suc k
    shift n k = omega arith

    found : Some n ≡ None → ⊥
    found e = cc

-- The test tells members apart.
pub record IsSameness {A : Type 0} (same : A → A → Bool) : Type 0 where
  pub means : (x y : A) → same x y ≡ true → x ≡ y
  pub itself : (x : A) → same x x ≡ true

-- What a list with a member is: either the list, or one more at its end.
abbrev pub IsWithMember : {A : Type 0} → (A → A → Bool) → List A → A → Type 0
IsWithMember same xs x =
    ((id_in same x xs ≡ 0) × (with_member same xs x ≡ xs ++ x ∷ [])) ⊎ (with_member same xs x ≡ xs)

-- A member that is not there comes to the end.
absent : {A : Type 0} (same : A → A → Bool) (xs : List A) (x : A) → position_from (λ y. same x y) 1 xs ≡ None → (id_in same x xs ≡ 0) × (with_member same xs x ≡ xs ++ x ∷ [])
absent same xs x h = (rw h refl, rw h refl)

-- A member that is there has its id.
present : {A : Type 0} (same : A → A → Bool) (xs : List A) (x : A) (id : ℕ) → 0 < id → position_from (λ y. same x y) 1 xs ≡ Some id → (id_in same x xs ≡ id) × (with_member same xs x ≡ xs)
present same xs x id some h = (rw h refl, rw (h, ne_eqb id 0 (λ e. omega arith)) refl)

-- The list with a member numbers it.
pub record Members {A : Type 0} (same : A → A → Bool) (xs : List A) (x : A) : Type 0 where
  pub list : IsWithMember same xs x
  pub numbered : IsNumbered (with_member same xs x) (id_in same x (with_member same xs x)) x

-- A list with a member, by where the member is.
members-by : {A : Type 0} (same : A → A → Bool) (s : IsSameness same) (xs : List A) (x : A) (o : Option ℕ) → position_from (λ y. same x y) 1 xs ≡ o → IsPlace (λ y. same x y) 1 xs [] o → Members same xs x
members-by {A} same s xs x None e h =
    let none = absent same xs x e in
    let id : id_in same x (xs ++ x ∷ []) ≡ 1 + length xs = ap (λ (o : Option ℕ). unwrap_or o 0) (place-last (λ y. same x y) 1 xs x e (s.itself x)) in
    record {
      list = inl none;
      numbered = subst (λ (ys : List A). IsNumbered ys (id_in same x ys) x) (sym none.1) (subst (λ (k : ℕ). IsNumbered (xs ++ x ∷ []) k x) (sym id) (numbered-last xs x));
    }
members-by {A} same s xs x (Some id) e h =
    let there = present same xs x id (omega (arith, h.low)) e in
    record {
      list = inr there.1;
      numbered = subst (λ (ys : List A). IsNumbered ys (id_in same x ys) x) (sym there.1)
          (subst (λ (k : ℕ). IsNumbered xs k x) (sym there.0)
          (record { some = omega (arith, h.low); few = omega (arith, h.high); found = h.found ∙ ap (λ (y : A). Some y) (sym (s.means x h.value h.passes)) }));
    }

-- A list with a member numbers it.
pub members : {A : Type 0} (same : A → A → Bool) (s : IsSameness same) (xs : List A) (x : A) → Members same xs x
members same s xs x = members-by same s xs x (position_from (λ y. same x y) 1 xs) refl (place-is (λ y. same x y) 1 xs [])

-- ---- what bodies tell

-- No id after the last one stands for anything.
pub no_more : {A : Type 0} (n : ℕ) (xs : List A) → (id : ℕ) → n + length xs ≤ id → lookup id (named n xs []) ≡ None
no_more n xs id h = lookup-above id n xs [] h

-- So it is with one name more.
none-after : {A : Type 0} (n : ℕ) (x : A) (names : List (ℕ × A)) → ((id : ℕ) → n ≤ id → lookup id names ≡ None) → (id : ℕ) → n + 1 ≤ id → lookup id ((n, x) ∷ names) ≡ None
none-after n x names h id le = lookup-other id n x names (λ e. omega arith) ∙ h id (omega arith)

-- New definitions tell nothing, and are named.
pub metas-tell : (n : ℕ) (defs : List EventDef) (definitions : List (ℕ × EventDef)) (stacks : List (ℕ × List ℕ)) → ((id : ℕ) → n ≤ id → lookup id definitions ≡ None) → Tells (record { definitions = definitions; stacks = stacks }) (meta_kinds n defs) [] (record { definitions = named n defs definitions; stacks = stacks })
metas-tell n [] definitions stacks h = (refl, refl)
metas-tell n (def ∷ defs) definitions stacks h =
    ([], [], rw (h n (omega arith)) refl, metas-tell (n + 1) defs ((n, def) ∷ definitions) stacks (none-after n def definitions h), refl)

-- So do new stacks.
pub stacks-tell : (n : ℕ) (xs : List (List ℕ)) (definitions : List (ℕ × EventDef)) (stacks : List (ℕ × List ℕ)) → ((id : ℕ) → n ≤ id → lookup id stacks ≡ None) → Tells (record { definitions = definitions; stacks = stacks }) (stack_kinds n xs) [] (record { definitions = definitions; stacks = named n xs stacks })
stacks-tell n [] definitions stacks h = (refl, refl)
stacks-tell n (stack ∷ xs) definitions stacks h =
    ([], [], rw (h n (omega arith)) refl, stacks-tell (n + 1) xs definitions ((n, stack) ∷ stacks) (none-after n stack stacks h), refl)

-- An event whose ids are known tells its entry.
pub event-tells : (names : Names) (metadata stack : ℕ) (event : EventEntry) → lookup metadata names.definitions ≡ Some event.def → stack_of names stack ≡ Some event.stack → tell names (event_kind (event_draft metadata stack event)) ≡ Ok (Event event ∷ [])
event-tells names metadata stack event d s = rw (d, s) refl
