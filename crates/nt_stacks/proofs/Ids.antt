-- What an interner's map says of its stacks.
use Rattle.std.proofs.Common.{◌≡◌, ◌≢◌, ℕ, zero, suc, ◌+◌, ◌<◌, ◌≤◌, true, false, cond, eqb, ◌⊎◌, inl, inr, List, [], ◌∷◌, ◌++◌, map, length, Option, Some, None, refl, sym, ◌∙◌, ap, subst, arith, length-append}
use Rattle.std.specs.Prelude.{unwrap_or}
use Rattle.std.proofs.lemmas.Bool.{cases_Bool, eq-eqb, ne_eqb}
use Rattle.std.proofs.lemmas.Bool.Decides.{eqb_tells}
use Rattle.std.proofs.lemmas.Slice.Eq.{bytes_eq-Decides}
use Rattle.std.proofs.lemmas.List.Elements.{All-push, All-weaker}
use Rattle.std.proofs.lemmas.Map.Text.{is_eq-slice_cmp}
use Rattle.std.specs.declared.cmp.Ordering.{Ordering}
use Rattle.std.specs.declared.cmp.Ordering.TheVariants.{Less, Equal, Greater}
use Rattle.std.specs.Ordering.{nat_cmp, is_eq, match_ordering}
use Rattle.std.specs.Cmp.Lexicographic.{slice_cmp}
use Rattle.std.specs.BTreeMap.{insert_entry}
use Rattle.std.specs.List.{AllByRecursion, position_from}
use Rattle.std.specs.Map.{lookup}
use Rattle.std.specs.Str.{bytes_eq}
use Rattle.nt_stacks.specs.Stacks.{stack_id, with_stack, IsOfNoOther}
use Rattle.nt_stacks.specs.Interning.{id_at, stack_with, stacks_from, stacks_of, AreInterned, AreKnown}

-- ---- bytes

same-bytes : (a b : List ℕ) → bytes_eq a b ≡ true → a ≡ b
same-bytes a b e = (bytes_eq-Decides a b).0 e

itself : (a : List ℕ) → bytes_eq a a ≡ true
itself a = (bytes_eq-Decides a a).1 refl

-- ---- the entries of a map with keys that own their bytes

-- The entries by their bytes.
abbrev pub plain : {K : Type 0} → (K → List ℕ) → List (K × ℕ) → List (List ℕ × ℕ)
plain items entries = map (λ entry. (items entry.0, entry.1)) entries

-- A look-up in the map is one in the entries.
pub lookup-plain : {K : Type 0} (items : K → List ℕ) (entries : List (K × ℕ)) (bytes : List ℕ) → lookup (λ k. is_eq (slice_cmp nat_cmp bytes (items k))) entries ≡ id_at bytes (plain items entries)
lookup-plain items [] bytes = refl
lookup-plain items (entry ∷ entries) bytes =
    ap (λ b. cond b (Some entry.1) (lookup (λ k. is_eq (slice_cmp nat_cmp bytes (items k))) entries)) (is_eq-slice_cmp bytes (items entry.0))
    ∙ ap (cond (bytes_eq bytes (items entry.0)) (Some entry.1)) (lookup-plain items entries bytes)

pub length-plain : {K : Type 0} (items : K → List ℕ) (entries : List (K × ℕ)) → length (plain items entries) ≡ length entries
length-plain items [] = refl
length-plain items (entry ∷ entries) = ap suc (length-plain items entries)

plain-ordering : {K : Type 0} (items : K → List ℕ) (o : Ordering) (a b c : List (K × ℕ)) → plain items (match_ordering o a b c) ≡ match_ordering o (plain items a) (plain items b) (plain items c)
plain-ordering items Less a b c = refl
plain-ordering items Equal a b c = refl
plain-ordering items Greater a b c = refl

-- An insertion into the map is one into the entries.
plain-insert : {K : Type 0} (items : K → List ℕ) (entries : List (K × ℕ)) (key : K) (id : ℕ) → plain items (insert_entry (λ x y. slice_cmp nat_cmp (items x) (items y)) entries key id) ≡ insert_entry (slice_cmp nat_cmp) (plain items entries) (items key) id
plain-insert items [] key id = refl
plain-insert items (entry ∷ entries) key id =
    plain-ordering items (slice_cmp nat_cmp (items key) (items entry.0)) _ _ _
    ∙ ap (match_ordering (slice_cmp nat_cmp (items key) (items entry.0)) ((items key, id) ∷ (items entry.0, entry.1) ∷ plain items entries) ((items entry.0, id) ∷ plain items entries)) (ap (λ es. (items entry.0, entry.1) ∷ es) (plain-insert items entries key id))

-- ---- a new stack

-- Where the first entry has other bytes, and the others too.
not-first : (bytes : List ℕ) (entry : List ℕ × ℕ) (entries : List (List ℕ × ℕ)) → id_at bytes (entry ∷ entries) ≡ None → (bytes_eq bytes entry.0 ≡ false) × (id_at bytes entries ≡ None)
not-first bytes entry entries none =
    elim (cases_Bool (bytes_eq bytes entry.0)) [
      | inl e ↦ let wrong : Some entry.1 ≡ None = rw e at none in cc
      | inr e ↦ (e, rw e at none)
    ]

-- A new stack stands somewhere between the others.
pub record Between (bytes : List ℕ) (id : ℕ) (old new : List (List ℕ × ℕ)) : Type 0 where
  pub front : List (List ℕ × ℕ)
  pub back : List (List ℕ × ℕ)
  pub was : old ≡ front ++ back
  pub now : new ≡ front ++ (bytes, id) ∷ back
  pub unknown : id_at bytes front ≡ None

-- One entry more in front of both.
between-later : (bytes : List ℕ) (id : ℕ) (entry : List ℕ × ℕ) (old new : List (List ℕ × ℕ)) → bytes_eq bytes entry.0 ≡ false → Between bytes id old new → Between bytes id (entry ∷ old) (entry ∷ new)
between-later bytes id entry old new differs later =
    record {
      front = entry ∷ later.front;
      back = later.back;
      was = ap (λ es. entry ∷ es) later.was;
      now = ap (λ es. entry ∷ es) later.now;
      unknown = ap (λ b. cond b (Some entry.1) (id_at bytes later.front)) differs ∙ later.unknown;
    }

between-order : (bytes : List ℕ) (id : ℕ) (entry : List ℕ × ℕ) (old new : List (List ℕ × ℕ)) → bytes_eq bytes entry.0 ≡ false → Between bytes id old new → (o : Ordering) → is_eq o ≡ bytes_eq bytes entry.0 → Between bytes id (entry ∷ old) (match_ordering o ((bytes, id) ∷ entry ∷ old) ((entry.0, id) ∷ old) (entry ∷ new))
between-order bytes id entry old new differs later Less is =
    record { front = []; back = entry ∷ old; was = refl; now = refl; unknown = refl }
between-order bytes id entry old new differs later Equal is = let wrong : true ≡ false = is ∙ differs in cc
between-order bytes id entry old new differs later Greater is = between-later bytes id entry old new differs later

insert-between : (bytes : List ℕ) (id : ℕ) (entries : List (List ℕ × ℕ)) → id_at bytes entries ≡ None → Between bytes id entries (insert_entry (slice_cmp nat_cmp) entries bytes id)
insert-between bytes id [] none = record { front = []; back = []; was = refl; now = refl; unknown = refl }
insert-between bytes id (entry ∷ entries) none =
    let parts = not-first bytes entry entries none in
    between-order bytes id entry entries (insert_entry (slice_cmp nat_cmp) entries bytes id) parts.0 (insert-between bytes id entries parts.1) (slice_cmp nat_cmp bytes entry.0) (is_eq-slice_cmp bytes entry.0)

id_at-between : (bytes : List ℕ) (id : ℕ) (front back : List (List ℕ × ℕ)) → id_at bytes front ≡ None → id_at bytes (front ++ (bytes, id) ∷ back) ≡ Some id
id_at-between bytes id [] back none = ap (λ b. cond b (Some id) (id_at bytes back)) (itself bytes)
id_at-between bytes id (entry ∷ front) back none =
    ap (λ b. cond b (Some entry.1) (id_at bytes (front ++ (bytes, id) ∷ back))) (not-first bytes entry front none).0
    ∙ id_at-between bytes id front back (not-first bytes entry front none).1

id_at-others : (other bytes : List ℕ) (id : ℕ) (front back : List (List ℕ × ℕ)) → bytes_eq other bytes ≡ false → id_at other (front ++ (bytes, id) ∷ back) ≡ id_at other (front ++ back)
id_at-others other bytes id [] back differs = ap (λ b. cond b (Some id) (id_at other back)) differs
id_at-others other bytes id (entry ∷ front) back differs =
    ap (cond (bytes_eq other entry.0) (Some entry.1)) (id_at-others other bytes id front back differs)

stack_with-between : (bytes : List ℕ) (n : ℕ) (front back : List (List ℕ × ℕ)) → AllByRecursion (λ entry. entry.1 ≤ n) (front ++ back) → stack_with (suc n) (front ++ (bytes, suc n) ∷ back) ≡ bytes
stack_with-between bytes n [] back few = ap (λ b. cond b bytes (stack_with (suc n) back)) (eq-eqb (suc n) (suc n) refl)
stack_with-between bytes n (entry ∷ front) back few =
    ap (λ b. cond b entry.0 (stack_with (suc n) (front ++ (bytes, suc n) ∷ back))) (ne_eqb entry.1 (suc n) (above entry.1 few.0))
    ∙ stack_with-between bytes n front back few.1
  where
    above : (m : ℕ) → m ≤ n → m ≢ suc n
    above m h e = omega arith

stack_with-others : (id : ℕ) (bytes : List ℕ) (n : ℕ) (front back : List (List ℕ × ℕ)) → n ≢ id → stack_with id (front ++ (bytes, n) ∷ back) ≡ stack_with id (front ++ back)
stack_with-others id bytes n [] back differ = ap (λ b. cond b bytes (stack_with id back)) (ne_eqb n id differ)
stack_with-others id bytes n (entry ∷ front) back differ =
    ap (cond (eqb entry.1 id) entry.0) (stack_with-others id bytes n front back differ)

few-between : (bytes : List ℕ) (n m id : ℕ) (front back : List (List ℕ × ℕ)) → n ≤ m → id ≤ m → AllByRecursion (λ entry. entry.1 ≤ n) (front ++ back) → AllByRecursion (λ entry. entry.1 ≤ m) (front ++ (bytes, id) ∷ back)
few-between bytes n m id [] back more fits few = (fits, raised back few)
  where
    raised : (es : List (List ℕ × ℕ)) → AllByRecursion (λ entry. entry.1 ≤ n) es → AllByRecursion (λ entry. entry.1 ≤ m) es
    raised [] h = tt
    raised (e ∷ es) h = (weaker e.1 h.0, raised es h.1)
      where
        weaker : (k : ℕ) → k ≤ n → k ≤ m
        weaker k below = omega arith
few-between bytes n m id (entry ∷ front) back more fits few =
    (weaker entry.1 few.0, few-between bytes n m id front back more fits few.1)
  where
    weaker : (k : ℕ) → k ≤ n → k ≤ m
    weaker k below = omega arith

length-between : (bytes : List ℕ) (id : ℕ) (front back : List (List ℕ × ℕ)) → length (front ++ (bytes, id) ∷ back) ≡ suc (length (front ++ back))
length-between bytes id [] back = refl
length-between bytes id (entry ∷ front) back = ap suc (length-between bytes id front back)

-- ---- places

-- Bytes that are unknown have no place among the stacks.
nowhere : (bytes : List ℕ) (entries : List (List ℕ × ℕ)) → AreInterned entries → id_at bytes entries ≡ None → (more first : ℕ) → first + more ≤ length entries → position_from (λ stack. bytes_eq bytes stack) (suc first) (stacks_from more (suc first) entries) ≡ None
nowhere bytes entries h none zero first fits = refl
nowhere bytes entries h none (suc more) first fits =
    elim (cases_Bool (bytes_eq bytes (stack_with (suc first) entries))) [
      | inl e ↦
          let same : bytes ≡ stack_with (suc first) entries = same-bytes bytes (stack_with (suc first) entries) e in
          let there : id_at bytes entries ≡ Some (suc first) = rw same (h.given first (omega arith)) in
          cc
      | inr e ↦
          ap (λ b. cond b (Some (suc first)) (position_from (λ stack. bytes_eq bytes stack) (suc first + 1) (stacks_from more (suc (suc first)) entries))) e
          ∙ ap (λ n. position_from (λ stack. bytes_eq bytes stack) n (stacks_from more (suc (suc first)) entries)) (one-more (suc first))
          ∙ nowhere bytes entries h none more (suc first) (omega arith)
    ]
  where
    one-more : (n : ℕ) → n + 1 ≡ suc n
    one-more n = omega arith

-- Bytes that are known have their id as their place.
somewhere : (bytes : List ℕ) (id : ℕ) (entries : List (List ℕ × ℕ)) → AreInterned entries → id_at bytes entries ≡ Some id → (more first : ℕ) → first + more ≤ length entries → first < id → id ≤ first + more → position_from (λ stack. bytes_eq bytes stack) (suc first) (stacks_from more (suc first) entries) ≡ Some id
somewhere bytes id entries h there zero first fits low high = absurd (omega arith)
somewhere bytes id entries h there (suc more) first fits low high =
    elim (cases_Bool (bytes_eq bytes (stack_with (suc first) entries))) [
      | inl e ↦
          let same : bytes ≡ stack_with (suc first) entries = same-bytes bytes (stack_with (suc first) entries) e in
          let here : id_at bytes entries ≡ Some (suc first) = rw same (h.given first (omega arith)) in
          ap (λ b. cond b (Some (suc first)) (position_from (λ stack. bytes_eq bytes stack) (suc first + 1) (stacks_from more (suc (suc first)) entries))) e
          ∙ sym here ∙ there
      | inr e ↦
          ap (λ b. cond b (Some (suc first)) (position_from (λ stack. bytes_eq bytes stack) (suc first + 1) (stacks_from more (suc (suc first)) entries))) e
          ∙ ap (λ n. position_from (λ stack. bytes_eq bytes stack) n (stacks_from more (suc (suc first)) entries)) (one-more (suc first))
          ∙ somewhere bytes id entries h there more (suc first) (omega arith) (later e) (omega arith)
    ]
  where
    one-more : (n : ℕ) → n + 1 ≡ suc n
    one-more n = omega arith

    later : bytes_eq bytes (stack_with (suc first) entries) ≡ false → suc first < id
    later e =
        elim (eqb_tells id (suc first)) [
          | inl same ↦
              let own : stack_with id entries ≡ bytes = (h.own bytes id there).2 in
              let found : stack_with (suc first) entries ≡ bytes = ap (λ n. stack_with n entries) (sym same.1) ∙ own in
              let yes : bytes_eq bytes (stack_with (suc first) entries) ≡ true = ap (bytes_eq bytes) found ∙ itself bytes in
              cc
          | inr differ ↦ let apart : id ≢ suc first = differ.1 in omega arith
        ]

-- ---- an interner

length-stacks : (more id : ℕ) (entries : List (List ℕ × ℕ)) → length (stacks_from more id entries) ≡ more
length-stacks zero id entries = refl
length-stacks (suc more) id entries = ap suc (length-stacks more (suc id) entries)

-- There are as many stacks as entries.
pub length-stacks_of : (entries : List (List ℕ × ℕ)) → length (stacks_of entries) ≡ length entries
length-stacks_of entries = length-stacks (length entries) 1 entries

-- The id of a stack that is known.
pub known-id : (b : ℕ) (bytes : List ℕ) (id : ℕ) (entries : List (List ℕ × ℕ)) → AreInterned entries → id_at (b ∷ bytes) entries ≡ Some id → stack_id (stacks_of entries) (b ∷ bytes) ≡ id
known-id b bytes id entries h there =
    let own = h.own (b ∷ bytes) id there in
    ap (λ o. unwrap_or o 0) (somewhere (b ∷ bytes) id entries h there (length entries) 0 (omega arith) own.0 (omega (arith, own.1)))

-- A stack that is unknown has none.
pub unknown-id : (b : ℕ) (bytes : List ℕ) (entries : List (List ℕ × ℕ)) → AreInterned entries → id_at (b ∷ bytes) entries ≡ None → stack_id (stacks_of entries) (b ∷ bytes) ≡ 0
unknown-id b bytes entries h none =
    ap (λ o. unwrap_or o 0) (nowhere (b ∷ bytes) entries h none (length entries) 0 (omega arith))

-- The stacks with one more.
stacks-between : (bytes : List ℕ) (n : ℕ) (front back : List (List ℕ × ℕ)) → AllByRecursion (λ entry. entry.1 ≤ n) (front ++ back) → (more first : ℕ) → first + more ≡ n → stacks_from (suc more) (suc first) (front ++ (bytes, suc n) ∷ back) ≡ stacks_from more (suc first) (front ++ back) ++ bytes ∷ []
stacks-between bytes n front back few zero first total =
    let last : suc first ≡ suc n = omega arith in
    ap (λ id. stack_with id (front ++ (bytes, suc n) ∷ back) ∷ []) last
    ∙ ap (λ stack. stack ∷ []) (stack_with-between bytes n front back few)
stacks-between bytes n front back few (suc more) first total =
    ap (λ stack. stack ∷ stacks_from (suc more) (suc (suc first)) (front ++ (bytes, suc n) ∷ back)) (stack_with-others (suc first) bytes (suc n) front back (omega arith))
    ∙ ap (λ stacks. stack_with (suc first) (front ++ back) ∷ stacks) (stacks-between bytes n front back few more (suc first) (omega arith))

stacks_of-new : (bytes : List ℕ) (old new : List (List ℕ × ℕ)) → AreInterned old → Between bytes (suc (length old)) old new → stacks_of new ≡ stacks_of old ++ bytes ∷ []
stacks_of-new bytes old new h between =
    let few : AllByRecursion (λ entry. entry.1 ≤ length old) (between.front ++ between.back) = subst (AllByRecursion (λ entry. entry.1 ≤ length old)) between.was h.few in
    ap stacks_of between.now
    ∙ ap (λ n. stacks_from n 1 (between.front ++ (bytes, suc (length old)) ∷ between.back)) (length-between bytes (suc (length old)) between.front between.back ∙ ap (λ es. suc (length es)) (sym between.was))
    ∙ stacks-between bytes (length old) between.front between.back few (length old) 0 (omega arith)
    ∙ ap (λ es. stacks_from (length old) 1 es ++ bytes ∷ []) (sym between.was)

-- A stack that was not there, with the next id.
interned-new : (bytes : List ℕ) (old new : List (List ℕ × ℕ)) → AreInterned old → id_at bytes old ≡ None → Between bytes (suc (length old)) old new → AreInterned new
interned-new bytes old new h none between =
    subst AreInterned (sym between.now)
    (record {
      given = λ place fits. given-by place fits (eqb_tells place (length old));
      own = λ other id e. own-by other id e (cases_Bool (bytes_eq other bytes));
      few = few-between bytes (length old) (length now) (suc (length old)) between.front between.back (omega (arith, len)) (omega (arith, len)) few-old;
    })
  where
    now : List (List ℕ × ℕ)
    now = between.front ++ (bytes, suc (length old)) ∷ between.back

    len : length now ≡ suc (length old)
    len = length-between bytes (suc (length old)) between.front between.back ∙ ap (λ es. suc (length es)) (sym between.was)

    few-old : AllByRecursion (λ entry. entry.1 ≤ length old) (between.front ++ between.back)
    few-old = subst (AllByRecursion (λ entry. entry.1 ≤ length old)) between.was h.few

    other-at : (other : List ℕ) → bytes_eq other bytes ≡ false → id_at other now ≡ id_at other old
    other-at other differs =
        id_at-others other bytes (suc (length old)) between.front between.back differs ∙ ap (id_at other) (sym between.was)

    other-with : (id : ℕ) → suc (length old) ≢ id → stack_with id now ≡ stack_with id old
    other-with id differ =
        stack_with-others id bytes (suc (length old)) between.front between.back differ ∙ ap (stack_with id) (sym between.was)

    own-with : stack_with (suc (length old)) now ≡ bytes
    own-with = stack_with-between bytes (length old) between.front between.back few-old

    own-at : id_at bytes now ≡ Some (suc (length old))
    own-at = id_at-between bytes (suc (length old)) between.front between.back between.unknown

    not-new : (stack : List ℕ) (id : ℕ) → id_at stack old ≡ Some id → bytes_eq stack bytes ≡ false
    not-new stack id there =
        elim (cases_Bool (bytes_eq stack bytes)) [
          | inl e ↦
              let same : stack ≡ bytes = same-bytes stack bytes e in
              let both : id_at bytes old ≡ Some id = rw same at there in
              cc
          | inr e ↦ e
        ]

    given-by : (place : ℕ) → place < length now → ((eqb place (length old) ≡ true) × (place ≡ length old)) ⊎ ((eqb place (length old) ≡ false) × (place ≢ length old)) → id_at (stack_with (suc place) now) now ≡ Some (suc place)
    given-by place fits (inl same) =
        rw same.1 (ap (λ stack. id_at stack now) own-with ∙ own-at)
    given-by place fits (inr differ) =
        let apart : place ≢ length old = differ.1 in
        let low : place < length old = omega (arith, len) in
        let with-id : stack_with (suc place) now ≡ stack_with (suc place) old = other-with (suc place) (omega arith) in
        let there : id_at (stack_with (suc place) old) old ≡ Some (suc place) = h.given place low in
        ap (λ stack. id_at stack now) with-id ∙ other-at (stack_with (suc place) old) (not-new (stack_with (suc place) old) (suc place) there) ∙ there

    own-by : (other : List ℕ) (id : ℕ) → id_at other now ≡ Some id → (bytes_eq other bytes ≡ true) ⊎ (bytes_eq other bytes ≡ false) → (0 < id) × (id ≤ length now) × (stack_with id now ≡ other)
    own-by other id e (inl same) =
        let is : other ≡ bytes = same-bytes other bytes same in
        let found : Some id ≡ Some (suc (length old)) = sym e ∙ ap (λ stack. id_at stack now) is ∙ own-at in
        let id-is : id ≡ suc (length old) = cc in
        (omega arith, omega (arith, len), ap (λ n. stack_with n now) id-is ∙ own-with ∙ sym is)
    own-by other id e (inr differs) =
        let was = h.own other id (sym (other-at other differs) ∙ e) in
        let below : id ≤ length old = was.1 in
        (was.0, omega (arith, len), other-with id (omega arith) ∙ was.2)

-- What an id that is given says of its stack.
pub record IsGiven (stacks : List (List ℕ)) (bytes : List ℕ) (id : ℕ) : Type 0 where
  pub id_is : stack_id stacks bytes ≡ id
  pub low : 0 < id
  pub high : id ≤ length stacks
  pub no_other : IsOfNoOther stacks id bytes

given-other : (bytes : List ℕ) (id : ℕ) (entries : List (List ℕ × ℕ)) → AreInterned entries → id_at bytes entries ≡ Some id → (other : List ℕ) → 0 < id → stack_id (stacks_of entries) other ≡ id → (found : Option ℕ) → id_at other entries ≡ found → other ≡ bytes
given-other bytes id entries h there [] low e found at = absurd (omega arith)
given-other bytes id entries h there (b ∷ other) low e None at =
    let none : stack_id (stacks_of entries) (b ∷ other) ≡ 0 = unknown-id b other entries h at in absurd (omega arith)
given-other bytes id entries h there (b ∷ other) low e (Some found) at =
    let is : stack_id (stacks_of entries) (b ∷ other) ≡ found = known-id b other found entries h at in
    let same : found ≡ id = sym is ∙ e in
    sym (h.own (b ∷ other) found at).2 ∙ ap (λ n. stack_with n entries) same ∙ (h.own bytes id there).2

pub given : (b : ℕ) (bytes : List ℕ) (id : ℕ) (entries : List (List ℕ × ℕ)) → AreInterned entries → id_at (b ∷ bytes) entries ≡ Some id → IsGiven (stacks_of entries) (b ∷ bytes) id
given b bytes id entries h there =
    let own = h.own (b ∷ bytes) id there in
    record {
      id_is = known-id b bytes id entries h there;
      low = own.0;
      high = omega (arith, own.1, length-stacks_of entries);
      no_other = λ other low e. given-other (b ∷ bytes) id entries h there other low e (id_at other entries) refl;
    }

-- A stack that is known changes nothing.
pub with_known : (stacks : List (List ℕ)) (bytes : List ℕ) (id : ℕ) → IsGiven stacks bytes id → with_stack stacks bytes ≡ stacks
with_known stacks [] id given = refl
with_known stacks (b ∷ bytes) id given =
    let known : stack_id stacks (b ∷ bytes) ≢ 0 = λ e. no-zero e in
    ap (λ t. cond t (stacks ++ (b ∷ bytes) ∷ []) stacks) (ne_eqb (stack_id stacks (b ∷ bytes)) 0 known)
  where
    no-zero : stack_id stacks (b ∷ bytes) ≡ 0 → ⊥
    no-zero e = omega (arith, given.id_is, given.low)

-- What an interner has after a stack that it did not know.
pub record Gives (old : List (List ℕ)) (entries : List (List ℕ × ℕ)) (bytes : List ℕ) : Type 0 where
  pub interned : AreInterned entries
  pub stacks : stacks_of entries ≡ with_stack old bytes
  pub given : IsGiven (stacks_of entries) bytes (suc (length old))
  pub longer : length (with_stack old bytes) ≡ length old + 1

pub gives : (b : ℕ) (bytes : List ℕ) (entries : List (List ℕ × ℕ)) → AreInterned entries → id_at (b ∷ bytes) entries ≡ None → (new : List (List ℕ × ℕ)) → new ≡ insert_entry (slice_cmp nat_cmp) entries (b ∷ bytes) (suc (length entries)) → Gives (stacks_of entries) new (b ∷ bytes)
gives b bytes entries h none new is =
    let between : Between (b ∷ bytes) (suc (length entries)) entries new = subst (Between (b ∷ bytes) (suc (length entries)) entries) (sym is) (insert-between (b ∷ bytes) (suc (length entries)) entries none) in
    let interned : AreInterned new = interned-new (b ∷ bytes) entries new h none between in
    let at : id_at (b ∷ bytes) new ≡ Some (suc (length entries)) = ap (id_at (b ∷ bytes)) between.now ∙ id_at-between (b ∷ bytes) (suc (length entries)) between.front between.back between.unknown in
    let added : with_stack (stacks_of entries) (b ∷ bytes) ≡ stacks_of entries ++ (b ∷ bytes) ∷ [] = ap (λ id. cond (eqb id 0) (stacks_of entries ++ (b ∷ bytes) ∷ []) (stacks_of entries)) (unknown-id b bytes entries h none) in
    record {
      interned = interned;
      longer = ap length added ∙ length-append (stacks_of entries) ((b ∷ bytes) ∷ []);
      stacks = stacks_of-new (b ∷ bytes) entries new h between ∙ sym added;
      given =
          subst (IsGiven (stacks_of new) (b ∷ bytes)) (ap suc (sym (length-stacks_of entries))) (given b bytes (suc (length entries)) new interned at);
    }

-- ---- the map of an interner

-- A stack that the map has.
pub known-stack : {K : Type 0} (items : K → List ℕ) (entries : List (K × ℕ)) (stacks : List (List ℕ)) (bytes : List ℕ) (id : ℕ) → AreInterned (plain items entries) → stacks_of (plain items entries) ≡ stacks → length bytes ≢ 0 → Some id ≡ lookup (λ k. is_eq (slice_cmp nat_cmp bytes (items k))) entries → IsGiven stacks bytes id
known-stack items entries stacks [] id h is some found = absurd (some refl)
known-stack items entries stacks (b ∷ bytes) id h is some found =
    subst (λ s. IsGiven s (b ∷ bytes) id) is (given b bytes id (plain items entries) h (sym (found ∙ lookup-plain items entries (b ∷ bytes))))

-- A stack that the map gets.
pub new-stack : {K : Type 0} (items : K → List ℕ) (entries new : List (K × ℕ)) (stacks : List (List ℕ)) (bytes : List ℕ) (key : K) (id : ℕ) → AreInterned (plain items entries) → stacks_of (plain items entries) ≡ stacks → length bytes ≢ 0 → None ≡ lookup (λ k. is_eq (slice_cmp nat_cmp bytes (items k))) entries → items key ≡ bytes → id ≡ length entries + 1 → new ≡ insert_entry (λ x y. slice_cmp nat_cmp (items x) (items y)) entries key id → Gives stacks (plain items new) bytes
new-stack items entries new stacks [] key id h is some none key-is id-is new-is = absurd (some refl)
new-stack items entries new stacks (b ∷ bytes) key id h is some none key-is id-is new-is =
    subst (λ s. Gives s (plain items new) (b ∷ bytes)) is
    (gives b bytes (plain items entries) h (sym (none ∙ lookup-plain items entries (b ∷ bytes))) (plain items new)
    (ap (plain items) new-is
    ∙ plain-insert items entries key id
    ∙ ap (λ k. insert_entry (slice_cmp nat_cmp) (plain items entries) k id) key-is
    ∙ ap (insert_entry (slice_cmp nat_cmp) (plain items entries) (b ∷ bytes)) (omega (arith, id-is, length-plain items entries))))

-- There are as many stacks as entries in the map.
pub as-many : {K : Type 0} (items : K → List ℕ) (entries : List (K × ℕ)) (stacks : List (List ℕ)) → stacks_of (plain items entries) ≡ stacks → length stacks ≡ length entries
as-many items entries stacks is =
    ap length (sym is) ∙ length-stacks_of (plain items entries) ∙ length-plain items entries

-- ---- stacks that were asked for lately

-- Bytes that have an id are none that have none.
apart : (stack bytes : List ℕ) (id : ℕ) (entries : List (List ℕ × ℕ)) → id_at stack entries ≡ Some id → id_at bytes entries ≡ None → bytes_eq stack bytes ≡ false
apart stack bytes id entries there none =
    elim (cases_Bool (bytes_eq stack bytes)) [
      | inl e ↦
          let same : stack ≡ bytes = same-bytes stack bytes e in
          let both : id_at bytes entries ≡ Some id = rw same at there in
          cc
      | inr e ↦ e
    ]

-- What is known stays known once another stack has an id.
known-between : (bytes : List ℕ) (id : ℕ) (old new recent : List (List ℕ × ℕ)) → id_at bytes old ≡ None → Between bytes id old new → AreKnown old recent → AreKnown new recent
known-between bytes id old new recent none between known =
    All-weaker (λ stack. 0 < stack.1 → id_at stack.0 old ≡ Some stack.1) (λ stack. 0 < stack.1 → id_at stack.0 new ≡ Some stack.1) still recent known
  where
    still : (stack : List ℕ × ℕ) → (0 < stack.1 → id_at stack.0 old ≡ Some stack.1) → 0 < stack.1 → id_at stack.0 new ≡ Some stack.1
    still stack was some =
        ap (id_at stack.0) between.now
        ∙ id_at-others stack.0 bytes id between.front between.back (apart stack.0 bytes stack.1 old (was some) none)
        ∙ ap (id_at stack.0) (sym between.was)
        ∙ was some

-- The entries after an insertion.
inserted : {K : Type 0} (items : K → List ℕ) (entries new : List (K × ℕ)) (bytes : List ℕ) (key : K) (id : ℕ) → items key ≡ bytes → new ≡ insert_entry (λ x y. slice_cmp nat_cmp (items x) (items y)) entries key id → plain items new ≡ insert_entry (slice_cmp nat_cmp) (plain items entries) bytes id
inserted items entries new bytes key id key-is new-is =
    ap (plain items) new-is
    ∙ plain-insert items entries key id
    ∙ ap (λ k. insert_entry (slice_cmp nat_cmp) (plain items entries) k id) key-is

-- The map knows what it knew.
pub still-known : {K : Type 0} (items : K → List ℕ) (entries new : List (K × ℕ)) (recent : List (List ℕ × ℕ)) (bytes : List ℕ) (key : K) (id : ℕ) → None ≡ lookup (λ k. is_eq (slice_cmp nat_cmp bytes (items k))) entries → items key ≡ bytes → new ≡ insert_entry (λ x y. slice_cmp nat_cmp (items x) (items y)) entries key id → AreKnown (plain items entries) recent → AreKnown (plain items new) recent
still-known items entries new recent bytes key id none key-is new-is known =
    let unknown : id_at bytes (plain items entries) ≡ None = sym (none ∙ lookup-plain items entries bytes) in
    subst (λ es. AreKnown es recent) (sym (inserted items entries new bytes key id key-is new-is))
    (known-between bytes id (plain items entries) (insert_entry (slice_cmp nat_cmp) (plain items entries) bytes id) recent unknown (insert-between bytes id (plain items entries) unknown) known)

-- The map knows what it got.
pub now-known : {K : Type 0} (items : K → List ℕ) (entries new : List (K × ℕ)) (bytes : List ℕ) (key : K) (id : ℕ) → None ≡ lookup (λ k. is_eq (slice_cmp nat_cmp bytes (items k))) entries → items key ≡ bytes → new ≡ insert_entry (λ x y. slice_cmp nat_cmp (items x) (items y)) entries key id → id_at bytes (plain items new) ≡ Some id
now-known items entries new bytes key id none key-is new-is =
    let unknown : id_at bytes (plain items entries) ≡ None = sym (none ∙ lookup-plain items entries bytes) in
    let between : Between bytes id (plain items entries) (insert_entry (slice_cmp nat_cmp) (plain items entries) bytes id) = insert-between bytes id (plain items entries) unknown in
    ap (id_at bytes) (inserted items entries new bytes key id key-is new-is ∙ between.now)
    ∙ id_at-between bytes id between.front between.back between.unknown

-- What the map has is known.
pub map-knows : {K : Type 0} (items : K → List ℕ) (entries : List (K × ℕ)) (bytes : List ℕ) (id : ℕ) → Some id ≡ lookup (λ k. is_eq (slice_cmp nat_cmp bytes (items k))) entries → id_at bytes (plain items entries) ≡ Some id
map-knows items entries bytes id found = sym (found ∙ lookup-plain items entries bytes)

-- A stack that is known is given.
pub recent-stack : {K : Type 0} (items : K → List ℕ) (entries : List (K × ℕ)) (stacks : List (List ℕ)) (bytes : List ℕ) (id : ℕ) → AreInterned (plain items entries) → stacks_of (plain items entries) ≡ stacks → length bytes ≢ 0 → id_at bytes (plain items entries) ≡ Some id → IsGiven stacks bytes id
recent-stack items entries stacks bytes id h is some there =
    known-stack items entries stacks bytes id h is some (sym there ∙ sym (lookup-plain items entries bytes))

-- One stack more without an id.
pub known_one_more : (entries recent : List (List ℕ × ℕ)) (bytes : List ℕ) → AreKnown entries recent → AreKnown entries (recent ++ (bytes, 0) ∷ [])
known_one_more entries recent bytes known =
    All-push (λ stack. 0 < stack.1 → id_at stack.0 entries ≡ Some stack.1) recent (bytes, 0) known (λ some. absurd (omega (arith, some)))
