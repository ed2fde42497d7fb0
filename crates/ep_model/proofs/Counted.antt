-- The fold of a session's budget counts the chunks that are held by places.
use Rattle.std.proofs.Common.{◌≡◌, ℕ, ◌+◌, Bool, true, false, cond, inl, inr, List, [], ◌∷◌, ◌++◌, eqb, refl, ap, sym, ◌∙◌, arith}
use Rattle.std.specs.Prelude.{not, ◌&&◌, ◌||◌, nat_le}
use Rattle.std.specs.List.{list_any}
use Rattle.std.proofs.lemmas.Bool.{eq-eqb, ne_eqb, cases_Bool, cases_eq, not-false, not_from_false, or_parts, or_right, and_right}
use Rattle.std.proofs.lemmas.List.{append-nil}
use Rattle.ep_model.specs.declared.step.Step.TheVariants as step
use Rattle.ep_model.specs.Budget.{Pending, needs_chunk, pending_with}
use Rattle.ep_model.specs.Chunks.{Turn, Written, Taken, Given, takes_from, begins_for, gives, has_pending, last_chunk, needs_chunk_after, is_back, held, in_hand, shown_after, is_refused, chunks_of, shown_size, turns}
use Rattle.ep_model.specs.Fold.{Budget, no_budget, lacks_chunk, with_record, with_steal, with_give, with_show, budget_of}
use Rattle.ep_model.specs.History.{Past}

-- ---- tests of a turn more at the end

any-stays : (p : Turn → Bool) (turns : List Turn) (turn : Turn) → p turn ≡ false → list_any p (turns ++ turn ∷ []) ≡ list_any p turns
any-stays p [] turn e = rw e refl
any-stays p (first ∷ turns) turn e = ap (λ b. p first || b) (any-stays p turns turn e)

any-now : (p : Turn → Bool) (turns : List Turn) (turn : Turn) → p turn ≡ true → list_any p (turns ++ turn ∷ []) ≡ true
any-now p [] turn e = rw e refl
any-now p (first ∷ turns) turn e = or_right (p first) _ (any-now p turns turn e)

-- ---- a chunk comes back only after it was taken

untaken-out : (thread : ℕ) (turns : List Turn) → list_any (takes_from thread) turns ≡ false → is_back thread turns ≡ false
untaken-out thread [] e = refl
untaken-out thread (Written t size begins ∷ turns) e = untaken-out thread turns e
untaken-out thread (Taken t ∷ turns) e =
    elim (cases_Bool (eqb t thread)) [ inl same ↦ let no : true ≡ false = rw same at e in cc | inr other ↦ rw other (untaken-out thread turns (rw other at e)) ]
untaken-out thread (Given ∷ turns) e = untaken-out thread turns e

-- How many chunks the thread began and nothing took since.
abbrev untaken : ℕ → List Turn → ℕ
untaken thread [] = 0
untaken thread (Written t size begins ∷ later) = cond (eqb t thread && (begins && not (list_any (takes_from thread) later))) 1 0 + untaken thread later
untaken thread (_ ∷ later) = untaken thread later

-- ---- a record more

back-written : (thread t size : ℕ) (begins : Bool) (turns : List Turn) → is_back thread (turns ++ Written t size begins ∷ []) ≡ is_back thread turns
back-written thread t size begins [] = refl
back-written thread t size begins (Written t1 size1 begins1 ∷ turns) = back-written thread t size begins turns
back-written thread t size begins (Taken t1 ∷ turns) =
    rw (any-stays gives turns (Written t size begins) refl, back-written thread t size begins turns) refl
back-written thread t size begins (Given ∷ turns) = back-written thread t size begins turns

held-written : (t size : ℕ) (begins : Bool) (turns : List Turn) → held (turns ++ Written t size begins ∷ []) ≡ held turns + cond begins 1 0
held-written t size true [] = refl
held-written t size false [] = refl
held-written t size begins (Written t1 size1 begins1 ∷ turns) =
    rw (back-written t1 t size begins turns, held-written t size begins turns) (omega arith)
held-written t size begins (Taken t1 ∷ turns) = held-written t size begins turns
held-written t size begins (Given ∷ turns) = held-written t size begins turns

hand-written : (t size : ℕ) (begins : Bool) (turns : List Turn) → in_hand (turns ++ Written t size begins ∷ []) ≡ in_hand turns
hand-written t size true [] = refl
hand-written t size false [] = refl
hand-written t size begins (Written t1 size1 begins1 ∷ turns) =
    rw (back-written t1 t size begins turns, any-stays (takes_from t1) turns (Written t size begins) refl, hand-written t size begins turns) refl
hand-written t size begins (Taken t1 ∷ turns) = hand-written t size begins turns
hand-written t size begins (Given ∷ turns) = hand-written t size begins turns

pending-here : (t size : ℕ) (begins : Bool) (turns : List Turn) → has_pending t (turns ++ Written t size begins ∷ []) ≡ true
pending-here t size begins [] = rw (eq-eqb t t refl) refl
pending-here t size begins (Written t1 size1 begins1 ∷ turns) = or_right _ _ (pending-here t size begins turns)
pending-here t size begins (Taken t1 ∷ turns) = pending-here t size begins turns
pending-here t size begins (Given ∷ turns) = pending-here t size begins turns

pending-other : (thread t size : ℕ) (begins : Bool) (turns : List Turn) → eqb t thread ≡ false → has_pending thread (turns ++ Written t size begins ∷ []) ≡ has_pending thread turns
pending-other thread t size begins [] e = rw e refl
pending-other thread t size begins (Written t1 size1 begins1 ∷ turns) e =
    rw (any-stays (takes_from thread) turns (Written t size begins) refl, pending-other thread t size begins turns e) refl
pending-other thread t size begins (Taken t1 ∷ turns) e = pending-other thread t size begins turns e
pending-other thread t size begins (Given ∷ turns) e = pending-other thread t size begins turns e

last-begun : (t size : ℕ) (turns : List Turn) → last_chunk t (turns ++ Written t size true ∷ []) ≡ size
last-begun t size [] = rw (eq-eqb t t refl) (omega arith)
last-begun t size (Written t1 size1 begins1 ∷ turns) =
    let now = any-now (begins_for t) turns (Written t size true) (rw (eq-eqb t t refl) refl) in
    rw (now, and_right (eqb t1 t) false refl, last-begun t size turns) (omega arith)
last-begun t size (Taken t1 ∷ turns) = last-begun t size turns
last-begun t size (Given ∷ turns) = last-begun t size turns

last-more : (t size : ℕ) (turns : List Turn) → last_chunk t (turns ++ Written t size false ∷ []) ≡ last_chunk t turns + size
last-more t size [] = rw (eq-eqb t t refl) (omega arith)
last-more t size (Written t1 size1 begins1 ∷ turns) =
    rw (any-stays (begins_for t) turns (Written t size false) (and_right (eqb t t) false refl), last-more t size turns) (omega arith)
last-more t size (Taken t1 ∷ turns) = last-more t size turns
last-more t size (Given ∷ turns) = last-more t size turns

last-other : (thread t size : ℕ) (begins : Bool) (turns : List Turn) → eqb t thread ≡ false → last_chunk thread (turns ++ Written t size begins ∷ []) ≡ last_chunk thread turns
last-other thread t size begins [] e = rw e refl
last-other thread t size begins (Written t1 size1 begins1 ∷ turns) e =
    rw (any-stays (begins_for thread) turns (Written t size begins) (ap (λ b. b && begins) e), last-other thread t size begins turns e) refl
last-other thread t size begins (Taken t1 ∷ turns) e = last-other thread t size begins turns e
last-other thread t size begins (Given ∷ turns) e = last-other thread t size begins turns e

untaken-here : (t size : ℕ) (begins : Bool) (turns : List Turn) → untaken t (turns ++ Written t size begins ∷ []) ≡ untaken t turns + cond begins 1 0
untaken-here t size true [] = rw (eq-eqb t t refl) refl
untaken-here t size false [] = rw (eq-eqb t t refl) refl
untaken-here t size begins (Written t1 size1 begins1 ∷ turns) =
    rw (any-stays (takes_from t) turns (Written t size begins) refl, untaken-here t size begins turns) (omega arith)
untaken-here t size begins (Taken t1 ∷ turns) = untaken-here t size begins turns
untaken-here t size begins (Given ∷ turns) = untaken-here t size begins turns

untaken-other : (thread t size : ℕ) (begins : Bool) (turns : List Turn) → eqb t thread ≡ false → untaken thread (turns ++ Written t size begins ∷ []) ≡ untaken thread turns
untaken-other thread t size begins [] e = rw e refl
untaken-other thread t size begins (Written t1 size1 begins1 ∷ turns) e =
    rw (any-stays (takes_from thread) turns (Written t size begins) refl, untaken-other thread t size begins turns e) refl
untaken-other thread t size begins (Taken t1 ∷ turns) e = untaken-other thread t size begins turns e
untaken-other thread t size begins (Given ∷ turns) e = untaken-other thread t size begins turns e

-- ---- a Steal or a Close more

back-taken : (thread t : ℕ) (turns : List Turn) → is_back thread (turns ++ Taken t ∷ []) ≡ is_back thread turns
back-taken thread t [] = elim (eqb t thread) as (λ b. cond b false false ≡ false) [ true ↦ refl | false ↦ refl ]
back-taken thread t (Written t1 size1 begins1 ∷ turns) = back-taken thread t turns
back-taken thread t (Taken t1 ∷ turns) = rw (any-stays gives turns (Taken t) refl, back-taken thread t turns) refl
back-taken thread t (Given ∷ turns) = back-taken thread t turns

held-taken : (t : ℕ) (turns : List Turn) → held (turns ++ Taken t ∷ []) ≡ held turns
held-taken t [] = refl
held-taken t (Written t1 size1 begins1 ∷ turns) = rw (back-taken t1 t turns, held-taken t turns) refl
held-taken t (Taken t1 ∷ turns) = held-taken t turns
held-taken t (Given ∷ turns) = held-taken t turns

-- A chunk of the thread that was not taken is in hand from then on.
one-taken : (begins taken back : Bool) → (taken ≡ false → back ≡ false) → cond (begins && true && not back) 1 0 ≡ cond (begins && taken && not back) 1 0 + cond (true && (begins && not taken)) 1 0
one-taken false true back out = refl
one-taken false false back out = refl
one-taken true true true out = refl
one-taken true true false out = refl
one-taken true false back out = rw (out refl) refl

hand-taken : (t : ℕ) (turns : List Turn) → in_hand (turns ++ Taken t ∷ []) ≡ in_hand turns + untaken t turns
hand-taken t [] = refl
hand-taken t (Written t1 size1 begins1 ∷ turns) =
    let more = hand-taken t turns in
    elim (cases_eq t1 t) [
      | inl same ↦
          let now = any-now (takes_from t) turns (Taken t) (eq-eqb t t refl) in
          let one = one-taken begins1 (list_any (takes_from t) turns) (is_back t turns) (untaken-out t turns) in
          rw (same, now, back-taken t t turns, more, eq-eqb t t refl) (omega (arith, one))
      | inr other ↦
          let stays = any-stays (takes_from t1) turns (Taken t) (ne_eqb t t1 (λ e. other (sym e))) in
          rw (stays, back-taken t1 t turns, more, ne_eqb t1 t other) (omega arith)
    ]
hand-taken t (Taken t1 ∷ turns) = hand-taken t turns
hand-taken t (Given ∷ turns) = hand-taken t turns

none-pending : (t : ℕ) (turns : List Turn) → has_pending t (turns ++ Taken t ∷ []) ≡ false
none-pending t [] = refl
none-pending t (Written t1 size1 begins1 ∷ turns) =
    rw (any-now (takes_from t) turns (Taken t) (eq-eqb t t refl), and_right (eqb t1 t) false refl) (none-pending t turns)
none-pending t (Taken t1 ∷ turns) = none-pending t turns
none-pending t (Given ∷ turns) = none-pending t turns

pending-taken : (thread t : ℕ) (turns : List Turn) → eqb t thread ≡ false → has_pending thread (turns ++ Taken t ∷ []) ≡ has_pending thread turns
pending-taken thread t [] e = refl
pending-taken thread t (Written t1 size1 begins1 ∷ turns) e = rw (any-stays (takes_from thread) turns (Taken t) e, pending-taken thread t turns e) refl
pending-taken thread t (Taken t1 ∷ turns) e = pending-taken thread t turns e
pending-taken thread t (Given ∷ turns) e = pending-taken thread t turns e

none-untaken : (t : ℕ) (turns : List Turn) → untaken t (turns ++ Taken t ∷ []) ≡ 0
none-untaken t [] = refl
none-untaken t (Written t1 size1 begins1 ∷ turns) =
    rw (any-now (takes_from t) turns (Taken t) (eq-eqb t t refl), and_right begins1 false refl, and_right (eqb t1 t) false refl, none-untaken t turns) refl
none-untaken t (Taken t1 ∷ turns) = none-untaken t turns
none-untaken t (Given ∷ turns) = none-untaken t turns

untaken-taken : (thread t : ℕ) (turns : List Turn) → eqb t thread ≡ false → untaken thread (turns ++ Taken t ∷ []) ≡ untaken thread turns
untaken-taken thread t [] e = refl
untaken-taken thread t (Written t1 size1 begins1 ∷ turns) e = rw (any-stays (takes_from thread) turns (Taken t) e, untaken-taken thread t turns e) refl
untaken-taken thread t (Taken t1 ∷ turns) e = untaken-taken thread t turns e
untaken-taken thread t (Given ∷ turns) e = untaken-taken thread t turns e

last-taken : (thread t : ℕ) (turns : List Turn) → last_chunk thread (turns ++ Taken t ∷ []) ≡ last_chunk thread turns
last-taken thread t [] = refl
last-taken thread t (Written t1 size1 begins1 ∷ turns) = rw (any-stays (begins_for thread) turns (Taken t) refl, last-taken thread t turns) refl
last-taken thread t (Taken t1 ∷ turns) = last-taken thread t turns
last-taken thread t (Given ∷ turns) = last-taken thread t turns

-- ---- a Give more

back-given : (thread : ℕ) (turns : List Turn) → is_back thread (turns ++ Given ∷ []) ≡ list_any (takes_from thread) turns
back-given thread [] = refl
back-given thread (Written t1 size1 begins1 ∷ turns) = back-given thread turns
back-given thread (Taken t1 ∷ turns) =
    rw (any-now gives turns Given refl, back-given thread turns)
    (elim (eqb t1 thread) as (λ b. cond b true (list_any (takes_from thread) turns) ≡ (b || list_any (takes_from thread) turns)) [ true ↦ refl | false ↦ refl ])
back-given thread (Given ∷ turns) = back-given thread turns

-- A chunk that was taken is held no more.
one-given : (begins taken back : Bool) → (taken ≡ false → back ≡ false) → cond (begins && not taken) 1 0 + cond (begins && taken && not back) 1 0 ≡ cond (begins && not back) 1 0
one-given false true back out = refl
one-given false false back out = refl
one-given true true true out = refl
one-given true true false out = refl
one-given true false back out = rw (out refl) refl

held-given : (turns : List Turn) → held (turns ++ Given ∷ []) + in_hand turns ≡ held turns
held-given [] = refl
held-given (Written t1 size1 begins1 ∷ turns) =
    let more = held-given turns in
    let one = one-given begins1 (list_any (takes_from t1) turns) (is_back t1 turns) (untaken-out t1 turns) in
    rw (back-given t1 turns) (omega (arith, more, one))
held-given (Taken t1 ∷ turns) = held-given turns
held-given (Given ∷ turns) = held-given turns

none-left : (begins taken : Bool) → cond {A = ℕ} (begins && taken && not taken) 1 0 ≡ 0
none-left false true = refl
none-left false false = refl
none-left true true = refl
none-left true false = refl

hand-given : (turns : List Turn) → in_hand (turns ++ Given ∷ []) ≡ 0
hand-given [] = refl
hand-given (Written t1 size1 begins1 ∷ turns) =
    rw (back-given t1 turns, any-stays (takes_from t1) turns Given refl, hand-given turns, none-left begins1 (list_any (takes_from t1) turns)) refl
hand-given (Taken t1 ∷ turns) = hand-given turns
hand-given (Given ∷ turns) = hand-given turns

pending-given : (thread : ℕ) (turns : List Turn) → has_pending thread (turns ++ Given ∷ []) ≡ has_pending thread turns
pending-given thread [] = refl
pending-given thread (Written t1 size1 begins1 ∷ turns) = rw (any-stays (takes_from thread) turns Given refl, pending-given thread turns) refl
pending-given thread (Taken t1 ∷ turns) = pending-given thread turns
pending-given thread (Given ∷ turns) = pending-given thread turns

untaken-given : (thread : ℕ) (turns : List Turn) → untaken thread (turns ++ Given ∷ []) ≡ untaken thread turns
untaken-given thread [] = refl
untaken-given thread (Written t1 size1 begins1 ∷ turns) = rw (any-stays (takes_from thread) turns Given refl, untaken-given thread turns) refl
untaken-given thread (Taken t1 ∷ turns) = untaken-given thread turns
untaken-given thread (Given ∷ turns) = untaken-given thread turns

last-given : (thread : ℕ) (turns : List Turn) → last_chunk thread (turns ++ Given ∷ []) ≡ last_chunk thread turns
last-given thread [] = refl
last-given thread (Written t1 size1 begins1 ∷ turns) = rw (any-stays (begins_for thread) turns Given refl, last-given thread turns) refl
last-given thread (Taken t1 ∷ turns) = last-given thread turns
last-given thread (Given ∷ turns) = last-given thread turns

-- ---- the fold

-- The budget counts what the turns say of one thread.
record CountsOn (thread : ℕ) (turns : List Turn) (pending : Pending) : Type 0 where
  chunks_are : untaken thread turns ≡ pending.chunks
  some : has_pending thread turns ≡ not (eqb pending.chunks 0)
  used_are : has_pending thread turns ≡ true → last_chunk thread turns ≡ pending.used

-- The budget counts what the turns say.
record Counts (turns : List Turn) (budget : Budget) : Type 0 where
  held_are : held turns ≡ budget.held
  hand_is : in_hand turns ≡ budget.in_hand
  threads : (thread : ℕ) → CountsOn thread turns (budget.pending thread)

no-counts : Counts [] no_budget
no-counts = record { held_are = refl; hand_is = refl; threads = λ thread. record { chunks_are = refl; some = refl; used_are = λ e. cc } }

some-not_none : (b : Bool) {c : Bool} → not b ≡ true → c ≡ (b || c)
some-not_none true h = cc
some-not_none false h = refl

-- A record needs a chunk alike.
needs-counts : (turns : List Turn) (thread size : ℕ) (pending : Pending) → CountsOn thread turns pending → needs_chunk_after turns thread size ≡ needs_chunk pending size
needs-counts turns thread size pending h =
    elim (cases_Bool (has_pending thread turns)) [
      | inl there ↦
          let some : not (eqb pending.chunks 0) ≡ true = sym h.some ∙ there in
          rw (there, h.used_are there) (some-not_none (eqb pending.chunks 0) some)
      | inr none ↦
          let nothing : not (eqb pending.chunks 0) ≡ false = sym h.some ∙ none in
          rw (none, not-false (eqb pending.chunks 0) nothing) refl
    ]

-- A record more, which begins the chunk that it needs.
begun-counts : (turns : List Turn) (t size : ℕ) (pending : Pending) → needs_chunk pending size ≡ true → CountsOn t turns pending → CountsOn t (turns ++ Written t size true ∷ []) (pending_with pending size)
begun-counts turns t size pending needs h =
    rw needs
    record {
      chunks_are = untaken-here t size true turns ∙ ap (λ n. n + 1) h.chunks_are;
      some = pending-here t size true turns ∙ sym (ap not (ne_eqb (pending.chunks + 1) 0 (λ e. omega arith)));
      used_are = λ e. last-begun t size turns;
    }

-- A record more in a chunk that has the room.
more-counts : (turns : List Turn) (t size : ℕ) (pending : Pending) → needs_chunk pending size ≡ false → CountsOn t turns pending → CountsOn t (turns ++ Written t size false ∷ []) (pending_with pending size)
more-counts turns t size pending room h =
    let some : not (eqb pending.chunks 0) ≡ true = not_from_false (eqb pending.chunks 0) (or_parts (eqb pending.chunks 0) _ room).0 in
    rw room
    record {
      chunks_are = untaken-here t size false turns ∙ omega (arith, h.chunks_are);
      some = pending-here t size false turns ∙ sym some;
      used_are = λ e. last-more t size turns ∙ ap (λ n. n + size) (h.used_are (h.some ∙ some));
    }

-- A record of one thread leaves another as it was.
other-written : (thread t size : ℕ) (begins : Bool) (turns : List Turn) (pending : Pending) → eqb t thread ≡ false → CountsOn thread turns pending → CountsOn thread (turns ++ Written t size begins ∷ []) pending
other-written thread t size begins turns pending e h =
    record {
      chunks_are = untaken-other thread t size begins turns e ∙ h.chunks_are;
      some = pending-other thread t size begins turns e ∙ h.some;
      used_are = λ there. last-other thread t size begins turns e ∙ h.used_are (sym (pending-other thread t size begins turns e) ∙ there);
    }

record-counts : (turns : List Turn) (budget : Budget) (t size : ℕ) → Counts turns budget → Counts (turns ++ Written t size (needs_chunk (budget.pending t) size) ∷ []) (with_record budget t size)
record-counts turns budget t size h =
    let begins = needs_chunk (budget.pending t) size in
    record {
      held_are = held-written t size begins turns ∙ ap (λ n. n + cond begins 1 0) h.held_are;
      hand_is = hand-written t size begins turns ∙ h.hand_is;
      threads = λ thread.
          elim (cases_eq thread t) [
            | inl same ↦ rw (same, eq-eqb t t refl) (here begins refl)
            | inr other ↦ rw (ne_eqb thread t other) (other-written thread t size begins turns (budget.pending thread) (ne_eqb t thread (λ e. other (sym e))) (h.threads thread))
          ];
    }
  where
    here : (begins : Bool) → needs_chunk (budget.pending t) size ≡ begins → CountsOn t (turns ++ Written t size begins ∷ []) (pending_with (budget.pending t) size)
    here true e = begun-counts turns t size (budget.pending t) e (h.threads t)
    here false e = more-counts turns t size (budget.pending t) e (h.threads t)

-- A Show more is refused or written alike.
show-counts : (turns : List Turn) (budget : Budget) (chunks t size : ℕ) → Counts turns budget → Counts (turns ++ shown_after turns chunks t size) (with_show budget chunks t size)
show-counts turns budget chunks t size h =
    let needs = needs-counts turns t size (budget.pending t) (h.threads t) in
    rw (needs, h.held_are) (either (needs_chunk (budget.pending t) size && nat_le chunks budget.held))
  where
    either : (refuses : Bool) → Counts (turns ++ cond refuses [] (Written t size (needs_chunk (budget.pending t) size) ∷ [])) (cond refuses budget (with_record budget t size))
    either true = rw (append-nil turns) h
    either false = record-counts turns budget t size h

steal-counts : (turns : List Turn) (budget : Budget) (t : ℕ) → Counts turns budget → Counts (turns ++ Taken t ∷ []) (with_steal budget t)
steal-counts turns budget t h =
    record {
      held_are = held-taken t turns ∙ h.held_are;
      hand_is = hand-taken t turns ∙ omega (arith, h.hand_is, (h.threads t).chunks_are);
      threads = λ thread.
          elim (cases_eq thread t) [
            | inl same ↦
                rw (same, eq-eqb t t refl)
                record { chunks_are = none-untaken t turns; some = none-pending t turns; used_are = λ e. let none = none-pending t turns in cc }
            | inr other ↦
                let e = ne_eqb t thread (λ e. other (sym e)) in
                rw (ne_eqb thread t other)
                record {
                  chunks_are = untaken-taken thread t turns e ∙ (h.threads thread).chunks_are;
                  some = pending-taken thread t turns e ∙ (h.threads thread).some;
                  used_are = λ there. last-taken thread t turns ∙ (h.threads thread).used_are (sym (pending-taken thread t turns e) ∙ there);
                }
          ];
    }

give-counts : (turns : List Turn) (budget : Budget) → Counts turns budget → Counts (turns ++ Given ∷ []) (with_give budget)
give-counts turns budget h =
    record {
      held_are = let more = held-given turns in omega (arith, more, h.held_are, h.hand_is);
      hand_is = hand-given turns;
      threads = λ thread.
          record {
            chunks_are = untaken-given thread turns ∙ (h.threads thread).chunks_are;
            some = pending-given thread turns ∙ (h.threads thread).some;
            used_are = λ there. last-given thread turns ∙ (h.threads thread).used_are (sym (pending-given thread turns) ∙ there);
          };
    }

counts-if : (own : Bool) (turns more : List Turn) (budget next : Budget) → Counts turns budget → (Counts turns budget → Counts (turns ++ more) next) → Counts (cond own (turns ++ more) turns) (cond own next budget)
counts-if true turns more budget next h makes = makes h
counts-if false turns more budget next h makes = h

counts : (session : ℕ) (past : Past) → Counts (turns session past) (budget_of session past)
counts session [] = no-counts
counts session (step.Show t s ∷ past) =
    counts-if (eqb s session) _ _ _ _ (counts session past) (show-counts (turns session past) (budget_of session past) (chunks_of session past) t (shown_size t past))
counts session (step.Steal s t ∷ past) =
    counts-if (eqb s session) _ _ _ _ (counts session past) (steal-counts (turns session past) (budget_of session past) t)
counts session (step.Close s t ∷ past) =
    counts-if (eqb s session) _ _ _ _ (counts session past) (steal-counts (turns session past) (budget_of session past) t)
counts session (step.Give s ∷ past) =
    counts-if (eqb s session) _ _ _ _ (counts session past) (give-counts (turns session past) (budget_of session past))
counts session (_ ∷ past) = counts session past

-- ---- what the fold says

pub held-counted : (session : ℕ) (past : Past) → held (turns session past) ≡ (budget_of session past).held
held-counted session past = (counts session past).held_are

pub hand-counted : (session : ℕ) (past : Past) → in_hand (turns session past) ≡ (budget_of session past).in_hand
hand-counted session past = (counts session past).hand_is

pub needs-counted : (session thread size : ℕ) (past : Past) → needs_chunk_after (turns session past) thread size ≡ needs_chunk ((budget_of session past).pending thread) size
needs-counted session thread size past = needs-counts (turns session past) thread size ((budget_of session past).pending thread) ((counts session past).threads thread)

pub refused-counted : (session thread : ℕ) (past : Past) → is_refused session thread past ≡ lacks_chunk (budget_of session past) (chunks_of session past) thread (shown_size thread past)
refused-counted session thread past = rw (needs-counted session thread (shown_size thread past) past, held-counted session past) refl
