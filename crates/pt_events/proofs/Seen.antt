-- The last numbers of threads after one number more.
use Rattle.std.proofs.Common.{◌≡◌, ℕ, Bool, true, false, cond, eqb, List, [], ◌∷◌, ◌++◌, map, Option, Some, refl, sym, ap, ◌∙◌}
use Rattle.std.specs.Prelude.{filter, unwrap_or}
use Rattle.ep_defs.specs.Gaps.{Sighting, Seen, Known, last_number}
use Rattle.nt_check.specs.state.Ids.{value_at}
use Rattle.pt_events.specs.declared.lasts.Lasts.{Lasts}
use Rattle.pt_events.specs.Lines.{last_of}
use Rattle.pt_events.specs.state.Known.{HasSeen, last_in}

-- The number that is told.
abbrev pub told_number : Sighting → ℕ
told_number (Seen number) = number
told_number (Known number) = number

-- What is told of a thread, and its last number.
told_of : ℕ → List (ℕ × Sighting) → List Sighting
told_of thread past = map (λ (s : ℕ × Sighting). s.1) (filter (λ (s : ℕ × Sighting). eqb s.0 thread) past)

last-told : (thread last : ℕ) (past : List (ℕ × Sighting)) (s : ℕ × Sighting) → last_number last (told_of thread (past ++ s ∷ [])) ≡ cond (eqb s.0 thread) (told_number s.1) (last_number last (told_of thread past))
unfolding told_of
last-told thread last [] s = either (eqb s.0 thread) refl s.1 refl
  where
    either : (b : Bool) → eqb s.0 thread ≡ b → (told : Sighting) → s.1 ≡ told → last_number last (map (λ (s : ℕ × Sighting). s.1) (cond (eqb s.0 thread) (s ∷ []) [])) ≡ cond (eqb s.0 thread) (told_number s.1) last
    either true e (Seen number) is = rw (e, is) refl
    either true e (Known number) is = rw (e, is) refl
    either false e told is = rw e refl
last-told thread last (first ∷ past) s = either (eqb first.0 thread) refl first.1 refl (λ (n : ℕ). last-told thread n past s)
  where
    either : (b : Bool) → eqb first.0 thread ≡ b → (told : Sighting) → first.1 ≡ told → ((n : ℕ) → last_number n (told_of thread (past ++ s ∷ [])) ≡ cond (eqb s.0 thread) (told_number s.1) (last_number n (told_of thread past))) → last_number last (told_of thread ((first ∷ past) ++ s ∷ [])) ≡ cond (eqb s.0 thread) (told_number s.1) (last_number last (told_of thread (first ∷ past)))
    either true e (Seen number) is later = rw (e, is) (later number)
    either true e (Known number) is later = rw (e, is) (later number)
    either false e told is later = rw e (later last)

pub last-more : (thread : ℕ) (past : List (ℕ × Sighting)) (s : ℕ × Sighting) → last_of thread (past ++ s ∷ []) ≡ cond (eqb s.0 thread) (told_number s.1) (last_of thread past)
unfolding told_of
last-more thread past s = last-told thread 0 past s

-- The map has one number more.
pub seen-more : (past : List (ℕ × Sighting)) (thread number : ℕ) (told : Sighting) (old new : Lasts) → told_number told ≡ number → HasSeen past old → ((q : ℕ) → value_at new.numbers q ≡ cond (eqb thread q) (Some number) (value_at old.numbers q)) → HasSeen (past ++ (thread, told) ∷ []) new
seen-more past thread number told old new is seen put = λ q.
    ap (λ (o : Option ℕ). unwrap_or o 0) (put q)
    ∙ either (eqb thread q) q
    ∙ ap (λ (n : ℕ). cond (eqb thread q) n (last_in old q)) (sym is)
    ∙ ap (λ (n : ℕ). cond (eqb thread q) (told_number told) n) (seen q)
    ∙ sym (last-more q past (thread, told))
  where
    either : (b : Bool) (q : ℕ) → unwrap_or (cond b (Some number) (value_at old.numbers q)) 0 ≡ cond b number (last_in old q)
    either true q = refl
    either false q = refl
