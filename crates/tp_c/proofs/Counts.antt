-- The counts of threads, with one entry more.
use Rattle.std.proofs.Common.{◌≡◌, ℕ, ◌+◌, ◌<◌, Bool, true, false, cond, eqb, inl, inr, List, [], ◌∷◌, ◌++◌, Option, Some, None, refl, ap, sym, ◌∙◌, arith}
use Rattle.std.proofs.Math.Nat.{add-zero}
use Rattle.std.proofs.lemmas.Bool.{cases_Bool, eqb-true}
use Rattle.std.proofs.lemmas.List.Sums.{sum_by-append}
use Rattle.std.specs.Prelude.{unwrap_or, if◌then◌else◌, ◌==◌}
use Rattle.std.specs.List.Sorted.{IsStrictlySortedBy}
use Rattle.std.specs.Map.{keys_of}
use Rattle.std.specs.Ordering.{nat_cmp}
use Rattle.ep_defs.specs.Entry.{EventEntry, PointEntry, Entry, Event, Point}
use Rattle.tp_c.specs.Counting.{is_of, events_of, told_of, count_in, IsRoll}

-- ---- events

-- What one entry that passes the test counts, and one that does not.
counts-one : (b : Bool) → b ≡ true → 0 + cond b 1 0 ≡ 1
counts-one b e = rw e refl

counts-none : (b : Bool) → b ≡ false → 0 + cond b 1 0 ≡ 0
counts-none b e = rw e refl

-- One event more of a thread.
event-counts : (thread : ℕ) (entries : List Entry) (event : EventEntry) → eqb event.thread thread ≡ true → events_of thread (entries ++ Event event ∷ []) ≡ events_of thread entries + 1
event-counts thread entries event same =
    sum_by-append (λ entry. cond (is_of thread entry) 1 0) entries (Event event ∷ [])
    ∙ ap (λ (n : ℕ). events_of thread entries + n) (counts-one (eqb event.thread thread) same)

-- One of another thread.
event-other : (thread : ℕ) (entries : List Entry) (event : EventEntry) → eqb event.thread thread ≡ false → events_of thread (entries ++ Event event ∷ []) ≡ events_of thread entries
event-other thread entries event other =
    sum_by-append (λ entry. cond (is_of thread entry) 1 0) entries (Event event ∷ [])
    ∙ ap (λ (n : ℕ). events_of thread entries + n) (counts-none (eqb event.thread thread) other)
    ∙ add-zero (events_of thread entries)

-- A point.
point-counts : (thread : ℕ) (entries : List Entry) (point : PointEntry) → events_of thread (entries ++ Point point ∷ []) ≡ events_of thread entries
point-counts thread entries point =
    sum_by-append (λ entry. cond (is_of thread entry) 1 0) entries (Point point ∷ [])
    ∙ ap (λ (n : ℕ). events_of thread entries + n) (counts-none false refl)
    ∙ add-zero (events_of thread entries)

-- ---- rolls

-- No thread has events where there are none.
pub no-roll : IsRoll [] []
unfolding IsStrictlySortedBy
no-roll = record { ascending = tt; counted = λ thread. refl; some = λ thread count h. absurd (nothing count h) }
  where
    nothing : (count : ℕ) → None ≡ Some count → ⊥
    nothing count h = cc

-- The roll with one event more.
pub event-roll : (entries : List Entry) (event : EventEntry) (old new : List (ℕ × ℕ)) → IsRoll entries old → IsStrictlySortedBy nat_cmp (keys_of new) → ((other : ℕ) → told_of other new ≡ (if event.thread == other then Some (count_in old event.thread + 1) else told_of other old)) → IsRoll (entries ++ Event event ∷ []) new
event-roll entries event old new h ascending told =
    record { ascending = ascending; counted = counted; some = some }
  where
    counted : (other : ℕ) → count_in new other ≡ events_of other (entries ++ Event event ∷ [])
    counted other =
        elim (cases_Bool (eqb event.thread other)) [
          | inl e ↦
              ap (λ (o : Option ℕ). unwrap_or o 0) (told other) ∙ ap (λ (b : Bool). unwrap_or (cond b (Some (count_in old event.thread + 1)) (told_of other old)) 0) e
              ∙ ap (λ (n : ℕ). n + 1) (ap (λ (t : ℕ). count_in old t) (eqb-true event.thread other e) ∙ h.counted other)
              ∙ sym (event-counts other entries event e)
          | inr e ↦
              ap (λ (o : Option ℕ). unwrap_or o 0) (told other) ∙ ap (λ (b : Bool). unwrap_or (cond b (Some (count_in old event.thread + 1)) (told_of other old)) 0) e
              ∙ h.counted other ∙ sym (event-other other entries event e)
        ]

    some : (other count : ℕ) → told_of other new ≡ Some count → 0 < count
    some other count found =
        elim (cases_Bool (eqb event.thread other)) [
          | inl e ↦
              positive count (count_in old event.thread) (sym (told other ∙ ap (λ (b : Bool). cond b (Some (count_in old event.thread + 1)) (told_of other old)) e) ∙ found)
          | inr e ↦
              h.some other count (sym (told other ∙ ap (λ (b : Bool). cond b (Some (count_in old event.thread + 1)) (told_of other old)) e) ∙ found)
        ]
      where
        positive : (count before : ℕ) → Some (before + 1) ≡ Some count → 0 < count
        positive count before e = let same : before + 1 ≡ count = ap (λ (o : Option ℕ). unwrap_or o 0) e in omega arith

-- A point leaves the roll.
pub point-roll : (entries : List Entry) (point : PointEntry) (threads : List (ℕ × ℕ)) → IsRoll entries threads → IsRoll (entries ++ Point point ∷ []) threads
point-roll entries point threads h =
    record {
      ascending = h.ascending;
      counted = λ thread. h.counted thread ∙ sym (point-counts thread entries point);
      some = h.some;
    }
