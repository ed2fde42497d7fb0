-- What the writes of one event have in common.
use Rattle.std.proofs.Common.{◌≡◌, ◌≢◌, ℕ, zero, suc, ◌<◌, ◌≤◌, ◌%◌, List, [], ◌∷◌, ◌++◌, length, take, drop, map, set, get_or, ◌⊎◌, inl, inr, ⊎_elim, Some, refl, sym, ap, ◌∙◌, subst, arith}
use Rattle.std.specs.Prelude.{slice_get, replicate}
use Rattle.std.specs.Int.{w32, w64, to_le_bytes}
use Rattle.std.proofs.lemmas.Option.{slice_get_within}
use Rattle.std.proofs.Common.{length-set}
use Rattle.std.proofs.lemmas.Bool.{le-leb, lt-leb}
use borrow.Rule.Slice.PartMut.{put_mid}
use Rattle.ep_defs.specs.declared.session.Write.{Write}
use Rattle.pt_load.specs.declared.plan.Plan.{Plan}
use Rattle.pt_load.specs.Sample.{sample, event_at, activity_of, payload_of, frame_of, frames_of, write_of, nth}
use Rattle.pt_load.specs.Shape.{IsShape, AreShapes}

-- what holds of each of eight numbers
eight : (P : ℕ → Type 0) → P 1 → P 2 → P 3 → P 4 → P 5 → P 6 → P 7 → P 8 → (n : ℕ) → 1 ≤ n → n ≤ 8 → P n
eight P a b c d e f g h zero low high = absurd (omega arith)
eight P a b c d e f g h (suc zero) low high = a
eight P a b c d e f g h (suc (suc zero)) low high = b
eight P a b c d e f g h (suc (suc (suc zero))) low high = c
eight P a b c d e f g h (suc (suc (suc (suc zero)))) low high = d
eight P a b c d e f g h (suc (suc (suc (suc (suc zero))))) low high = e
eight P a b c d e f g h (suc (suc (suc (suc (suc (suc zero)))))) low high = f
eight P a b c d e f g h (suc (suc (suc (suc (suc (suc (suc zero))))))) low high = g
eight P a b c d e f g h (suc (suc (suc (suc (suc (suc (suc (suc zero)))))))) low high = h
eight P a b c d e f g h (suc (suc (suc (suc (suc (suc (suc (suc (suc n))))))))) low high = absurd (omega arith)

-- the payloads of one event differ in the index alone
pub payload_shape : (event thread i k : ℕ) → 1 ≤ event → event ≤ 8
    → (length (payload_of event thread i) ≡ length (payload_of event thread k)) × (drop 4 (payload_of event thread i) ≡ drop 4 (payload_of event thread k))
unfolding payload_of sample
payload_shape event thread i k low high =
    eight (λ e. (length (payload_of e thread i) ≡ length (payload_of e thread k)) × (drop 4 (payload_of e thread i) ≡ drop 4 (payload_of e thread k)))
    (refl, refl) (refl, refl) (refl, refl) (refl, refl) (refl, refl) (refl, refl) (refl, refl) (refl, refl) event low high

-- a payload with an index has four bytes and more, and is the index and what stands behind it
pub payload_indexed : (event thread i k : ℕ) → 1 ≤ event → event ≤ 8 → event ≢ 6
    → (4 ≤ length (payload_of event thread k)) × (to_le_bytes w32 i ++ drop 4 (payload_of event thread k) ≡ payload_of event thread i)
unfolding payload_of sample
payload_indexed event thread i k low high =
    eight (λ e. e ≢ 6 → (4 ≤ length (payload_of e thread k)) × (to_le_bytes w32 i ++ drop 4 (payload_of e thread k) ≡ payload_of e thread i))
    (λ _. (omega arith, refl)) (λ _. (omega arith, refl)) (λ _. (omega arith, refl)) (λ _. (omega arith, refl)) (λ _. (omega arith, refl)) (λ ne. absurd (ne refl)) (λ _. (omega arith, refl)) (λ _. (omega arith, refl)) event low high

-- the sixth event has no payload
pub payload_none : (event thread index : ℕ) → event ≡ 6 → payload_of event thread index ≡ []
unfolding payload_of sample
payload_none event thread index is = rw is refl

-- the second event has the thread behind the index
pub payload_stop : (event thread index : ℕ) → event ≡ 2 → payload_of event thread index ≡ to_le_bytes w32 index ++ to_le_bytes w64 thread
unfolding payload_of sample
payload_stop event thread index is = rw is refl

-- every other event has the index alone
pub payload_index : (event thread index : ℕ) → 1 ≤ event → event ≤ 8 → event ≢ 6 → event ≢ 2 → payload_of event thread index ≡ to_le_bytes w32 index
unfolding payload_of sample
payload_index event thread index low high =
    eight (λ e. e ≢ 6 → e ≢ 2 → payload_of e thread index ≡ to_le_bytes w32 index)
    (λ _ _. refl) (λ _ ne. absurd (ne refl)) (λ _ _. refl) (λ _ _. refl) (λ _ _. refl) (λ ne _. absurd (ne refl)) (λ _ _. refl) (λ _ _. refl) event low high

-- a request's activity, written half by half
pub activity_request : (event thread index : ℕ) (a b : List ℕ) → event ≤ 3 → a ≡ to_le_bytes w64 thread → b ≡ to_le_bytes w64 index
    → put_mid 8 8 (a ++ 0 ∷ 0 ∷ 0 ∷ 0 ∷ 0 ∷ 0 ∷ 0 ∷ 0 ∷ []) b ≡ activity_of event thread index
unfolding activity_of
activity_request event thread index a b few first second = rw (first, second, le-leb event 3 few) refl

-- any other event has none
pub activity_none : (event thread index : ℕ) → 3 < event → replicate 16 0 ≡ activity_of event thread index
unfolding activity_of
activity_none event thread index many = rw (lt-leb event 3 many) refl

-- a list with these numbers is the list of the frames
pub frames_are : (index : ℕ) (l : List ℕ) → length l ≡ index % 4 → ((k : ℕ) → k < index % 4 → get_or l k 0 ≡ frame_of index k) → l ≡ frames_of index
unfolding frames_of
frames_are index l long each = few l (index % 4) long (omega arith) each
  where
    few : (l : List ℕ) (n : ℕ) → length l ≡ n → n < 4 → ((k : ℕ) → k < n → get_or l k 0 ≡ frame_of index k) → l ≡ take n (map (frame_of index) (0 ∷ 1 ∷ 2 ∷ []))
    few [] zero long below each = refl
    few (a ∷ []) (suc zero) long below each = λ i. each 0 (omega arith) i ∷ []
    few (a ∷ b ∷ []) (suc (suc zero)) long below each = λ i. each 0 (omega arith) i ∷ each 1 (omega arith) i ∷ []
    few (a ∷ b ∷ c ∷ []) (suc (suc (suc zero))) long below each = λ i. each 0 (omega arith) i ∷ each 1 (omega arith) i ∷ each 2 (omega arith) i ∷ []
    few [] (suc n) long below each = absurd (omega arith)
    few (a ∷ l) zero long below each = absurd (omega arith)
    few (a ∷ []) (suc (suc n)) long below each = absurd (omega arith)
    few (a ∷ b ∷ l) (suc zero) long below each = absurd (omega arith)
    few (a ∷ b ∷ []) (suc (suc (suc n))) long below each = absurd (omega arith)
    few (a ∷ b ∷ c ∷ l) (suc (suc zero)) long below each = absurd (omega arith)
    few (a ∷ b ∷ c ∷ d ∷ l) (suc (suc (suc n))) long below each = absurd (omega arith)
    few (a ∷ b ∷ c ∷ l) (suc (suc (suc (suc n)))) long below each = absurd (omega arith)

-- the event of a turn, one of eight
pub event_low : (plan : Plan) (thread index : ℕ) → 1 ≤ event_at plan thread index
event_low plan thread index = omega arith

pub event_high : (plan : Plan) (thread index : ℕ) → event_at plan thread index ≤ 8
event_high plan thread index = omega arith

-- writes whose indexes are equal modulo 8 have one event
pub event_again : (plan : Plan) (thread index : ℕ) → event_at plan thread (index % 8) ≡ event_at plan thread index
event_again plan thread index = omega arith

frames_long : (index : ℕ) → length (frames_of index) ≡ index % 4
unfolding frames_of
frames_long index = few (index % 4) (omega arith)
  where
    few : (n : ℕ) → n < 4 → length (take n (map (frame_of index) (0 ∷ 1 ∷ 2 ∷ []))) ≡ n
    few zero below = refl
    few (suc zero) below = refl
    few (suc (suc zero)) below = refl
    few (suc (suc (suc zero))) below = refl
    few (suc (suc (suc (suc n)))) below = absurd (omega arith)

-- a write has the shape of its turn
pub shape_of : (plan : Plan) (thread index k : ℕ) (write : Write) → k ≡ index % 8 → write ≡ nth plan thread index → IsShape (event_at plan thread k) thread k write
shape_of plan thread index k write turn is =
    let event : event_at plan thread index ≡ event_at plan thread k = sym (ap (event_at plan thread) turn ∙ event_again plan thread index) in
    let same = payload_shape (event_at plan thread index) thread index 0 (event_low plan thread index) (event_high plan thread index) in
    subst (IsShape (event_at plan thread k) thread k) (sym is) (record {
      event_is = event;
      related = refl;
      frames = let long = frames_long index in omega arith;
      payload = same.0 ∙ ap (λ e. length (payload_of e thread 0)) event;
      rest = same.1 ∙ ap (λ e. drop 4 (payload_of e thread 0)) event;
    })

-- a thread's first eight writes are its shapes
pub shapes_made : (plan : Plan) (thread : ℕ) (shapes : List Write) → length shapes ≡ 8
    → ((k : ℕ) (write : Write) → slice_get shapes k ≡ Some write → write ≡ nth plan thread k) → AreShapes plan thread shapes
shapes_made plan thread shapes long made = record {
  eight = long;
  each = λ k write e. let inside = slice_get_within shapes k write e in shape_of plan thread k k write (omega arith) (made k write e);
}

-- a shape with the numbers of an index is the write
pub renumbered : (thread index : ℕ) (old : Write) (activity frames payload : List ℕ) → IsShape old.event thread index old
    → activity ≡ activity_of old.event thread index → frames ≡ frames_of index → payload ≡ payload_of old.event thread index
    → record { event = old.event; activity = activity; related = old.related; frames = frames; payload = payload } ≡ write_of old.event thread index
renumbered thread index old activity frames payload shape first second third = rw (shape.related, first, second, third) refl

-- a shape is one for each index of its turn
pub shape_turns : (event thread k index : ℕ) (write : Write) → k ≡ index % 8 → IsShape event thread k write → IsShape write.event thread index write
shape_turns event thread k index write turn shape = record {
  event_is = refl;
  related = shape.related;
  frames = let long = shape.frames in omega arith;
  payload = shape.payload ∙ ap (λ e. length (payload_of e thread 0)) (sym shape.event_is);
  rest = shape.rest ∙ ap (λ e. drop 4 (payload_of e thread 0)) (sym shape.event_is);
}

get_set : (l : List Write) (k j : ℕ) (w v : Write) → slice_get (set l k w) j ≡ Some v → ((j ≡ k) × (w ≡ v)) ⊎ (slice_get l j ≡ Some v)
get_set [] k j w v e = inr e
get_set (x ∷ xs) zero zero w v e = inl (refl, cc)
get_set (x ∷ xs) zero (suc j) w v e = inr e
get_set (x ∷ xs) (suc k) zero w v e = inr e
get_set (x ∷ xs) (suc k) (suc j) w v e = ⊎_elim (λ t. inl (ap suc t.0, t.1)) (λ t. inr t) (get_set xs k j w v e)

-- one shape becomes another write of its turn
pub shapes_set : (plan : Plan) (thread : ℕ) (shapes : List Write) (k index : ℕ) (write : Write) → k ≡ index % 8 → write ≡ nth plan thread index → AreShapes plan thread shapes → AreShapes plan thread (set shapes k write)
shapes_set plan thread shapes k index write turn is kept = record {
  eight = length-set shapes k write ∙ kept.eight;
  each = λ j other e. ⊎_elim
      (λ (t : (j ≡ k) × (write ≡ other)). shape_of plan thread index j other (t.0 ∙ turn) (sym t.1 ∙ is))
      (λ (t : slice_get shapes j ≡ Some other). kept.each j other t)
      (get_set shapes k j write other e);
}
