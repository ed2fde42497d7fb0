-- What the threads write, by place.
use Rattle.std.proofs.Common.{◌≡◌, ℕ, zero, suc, ◌+◌, ◌<◌, ◌≤◌, List, [], ◌∷◌, ◌++◌, Option, Some, length, refl, ap, sym, subst, ◌∙◌, arith}
use Rattle.std.specs.Prelude.{option_map, slice_get, map, is_some, IsTrue}
use Rattle.std.specs.List.{range_with_len}
use Rattle.std.proofs.lemmas.List.FromFn.{get_or-range_with_len, length-range_with_len}
use Rattle.std.proofs.lemmas.Option.{slice_get-get_or, slice_get-map}
use Rattle.std.proofs.lemmas.List.{length-map, map-append}
use Rattle.ep_defs.specs.declared.event.EventDef.{EventDef}
use Rattle.ep_defs.specs.declared.limits.TheConstants.{WRITES}
use Rattle.ep_defs.specs.declared.session.Write.{Write}
use Rattle.ep_defs.specs.Session.{fits}
use Rattle.ep_guarded.specs.declared.agreed.Agreed.{Agreed}
use Rattle.ep_guarded.specs.declared.agreed.Stand.{Stand}
use Rattle.ep_guarded.specs.Tied.{stand_in, IsNextOf}
use Rattle.ep_live.specs.Live.{IsNextWrite}
use Rattle.pt_load.specs.Sample.{nth, event_at, sample}
use Rattle.pt_load.specs.declared.plan.Plan.{Plan}
use Rattle.pt_writers.specs.Written.{writes_of}

pub range-at : (first n k : ℕ) → k < n → slice_get (range_with_len first n) k ≡ Some (first + k)
range-at first n k few =
    slice_get-get_or (range_with_len first n) k 0 (let long = length-range_with_len first n in omega arith)
    ∙ ap Some (get_or-range_with_len first n k 0 few)

pub write-at : (plan : Plan) (thread index : ℕ) → index < plan.writes → slice_get (writes_of plan thread) index ≡ Some (nth plan thread index)
write-at plan thread index few =
    slice_get-map (nth plan thread) (range_with_len 0 plan.writes) index
    ∙ ap (option_map (nth plan thread)) (range-at 0 plan.writes index few)
    ∙ ap (λ (k : ℕ). Some (nth plan thread k)) (omega arith)

same : (a b : Stand) → Some a ≡ Some b → a ≡ b
same a b e = cc

-- Where a half tells that the thread has begun so many writes, one of this event comes next.
pub next-event : (plan : Plan) (writes : ℕ → List Write) (thread index : ℕ) (value : Option Agreed) (event : ℕ) → writes thread ≡ writes_of plan thread → index < plan.writes → stand_in value ≡ Some (record { thread = thread; index = index }) → event ≡ event_at plan thread index → (s : Stand) → stand_in value ≡ Some s → IsNextOf event (writes s.thread) s.index
next-event plan writes thread index value event written few stands is s told =
    subst (λ (s : Stand). IsNextOf event (writes s.thread) s.index) (same _ s (sym stands ∙ told))
    (record {
      write = nth plan thread index;
      next = ap (λ (ws : List Write). slice_get ws index) written ∙ write-at plan thread index few;
      event_is = sym is;
    })

-- There the write that the plan says comes next.
pub next-write : (plan : Plan) (events : List EventDef) (writes : ℕ → List Write) (thread index : ℕ) (value : Option Agreed) (write : Write) → events ≡ sample → writes thread ≡ writes_of plan thread → plan.writes ≤ WRITES → index < plan.writes → stand_in value ≡ Some (record { thread = thread; index = index }) → write ≡ nth plan thread index → (0 < event_at plan thread index) × (event_at plan thread index ≤ length sample) → IsTrue (fits (nth plan thread index)) → IsNextWrite events writes value write
next-write plan events writes thread index value write defined written most few stands is event can =
    let at : (s : Stand) → stand_in value ≡ Some s → record { thread = thread; index = index } ≡ s = λ s told. same _ s (sym stands ∙ told) in
    record {
      here = ap is_some stands;
      few = λ s told. subst (λ (s : Stand). s.index < WRITES) (at s told) (omega (arith, few, most));
      next =
          λ s told.
          subst (λ (s : Stand). slice_get (writes s.thread) s.index ≡ Some write) (at s told)
          (ap (λ (ws : List Write). slice_get ws index) written ∙ write-at plan thread index few ∙ ap Some (sym is));
      some = subst (λ (w : Write). 0 < w.event) (sym is) event.0;
      event =
          subst (λ (w : Write). w.event ≤ length events) (sym is)
          (subst (λ (es : List EventDef). event_at plan thread index ≤ length es) (sym defined) event.1);
      fits = subst (λ (w : Write). IsTrue (fits w)) (sym is) can;
    }

pub count-writes : (plan : Plan) (thread : ℕ) → length (writes_of plan thread) ≡ plan.writes
count-writes plan thread = simp (length-map, length-range_with_len)

-- A range with one number more.
pub range-more : (first n : ℕ) → range_with_len first (suc n) ≡ range_with_len first n ++ (first + n) ∷ []
range-more first zero = ap (λ (k : ℕ). k ∷ []) (omega arith)
range-more first (suc n) =
    ap (λ ns. first ∷ ns) (range-more (first + 1) n ∙ ap (λ (k : ℕ). range_with_len (first + 1) n ++ k ∷ []) (omega arith))

-- A thread with the number of its writes.
abbrev pub row-of : ℕ → ℕ → ℕ × ℕ
row-of writes thread = (thread, writes)

-- The rows of one thread more.
pub rows-more : (writes n : ℕ) → map (λ (t : ℕ). row-of writes t) (range_with_len 1 (n + 1)) ≡ map (λ (t : ℕ). row-of writes t) (range_with_len 1 n) ++ row-of writes (n + 1) ∷ []
rows-more writes n =
    let up : n + 1 ≡ suc n = omega arith in
    let down : 1 + n ≡ n + 1 = omega arith in
    ap (λ (k : ℕ). map (row-of writes) (range_with_len 1 k)) up
    ∙ ap (map (row-of writes)) (range-more 1 n)
    ∙ map-append (row-of writes) (range_with_len 1 n) ((1 + n) ∷ [])
    ∙ ap (λ (k : ℕ). map (row-of writes) (range_with_len 1 n) ++ row-of writes k ∷ []) down
