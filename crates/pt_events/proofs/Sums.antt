-- What the lines of items come to: their events, and what each thread loses.
use Rattle.std.proofs.Common.{◌≡◌, ℕ, ◌+◌, Bool, true, false, cond, eqb, List, [], ◌∷◌, ◌++◌, map, Option, Some, None, inl, inr, refl, ap, append_assoc, arith}
use Rattle.std.specs.Prelude.{filter, IsOk, Result, Ok}
use Rattle.std.specs.List.{count_by, flat_map}
use Rattle.std.proofs.lemmas.Bool.{cases_Bool, eqb-true}
use Rattle.std.proofs.lemmas.List.{append-nil}
use Rattle.std.proofs.lemmas.List.Sums.{sum_by-cons, sum_by-append}
use Rattle.ep_defs.specs.declared.event.EventDef.{EventDef}
use Rattle.ep_defs.specs.declared.item.ItemKind.{ItemKind}
use Rattle.ep_defs.specs.declared.item.ItemKind.TheVariants as item
use Rattle.ep_defs.specs.Entry.{Entry, EventEntry}
use Rattle.ep_defs.specs.Entry as entry
use Rattle.ep_defs.specs.Gaps.{Sighting, Seen, Known, missing}
use Rattle.pt_num.proofs.Steps.{both_ok}
use Rattle.nt_blocks.specs.Ordered.{Disorder, Names, lookup, stack_of, tell, names_after, told_after}
use Rattle.nt_blocks.specs.Seen.{seen_in}
use Rattle.pt_report.specs.Report.{is_event}
use Rattle.pt_lines.specs.declared.origin.Origin.{Origin}
use Rattle.pt_lines.specs.Line.{Line, lost_if}
use Rattle.pt_events.specs.Lines.{known_by, sighted, last_of, left_out, lost_lines, origin_after, entries_in, entry_lines, entries_of, lines_after, is_event_line, lost_in, lost_of, stamp_of}
use Rattle.pt_events.proofs.Seen.{told_number, last-more}

-- ---- events

abbrev event_worth : Line → ℕ
event_worth line = cond (is_event_line line) 1 0

no-events-if : (origin : Origin) (stamp thread count : ℕ) → count_by is_event_line (lost_if origin stamp thread count) ≡ 0
no-events-if origin stamp thread count = elim (cases_Bool (eqb count 0)) [ inl none ↦ rw none refl | inr some ↦ rw some refl ]

no-events : (origin : Origin) (stamp : ℕ) (past seen : List (ℕ × Sighting)) → count_by is_event_line (lost_lines origin stamp past seen) ≡ 0
no-events origin stamp past [] = refl
no-events origin stamp past (s ∷ seen) =
    let first = lost_if origin stamp s.0 (left_out (last_of s.0 past) s.1) in
    let others = lost_lines origin stamp (past ++ s ∷ []) seen in
    let none = no-events-if origin stamp s.0 (left_out (last_of s.0 past) s.1) in
    let rest = no-events origin stamp (past ++ s ∷ []) seen in
    let both = sum_by-append event_worth first others in
    omega (arith, both, none, rest)

-- An item that can be told has a line of an event exactly where it is one.
one-event : (names : Names) (origin : Origin) (kind : ItemKind) → IsOk (tell names kind) → count_by is_event_line (entry_lines origin kind (entries_of names kind)) ≡ cond (is_event kind) 1 0
one-event names origin (item.Trace info) ok = refl
one-event names origin (item.Meta id def) ok = refl
one-event names origin (item.Stack id bytes) ok = refl
one-event names origin (item.Point stamp threads) ok = refl
one-event names origin (item.Event metadata number capture processor thread stack stamp activity related payload) ok =
    named (lookup metadata names.definitions) refl (stack_of names stack) refl
  where
    named : (def : Option EventDef) → lookup metadata names.definitions ≡ def → (bytes : Option (List ℕ)) → stack_of names stack ≡ bytes → count_by is_event_line (entry_lines origin (item.Event metadata number capture processor thread stack stamp activity related payload) (entries_of names (item.Event metadata number capture processor thread stack stamp activity related payload))) ≡ 1
    named (Some def) d (Some bytes) b =
        let kind = item.Event metadata number capture processor thread stack stamp activity related payload in
        let event : EventEntry = record { thread = capture; number = number; stamp = stamp; def = def; activity = activity; related = related; stack = bytes; payload = payload } in
        let told : tell names kind ≡ Ok (entry.Event event ∷ []) = rw (d, b) refl in
        ap (λ (told : Result (List Entry) Disorder). count_by is_event_line (entry_lines origin kind (entries_in told))) told
    named (Some def) d None b = let wrong = rw (d, b) at ok in absurd (cc)
    named None d bytes b = let wrong = rw d at ok in absurd (cc)

pub events-after : (names : Names) (past : List (ℕ × Sighting)) (origin : Origin) (kinds : List ItemKind) → IsOk (told_after names kinds) → count_by is_event_line (lines_after names past origin kinds) ≡ count_by is_event kinds
events-after names past origin [] ok = refl
events-after names past origin (kind ∷ kinds) ok =
    let one = both_ok (tell names kind) _ ok in
    let others = both_ok (told_after (names_after names kind) kinds) _ one.2 in
    let lost = lost_lines origin (stamp_of kind) past (sighted kind) in
    let line = entry_lines origin kind (entries_of names kind) in
    let later = lines_after (names_after names kind) (past ++ sighted kind) (origin_after origin kind) kinds in
    let here = one-event names origin kind (rw one.1 refl) in
    let none = no-events origin (stamp_of kind) past (sighted kind) in
    let rest = events-after (names_after names kind) (past ++ sighted kind) (origin_after origin kind) kinds (rw others.1 refl) in
    let both = sum_by-append event_worth (lost ++ line) later in
    let item = sum_by-append event_worth lost line in
    let more = sum_by-cons (λ (k : ItemKind). cond (is_event k) 1 0) kind kinds in
    omega (arith, here, none, rest, both, item, more)

-- ---- what is lost

-- What is told of a thread.
own : ℕ → List (ℕ × Sighting) → List Sighting
own thread seen = map (λ (s : ℕ × Sighting). s.1) (filter (λ (s : ℕ × Sighting). eqb s.0 thread) seen)

own-known : (thread : ℕ) (threads : List (ℕ × ℕ)) → own thread (known_by threads) ≡ map (λ (t : ℕ × ℕ). Known t.1) (filter (λ (t : ℕ × ℕ). eqb t.0 thread) threads)
unfolding own
own-known thread [] = refl
own-known thread (t ∷ threads) =
    elim (cases_Bool (eqb t.0 thread)) [
      | inl is ↦ rw is (ap (λ (others : List Sighting). Known t.1 ∷ others) (own-known thread threads))
      | inr other ↦ rw other (own-known thread threads)
    ]

own-sighted : (thread : ℕ) (kind : ItemKind) → own thread (sighted kind) ≡ seen_in thread kind
unfolding own
own-sighted thread (item.Trace info) = refl
own-sighted thread (item.Meta id def) = refl
own-sighted thread (item.Stack id bytes) = refl
own-sighted thread (item.Point stamp threads) = own-known thread threads
own-sighted thread (item.Event metadata number capture processor other stack stamp activity related payload) =
    elim (cases_Bool (eqb capture thread)) [ inl is ↦ rw is refl | inr apart ↦ rw apart refl ]

lost-if : (thread : ℕ) (origin : Origin) (stamp other count : ℕ) → lost_of thread (lost_if origin stamp other count) ≡ cond (eqb other thread) count 0
lost-if thread origin stamp other count =
    elim (cases_Bool (eqb count 0)) [
      | inl none ↦ rw (none, eqb-true count 0 none) (nothing (eqb other thread))
      | inr some ↦ rw some (plain (cond (eqb other thread) count 0))
    ]
  where
    plain : (n : ℕ) → 0 + n ≡ n
    plain n = omega arith

    nothing : (b : Bool) → ◌≡◌ {A = ℕ} 0 (cond b 0 0)
    nothing true = refl
    nothing false = refl

missing-one : (last : ℕ) (told : Sighting) (later : List Sighting) → missing last (told ∷ later) ≡ left_out last told + missing (told_number told) later
missing-one last (Seen number) later = refl
missing-one last (Known number) later = refl

lost-seen : (thread : ℕ) (origin : Origin) (stamp : ℕ) (past seen : List (ℕ × Sighting)) (later : List Sighting) → lost_of thread (lost_lines origin stamp past seen) + missing (last_of thread (past ++ seen)) later ≡ missing (last_of thread past) (own thread seen ++ later)
unfolding own
lost-seen thread origin stamp past [] later =
    let same : missing (last_of thread (past ++ [])) later ≡ missing (last_of thread past) later = ap (λ (p : List (ℕ × Sighting)). missing (last_of thread p) later) (append-nil past) in
    omega (arith, same)
lost-seen thread origin stamp past (s ∷ seen) later =
    let count = left_out (last_of s.0 past) s.1 in
    let first = lost_if origin stamp s.0 count in
    let others = lost_lines origin stamp (past ++ s ∷ []) seen in
    let both : lost_of thread (first ++ others) ≡ lost_of thread first + lost_of thread others = sum_by-append (lost_in thread) first others in
    let here = lost-if thread origin stamp s.0 count in
    let rest = lost-seen thread origin stamp (past ++ s ∷ []) seen later in
    let end : missing (last_of thread ((past ++ s ∷ []) ++ seen)) later ≡ missing (last_of thread (past ++ s ∷ seen)) later =
    ap (λ (p : List (ℕ × Sighting)). missing (last_of thread p) later) (append_assoc past (s ∷ []) seen) in
    let last = last-more thread past s in
    elim (cases_Bool (eqb s.0 thread)) [
      | inl is ↦
          let own-count : lost_of thread first ≡ count = rw is at here in
          let same : count ≡ left_out (last_of thread past) s.1 = ap (λ (t : ℕ). left_out (last_of t past) s.1) (eqb-true s.0 thread is) in
          let now : last_of thread (past ++ s ∷ []) ≡ told_number s.1 = rw is at last in
          let went : missing (last_of thread (past ++ s ∷ [])) (own thread seen ++ later) ≡ missing (told_number s.1) (own thread seen ++ later) =
          ap (λ (n : ℕ). missing n (own thread seen ++ later)) now in
          let one = missing-one (last_of thread past) s.1 (own thread seen ++ later) in
          rw is (omega (arith, both, own-count, same, rest, end, went, one))
      | inr other ↦
          let no-count : lost_of thread first ≡ 0 = rw other at here in
          let now : last_of thread (past ++ s ∷ []) ≡ last_of thread past = rw other at last in
          let went : missing (last_of thread (past ++ s ∷ [])) (own thread seen ++ later) ≡ missing (last_of thread past) (own thread seen ++ later) =
          ap (λ (n : ℕ). missing n (own thread seen ++ later)) now in
          rw other (omega (arith, both, no-count, rest, end, went))
    ]

-- The line of an item loses nothing.
none-lost : (thread : ℕ) (origin : Origin) (kind : ItemKind) (entries : List Entry) → lost_of thread (entry_lines origin kind entries) ≡ 0
none-lost thread origin (item.Event metadata number capture processor other stack stamp activity related payload) (entry.Event event ∷ more) = refl
none-lost thread origin (item.Event metadata number capture processor other stack stamp activity related payload) (entry.Point point ∷ more) = refl
none-lost thread origin (item.Event metadata number capture processor other stack stamp activity related payload) [] = refl
none-lost thread origin (item.Point stamp threads) (entry.Point point ∷ more) = refl
none-lost thread origin (item.Point stamp threads) (entry.Event event ∷ more) = refl
none-lost thread origin (item.Point stamp threads) [] = refl
none-lost thread origin (item.Trace info) entries = refl
none-lost thread origin (item.Meta id def) entries = refl
none-lost thread origin (item.Stack id bytes) entries = refl

pub lost-after : (thread : ℕ) (names : Names) (past : List (ℕ × Sighting)) (origin : Origin) (kinds : List ItemKind) → lost_of thread (lines_after names past origin kinds) ≡ missing (last_of thread past) (flat_map (seen_in thread) kinds)
lost-after thread names past origin [] = refl
lost-after thread names past origin (kind ∷ kinds) =
    let lost = lost_lines origin (stamp_of kind) past (sighted kind) in
    let line = entry_lines origin kind (entries_of names kind) in
    let later = lines_after (names_after names kind) (past ++ sighted kind) (origin_after origin kind) kinds in
    let told = flat_map (seen_in thread) kinds in
    let both : lost_of thread ((lost ++ line) ++ later) ≡ lost_of thread (lost ++ line) + lost_of thread later = sum_by-append (lost_in thread) (lost ++ line) later in
    let item : lost_of thread (lost ++ line) ≡ lost_of thread lost + lost_of thread line = sum_by-append (lost_in thread) lost line in
    let none = none-lost thread origin kind (entries_of names kind) in
    let rest = lost-after thread (names_after names kind) (past ++ sighted kind) (origin_after origin kind) kinds in
    let here = lost-seen thread origin (stamp_of kind) past (sighted kind) told in
    let seen : missing (last_of thread past) (own thread (sighted kind) ++ told) ≡ missing (last_of thread past) (seen_in thread kind ++ told) =
    ap (λ (first : List Sighting). missing (last_of thread past) (first ++ told)) (own-sighted thread kind) in
    omega (arith, both, item, none, rest, here, seen)
