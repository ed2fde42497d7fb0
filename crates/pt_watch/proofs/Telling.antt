-- What is told of marks and counts is what was heard.
use Rattle.std.proofs.Common.{◌≡◌, ◌∙◌, ℕ, zero, suc, ◌+◌, ◌<◌, ◌≤◌, List, [], ◌∷◌, ◌++◌, length, refl, sym, ap, arith}
use Rattle.std.specs.Prelude.{slice_index, ◌==◌, ◌^◌}
use Rattle.std.specs.List.{AllByRecursion, flat_map, range_with_len}
use Rattle.std.proofs.lemmas.List.Concat.{flat_map-cons, flat_map-append}
use Rattle.std.proofs.lemmas.List.{append-nil}
use Rattle.std.proofs.lemmas.List.Sums.{count_by-le-length, length-filter}
use Rattle.ep_defs.specs.declared.session.Marks.{Marks}
use Rattle.ep_listen.specs.Heard.{HeardEvent}
use Rattle.ep_listen.specs.Shares.{heard_by}
use Rattle.pt_load.specs.Sample.{sample}
use Rattle.pt_writers.proofs.Load.{range-more}
use Rattle.pt_watch.specs.declared.limits.TheConstants.{EVENTS}
use Rattle.pt_watch.specs.Counting.{AreCountsOf, count_of, times}
use Rattle.pt_watch.specs.Lines.{count_line_of, counted_lines, heard_line, heard_lines, mark_lines, told_lines, watch_text}

marks-heard : (heard : List HeardEvent) (marks : List Marks) → AllByRecursion (λ mark. length (heard_by mark.thread heard) ≡ mark.taken) marks → mark_lines marks ≡ heard_lines marks heard
marks-heard heard [] all = refl
marks-heard heard (m ∷ marks) all =
    flat_map-cons (λ (mark : Marks). heard_line mark.thread mark.taken mark.refused) m marks
    ∙ ap (λ (n : ℕ). heard_line m.thread n m.refused ++ mark_lines marks) (sym all.0)
    ∙ ap (λ (text : List ℕ). heard_line m.thread (length (heard_by m.thread heard)) m.refused ++ text) (marks-heard heard marks all.1)
    ∙ sym (flat_map-cons (λ (mark : Marks). heard_line mark.thread (length (heard_by mark.thread heard)) mark.refused) m marks)

-- A count is exact where so few events were heard.
exact : (event : ℕ) (heard : List HeardEvent) → length heard < 2 ^ 64 → count_of event heard ≡ times event heard
exact event heard few =
    let p = λ (e : HeardEvent). e.event == event in
    let some = count_by-le-length p heard in
    let counted = length-filter p heard in
    omega (arith, few, some, counted)

counts-heard : (counts : List ℕ) (heard : List HeardEvent) (first n : ℕ) → first + n ≤ length counts → length heard < 2 ^ 64 → AreCountsOf counts heard
    → flat_map (λ event. count_line_of event (slice_index counts event)) (range_with_len first n) ≡ flat_map (λ event. count_line_of event (times event heard)) (range_with_len first n)
counts-heard counts heard first zero within few are = refl
counts-heard counts heard first (suc n) within few are =
    flat_map-cons (λ (event : ℕ). count_line_of event (slice_index counts event)) first (range_with_len (first + 1) n)
    ∙ ap (λ (k : ℕ). count_line_of first k ++ flat_map (λ event. count_line_of event (slice_index counts event)) (range_with_len (first + 1) n)) (are first (omega (arith, within)) ∙ exact first heard few)
    ∙ ap (λ (text : List ℕ). count_line_of first (times first heard) ++ text) (counts-heard counts heard (first + 1) n (omega (arith, within)) few are)
    ∙ sym (flat_map-cons (λ (event : ℕ). count_line_of event (times event heard)) first (range_with_len (first + 1) n))

-- The sample program has so many events.
all-events : EVENTS ≡ length sample
unfolding sample
all-events = refl

pub lines-heard : (marks : List Marks) (counts : List ℕ) (heard : List HeardEvent) → length counts ≡ EVENTS + 1 → length heard < 2 ^ 64 → AreCountsOf counts heard → AllByRecursion (λ mark. length (heard_by mark.thread heard) ≡ mark.taken) marks
    → told_lines marks counts ≡ watch_text marks heard
lines-heard marks counts heard long few are taken =
    ap (λ (text : List ℕ). text ++ counted_lines EVENTS counts) (marks-heard heard marks taken)
    ∙ ap (λ (text : List ℕ). heard_lines marks heard ++ text) (counts-heard counts heard 1 EVENTS (omega (arith, long)) few are)
    ∙ ap (λ (n : ℕ). heard_lines marks heard ++ flat_map (λ event. count_line_of event (times event heard)) (range_with_len 1 n)) all-events

-- ---- one line more

pub counted-more : (counts : List ℕ) (n : ℕ) → counted_lines (n + 1) counts ≡ counted_lines n counts ++ count_line_of (n + 1) (slice_index counts (n + 1))
counted-more counts n =
    let line = λ (event : ℕ). count_line_of event (slice_index counts event) in
    ap (λ (k : ℕ). flat_map line (range_with_len 1 k)) (up n)
    ∙ ap (flat_map line) (range-more 1 n)
    ∙ flat_map-append line (range_with_len 1 n) ((1 + n) ∷ [])
    ∙ ap (λ (text : List ℕ). counted_lines n counts ++ text) (flat_map-cons line (1 + n) [] ∙ append-nil (line (1 + n)) ∙ ap line (omega arith))
  where
    up : (k : ℕ) → k + 1 ≡ suc k
    up k = omega arith
