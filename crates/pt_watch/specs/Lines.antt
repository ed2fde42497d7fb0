-- How it is printed what was heard (this project's profile).
use Rattle.std.specs.Prelude.{ℕ, zero, suc, List, [], ◌∷◌, ◌++◌, codes, length, slice_index}
use Rattle.std.specs.List.{flat_map, range_with_len}
use Rattle.ep_defs.specs.declared.session.Marks.{Marks}
use Rattle.ep_listen.specs.Heard.{HeardEvent}
use Rattle.ep_listen.specs.Shares.{heard_by}
use Rattle.pt_print.specs.Printed.{number_part}
use Rattle.pt_load.specs.Sample.{sample}
use Rattle.pt_watch.specs.Counting.{times}
use Rattle.pt_watch.specs.declared.limits.TheConstants.{EVENTS}

-- A line's word and its numbers.
abbrev pub begun_line : List ℕ → List ℕ → List ℕ
begun_line word numbers = word ++ flat_map number_part numbers

-- A thread, how many of its events were heard, and how many were refused.
abbrev pub heard_line : ℕ → ℕ → ℕ → List ℕ
heard_line thread heard refused = begun_line (codes "heard") (thread ∷ heard ∷ refused ∷ []) ++ 10 ∷ []

-- An event, by the number of its definition, and how often it was heard.
abbrev pub count_line : ℕ → ℕ → List ℕ
count_line event count = begun_line (codes "count") (event ∷ count ∷ []) ++ 10 ∷ []

-- The same, if it was heard.
abbrev pub count_line_of : ℕ → ℕ → List ℕ
count_line_of event zero = []
count_line_of event (suc count) = count_line event (suc count)

-- The lines of the threads of marks.
abbrev pub heard_lines : List Marks → List HeardEvent → List ℕ
heard_lines marks heard = flat_map (λ mark. heard_line mark.thread (length (heard_by mark.thread heard)) mark.refused) marks

-- The lines of the sample program's events, by their numbers.
abbrev pub count_lines : List HeardEvent → List ℕ
count_lines heard = flat_map (λ event. count_line_of event (times event heard)) (range_with_len 1 (length sample))

-- All that is printed.
abbrev pub watch_text : List Marks → List HeardEvent → List ℕ
watch_text marks heard = heard_lines marks heard ++ count_lines heard

-- ---- what is told of marks and counts

-- The lines of marks whose events that were taken were all heard.
abbrev pub mark_lines : List Marks → List ℕ
mark_lines marks = flat_map (λ mark. heard_line mark.thread mark.taken mark.refused) marks

-- The lines of the first events, by their numbers from 1 on, with these counts.
abbrev pub counted_lines : ℕ → List ℕ → List ℕ
counted_lines events counts = flat_map (λ event. count_line_of event (slice_index counts event)) (range_with_len 1 events)

abbrev pub told_lines : List Marks → List ℕ → List ℕ
told_lines marks counts = mark_lines marks ++ counted_lines EVENTS counts
