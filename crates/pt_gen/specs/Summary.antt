-- What the sessions of a schedule come to, and how it is printed (this project's profile).
use Rattle.std.specs.Prelude.{ℕ, List, [], ◌∷◌, codes, length, reverse}
use Rattle.std.specs.List.{concat, sum_by}
use Rattle.ep_model.specs.Chunks.{refused, written}
use Rattle.ep_model.specs.History.{Past, admitted}
use Rattle.pt_gen.specs.declared.limits.TheConstants.{NARROW, WIDE}
use Rattle.pt_gen.specs.Schedule.{generated, threads}
use Rattle.pt_load.specs.Sample.{sample}
use Rattle.pt_print.specs.Printed.{number_part}
use Rattle.pt_gen.specs.declared.summary.Counts.{Counts}

-- After these steps, of all threads: the writes that the session admitted, those of them that were written, and those
-- that were refused.
abbrev pub counts_after : ℕ → Past → Counts
counts_after session past =
    record {
      admitted = sum_by (λ thread. length (admitted sample session thread past)) threads;
      written = sum_by (λ thread. written session thread past) threads;
      refused = sum_by (λ thread. length (refused session thread past)) threads;
    }

-- After all steps of the schedule. A past has the newest step first.
abbrev pub counts_of : ℕ → ℕ → ℕ → Counts
counts_of session seed writes = counts_after session (reverse (generated seed writes))

-- ---- lines

-- A session's number and what it came to.
abbrev pub session_line : ℕ → Counts → List ℕ
session_line session counts =
    concat (codes "session" ∷ number_part session ∷ number_part counts.admitted ∷ number_part counts.written ∷ number_part counts.refused ∷ (10 ∷ []) ∷ [])

-- What was asked for, and a line for each session.
abbrev pub summary_text : ℕ → ℕ → Counts → Counts → List ℕ
summary_text seed writes wide narrow =
    concat (codes "gen" ∷ number_part seed ∷ number_part writes ∷ (10 ∷ []) ∷ session_line WIDE wide ∷ session_line NARROW narrow ∷ [])

-- The lines for a whole schedule.
abbrev pub gen_text : ℕ → ℕ → List ℕ
gen_text seed writes = summary_text seed writes (counts_of WIDE seed writes) (counts_of NARROW seed writes)
