-- What the threads of a faithful stream have in numbers (this project's profile).
use Rattle.std.specs.Prelude.{◌≡◌, ℕ, true, false, List, ◌∷◌, Some, None, length, ◌==◌, if◌then◌else◌}
use Rattle.std.specs.List.{flat_map, list_any}
use Rattle.ep_defs.specs.declared.event.EventDef.{EventDef}
use Rattle.ep_defs.specs.declared.item.Item.{Item}
use Rattle.ep_defs.specs.Entry.{Entry}
use Rattle.ep_rundown.specs.Rundown.{used}
use Rattle.ep_model.specs.Chunks.{refused, written}
use Rattle.ep_model.specs.Entries.{entries}
use Rattle.ep_model.specs.Faithful.{Share, kept}
use Rattle.ep_model.specs.History.{Past, admitted, is_finished, opened}
use Rattle.ep_model.specs.Lawful.{IsLawful}
use Rattle.ep_told.specs.Told.{has_rundown, told_entries}
use Rattle.nt_blocks.specs.Ordered.{Tell, kinds_of}
use Rattle.nt_blocks.specs.Verdict.{Good, verdict}
use Rattle.nt_check.specs.declared.threads.Numbers.{Numbers}
use Rattle.nt_check.specs.Numbers.{held, numbers_of}
use Rattle.pt_report.specs.Report.{thread_line, thread_lines}
use Rattle.pt_report.specs.Found.{IsReported}

-- Of a share: the admitted writes that were not refused, the last number, and the refused writes.
abbrev pub share_numbers : Share → Numbers
share_numbers share = record { events = held (length (kept share)); last = length share.admitted; gaps = held (length share.refused) }

-- Of a thread on which the session was opened: the writes that were written, the last number, which is that of the last
-- admitted write, and the writes that were refused.
abbrev pub session_numbers : List EventDef → ℕ → Past → ℕ → Numbers
session_numbers definitions session past thread =
    record {
      events = written session thread past;
      last = length (admitted definitions session thread past);
      gaps = length (refused session thread past);
    }

-- Of thread 0 with a rundown: an event for each definition that was used, and none that was refused.
abbrev pub rundown_numbers : List Entry → Numbers
rundown_numbers entries = record { events = held (length (used entries)); last = length (used entries); gaps = 0 }

-- The threads of which a finished session's stream tells, ascending: those on which the session was ever opened, and thread
-- 0 where the session has a rundown.
abbrev pub told_threads : ℕ → Past → List ℕ
told_threads session past = if has_rundown session past then 0 ∷ opened session past else opened session past

-- What it tells of one of them.
abbrev pub told_numbers : List EventDef → ℕ → Past → ℕ → Numbers
told_numbers definitions session past thread =
    if thread == 0 then rundown_numbers (entries definitions session past) else session_numbers definitions session past thread

-- A line for each of those threads.
abbrev pub session_lines : List EventDef → ℕ → Past → List ℕ
session_lines definitions session past = flat_map (λ thread. thread_line thread (told_numbers definitions session past thread)) (told_threads session past)

-- The text is the report of the bytes, and these are its lines of threads.
pub record ReportsThreads (bytes lines text : List ℕ) : Type 0 where
  pub report : IsReported bytes text
  pub lines_are : thread_lines (kinds_of report.items) ≡ lines

-- ---- what the laws say of a finished session

-- This follows where the items tell what the stream of a finished session tells, in a lawful list of steps.
abbrev pub OfSession : List EventDef → ℕ → Past → List Item → Type 0 → Type 0
OfSession definitions session past items Follows =
    IsLawful definitions past → is_finished session past ≡ true → Tell items (told_entries definitions session past) → Follows

-- The items have its numbers of a thread of which it tells.
abbrev pub HaveNumbers : List EventDef → ℕ → ℕ → Past → List Item → Type 0
HaveNumbers definitions session thread past items =
    list_any (λ t. t == thread) (told_threads session past) ≡ true → numbers_of thread (kinds_of items) ≡ Some (told_numbers definitions session past thread)

-- They have none of a thread of which it doesn't.
abbrev pub HaveNone : ℕ → ℕ → Past → List Item → Type 0
HaveNone session thread past items = list_any (λ t. t == thread) (told_threads session past) ≡ false → numbers_of thread (kinds_of items) ≡ None

-- Each report of a stream in which the items are found has its lines of threads.
abbrev pub ReportsSession : List EventDef → ℕ → Past → List Item → List ℕ → List ℕ → Type 0
ReportsSession definitions session past items bytes text =
    verdict bytes ≡ Good items → IsReported bytes text → ReportsThreads bytes (session_lines definitions session past) text
