-- What a session had of each thread, in numbers (this project's profile).
use Rattle.std.specs.Prelude.{ℕ, List, length, map, unwrap_or}
use Rattle.ep_defs.specs.declared.session.Marks.{Marks}
use Rattle.ep_model.specs.Chunks.{refused, written}
use Rattle.ep_model.specs.History.{Past, opened, opened_at, to_of}

-- The thread's writes where the session was opened and where it was closed, and of those that it admitted how many were
-- written and how many refused.
abbrev pub marks_on : ℕ → ℕ → Past → Marks
marks_on session thread past =
    record {
      thread = thread;
      from = unwrap_or (opened_at session thread past) 0;
      to = to_of session thread past;
      taken = written session thread past;
      refused = length (refused session thread past);
    }

-- The marks of a session, ascending by thread.
abbrev pub marks_of : ℕ → Past → List Marks
marks_of session past = map (λ t. marks_on session t past) (opened session past)
