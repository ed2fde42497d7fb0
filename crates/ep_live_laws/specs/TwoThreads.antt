-- A small run of two threads, of which it is computed what a session's stream tells.
use Rattle.std.specs.Prelude.{ℕ, true, List, [], ◌∷◌, ◌==◌, if◌then◌else◌}
use Rattle.ep_defs.specs.declared.session.Config.{Config}
use Rattle.ep_defs.specs.declared.session.Marks.{Marks}
use Rattle.ep_defs.specs.declared.session.Write.{Write}
use Rattle.ep_defs.specs.Samples.{config_p, write_e}
use Rattle.ep_defs.specs.Entry.{Entry}
use Rattle.ep_rundown.specs.Rows.{described, event_e_bytes}
use Rattle.ep_model.specs.Schedules.{told_by, point_at}

-- Thread 1 writes an event before the session is opened on it, and then one that is finer than the session wants
-- between others. Thread 2 writes once, and others nothing.
abbrev pub two_threads : ℕ → List Write
two_threads thread =
    if thread == 1
    then write_e 1 ∷ write_e 1 ∷ write_e 2 ∷ write_e 1 ∷ write_e 1 ∷ []
    else (if thread == 2 then write_e 1 ∷ [] else [])

-- The session gets three writes of thread 1 and refuses the second of them; it gets the one of thread 2.
abbrev pub two_marks : List Marks
two_marks =
    record { thread = 1; from = 1; to = 5; taken = 2; refused = 1 }
    ∷ record { thread = 2; from = 0; to = 1; taken = 1; refused = 0 }
    ∷ []

-- What its stream tells, with a point between and one at the end.
abbrev pub two_told : List Entry
two_told =
    told_by 1 1 100 [] ∷ point_at 150 ((1, 1) ∷ (2, 0) ∷ []) ∷ told_by 1 3 160 [] ∷ told_by 2 1 155 []
    ∷ point_at 200 ((1, 3) ∷ (2, 1) ∷ []) ∷ []

-- The same without the last event of thread 1.
abbrev pub two_lost : List Entry
two_lost = told_by 1 1 100 [] ∷ point_at 150 ((1, 1) ∷ (2, 0) ∷ []) ∷ told_by 2 1 155 [] ∷ point_at 200 ((1, 3) ∷ (2, 1) ∷ []) ∷ []

-- What a sink may have taken before a fault: the point between was told, and then nothing more of thread 1.
abbrev pub two_begun : List Entry
two_begun = told_by 1 1 100 [] ∷ point_at 150 ((1, 1) ∷ (2, 0) ∷ []) ∷ told_by 2 1 155 [] ∷ []

-- Two events of thread 1 in the wrong order.
abbrev pub two_swapped : List Entry
two_swapped = told_by 1 3 100 [] ∷ told_by 1 2 160 [] ∷ []

-- ---- with a rundown

-- The session asks for a rundown.
abbrev pub with_rundown : Config
with_rundown = record (config_p 1) { rundown = true }

-- The same is told, with the definition that the events name described before the last point, which names thread 0 first.
abbrev pub two_described : List Entry
two_described =
    told_by 1 1 100 [] ∷ point_at 150 ((1, 1) ∷ (2, 0) ∷ []) ∷ told_by 1 3 160 [] ∷ told_by 2 1 155 []
    ∷ described 1 (event_e_bytes 1 4) ∷ point_at 200 ((0, 1) ∷ (1, 3) ∷ (2, 1) ∷ []) ∷ []

-- What a sink may have taken of it before a fault: all but the last point.
abbrev pub two_cut : List Entry
two_cut =
    told_by 1 1 100 [] ∷ point_at 150 ((1, 1) ∷ (2, 0) ∷ []) ∷ told_by 1 3 160 [] ∷ told_by 2 1 155 []
    ∷ described 1 (event_e_bytes 1 4) ∷ []
