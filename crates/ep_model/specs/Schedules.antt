-- Small schedules, of which it is computed what they amount to.
use Rattle.std.specs.Prelude.{ℕ, zero, suc, Bool, true, false, List, [], ◌∷◌, ◌++◌, map, replicate, codes}
use Rattle.std.specs.List.{flat_map, range_with_len}
use Rattle.ep_defs.specs.declared.event.EventDef.{EventDef}
use Rattle.ep_defs.specs.declared.session.Config.{Config}
use Rattle.ep_defs.specs.declared.session.Write.{Write}
use Rattle.ep_defs.specs.Samples.{zero_id, event_e, config_p, write_e}
use Rattle.ep_defs.specs.Entry.{Entry, Event, Point}
use Rattle.ep_model.specs.History.{Past}
use Rattle.ep_model.specs.declared.step.Kind.{Kind}
use Rattle.ep_model.specs.declared.step.Kind.TheVariants as kind
use Rattle.ep_model.specs.declared.step.Step.{Step}
use Rattle.ep_model.specs.declared.step.Step.TheVariants.{Accept, Enter, Leave, Open, Begin, Show, End, Steal, Give, Point as PointStep, Close, Finish}

-- This many chunks, stacks or none, and one rule for P with these keywords, up to level 4.
abbrev pub config_with : ℕ → Bool → ℕ → Config
config_with chunks stackwalk keywords =
    record { rules = record { name = codes "P"; keywords = keywords; level = 4 } ∷ []; chunks = chunks; stackwalk = stackwalk; rundown = false }

-- A configuration that asks for no chunk.
abbrev pub no_chunks : Config
no_chunks = config_with 0 true 1

-- A write of the event with this number, with these frames and this many bytes of payload.
abbrev pub write_with : ℕ → List ℕ → ℕ → Write
write_with event frames payload = record { event = event; activity = zero_id; related = zero_id; frames = frames; payload = replicate payload 0 }

-- A write with a frame more than fit.
abbrev pub too_large : ℕ → Write
too_large event = write_with event (replicate 101 0) 0

-- The second event is finer than the session wants.
abbrev pub two_levels : List EventDef
two_levels = event_e 4 1 ∷ event_e 5 1 ∷ []

-- Session 1 is open on thread 1.
abbrev pub start : List Step
start = Accept 1 (config_p 1) ∷ Open 1 1 ∷ []

-- Thread 1 makes the write at this stamp, which session 1 is shown.
abbrev pub shown_at : ℕ → Write → List Step
shown_at stamp write = Begin 1 stamp write ∷ Show 1 1 ∷ End 1 ∷ []

-- The sample event as a thread told it, with this number, stamp and stack.
abbrev pub told_by : ℕ → ℕ → ℕ → List ℕ → Entry
told_by thread number stamp stack =
    Event (record { thread = thread; number = number; stamp = stamp; def = event_e 4 1; activity = zero_id; related = zero_id; stack = stack; payload = [] })

-- A point that names these threads.
abbrev pub point_at : ℕ → List (ℕ × ℕ) → Entry
point_at stamp threads = Point (record { stamp = stamp; threads = threads })

-- ---- one event

-- One event, which is stolen before the end.
abbrev pub one_event : List Step
one_event = start ++ shown_at 100 (write_e 1) ++ Steal 1 1 ∷ Give 1 ∷ Close 1 1 ∷ Finish 1 200 ∷ []

-- What its stream tells: the event, and a point that knows of it.
abbrev pub one_event_told : List Entry
one_event_told = told_by 1 1 100 [] ∷ point_at 200 ((1, 1) ∷ []) ∷ []

-- A Steal within the write, which takes nothing, and one after it.
abbrev pub stolen_in_write : List Step
stolen_in_write =
    start ++ Begin 1 100 (write_e 1) ∷ Steal 1 1 ∷ Show 1 1 ∷ End 1 ∷ Steal 1 1 ∷ Give 1 ∷ Close 1 1 ∷ Finish 1 200 ∷ []

-- A point after the session was closed on its thread: the last point names no thread.
abbrev pub named_once : List Step
named_once = start ++ shown_at 100 (write_e 1) ++ Close 1 1 ∷ Give 1 ∷ PointStep 1 150 ∷ Finish 1 200 ∷ []

-- What its session tells: the second point names no thread.
abbrev pub named_once_told : List Entry
named_once_told = told_by 1 1 100 [] ∷ point_at 150 ((1, 1) ∷ []) ∷ point_at 200 [] ∷ []

-- ---- stacks

-- A write with a frame.
abbrev pub with_frame : Write
with_frame = write_with 1 (4096 ∷ []) 0

-- It is shown to a session with stacks or without.
abbrev pub one_frame : Bool → List Step
one_frame stackwalk =
    Accept 1 (config_with 16 stackwalk 1) ∷ Open 1 1 ∷ [] ++ shown_at 100 with_frame ++ Close 1 1 ∷ Give 1 ∷ Finish 1 200 ∷ []

-- What its session tells, with this stack.
abbrev pub one_frame_told : List ℕ → List Entry
one_frame_told stack = told_by 1 1 100 stack ∷ point_at 200 ((1, 1) ∷ []) ∷ []

-- ---- a budget of one chunk

-- Each of the two writes needs a chunk of its own: 40,068 bytes.
abbrev pub half_chunk : Write
half_chunk = write_with 1 [] 40000

-- A session with a budget of one chunk, open on two threads.
abbrev pub one_chunk : List Step
one_chunk = Accept 1 (config_with 1 true 1) ∷ Open 1 1 ∷ Open 1 2 ∷ []

-- Two records fit a chunk of 65,536 bytes to the last byte, and a third of 68 bytes does not.
abbrev pub full_chunk : List Step
full_chunk = one_chunk ++ shown_at 1 (write_with 1 [] 60000) ++ shown_at 2 (write_with 1 [] 5400) ++ shown_at 3 (write_e 1)

-- One byte more in the second.
abbrev pub over_chunk : List Step
over_chunk = one_chunk ++ shown_at 1 (write_with 1 [] 60000) ++ shown_at 2 (write_with 1 [] 5401) ++ shown_at 3 (write_e 1)

-- The first write begins the chunk, the second is refused; the third is after a Steal alone, the fourth after its Give.
abbrev pub given_late : List Step
given_late =
    one_chunk ++ shown_at 1 half_chunk ++ shown_at 2 half_chunk
    ++ Steal 1 1 ∷ [] ++ shown_at 3 (write_e 1) ++ Give 1 ∷ [] ++ shown_at 4 (write_e 1)

-- A Give before the Steal gives nothing back.
abbrev pub given_early : List Step
given_early = one_chunk ++ shown_at 1 half_chunk ++ Give 1 ∷ Steal 1 1 ∷ [] ++ shown_at 2 (write_e 1)

-- A Steal from another thread leaves the first thread its chunk.
abbrev pub stolen_elsewhere : List Step
stolen_elsewhere = one_chunk ++ shown_at 1 half_chunk ++ Steal 1 2 ∷ Give 1 ∷ [] ++ shown_at 2 half_chunk

-- Thread 2 is refused while thread 1 has the chunk; a Steal from it takes nothing, so that one from thread 1 can
-- follow.
abbrev pub refused_elsewhere : List Step
refused_elsewhere =
    one_chunk ++ shown_at 1 (write_e 1) ++ Begin 2 2 (write_e 1) ∷ Show 2 1 ∷ End 2 ∷ Steal 1 2 ∷ Steal 1 1 ∷ []

-- A refused write uses a number: written 1 and 3, refused 2.
abbrev pub one_refused : List Step
one_refused =
    one_chunk ++ shown_at 1 half_chunk ++ shown_at 2 half_chunk ++ shown_at 3 (write_e 1)
    ++ Close 1 1 ∷ Give 1 ∷ Close 1 2 ∷ Finish 1 9 ∷ []

-- This many writes of 68 bytes of thread 1 after a past, each shown to session 1; the first at stamp 0.
abbrev pub writes_after : Past → ℕ → Past
writes_after past zero = past
writes_after past (suc n) = End 1 ∷ Show 1 1 ∷ Begin 1 n (write_e 1) ∷ writes_after past n

-- Session 1 has one chunk and is open on thread 1.
abbrev pub one_small_chunk : Past
one_small_chunk = Open 1 1 ∷ Accept 1 (config_with 1 true 1) ∷ []

-- 964 such writes, a Steal and a Give, one write more, and the end; the newest first.
abbrev pub spent : Past
spent =
    Finish 1 1000 ∷ Close 1 1 ∷ Give 1 ∷ Steal 1 1
    ∷ End 1 ∷ Show 1 1 ∷ Begin 1 964 (write_e 1)
    ∷ Give 1 ∷ Steal 1 1 ∷ writes_after one_small_chunk 964

-- The numbers of the events that the entries tell.
abbrev pub numbers_in : Entry → List ℕ
numbers_in (Event event) = event.number ∷ []
numbers_in (Point point) = []

-- The numbers of the events that are told, in order.
abbrev pub numbers_told : List Entry → List ℕ
numbers_told entries = flat_map numbers_in entries

-- ---- threads that come and go

-- Thread 257 takes the row of thread 1, writes and leaves, and the session is closed on it afterwards.
abbrev pub came_and_went : List Step
came_and_went =
    Accept 1 (config_p 1) ∷ Leave 1 ∷ Enter 257 ∷ Open 1 257 ∷ Begin 257 100 (write_e 1) ∷ Show 257 1 ∷ End 257 ∷ Leave 257
    ∷ Steal 1 257 ∷ Give 1 ∷ Close 1 257 ∷ Finish 1 200 ∷ []

-- What its session tells.
abbrev pub came_and_went_told : List Entry
came_and_went_told = told_by 257 1 100 [] ∷ point_at 200 ((257, 1) ∷ []) ∷ []

-- A thread left on which a session is still open, and one more comes once it is closed.
abbrev pub row_is_freed : List Step
row_is_freed = start ++ Leave 1 ∷ Close 1 1 ∷ Enter 257 ∷ []

-- ---- steps that can't be made

-- A write that session 1 is due.
abbrev pub in_write_steps : List Step
in_write_steps = start ++ Begin 1 100 (write_e 1) ∷ []

-- A session with a full hand, which is open on thread 1.
abbrev pub full_hand : List Step
full_hand = start ++ shown_at 100 (write_e 1) ++ Steal 1 1 ∷ []

-- 64 sessions.
abbrev pub all_sessions : List Step
all_sessions = map (λ session. Accept session (config_p 1)) (range_with_len 1 64)

-- Each kind, and each two kinds of which both are there at once, with the list whose last step has it. (That a session
-- is opened on a million threads, and a schedule has two thousand million writes, is not computed.)
abbrev pub refusals : List (Kind × List Step)
refusals =
    -- Accept
    (kind.SessionNumber, Accept 0 no_chunks ∷ [])
    ∷ (kind.SessionNumber, Accept 2 (config_p 1) ∷ Finish 2 1 ∷ Accept 2 (config_p 1) ∷ [])
    ∷ (kind.BadConfig, Accept 1 no_chunks ∷ [])
    ∷ (kind.BadConfig, all_sessions ++ Accept 65 no_chunks ∷ [])
    ∷ (kind.Full, all_sessions ++ Accept 65 (config_p 1) ∷ [])
    -- Enter
    ∷ (kind.NoThread, Enter 256 ∷ [])
    ∷ (kind.NoThread, Leave 1 ∷ Enter 300 ∷ Leave 2 ∷ Enter 300 ∷ [])
    ∷ (kind.ThreadsFull, Enter 300 ∷ [])
    ∷ (kind.ThreadsFull, start ++ Leave 1 ∷ Enter 257 ∷ [])
    -- Leave
    ∷ (kind.NoThread, Leave 257 ∷ [])
    ∷ (kind.NoThread, Leave 1 ∷ Leave 1 ∷ [])
    ∷ (kind.InWrite, in_write_steps ++ Leave 1 ∷ [])
    -- Open
    ∷ (kind.NoSession, Open 1 257 ∷ [])
    ∷ (kind.NoThread, start ++ Leave 1 ∷ Open 1 1 ∷ [])
    ∷ (kind.AlreadyOpen, start ++ Close 1 1 ∷ Begin 1 100 (write_e 1) ∷ Open 1 1 ∷ [])
    ∷ (kind.InWrite, Accept 1 (config_p 1) ∷ Begin 1 100 (write_e 1) ∷ Open 1 1 ∷ [])
    -- Begin
    ∷ (kind.NoThread, Begin 0 100 (write_e 3) ∷ [])
    ∷ (kind.NoThread, Leave 1 ∷ Begin 1 100 (write_e 1) ∷ [])
    ∷ (kind.InWrite, in_write_steps ++ Begin 1 100 (write_e 3) ∷ [])
    ∷ (kind.NoEvent, Begin 1 100 (too_large 3) ∷ [])
    ∷ (kind.NoEvent, Begin 1 100 (write_e 0) ∷ [])
    ∷ (kind.TooLarge, Begin 1 100 (too_large 1) ∷ [])
    -- Show
    ∷ (kind.NoThread, Show 257 1 ∷ [])
    ∷ (kind.NoSession, Show 1 1 ∷ [])
    ∷ (kind.NotInWrite, start ++ Show 1 1 ∷ [])
    ∷ (kind.NotDue, start ++ Begin 1 100 (write_e 2) ∷ Show 1 1 ∷ [])
    ∷ (kind.NotDue, in_write_steps ++ Show 1 1 ∷ Show 1 1 ∷ [])
    -- End
    ∷ (kind.NoThread, End 257 ∷ [])
    ∷ (kind.NotInWrite, End 1 ∷ [])
    ∷ (kind.ShowsDue, in_write_steps ++ End 1 ∷ [])
    -- Steal
    ∷ (kind.NoSession, Steal 1 257 ∷ [])
    ∷ (kind.NoThread, Accept 1 (config_p 1) ∷ Steal 1 257 ∷ [])
    ∷ (kind.NotOpen, full_hand ++ Steal 1 2 ∷ [])
    ∷ (kind.HandFull, full_hand ++ Steal 1 1 ∷ [])
    -- Give and Point
    ∷ (kind.NoSession, Give 1 ∷ [])
    ∷ (kind.NoSession, PointStep 1 100 ∷ [])
    -- Close
    ∷ (kind.NoSession, Close 1 257 ∷ [])
    ∷ (kind.NoThread, Accept 1 (config_p 1) ∷ Close 1 257 ∷ [])
    ∷ (kind.NotOpen, Accept 1 (config_p 1) ∷ Begin 1 100 (write_e 1) ∷ Close 1 1 ∷ [])
    ∷ (kind.InWrite, full_hand ++ Begin 1 101 (write_e 2) ∷ Close 1 1 ∷ [])
    ∷ (kind.HandFull, full_hand ++ Close 1 1 ∷ [])
    -- Finish
    ∷ (kind.NoSession, Finish 1 100 ∷ [])
    ∷ (kind.StillOpen, full_hand ++ Finish 1 100 ∷ [])
    ∷ (kind.HandFull, start ++ shown_at 100 (write_e 1) ++ Close 1 1 ∷ Finish 1 200 ∷ [])
    ∷ []

-- ---- two sessions

-- Four events, with the keywords 0 to 3.
abbrev pub four_keywords : List EventDef
four_keywords = map (event_e 4) (0 ∷ 1 ∷ 2 ∷ 3 ∷ [])

-- A write of this event that is shown to these sessions.
abbrev pub shown_to : List ℕ → ℕ → List Step
shown_to sessions event = Begin 1 event (write_e event) ∷ map (λ session. Show 1 session) sessions ++ End 1 ∷ []

-- One session wants the keyword 1, the other the keyword 2.
abbrev pub two_sessions : List Step
two_sessions =
    Accept 1 (config_p 1) ∷ Accept 2 (config_p 2) ∷ Open 1 1 ∷ Open 2 1 ∷ []
    ++ shown_to (1 ∷ 2 ∷ []) 1
    ++ shown_to (1 ∷ []) 2
    ++ shown_to (2 ∷ []) 3
    ++ shown_to (2 ∷ 1 ∷ []) 4
    ++ Close 1 1 ∷ Give 1 ∷ Close 2 1 ∷ Finish 1 9 ∷ Give 2 ∷ Finish 2 9 ∷ []

-- The keywords of the events that the entries tell, with their numbers.
abbrev pub keywords_in : Entry → List (ℕ × ℕ)
keywords_in (Event event) = (event.def.keywords, event.number) ∷ []
keywords_in (Point point) = []

-- The keywords and the number of each event that is told.
abbrev pub keywords_told : List Entry → List (ℕ × ℕ)
keywords_told entries = flat_map keywords_in entries
