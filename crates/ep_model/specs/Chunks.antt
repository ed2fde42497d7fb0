-- Which Shows a session's budget of chunks has room for (this project's profile, after the buffers of a session in the
-- EventPipe sources of dotnet/runtime).
use Rattle.std.specs.Prelude.{ℕ, ◌+◌, Bool, true, false, ◌&&◌, ◌||◌, not, List, [], ◌∷◌, ◌++◌, nat_lt, nat_le, ◌==◌, if◌then◌else◌}
use Rattle.std.specs.List.{list_any}
use Rattle.std.specs.Option.{option_map_or}
use Rattle.ep_defs.specs.declared.limits.TheConstants.{CHUNK_BYTES}
use Rattle.ep_model.specs.declared.step.Step.TheVariants as step
use Rattle.ep_model.specs.Budget.{record_size}
use Rattle.ep_model.specs.History.{Past, config_of, last_begun, shows}

-- What a step of the session does with the session's chunks.
pub data Turn : Type 0 where
  -- a Show writes a record of this size, for which it begins a chunk or not
  Written : (thread size : ℕ) → (begins : Bool) → Turn
  -- a Steal or a Close takes what the thread has
  Taken : (thread : ℕ) → Turn
  -- a Give
  Given : Turn

-- In a list of turns the oldest stands first: what comes after a place in it is the rest of the list.

-- The turn takes what the thread has.
abbrev pub takes_from : ℕ → Turn → Bool
takes_from thread (Written t size begins) = false
takes_from thread (Taken t) = t == thread
takes_from thread Given = false

-- The turn begins a chunk for the thread.
abbrev pub begins_for : ℕ → Turn → Bool
begins_for thread (Written t size begins) = (t == thread) && begins
begins_for thread (Taken t) = false
begins_for thread Given = false

-- The turn gives back what was taken.
abbrev pub gives : Turn → Bool
gives (Written t size begins) = false
gives (Taken t) = false
gives Given = true

-- Some written Show of the thread has no Steal or Close of the thread after it.
abbrev pub has_pending : ℕ → List Turn → Bool
has_pending thread [] = false
has_pending thread (Written t size begins ∷ later) = ((t == thread) && not (list_any (takes_from thread) later)) || has_pending thread later
has_pending thread (_ ∷ later) = has_pending thread later

-- The sizes of the thread's written Shows from the last one that began a chunk on.
abbrev pub last_chunk : ℕ → List Turn → ℕ
last_chunk thread [] = 0
last_chunk thread (Written t size begins ∷ later) =
    (if (t == thread) && not (list_any (begins_for thread) later) then size else 0) + last_chunk thread later
last_chunk thread (_ ∷ later) = last_chunk thread later

-- A Show of the thread needs a chunk where no written Show stands since the last Steal, or where the last chunk lacks
-- the room.
abbrev pub needs_chunk_after : List Turn → ℕ → ℕ → Bool
needs_chunk_after turns thread size = not (has_pending thread turns) || nat_lt CHUNK_BYTES (last_chunk thread turns + size)

-- What a Show of the thread began is given back by the first Give after the first Steal or Close of the thread.
abbrev pub is_back : ℕ → List Turn → Bool
is_back thread [] = false
is_back thread (Taken t ∷ later) = if t == thread then list_any gives later else is_back thread later
is_back thread (_ ∷ later) = is_back thread later

-- The chunks that are held: begun, and not given back.
abbrev pub held : List Turn → ℕ
held [] = 0
held (Written t size begins ∷ later) = (if begins && not (is_back t later) then 1 else 0) + held later
held (_ ∷ later) = held later

-- The chunks in hand: held, and taken.
abbrev pub in_hand : List Turn → ℕ
in_hand [] = 0
in_hand (Written t size begins ∷ later) =
    (if begins && list_any (takes_from t) later && not (is_back t later) then 1 else 0) + in_hand later
in_hand (_ ∷ later) = in_hand later

-- A Show is refused exactly where it needs a chunk and as many are held as the session has.
abbrev pub is_refused_after : List Turn → ℕ → ℕ → ℕ → Bool
is_refused_after turns chunks thread size = needs_chunk_after turns thread size && nat_le chunks (held turns)

-- A Show that is written begins the chunk that it needs; a refused one does nothing.
abbrev pub shown_after : List Turn → ℕ → ℕ → ℕ → List Turn
shown_after turns chunks thread size =
    if is_refused_after turns chunks thread size then [] else Written thread size (needs_chunk_after turns thread size) ∷ []

-- ---- the turns of a past

-- The chunks that the session's configuration has.
abbrev pub chunks_of : ℕ → Past → ℕ
chunks_of session past = option_map_or (λ config. config.chunks) (config_of session past) 0

-- The size of the write that the thread began last, which a Show shows.
abbrev pub shown_size : ℕ → Past → ℕ
shown_size thread past = option_map_or (λ begun. record_size begun.write) (last_begun thread past) 0

-- The turns of the session's steps, the oldest first.
abbrev pub turns : ℕ → Past → List Turn
turns session [] = []
turns session (step.Show t s ∷ past) =
    if s == session
    then turns session past ++ shown_after (turns session past) (chunks_of session past) t (shown_size t past)
    else turns session past
turns session (step.Steal s t ∷ past) = if s == session then turns session past ++ Taken t ∷ [] else turns session past
turns session (step.Close s t ∷ past) = if s == session then turns session past ++ Taken t ∷ [] else turns session past
turns session (step.Give s ∷ past) = if s == session then turns session past ++ Given ∷ [] else turns session past
turns session (_ ∷ past) = turns session past

-- A Show of the thread to the session after this past is refused.
abbrev pub is_refused : ℕ → ℕ → Past → Bool
is_refused session thread past = is_refused_after (turns session past) (chunks_of session past) thread (shown_size thread past)

-- A Steal or a Close of the session took chunks that it has not given back. Taking nothing leaves nothing in hand.
abbrev pub is_hand_full : ℕ → Past → Bool
is_hand_full session past = nat_lt 0 (in_hand (turns session past))

-- The numbers of the thread's refused Shows, ascending. The k-th Show has the number k, refused or not.
abbrev pub refused : ℕ → ℕ → Past → List ℕ
refused session thread [] = []
refused session thread (step.Show t s ∷ past) =
    if (s == session) && (t == thread) && is_refused session thread past
    then refused session thread past ++ (shows session thread past + 1) ∷ []
    else refused session thread past
refused session thread (_ ∷ past) = refused session thread past

-- How many of the thread's Shows were written.
abbrev pub written : ℕ → ℕ → Past → ℕ
written session thread [] = 0
written session thread (step.Show t s ∷ past) =
    (if (s == session) && (t == thread) && not (is_refused session thread past) then 1 else 0) + written session thread past
written session thread (_ ∷ past) = written session thread past
