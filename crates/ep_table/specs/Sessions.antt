-- The session table as a value, and what each of its calls makes of it. Slots, ids and their order are those of
-- EventPipe's sessions (the EventPipe sources of dotnet/runtime, ep-session.c); that ids run from 1 and are never given
-- again is this project's profile.
use Rattle.std.specs.Prelude.{ℕ, ◌+◌, ◌<◌, ◌≤◌, ◌≡◌, Bool, true, false, ◌&&◌, not, Option, Some, None, is_some, List, replicate, count_by, position, slice_get, slice_set, nat_lt, ◌==◌, length, IsTrue}
use Rattle.std.specs.List.{list_any, list_all}
use Rattle.ep_table.specs.declared.limits.TheConstants.{SLOTS}
use Rattle.ep_table.specs.declared.table.Seat.{Seat}
use Rattle.ep_table.specs.declared.table.Accepted.{Accepted}
use Rattle.ep_table.specs.declared.table.Accepted.TheVariants as accepted
use Rattle.ep_table.specs.declared.table.StopAnswer.{StopAnswer}
use Rattle.ep_table.specs.declared.table.StopAnswer.TheVariants as stopped

-- What each slot holds, by its number, and the id that the next session gets.
pub record Sessions : Type 0 where
  pub seats : List (Option Seat)
  pub next : ℕ

-- A table at its start: no slot is held, and ids begin with 1.
abbrev pub no_sessions : Sessions
no_sessions = record { seats = replicate SLOTS None; next = 1 }

-- A free slot holds nothing.
abbrev pub is_free : Option Seat → Bool
is_free seat = not (is_some seat)

-- A live session of this id holds the slot.
abbrev pub is_live_as : ℕ → Option Seat → Bool
is_live_as id None = false
is_live_as id (Some seat) = seat.live && (seat.id == id)

-- Some slot is held by a live session of this id.
abbrev pub is_live : Sessions → ℕ → Bool
is_live sessions id = list_any (is_live_as id) sessions.seats

-- A session holds this slot.
abbrev pub holds : Option (Option Seat) → Bool
holds None = false
holds (Some seat) = is_some seat

-- A session holds the slot.
abbrev pub is_held : Sessions → ℕ → Bool
is_held sessions slot = holds (slice_get sessions.seats slot)

-- How many slots are held.
abbrev pub held_count : Sessions → ℕ
held_count sessions = count_by is_some sessions.seats

-- ---- a session is accepted

-- A session gets the lowest free slot and the next id.
abbrev pub seat_at : Sessions → Option ℕ → Accepted
seat_at sessions None = accepted.Full
seat_at sessions (Some slot) = accepted.Seat slot sessions.next

-- What is answered to a session that asks for a slot: the lowest free one, or none.
abbrev pub accepted_by : Sessions → Accepted
accepted_by sessions = seat_at sessions (position is_free sessions.seats)

-- The sessions with the next id in this slot.
abbrev pub seated_at : Sessions → Option ℕ → Sessions
seated_at sessions None = sessions
seated_at sessions (Some slot) =
    record {
      seats = slice_set sessions.seats slot (Some (record { id = sessions.next; live = true }));
      next = sessions.next + 1;
    }

-- The slot holds the session from then on, which is live, and its id is used up.
abbrev pub after_accept : Sessions → Sessions
after_accept sessions = seated_at sessions (position is_free sessions.seats)

-- ---- a session is stopped

-- What a stop of an id is answered, which is live in this slot or nowhere.
abbrev pub ticket_at : ℕ → ℕ → Option ℕ → StopAnswer
ticket_at id conn None = stopped.NotLive id
ticket_at id conn (Some slot) = stopped.Ticket (record { id = id; slot = slot; conn = conn })

-- A live session is stopped by a ticket with its slot, for the connection that asked.
abbrev pub stop_answer : Sessions → ℕ → ℕ → StopAnswer
stop_answer sessions id conn = ticket_at id conn (position (is_live_as id) sessions.seats)

-- The sessions once the one in this slot is live no more.
abbrev pub stopped_at : Sessions → ℕ → Option ℕ → Sessions
stopped_at sessions id None = sessions
stopped_at sessions id (Some slot) =
    record sessions { seats = slice_set sessions.seats slot (Some (record { id = id; live = false })) }

-- The session keeps its slot and is live no more.
abbrev pub after_stop : Sessions → ℕ → Sessions
after_stop sessions id = stopped_at sessions id (position (is_live_as id) sessions.seats)

-- ---- a slot is freed

-- The slot holds nothing from then on.
abbrev pub after_free : Sessions → ℕ → Sessions
after_free sessions slot = record sessions { seats = slice_set sessions.seats slot None }

-- ---- what every table keeps

-- A session of this id holds the slot, live or not.
abbrev pub is_of : ℕ → Option Seat → Bool
is_of id None = false
is_of id (Some seat) = seat.id == id

-- The slot's session, if there is one, has an id that was given before.
abbrev pub is_given : ℕ → Option Seat → Bool
is_given next None = true
is_given next (Some seat) = nat_lt 0 seat.id && nat_lt seat.id next

-- There are this many slots, and the sessions in them have ids that were given, each once.
pub record AreNumbered (sessions : Sessions) : Type 0 where
  pub places : length sessions.seats ≡ SLOTS
  pub first : 0 < sessions.next
  pub given : IsTrue (list_all (is_given sessions.next) sessions.seats)
  pub once : (id : ℕ) → count_by (is_of id) sessions.seats ≤ 1
