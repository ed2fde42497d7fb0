-- What a session's entries have to tell: of each thread the writes that were admitted, less those that were refused
-- (this project's theorem; sequence numbers and points as in the NetTrace format document of PerfView, version 4).
use Rattle.std.specs.Prelude.{◌≡◌, ℕ, ◌+◌, Bool, true, not, List, [], ◌∷◌, ◌++◌, length, map, filter, Option, Some, None, ◌==◌, if◌then◌else◌}
use Rattle.std.specs.List.{list_any, list_all, flat_map, last_or, AllByRecursion}
use Rattle.ep_defs.specs.Definitions.{definition_at}
use Rattle.ep_defs.specs.declared.event.EventDef.{EventDef}
use Rattle.ep_defs.specs.declared.session.Write.{Write}
use Rattle.ep_defs.specs.Entry.{EventEntry, PointEntry, Entry, Event, Point}
use Rattle.ep_defs.specs.Gaps.{Sighting, Known, sightings, gaps}
use Rattle.ep_model.specs.Chunks.{refused, written}
use Rattle.ep_model.specs.Entries.{has_stacks, stack_of}
use Rattle.ep_model.specs.History.{Past, admitted, opened}

-- What a stream has to tell of a write, whenever it was made.
pub record Contents : Type 0 where
  pub number : ℕ
  pub def : EventDef
  pub activity : List ℕ
  pub related : List ℕ
  pub stack : List ℕ
  pub payload : List ℕ

-- What a session has of a thread: the writes that it admits, with the numbers 1, 2, 3, .., and the numbers of those
-- that were refused.
pub record Share : Type 0 where
  pub thread : ℕ
  pub admitted : List Contents
  pub refused : List ℕ

-- A write was not refused.
abbrev pub is_kept : List ℕ → Contents → Bool
is_kept refused contents = not (list_any (λ n. n == contents.number) refused)

-- The admitted writes without the refused ones.
abbrev pub kept : Share → List Contents
kept share = filter (is_kept share.refused) share.admitted

-- What an event tells of its write.
abbrev pub contents_of : EventEntry → Contents
contents_of e = record { number = e.number; def = e.def; activity = e.activity; related = e.related; stack = e.stack; payload = e.payload }

-- The thread's events in the entries.
abbrev pub events_in : ℕ → Entry → List Contents
events_in thread (Event e) = if e.thread == thread then contents_of e ∷ [] else []
events_in thread (Point p) = []

-- Those of all entries, in order.
abbrev pub events_of : ℕ → List Entry → List Contents
events_of thread entries = flat_map (events_in thread) entries

-- Some share is that of the thread.
abbrev pub is_of : List Share → ℕ → Bool
is_of shares thread = list_any (λ share. share.thread == thread) shares

-- An event of one of these threads, or a point that names only such.
abbrev pub is_among : List Share → Entry → Bool
is_among shares (Event e) = is_of shares e.thread
is_among shares (Point p) = list_all (λ (named : ℕ × ℕ). is_of shares named.0) p.threads

-- The last that the entries tell of a thread: an event's number, or the number that a point gives.
abbrev pub last_sighting : ℕ → List Entry → Option Sighting
last_sighting thread entries = last_or None (sightings thread entries)

-- What the entries tell of the threads of the shares, and of no other.
pub record AreFaithful (shares : List Share) (entries : List Entry) : Type 0 where
  -- of each thread the admitted writes less the refused, in order
  pub complete : AllByRecursion (λ share. events_of share.thread entries ≡ kept share) shares
  -- no event of another thread, and no point that names one
  pub alone : AllByRecursion (λ entry. is_among shares entry ≡ true) entries
  -- what is missing is what was refused
  pub missing : AllByRecursion (λ share. gaps share.thread entries ≡ length share.refused) shares
  -- each thread is named by a point; the last that names it gives the number of its admitted writes, and stands after
  -- its events
  pub told : AllByRecursion (λ share. last_sighting share.thread entries ≡ Some (Known (length share.admitted))) shares
  -- a point at the end
  pub front : List Entry
  pub last : PointEntry
  pub ended : entries ≡ front ++ Point last ∷ []

-- ---- the shares of a session

-- What the session's stream has to tell of a write of this event.
abbrev pub write_contents : Bool → ℕ → Write → EventDef → Contents
write_contents stacks number write def =
    record { number = number; def = def; activity = write.activity; related = write.related; stack = stack_of stacks write; payload = write.payload }

-- The same, if the write's event is defined.
abbrev pub contents_if : Bool → ℕ → Write → Option EventDef → List Contents
contents_if stacks number write None = []
contents_if stacks number write (Some def) = write_contents stacks number write def ∷ []

-- The writes with the numbers from this one on.
abbrev pub numbered : List EventDef → Bool → ℕ → List Write → List Contents
numbered definitions stacks number [] = []
numbered definitions stacks number (write ∷ writes) = contents_if stacks number write (definition_at definitions write.event) ++ numbered definitions stacks (number + 1) writes

-- The session's share of a thread.
abbrev pub share_of : List EventDef → ℕ → Past → ℕ → Share
share_of definitions session past thread =
    record {
      thread = thread;
      admitted = numbered definitions (has_stacks session past) 1 (admitted definitions session thread past);
      refused = refused session thread past;
    }

-- The session's shares of the threads on which it was opened.
abbrev pub shares_of : List EventDef → ℕ → Past → List Share
shares_of definitions session past = map (λ t. share_of definitions session past t) (opened session past)

-- Each write of the thread that the session admits was written or refused: the two make up their number.
abbrev pub AreWrittenOrRefused : List EventDef → ℕ → ℕ → Past → Type 0
AreWrittenOrRefused definitions session thread past =
    written session thread past + length (refused session thread past) ≡ length (admitted definitions session thread past)
