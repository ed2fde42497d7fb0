-- What the stream of a session over running threads has told, by the marks that the session keeps of each thread
-- (this project's theorem).
use Rattle.std.specs.Prelude.{◌≡◌, ℕ, ◌+◌, ◌-◌, ◌<◌, ◌≤◌, Bool, true, not, List, [], ◌∷◌, length, map, filter, take, Some, slice_get, ◌==◌}
use Rattle.std.specs.List.{list_any, range_with_len, AllByRecursion}
use Rattle.ep_defs.specs.declared.event.EventDef.{EventDef}
use Rattle.ep_defs.specs.declared.session.Config.{Config}
use Rattle.ep_defs.specs.declared.session.Marks.{Marks}
use Rattle.ep_defs.specs.declared.session.Write.{Write}
use Rattle.ep_defs.specs.Entry.{Entry}
use Rattle.ep_model.specs.Faithful.{Contents, Share, AreFaithful, events_of, is_among, numbered}
use Rattle.ep_model.specs.History.{admitted_from}
use Rattle.ep_guarded.specs.Tied.{AreCounted}

-- ---- the share of a thread

-- What a session has to tell of these writes of a thread when it was opened after so many of them: those that it
-- admits, with the numbers 1, 2, 3, ..
abbrev pub contents_from : List EventDef → Config → ℕ → List Write → List Contents
contents_from events config from writes = numbered events config.stackwalk 1 (admitted_from events (Some config) from writes)

-- One of the contents has the number.
abbrev pub has_number : ℕ → List Contents → Bool
has_number number contents = list_any (λ c. c.number == number) contents

-- The numbers from 1 to the last that none of the contents has.
abbrev pub unseen : ℕ → List Contents → List ℕ
unseen last contents = filter (λ number. not (has_number number contents)) (range_with_len 1 last)

-- What the session had to tell of the thread between its opening and its closing there.
abbrev pub admitted_by : List EventDef → Config → (ℕ → List Write) → Marks → List Contents
admitted_by events config writes marks = contents_from events config marks.from (take marks.to (writes marks.thread))

-- The numbers that no event of the thread has: they count as those of refused writes. (Why a write was refused is said
-- where it is shown to a session, and not here.)
abbrev pub refused_by : List EventDef → Config → (ℕ → List Write) → List Entry → Marks → List ℕ
refused_by events config writes entries marks =
    unseen (length (admitted_by events config writes marks)) (events_of marks.thread entries)

-- The session's share of the marks' thread.
abbrev pub share_by : List EventDef → Config → (ℕ → List Write) → List Entry → Marks → Share
share_by events config writes entries marks =
    record { thread = marks.thread; admitted = admitted_by events config writes marks; refused = refused_by events config writes entries marks }

-- The shares of the threads of all marks.
abbrev pub shares_by : List EventDef → Config → (ℕ → List Write) → List Entry → List Marks → List Share
shares_by events config writes entries marks = map (share_by events config writes entries) marks

-- ---- a session that did not fail

-- The entries are faithful to what the threads wrote in the run, less the events that are not there; as many events of
-- each thread are there as its marks say were taken, and as many of its numbers are missing as they say were refused.
pub record AreTraced (events : List EventDef) (config : Config) (writes : ℕ → List Write) (marks : List Marks) (entries : List Entry) : Type 0 where
  pub faithful : AreFaithful (shares_by events config writes entries marks) entries
  pub taken : AllByRecursion (λ mark. length (events_of mark.thread entries) ≡ mark.taken) marks
  pub refused : AllByRecursion (λ mark. length (refused_by events config writes entries mark) ≡ mark.refused) marks

-- ---- a session that failed

-- The numbers of the contents rise from above the first one up to the last at most.
abbrev pub AreRising : ℕ → ℕ → List Contents → Type 0
AreRising below most [] = below ≤ most
AreRising below most (c ∷ contents) = (below < c.number) × AreRising c.number most contents

-- Each of the contents stands among all of them at the place that its number says.
abbrev pub AreInPlace : List Contents → List Contents → Type 0
AreInPlace all contents = AllByRecursion (λ c. slice_get all (c.number - 1) ≡ Some c) contents

-- The numbers of the events of each thread rise, the event with the number n is the n-th of the thread's writes that
-- the session gets, and no entry speaks of another thread.
pub record ArePart (events : List EventDef) (config : Config) (writes : ℕ → List Write) (marks : List Marks) (entries : List Entry) : Type 0 where
  pub rising : AllByRecursion (λ mark. AreRising 0 (mark.taken + mark.refused) (events_of mark.thread entries)) marks
  pub in_place : AllByRecursion (λ mark. AreInPlace (admitted_by events config writes mark) (events_of mark.thread entries)) marks
  pub alone : AllByRecursion (λ entry. is_among (shares_by events config writes entries marks) entry ≡ true) entries

-- ---- the marks

-- The marks are of threads that write: these have numbers above 0.
abbrev pub AreOfThreads : List Marks → Type 0
AreOfThreads marks = AllByRecursion (λ mark. 0 < mark.thread) marks

-- The marks are those of the threads on which the session was opened, in their order, and each counts what the session
-- gets of its thread's writes.
pub record AreMarks (events : List EventDef) (config : Config) (writes : ℕ → List Write) (opened : List ℕ) (marks : List Marks) : Type 0 where
  pub threads : map (λ mark. mark.thread) marks ≡ opened
  pub counted : AllByRecursion (AreCounted events writes config) marks
