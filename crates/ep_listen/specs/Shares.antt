-- What was heard of a thread, beside what it wrote and the session admits (this project's theorem).
use Rattle.std.specs.Prelude.{◌≡◌, ℕ, ◌+◌, ◌-◌, ◌<◌, ◌≤◌, ◌==◌, if◌then◌else◌, Bool, false, List, [], ◌∷◌, ◌++◌, length, map, filter, Some, slice_get}
use Rattle.std.specs.List.{All, AllByRecursion}
use Rattle.ep_defs.specs.declared.session.Write.{Write}
use Rattle.ep_chunk.specs.Record.{Record, frame_bytes}
use Rattle.ep_slot.specs.Slot as slot
use Rattle.ep_row.specs.AtRest.{write_of}
use Rattle.ep_listen.specs.Heard.{HeardEvent, heard_in}

-- ---- what is to be heard of writes

-- What is heard of a write, whenever it was made.
pub record Contents : Type 0 where
  pub number : ℕ
  pub event : ℕ
  pub activity : List ℕ
  pub related : List ℕ
  pub frames : List ℕ
  pub payload : List ℕ

-- What an event tells of its write.
abbrev pub contents_of : HeardEvent → Contents
contents_of e =
    record { number = e.number; event = e.event; activity = e.activity; related = e.related; frames = e.frames; payload = e.payload }

-- What is to be told of a write with this number.
abbrev pub write_contents : ℕ → Write → Contents
write_contents number write =
    record {
      number = number;
      event = write.event;
      activity = write.activity;
      related = write.related;
      frames = frame_bytes write.frames;
      payload = write.payload;
    }

-- The same of writes with the numbers from this one on.
abbrev pub numbered : ℕ → List Write → List Contents
numbered number [] = []
numbered number (write ∷ writes) = write_contents number write ∷ numbered (number + 1) writes

-- ---- what was heard of a thread

-- The events of a thread, in their order.
abbrev pub heard_by : ℕ → List HeardEvent → List HeardEvent
heard_by thread heard = filter (λ e. e.thread == thread) heard

-- The second list is the first without so many of its members, in the same order.
pub data IsLess (A : Type 0) : ℕ → List A → List A → Type 0 where
  Nothing : IsLess A 0 [] []
  Kept : (count : ℕ) (a : A) (all some : List A) → IsLess A count all some → IsLess A count (a ∷ all) (a ∷ some)
  Missing : (count : ℕ) (a : A) (all some : List A) → IsLess A count all some → IsLess A (count + 1) (a ∷ all) some

-- What was heard of a thread is what the session admits of its writes, with the numbers 1, 2, 3, .., in their order, each with
-- its contents, without those that are missing; and as many are missing as were refused, unless the listener has failed.
pub record IsShareOf (admitted : List Write) (refused : ℕ) (failed : Bool) (heard : List HeardEvent) : Type 0 where
  pub missing : ℕ
  pub less : IsLess Contents missing (numbered 1 admitted) (map contents_of heard)
  pub all : failed ≡ false → missing ≡ refused

-- ---- what was heard so far

-- What was taken of a thread.
pub record Account : Type 0 where
  -- how many events were taken
  pub taken : ℕ
  -- the last number that was used when something was last taken, or 0
  pub last : ℕ

-- The account of a thread of which nothing was taken.
abbrev pub no_account : Account
no_account = record { taken = 0; last = 0 }

-- The accounts where so many events more were taken of a thread, up to this number.
abbrev pub with_taken : (ℕ → Account) → ℕ → ℕ → ℕ → ℕ → Account
with_taken accounts thread count last t =
    if t == thread then record { taken = (accounts thread).taken + count; last = last } else accounts t

-- The numbers of events rise above the first number, and none is above the second.
abbrev pub AreRising : ℕ → ℕ → List HeardEvent → Type 0
AreRising below most [] = below ≤ most
AreRising below most (e ∷ heard) = (below < e.number) × AreRising e.number most heard

-- The event tells of the write that stands among the admitted ones at the place that its number says.
abbrev pub IsInPlace : List Write → HeardEvent → Type 0
IsInPlace admitted e = slice_get (numbered 1 admitted) (e.number - 1) ≡ Some (contents_of e)

-- What was heard of a thread up to here: its numbers rise, each event is in its place, and they are all that was taken, unless
-- the listener has failed.
pub record IsHeardOf (admitted : List Write) (account : Account) (failed : Bool) (thread : ℕ) (heard : List HeardEvent) : Type 0 where
  pub rising : AreRising 0 account.last (heard_by thread heard)
  pub in_place : AllByRecursion (IsInPlace admitted) (heard_by thread heard)
  pub few : length (heard_by thread heard) ≤ account.taken
  pub all : failed ≡ false → length (heard_by thread heard) ≡ account.taken

-- The same of every thread.
abbrev pub AreHeard : (ℕ → List Write) → (ℕ → Account) → Bool → List HeardEvent → Type 0
AreHeard admitted accounts failed heard =
    (thread : ℕ) → IsHeardOf (admitted thread) (accounts thread) failed thread heard

-- Records that are taken of a thread: their numbers rise from above the first up to the last at most, and each is of the write
-- that stands among the admitted ones at the place that its number says.
pub record AreNext (admitted : List Write) (thread below last : ℕ) (records : List Record) : Type 0 where
  pub of_thread : All (λ r. r.thread ≡ thread) records
  pub rising : slot.AreRising below last records
  pub in_place : All (λ r. slice_get admitted (r.number - 1) ≡ Some (write_of r)) records

-- What a listener handed over of these records: the first of them, and all unless it has failed.
pub record IsPartOf (records : List Record) (old new : Bool) (done : List HeardEvent) : Type 0 where
  pub others : List HeardEvent
  pub front : done ++ others ≡ heard_in records
  pub all : new ≡ false → (old ≡ false) × (done ≡ heard_in records)

-- ---- what comes of it

-- Behind all that was heard before, what a listener hands over of these records is heard too, with these accounts after it.
abbrev pub AddToHeard : (ℕ → List Write) → (ℕ → Account) → (ℕ → Account) → List Record → Type 0
AddToHeard admitted before after records =
    (old new : Bool) (heard done : List HeardEvent)
    → AreHeard admitted before old heard → IsPartOf records old new done → AreHeard admitted after new (heard ++ done)

-- Where all numbers of a thread were used, and so many of them were not taken, what was heard of it is its share.
abbrev pub IsShareAtEnd : List Write → Account → ℕ → Bool → List HeardEvent → Type 0
IsShareAtEnd admitted account refused failed heard =
    account.last ≤ length admitted → account.taken + refused ≡ length admitted → IsShareOf admitted refused failed heard
