-- The calls of one tool, as a dock (this project's profile).
use Rattle.std.specs.Prelude.{◌≡◌, ℕ, ◌+◌, ◌<◌, Bool, true, false, ◌||◌, ◌⊎◌, List, length, take, nat_le, Option, Some, None, Result, Ok, Err, IsTrue}
use Rattle.pt_io.specs.declared.caller.Caller.{Ghosts as Caller}
use Rattle.pt_io.specs.declared.dock.Arrival.{Arrival}
use Rattle.pt_io.specs.declared.dock.Arrival.TheVariants as arrival
use Rattle.pt_io.specs.declared.dock.Dock.{Ghosts as Dock}
use Rattle.pt_io.specs.declared.sink.Sink.{Ghosts as Sink}
use Rattle.pt_io.specs.declared.source.Failed.{Failed}
use Rattle.pt_io.specs.Faults.{HasRisen}
use Rattle.pt_io.specs.Sides.{ReadSide}

-- The caller, how many links were given, and the link over which the message could not be sent, if there was one.
pub record CallsState (K L : Type 0) : Type 0 where
  pub caller : K
  pub given : ℕ
  pub kept : Option L

-- Nobody was called.
abbrev pub uncalled : {K L : Type 0} → K → CallsState K L
uncalled caller = record { caller = caller; given = 0; kept = None }

-- ---- the link that is kept

-- One is kept.
abbrev pub is_kept : {L : Type 0} → Option L → Bool
is_kept None = false
is_kept (Some link) = true

-- How many are kept.
abbrev pub kept_count : {L : Type 0} → Option L → ℕ
kept_count None = 0
kept_count (Some link) = 1

-- How often a write of it has failed.
abbrev pub kept_faults : {L : Type 0} → Sink L → Option L → ℕ
kept_faults sink None = 0
kept_faults sink (Some link) = sink.write_faults link

-- ---- the dock

-- Nobody is called any more: as many links were given as are to be, or one is kept.
abbrev pub is_over : {K L : Type 0} → ℕ → CallsState K L → Bool
is_over most calls = nat_le most calls.given || is_kept calls.kept

-- How often a call has failed, and a write of the link that is kept.
abbrev pub faults_of : {K L : Type 0} → Caller K L → Sink L → CallsState K L → ℕ
faults_of caller sink calls = caller.call_faults calls.caller + kept_faults sink calls.kept

-- The dock of at most so many calls of a tool, each of whose links took the message before it comes.
abbrev pub dock_of : {K L : Type 0} → Caller K L → Sink L → List ℕ → ℕ → Dock (CallsState K L) L
dock_of caller sink advert most =
    record {
      greeting = λ calls. advert;
      arrivals = λ calls. calls.given;
      quiets = λ calls. 0;
      dock_faults = faults_of caller sink;
      is_closed = is_over most;
    }

-- ---- a turn of it

-- A call of the target gave the link, which has given nothing since.
pub record IsCalled {K L : Type 0} (caller : Caller K L) (gave : L → ReadSide) (target : List ℕ) (link : L) : Type 0 where
  pub fresh : L
  pub leads : caller.leads_to target fresh
  pub gives : gave link ≡ gave fresh

-- These are the first of those bytes.
abbrev pub IsFirstPart : List ℕ → List ℕ → Type 0
IsFirstPart part bytes = part ≡ take (length part) bytes

-- The link took a first part of the message, where it tells what it takes, and then a write of it failed.
pub record IsCut {L : Type 0} (sink : Sink L) (advert : List ℕ) (link : L) : Type 0 where
  pub part : IsTrue (sink.tells_taken link) → IsFirstPart (sink.taken link) advert
  pub fault : 0 < sink.write_faults link

-- One call was made and gave a link, and no call has failed.
pub record HasCalled {K L : Type 0} (caller : Caller K L) (old new : K) : Type 0 where
  pub links : caller.links new ≡ caller.links old + 1
  pub sound : caller.call_faults new ≡ caller.call_faults old

-- One call was made and gave no link.
pub record HasFailed {K L : Type 0} (caller : Caller K L) (old new : K) : Type 0 where
  pub links : caller.links new ≡ caller.links old
  pub fault : HasRisen (caller.call_faults old) (caller.call_faults new)

-- A turn that gives a link: it took the message and nothing else.
pub record Gives {K L : Type 0} (caller : Caller K L) (sink : Sink L) (gave : L → ReadSide) (target advert : List ℕ) (old new : CallsState K L) (link : L) : Type 0 where
  pub called : HasCalled caller old.caller new.caller
  pub given : new.given ≡ old.given + 1
  pub none : new.kept ≡ None
  pub link_is : IsCalled caller gave target link
  pub took : sink.taken link ≡ advert

-- A turn whose link could not take the message: it is kept.
pub record Keeps {K L : Type 0} (caller : Caller K L) (sink : Sink L) (gave : L → ReadSide) (target advert : List ℕ) (old new : CallsState K L) : Type 0 where
  pub called : HasCalled caller old.caller new.caller
  pub given : new.given ≡ old.given
  pub link : L
  pub kept : new.kept ≡ Some link
  pub link_is : IsCalled caller gave target link
  pub cut : IsCut sink advert link

-- A turn in which no link came.
pub record Misses {K L : Type 0} (caller : Caller K L) (old new : CallsState K L) : Type 0 where
  pub failed : HasFailed caller old.caller new.caller
  pub given : new.given ≡ old.given
  pub none : new.kept ≡ None

-- What an answer of the dock says of the calls before it and after it. It calls exactly where it isn't over, and no turn is
-- quiet.
abbrev pub TurnsTo : {K L : Type 0} → Caller K L → Sink L → (L → ReadSide) → (target advert : List ℕ) → ℕ → (old new : CallsState K L) → Result (Arrival L) Failed → Type 0
TurnsTo caller sink gave target advert most old new (Ok (arrival.Link link)) =
    (is_over most old ≡ false) × Gives caller sink gave target advert old new link
TurnsTo caller sink gave target advert most old new (Ok arrival.Quiet) = ⊥
TurnsTo caller sink gave target advert most old new (Ok arrival.Closed) = (is_over most old ≡ true) × (new ≡ old)
TurnsTo caller sink gave target advert most old new (Err failed) =
    (is_over most old ≡ false) × (Misses caller old new ⊎ Keeps caller sink gave target advert old new)
