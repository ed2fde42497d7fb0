-- A registry with its halves of the ties, and the halves of the server and of the roles.
use Rattle.std.specs.Prelude.{◌≡◌, ℕ, ◌+◌, ◌-◌, ◌<◌, ◌≤◌, Bool, true, false, Option, Some, None, List, [], ◌∷◌, length, count_by, map, slice_get}
use Rattle.ep_tie.specs.Tied.{Tied}
use Rattle.ep_table.specs.declared.limits.TheConstants.{SLOTS}
use Rattle.ep_table.specs.Sessions.{is_free}
use Rattle.ep_journal.specs.declared.decision.Decision.{Decision}
use Rattle.ep_journal.specs.declared.limits.TheConstants.{CONNECTIONS}
use Rattle.ep_journal.specs.Recorded.{Recorded}
use Rattle.ep_journal.specs.Kept.{is_of, is_early, is_late}
use Rattle.ep_registry.specs.declared.hold.Hold.{Hold}
use Rattle.ep_registry.specs.declared.server.Mark.{Mark}
use Rattle.ep_registry.specs.declared.server.Mark.TheVariants as mark
use Rattle.ep_registry.specs.Places.{numbered}
use Rattle.ep_registry.specs.Held.{AreHeld, AreOver}

-- What a registry is to its callers: what was decided, whether the server has ended, how many roles there are, and which
-- sessions wait for their roles by slot.
pub record Registered : Type 0 where
  pub recorded : Recorded
  pub closed : Bool
  pub roles : ℕ
  pub waiting : List (Option Hold)

-- ---- halves

-- What the server's half shows.
pub record ServerHalf : Type 0 where
  pub decisions : List Decision
  pub early : ℕ
  pub late : ℕ
  pub left : Bool

-- What a role's half shows.
pub record RoleHalf : Type 0 where
  pub number : ℕ
  pub roles : ℕ
  pub left : Bool

-- What the registry keeps of the server.
abbrev pub mark_of : ServerHalf → Mark
mark_of s = mark.Server s.early s.late s.left

-- What the registry keeps of a role.
abbrev pub mark_of_role : RoleHalf → Mark
mark_of_role r = mark.Role r.roles r.left

-- The decisions, none where nothing is shown.
abbrev pub list_in : Option (List Decision) → List Decision
list_in None = []
list_in (Some decisions) = decisions

-- The server's half of the decisions is that of the first place, and its mark is that of the last, after those of the
-- roles.
pub record IsServer (book : Tied (List Decision)) (server : ServerHalf) (half : Tied Mark) : Type 0 where
  pub book_place : book.place ≡ 0
  pub book_value : book.value ≡ Some server.decisions
  pub place : half.place ≡ SLOTS
  pub value : half.value ≡ Some (mark_of server)

-- A role's mark is that of its number.
pub record IsRole (role : RoleHalf) (half : Tied Mark) : Type 0 where
  pub one_of : role.number < role.roles
  pub few : role.roles ≤ SLOTS
  pub place : half.place ≡ role.number
  pub value : half.value ≡ Some (mark_of_role role)

-- ---- what the registry keeps

-- The registry's lists, with its halves of the ties by place.
pub record Desk : Type 0 where
  pub recorded : Recorded
  pub book : List (Option (List Decision))
  pub holds : List (Option (Option Hold))
  pub spare : List (Tied (Option Hold))
  pub marks : List (Option Mark)
  pub roles : ℕ
  pub closed : Bool
  pub early : ℕ
  pub late : ℕ

-- A role that has left does so after the server, and none of its sessions goes on.
abbrev pub IsMarked : Desk → ℕ → Option (Option Mark) → Type 0
IsMarked d role None = ⊥
IsMarked d role (Some None) = ⊥
IsMarked d role (Some (Some (mark.Server early late left))) = ⊥
IsMarked d role (Some (Some (mark.Role roles left))) =
    (roles ≡ d.roles) × (left ≡ true → (d.closed ≡ true) × (count_by (is_of d.roles role) d.recorded.sessions ≡ 0))

-- The halves of the registry show what it has recorded.
pub record IsTied (d : Desk) : Type 0 where
  -- The server's half shows the decisions.
  pub book : d.book ≡ Some d.recorded.decisions ∷ []
  -- Who has a session knows of it what the registry knows.
  pub places : length d.holds ≡ CONNECTIONS
  pub holds : AreHeld d.holds d.recorded.sessions
  pub spare : d.spare ≡ numbered (CONNECTIONS - length d.recorded.sessions) None
  pub few : length d.recorded.sessions ≤ CONNECTIONS
  -- The server knows how many sessions were opened, before any write and later, and whether it has ended.
  pub marks : length d.marks ≡ SLOTS + 1
  pub server : slice_get d.marks SLOTS ≡ Some (Some (mark.Server d.early d.late d.closed))
  pub early : d.early ≡ count_by is_early d.recorded.sessions
  pub late : d.late ≡ count_by is_late d.recorded.sessions
  pub role : (role : ℕ) → role < SLOTS → IsMarked d role (slice_get d.marks role)
  pub some : 0 < d.roles

-- A registry has a thing for each free slot, what is left of each session that has ended, and what the writers leave once
-- all have ended.
pub record IsRegistered (d : Desk) (frees : List Bool) (overs : List (Option Hold)) (left : Bool) : Type 0 where
  pub tied : IsTied d
  pub free : frees ≡ map is_free d.recorded.table.seats
  pub over : AreOver overs d.recorded.sessions
  pub gone : d.recorded.ended ≡ left

-- One more, or none.
abbrev pub counted_if : Bool → ℕ
counted_if true = 1
counted_if false = 0

-- All roles have ended, each with its half.
pub record AreLeft (roles : List RoleHalf) : Type 0 where
  pub some : 0 < length roles
  pub few : length roles ≤ SLOTS
  pub each : (number : ℕ) → number < length roles → slice_get roles number ≡ Some (record { number = number; roles = length roles; left = true })

-- The registry's marks are those of the roles.
abbrev pub AreMarked : List (Option Mark) → List RoleHalf → Type 0
AreMarked marks roles =
    (place : ℕ) (role : RoleHalf) → slice_get roles place ≡ Some role → slice_get marks role.number ≡ Some (Some (mark_of_role role))
