-- What is left once all threads of a run have ended. All of it is this project's own.
use Rattle.std.specs.Prelude.{◌≡◌, ◌≤◌, Bool, true, false, List, length, count_by}
use Rattle.std.specs.List.{AllByRecursion}
use Rattle.ep_journal.specs.declared.limits.TheConstants.{CONNECTIONS}
use Rattle.ep_journal.specs.declared.session.Entry.{Entry}
use Rattle.ep_journal.specs.Kept.{is_late}
use Rattle.ep_journal.specs.Kept as kept
use Rattle.ep_journal.specs.Told.{AreTold}
use Rattle.ep_live_laws.specs.Tracing.{is_fault}
use Rattle.ep_registry.specs.Registered.{ServerHalf}
use Rattle.pt_io.specs.Sides.{ReadSide}
use Rattle.pt_io.specs.declared.sink.Sink.{Ghosts as Sink}
use Rattle.pt_roles.specs.Ran.{AreKnown, IsEnd, is_early}
use Rattle.pt_roles.specs.World.{WorldState}
use Rattle.pt_host.specs.declared.exit.Exit.{Exit}
use Rattle.pt_host.specs.declared.exit.Exit.TheVariants as exit
use Rattle.pt_roles.specs.declared.live_end.LiveSession.{LiveSession}

-- The dock has failed.
abbrev pub has_failed : Exit → Bool
has_failed exit.Enough = false
has_failed exit.Closed = false
has_failed exit.Failed = true
has_failed exit.Full = false

-- What is left of these sessions, as the table knew them: each has ended as it may; at least as many were early as the table
-- counts, and all that did not fail where it counts none later.
pub record AreLeftOver {L : Type 0} (gave : L → ReadSide) (sink : Sink L) (world : WorldState) (entries : List Entry) (sessions : List (LiveSession L)) : Type 0 where
  pub known : AreKnown 1 entries sessions
  pub each : AllByRecursion (IsEnd gave sink world) sessions
  pub early : count_by kept.is_early entries ≤ count_by (λ session. is_early world session.marks) sessions
  pub all_early : count_by is_late entries ≡ 0 → AllByRecursion (λ session. is_fault session.fate ≡ false → is_early world session.marks ≡ true) sessions

-- The sessions that the table knew in the end, beside what the server has decided.
pub record IsAllOver {L : Type 0} (gave : L → ReadSide) (sink : Sink L) (world : WorldState) (server : ServerHalf) (sessions : List (LiveSession L)) : Type 0 where
  pub entries : List Entry
  pub told : AreTold server.decisions entries true
  pub few : length server.decisions ≤ CONNECTIONS
  pub known : AreKnown 1 entries sessions
  pub each : AllByRecursion (IsEnd gave sink world) sessions
  -- at least as many were early as the server counts, and all that did not fail where it counts none later
  pub early : server.early ≤ count_by (λ session. is_early world session.marks) sessions
  pub all_early : server.late ≡ 0 → AllByRecursion (λ session. is_fault session.fate ≡ false → is_early world session.marks ≡ true) sessions
