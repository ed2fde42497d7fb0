-- What belongs to a session in the table of a run. All of it is this project's own.
use Rattle.std.specs.Prelude.{◌≡◌, ℕ, Bool, true, false, List, None}
use Rattle.std.specs.List.{AllByRecursion}
use Rattle.ep_defs.specs.declared.session.Write.{Write}
use Rattle.ep_journal.specs.declared.session.Opened.{Opened}
use Rattle.ep_journal.specs.declared.session.Opened.TheVariants as opened
use Rattle.ep_journal.specs.declared.session.Stage.TheVariants as stage
use Rattle.ep_journal.specs.Kept.{was_early}
use Rattle.ep_live_laws.specs.Tracing.{is_fault}
use Rattle.ep_registry.specs.declared.hold.Hold.{Hold}
use Rattle.ipc_body.specs.declared.request.Request.TheVariants as request
use Rattle.pt_server.specs.Connection.{HasAsked}
use Rattle.pt_stream.specs.State.{IsDone, StreamState, is_complete}
use Rattle.pt_roles.specs.Fates.{fate_as}
use Rattle.pt_roles.specs.Ran.{is_early}
use Rattle.pt_roles.specs.World.{WorldState}
use Rattle.pt_roles.specs.declared.live_end.LiveSession.{LiveSession}

-- The session was opened on all rows.
abbrev pub was_opened : Opened → Bool
was_opened opened.No = false
was_opened opened.Early = true
was_opened opened.Late = true

-- The stream is that of the session, whose link asked for it, opened on all rows where the session was, and before any write
-- where that is said.
pub record IsStreamOf (hold : Hold) (stream : StreamState) : Type 0 where
  pub asked : HasAsked stream.gave (request.Collect stream.config)
  pub id_is : stream.id ≡ hold.id
  pub slot_is : stream.slot ≡ hold.slot
  pub conn_is : stream.conn ≡ hold.conn
  pub complete : is_complete stream ≡ was_opened hold.opened
  pub early : was_early hold.opened ≡ true → stream.early ≡ true

-- Each thread on which it was closed had made all its writes, and it has the halves of no thread.
pub record Fits (writes : ℕ → List Write) (hold : Hold) (stream : StreamState) : Type 0 where
  pub is : IsStreamOf hold stream
  pub done : AllByRecursion (IsDone writes) stream.marks
  pub lent : stream.stands ≡ None

-- It waits for its role, which has found no end of it, with the stream that fits it.
pub record Waits (writes : ℕ → List Write) (hold : Hold) (stream : StreamState) : Type 0 where
  pub serves : hold.stage ≡ stage.Serving
  pub fits : Fits writes hold stream

-- What is left is that of the session, which ended so; it had each thread from its first write on where it was opened before
-- any, and it was opened on all rows where it did not fail.
pub record IsOver {L : Type 0} (world : WorldState) (hold : Hold) (session : LiveSession L) : Type 0 where
  pub id_is : session.id ≡ hold.id
  pub conn_is : session.conn ≡ hold.conn
  pub stage_is : hold.stage ≡ stage.Over (fate_as session.fate)
  pub early : was_early hold.opened ≡ true → is_early world session.marks ≡ true
  pub complete : is_fault session.fate ≡ false → was_opened hold.opened ≡ true
