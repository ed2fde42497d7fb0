-- What becomes of a stream while the server or a role has it. All of it is this project's own.
use Rattle.std.specs.Prelude.{◌≡◌, ℕ, Bool, true, List, None}
use Rattle.std.specs.List.{AllByRecursion}
use Rattle.ep_defs.specs.declared.session.Write.{Write}
use Rattle.pt_io.specs.Sides.{ReadSide}
use Rattle.pt_io.specs.declared.sink.Sink.{Ghosts as Sink}
use Rattle.ep_stream.specs.declared.session.SessionEnd.{SessionEnd}
use Rattle.pt_server.specs.Served.{ServedState}
use Rattle.pt_stream.specs.State.{IsDone, StreamState, is_complete, opened_on}
use Rattle.pt_roles.specs.declared.live_end.LiveSession.{LiveSession}

-- It is the same session's, an early one as before, with the same halves of threads.
pub record KeepsSession (old new : StreamState) : Type 0 where
  pub id : new.id ≡ old.id
  pub slot : new.slot ≡ old.slot
  pub conn : new.conn ≡ old.conn
  pub config : new.config ≡ old.config
  pub early : new.early ≡ old.early
  pub gave : new.gave ≡ old.gave
  pub stands : new.stands ≡ old.stands

-- It was opened on a row, in the row's first life where that is early.
pub record IsOpenedOnce (early : Bool) (row : ℕ) (old new : StreamState) : Type 0 where
  pub life : ℕ
  pub first : early ≡ true → life ≡ 0
  pub is : new ≡ opened_on row life old

-- It was opened on all rows and has the halves of no thread, and each thread on which it was closed had made all its writes.
pub record FollowsRows (writes : ℕ → List Write) (stream : StreamState) : Type 0 where
  pub complete : is_complete stream ≡ true
  pub lent : stream.stands ≡ None
  pub done : AllByRecursion (IsDone writes) stream.marks

-- What is left of a session once its link is shut.
pub record IsLeftOf {L : Type 0} (gave : L → ReadSide) (sink : Sink L) (end : SessionEnd (ServedState L)) (session : LiveSession L) : Type 0 where
  pub id_is : session.id ≡ end.id
  pub conn_is : session.conn ≡ end.conn
  pub config_is : session.config ≡ end.config
  pub marks_are : session.marks ≡ end.marks
  pub fate_is : session.fate ≡ end.fate
  pub gave_is : gave session.link ≡ gave end.sink.link
  pub tells : sink.tells_taken session.link ≡ sink.tells_taken end.sink.link
  pub taken : sink.taken session.link ≡ sink.taken end.sink.link
  pub faults : sink.write_faults session.link ≡ sink.write_faults end.sink.link
