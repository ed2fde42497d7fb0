-- What the program comes to, and what holds of it whatever the command is.
use Rattle.std.specs.Prelude.{◌≡◌, ◌≢◌, ℕ, ◌⊎◌, true, false, List, [], Option, Some, None}
use Rattle.ep_defs.specs.declared.session.Marks.{Marks}
use Rattle.ep_pool.specs.Shared.{SeatState}
use Rattle.pt_io.specs.declared.caller.Caller.{Ghosts as Caller}
use Rattle.pt_io.specs.declared.sink.Sink.{Ghosts as Sink}
use Rattle.pt_io.specs.declared.source.Source.{Ghosts as Source}
use Rattle.pt_io.specs.Faults.{HasRisen}
use Rattle.pt_command.specs.declared.end.End.{End}
use Rattle.pt_command.specs.declared.end.End.TheVariants as ends
use Rattle.pt_command.specs.Says.{SaysLine}
use Rattle.pt_client.specs.Answers.{Asks}
use Rattle.pt_client.specs.Greeting.{Greets}
use Rattle.pt_events.specs.Command.{Lists}
use Rattle.pt_gen.specs.Command.{Generates}
use Rattle.pt_replay.specs.Command.{Replays}
use Rattle.pt_report.specs.Command.{Reports}
use Rattle.pt_run.specs.Reverse.{RunsAs}
use Rattle.pt_watch.specs.Command.{Watches}
use Rattle.pt_roles.specs.declared.live_end.LiveEnd.{LiveEnd}
use Rattle.pt_io.specs.declared.dock.Dock.{Ghosts as Dock}
use Rattle.pt_io.specs.Sides.{ReadSide, WriteSide}
use Rattle.ep_defs.specs.declared.session.Facts.{Facts}
use Rattle.pt_cli.specs.declared.ends.Finished.{Finished}
use Rattle.pt_cli.specs.declared.words.Command.{Command}
use Rattle.pt_cli.specs.declared.words.Command.TheVariants as command
use Rattle.pt_cli.specs.Ends.{EndsSo}
use Rattle.pt_cli.specs.Errors.{words_error}
use Rattle.pt_cli.specs.Traced.{TracesTo}
use Rattle.pt_cli.specs.Words.{meant, reads_input, calls_peer, awaits_peers, has_peer, runs_server, runs_threads, writes_early}

-- Where the words mean this command for something that is asked, the program ended so for that.
abbrev pub EndsFor : {A L : Type 0} → List (List ℕ) → (A → Command) → Finished L → (A → End → Type 0) → Type 0
EndsFor words command finished Holds = (asked : _) → meant words ≡ Some (command asked) → EndsSo finished (Holds asked)

-- What a command comes to that waits for nobody. All others are refused there, as words are that ask for nothing.
abbrev pub PlainComesTo : {I O : Type 0} → Source I → Sink O → Option Command → I → I → O → O → End → Type 0
PlainComesTo source sink (Some (command.Replay session)) input_old input_new old new end = Replays source sink session input_old input_new old new end
PlainComesTo source sink (Some command.Report) input_old input_new old new end = Reports source sink input_old input_new old new end
PlainComesTo source sink (Some (command.Events form)) input_old input_new old new end = Lists source sink form input_old input_new old new end
PlainComesTo source sink (Some (command.Gen asked)) input_old input_new old new end = Generates sink asked old new end
PlainComesTo source sink asked input_old input_new old new end = SaysLine sink old new words_error ends.Words end

-- What a command comes to that has no peers. All others are refused there, as words are that ask for nothing.
abbrev pub AloneComesTo : {I O : Type 0} → Source I → Sink O → Option Command → I → I → O → O → List (ℕ × ℕ) → Option SeatState → List Marks → End → Type 0
AloneComesTo source sink (Some (command.Trace asked)) input_old input_new old new rows seat marks end = TracesTo sink asked old new rows seat marks end
AloneComesTo source sink (Some (command.Watch asked)) input_old input_new old new rows seat marks end = Watches sink asked old new rows seat marks end
AloneComesTo source sink asked input_old input_new old new rows seat marks end = PlainComesTo source sink asked input_old input_new old new end

-- What the objects around the program are before it and after it, and what it answers beside its end.
pub record Around (I O D K L : Type 0) : Type 0 where
  pub input_old : I
  pub input_new : I
  pub output_old : O
  pub output_new : O
  pub dock_old : D
  pub dock_new : D
  pub caller_old : K
  pub caller_new : K
  pub peer : Option L
  pub rows : List (ℕ × ℕ)
  pub seat : Option SeatState
  pub marks : List Marks
  pub live : Option (LiveEnd L)

-- The same of these objects and of what the program answered.
abbrev pub around_of : {I O D K L : Type 0} → I → I → O → O → D → D → K → K → Finished L → Around I O D K L
around_of input_old input_new output_old output_new dock_old dock_new caller_old caller_new finished =
    record {
      input_old = input_old;
      input_new = input_new;
      output_old = output_old;
      output_new = output_new;
      dock_old = dock_old;
      dock_new = dock_new;
      caller_old = caller_old;
      caller_new = caller_new;
      peer = finished.peer;
      rows = finished.rows.items;
      seat = finished.seat;
      marks = finished.marks;
      live = finished.live;
    }

-- What any command comes to, where the program says this of itself.
abbrev pub ComesTo : {I O D K L : Type 0} → Source I → Sink O → Dock D L → Caller K L → Source L → Sink L → (L → ReadSide) → (L → WriteSide) → Facts → Option Command
    → Around I O D K L → End → Type 0
ComesTo source sink dock caller reads takes gave took facts (Some (command.Trace asked)) a end = TracesTo sink asked a.output_old a.output_new a.rows a.seat a.marks end
ComesTo source sink dock caller reads takes gave took facts (Some (command.Watch asked)) a end = Watches sink asked a.output_old a.output_new a.rows a.seat a.marks end
ComesTo source sink dock caller reads takes gave took facts (Some (command.Run asked)) a end =
    RunsAs sink dock caller takes gave took asked facts a.output_old a.output_new a.dock_old a.dock_new a.caller_old a.caller_new a.peer a.live end
ComesTo source sink dock caller reads takes gave took facts (Some (command.Client asked)) a end =
    Asks sink caller reads takes asked a.output_old a.output_new a.caller_old a.caller_new a.peer end
ComesTo source sink dock caller reads takes gave took facts (Some (command.Greet target)) a end =
    Greets sink dock reads takes a.output_old a.output_new a.dock_old a.dock_new a.peer end
ComesTo source sink dock caller reads takes gave took facts asked a end = PlainComesTo source sink asked a.input_old a.input_new a.output_old a.output_new end

-- A fault of the input or the output comes only from the object that was handed in, in this call, and is answered. But a trace
-- that finds no memory says so, whether or not the end of its stream could be written.
pub record HasFaults {I O : Type 0} (source : Source I) (sink : Sink O) (asked : Option Command) (input_old input_new : I) (output_old output_new : O) (end : End) : Type 0 where
  pub reads : end ≡ ends.ReadFault → reads_input asked ≡ true
  pub read_fault : end ≡ ends.ReadFault → HasRisen (source.read_faults input_old) (source.read_faults input_new)
  pub all_read : end ≢ ends.ReadFault → source.read_faults input_new ≡ source.read_faults input_old
  pub write_fault : end ≡ ends.WriteFault → HasRisen (sink.write_faults output_old) (sink.write_faults output_new)
  pub all_written : (writes_early asked ≡ false) ⊎ (end ≢ ends.OutOfMemory) → end ≢ ends.WriteFault → sink.write_faults output_new ≡ sink.write_faults output_old

-- What a command has no use for is left alone.
pub record LeavesAlone {I D K L : Type 0} (asked : Option Command) (input_old input_new : I) (dock_old dock_new : D) (caller_old caller_new : K) (peer : Option L)
    (live : Option (LiveEnd L)) (rows : List (ℕ × ℕ)) (seat : Option SeatState) (marks : List Marks) : Type 0 where
  pub unread : reads_input asked ≡ false → input_new ≡ input_old
  pub unserved : runs_server asked ≡ false → live ≡ None
  pub unasked : awaits_peers asked ≡ false → dock_new ≡ dock_old
  pub uncalled : calls_peer asked ≡ false → caller_new ≡ caller_old
  pub nobody : has_peer asked ≡ false → peer ≡ None
  pub untraced : runs_threads asked ≡ false → (rows ≡ []) × (seat ≡ None) × (marks ≡ [])
