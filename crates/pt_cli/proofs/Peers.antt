-- Whom a run leaves alone, by whether it calls a tool.
use Rattle.std.proofs.Common.{◌≡◌, Option, Some, None, false, not, is_some}
use Rattle.ep_defs.specs.declared.session.Facts.{Facts}
use Rattle.pt_io.specs.declared.caller.Caller.{Ghosts as Caller}
use Rattle.pt_io.specs.declared.dock.Dock.{Ghosts as Dock}
use Rattle.pt_io.specs.declared.sink.Sink.{Ghosts as Sink}
use Rattle.pt_io.specs.Sides.{ReadSide, WriteSide}
use Rattle.pt_command.specs.declared.end.End.{End}
use Rattle.pt_roles.specs.declared.live_end.LiveEnd.{LiveEnd}
use Rattle.pt_run.specs.declared.words.Asked.{Asked}
use Rattle.pt_run.specs.declared.words.Reverse.{Reverse}
use Rattle.pt_run.specs.Reverse.{RunsBy}

-- With a tool, those that come in.
pub unasked : {O D K L : Type 0} (sink : Sink O) (dock : Dock D L) (caller : Caller K L) (takes : Sink L) (gave : L → ReadSide) (took : L → WriteSide) (asked : Asked) (facts : Facts)
    (old new : O) (dock_old dock_new : D) (caller_old caller_new : K) (peer : Option L) (live : Option (LiveEnd L)) (end : End) (reverse : Option Reverse)
    → RunsBy sink dock caller takes gave took asked facts old new dock_old dock_new caller_old caller_new peer live end reverse → not (is_some reverse) ≡ false → dock_new ≡ dock_old
unasked sink dock caller takes gave took asked facts old new dock_old dock_new caller_old caller_new peer live end None runs is = absurd (cc)
unasked sink dock caller takes gave took asked facts old new dock_old dock_new caller_old caller_new peer live end (Some reverse) runs is = runs.1

-- Without one, those that can be called.
pub uncalled : {O D K L : Type 0} (sink : Sink O) (dock : Dock D L) (caller : Caller K L) (takes : Sink L) (gave : L → ReadSide) (took : L → WriteSide) (asked : Asked) (facts : Facts)
    (old new : O) (dock_old dock_new : D) (caller_old caller_new : K) (peer : Option L) (live : Option (LiveEnd L)) (end : End) (reverse : Option Reverse)
    → RunsBy sink dock caller takes gave took asked facts old new dock_old dock_new caller_old caller_new peer live end reverse → is_some reverse ≡ false
    → (caller_new ≡ caller_old) × (peer ≡ None)
uncalled sink dock caller takes gave took asked facts old new dock_old dock_new caller_old caller_new peer live end None runs is = (runs.1, runs.2)
uncalled sink dock caller takes gave took asked facts old new dock_old dock_new caller_old caller_new peer live end (Some reverse) runs is = absurd (cc)
