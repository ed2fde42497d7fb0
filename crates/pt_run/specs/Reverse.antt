-- What a run comes to whose server calls a tool that listens (this project's theorem).
use Rattle.std.specs.Prelude.{◌≡◌, ℕ, ◌+◌, ◌<◌, ◌≤◌, ◌⊎◌, Option, Some, None}
use Rattle.ep_defs.specs.declared.session.Facts.{Facts}
use Rattle.pt_io.specs.declared.caller.Caller.{Ghosts as Caller}
use Rattle.pt_io.specs.declared.dock.Dock.{Ghosts as Dock}
use Rattle.pt_io.specs.declared.sink.Sink.{Ghosts as Sink}
use Rattle.pt_io.specs.Faults.{HasRisen}
use Rattle.pt_io.specs.Sides.{ReadSide, WriteSide}
use Rattle.pt_command.specs.declared.end.End.{End}
use Rattle.pt_command.specs.declared.end.End.TheVariants as ends
use Rattle.ipc_reverse.specs.Advert.{advert_of}
use Rattle.ipc_reverse.specs.Calls.{CallsState, IsCut, dock_of, kept_count, uncalled}
use Rattle.pt_roles.specs.declared.live_end.LiveEnd.{LiveEnd}
use Rattle.pt_run.specs.declared.words.Asked.{Asked}
use Rattle.pt_run.specs.declared.words.Reverse.{Reverse}
use Rattle.pt_run.specs.Command.{RunsTo}

-- What the calls of a tool came to: the caller is this one now, so many links were given to the run, and this one is kept.
abbrev pub called : {K L : Type 0} → K → ℕ → Option L → CallsState K L
called caller given peer = record { caller = caller; given = given; kept = peer }

-- The run came to this over the dock of the calls, whose links took the message of the program before all else.
pub record RunsReverse {O K L : Type 0} (sink : Sink O) (caller : Caller K L) (takes : Sink L) (gave : L → ReadSide) (took : L → WriteSide) (asked : Asked) (reverse : Reverse) (facts : Facts)
    (old new : O) (caller_old caller_new : K) (peer : Option L) (live : Option (LiveEnd L)) (end : End) : Type 0 where
  pub given : ℕ
  pub runs : RunsTo sink (dock_of caller takes (advert_of facts) reverse.calls) takes gave took asked facts old new (uncalled caller_old) (called caller_new given peer) live end
  -- each link that the caller gave is a connection of the run or the peer
  pub links : caller.links caller_new ≡ caller.links caller_old + given + kept_count peer
  pub few : given ≤ reverse.calls
  -- the peer took a first part of the message alone, and a write of it failed
  pub cut : (link : L) → peer ≡ Some link → IsCut takes (advert_of facts) link
  -- a link fault is one of a call, or of a write to the peer
  pub fault : end ≡ ends.LinkFault → HasRisen (caller.call_faults caller_old) (caller.call_faults caller_new)
      ⊎ ((link : L) × (peer ≡ Some link) × (0 < takes.write_faults link))

-- The command ended so: with the peers that came in at the dock, or with links to the tool that the words name.
abbrev pub RunsBy : {O D K L : Type 0} → Sink O → Dock D L → Caller K L → Sink L → (L → ReadSide) → (L → WriteSide) → Asked → Facts → (old new : O) → (dock_old dock_new : D)
    → (caller_old caller_new : K) → (peer : Option L) → (live : Option (LiveEnd L)) → (end : End) → Option Reverse → Type 0
RunsBy sink dock caller takes gave took asked facts old new dock_old dock_new caller_old caller_new peer live end None =
    RunsTo sink dock takes gave took asked facts old new dock_old dock_new live end × (caller_new ≡ caller_old) × (peer ≡ None)
RunsBy sink dock caller takes gave took asked facts old new dock_old dock_new caller_old caller_new peer live end (Some reverse) =
    RunsReverse sink caller takes gave took asked reverse facts old new caller_old caller_new peer live end × (dock_new ≡ dock_old)

abbrev pub RunsAs : {O D K L : Type 0} → Sink O → Dock D L → Caller K L → Sink L → (L → ReadSide) → (L → WriteSide) → Asked → Facts → (old new : O) → (dock_old dock_new : D)
    → (caller_old caller_new : K) → (peer : Option L) → (live : Option (LiveEnd L)) → (end : End) → Type 0
RunsAs sink dock caller takes gave took asked facts old new dock_old dock_new caller_old caller_new peer live end =
    RunsBy sink dock caller takes gave took asked facts old new dock_old dock_new caller_old caller_new peer live end asked.reverse
