-- The objects in memory (this project's profile).
use Rattle.std.specs.Prelude.{◌≡◌, ℕ, ◌+◌, ◌-◌, ◌^◌, Bool, ◌==◌, ◌&&◌, List, [], ◌++◌, length, take, drop, min}

-- ---- sources and sinks

-- What a source in memory has given and has left, how much it gives at most in a call, the numbers from 1 of the
-- calls that fail, how often it was called, and how often it failed.
pub record SourceState : Type 0 where
  pub given : List ℕ
  pub left : List ℕ
  pub most : ℕ
  pub fails : List ℕ
  pub calls : ℕ
  pub faults : ℕ

-- What a sink in memory has taken, the numbers from 1 of the calls that fail, how many bytes such a call keeps at most,
-- how often it was called, and how often it failed.
pub record SinkState : Type 0 where
  pub taken : List ℕ
  pub fails : List ℕ
  pub keep : ℕ
  pub calls : ℕ
  pub faults : ℕ

-- A count of 64 bits with one more. It stands still at its last value.
abbrev pub one_more : ℕ → ℕ
one_more count = min (count + 1) (2 ^ 64 - 1)

-- A source that was not used yet.
abbrev pub fresh_source : List ℕ → ℕ → List ℕ → SourceState
fresh_source bytes most fails = record { given = []; left = bytes; most = most; fails = fails; calls = 0; faults = 0 }

-- The source after a call that gave this many of the bytes that were left.
abbrev pub after_giving : ℕ → SourceState → SourceState
after_giving count source =
    record source { given = source.given ++ take count source.left; left = drop count source.left; calls = one_more source.calls }

-- The source after a call that failed.
abbrev pub after_failed_read : SourceState → SourceState
after_failed_read source = record source { calls = one_more source.calls; faults = one_more source.faults }

-- A sink that was not used yet, and takes some bytes also at a call that fails.
abbrev pub partial_sink : List ℕ → ℕ → SinkState
partial_sink fails keep = record { taken = []; fails = fails; keep = keep; calls = 0; faults = 0 }

-- A sink that was not used yet, and takes nothing at a call that fails.
abbrev pub fresh_sink : List ℕ → SinkState
fresh_sink fails = partial_sink fails 0

-- The sink after a call that took these bytes.
abbrev pub after_taking : List ℕ → SinkState → SinkState
after_taking piece sink = record sink { taken = sink.taken ++ piece; calls = one_more sink.calls }

-- What such a sink takes of a piece at a call that fails: this many bytes, or all but the last where that is fewer.
abbrev pub kept_of : ℕ → List ℕ → List ℕ
kept_of keep piece = take (min keep (length piece - 1)) piece

-- The sink after a call that failed and took these bytes.
abbrev pub after_failed_write : List ℕ → SinkState → SinkState
after_failed_write kept sink =
    record sink { taken = sink.taken ++ kept; calls = one_more sink.calls; faults = one_more sink.faults }

-- ---- links, docks and callers

-- What a link in memory gives and what it takes.
pub record LinkState : Type 0 where
  pub source : SourceState
  pub sink : SinkState

-- A link that was not used yet.
pub record IsUnused (link : LinkState) : Type 0 where
  pub given : link.source.given ≡ []
  pub reads : link.source.faults ≡ 0
  pub taken : link.sink.taken ≡ []
  pub writes : link.sink.faults ≡ 0

-- The quiet turns and the links that a dock in memory has left, the numbers from 1 of the calls that fail, how often it
-- was called, and its counts of links, quiet turns and failures.
pub record DockState : Type 0 where
  pub quiet : ℕ
  pub links : List LinkState
  pub fails : List ℕ
  pub calls : ℕ
  pub arrivals : ℕ
  pub quiets : ℕ
  pub faults : ℕ

-- A dock that was not used yet.
abbrev pub fresh_dock : List LinkState → ℕ → List ℕ → DockState
fresh_dock links quiet fails =
    record { quiet = quiet; links = links; fails = fails; calls = 0; arrivals = 0; quiets = 0; faults = 0 }

-- The dock has nothing more.
abbrev pub is_over : DockState → Bool
is_over dock = (dock.quiet == 0) && (length dock.links == 0)

-- The dock after a quiet turn.
abbrev pub after_quiet : DockState → DockState
after_quiet dock = record dock { quiet = dock.quiet - 1; calls = one_more dock.calls; quiets = dock.quiets + 1 }

-- The dock after a call that gave its first link.
abbrev pub after_arrival : DockState → DockState
after_arrival dock =
    record dock { links = drop 1 dock.links; calls = one_more dock.calls; arrivals = dock.arrivals + 1 }

-- The dock after a call that had nothing to give.
abbrev pub after_closed : DockState → DockState
after_closed dock = record dock { calls = one_more dock.calls }

-- The dock after a call that failed.
abbrev pub after_failed_turn : DockState → DockState
after_failed_turn dock = record dock { calls = one_more dock.calls; faults = one_more dock.faults }

-- The links that a caller in memory has left, the numbers from 1 of the calls that fail, how often it was called, and
-- its counts of links and failures.
pub record CallerState : Type 0 where
  pub links : List LinkState
  pub fails : List ℕ
  pub calls : ℕ
  pub made : ℕ
  pub faults : ℕ

-- A caller that was not used yet.
abbrev pub fresh_caller : List LinkState → List ℕ → CallerState
fresh_caller links fails = record { links = links; fails = fails; calls = 0; made = 0; faults = 0 }

-- The caller after a call that gave its first link.
abbrev pub after_call : CallerState → CallerState
after_call caller =
    record caller { links = drop 1 caller.links; calls = one_more caller.calls; made = caller.made + 1 }

-- The caller after a call that failed.
abbrev pub after_failed_call : CallerState → CallerState
after_failed_call caller = record caller { calls = one_more caller.calls; faults = one_more caller.faults }
