-- What is known of a listening socket that is used as a dock.
use Rattle.std.specs.Prelude.{ℕ}

-- How many links came, how many turns were quiet, and how often a turn failed.
pub record DockState : Type 0 where
  pub arrivals : ℕ
  pub quiets : ℕ
  pub faults : ℕ

-- A dock that was not asked yet.
abbrev pub fresh_dock : DockState
fresh_dock = record { arrivals = 0; quiets = 0; faults = 0 }
