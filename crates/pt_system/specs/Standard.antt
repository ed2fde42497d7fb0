-- What is known of a reader or a writer of the system that is used as a source or a sink.
use Rattle.std.specs.Prelude.{ℕ, ◌-◌, ◌^◌, List, Option}

-- The bytes that the reader has left, where it says so, how many may still be given, and how often a read failed.
pub record InputState : Type 0 where
  pub remaining : Option (List ℕ)
  pub may_give : ℕ
  pub faults : ℕ

-- The bytes that the writer holds, where it says so, and how often a write failed.
pub record OutputState : Type 0 where
  pub contents : Option (List ℕ)
  pub faults : ℕ

-- A source that was not used yet.
abbrev pub fresh_input : Option (List ℕ) → InputState
fresh_input remaining = record { remaining = remaining; may_give = 2 ^ 63 - 1; faults = 0 }

-- A sink that was not used yet.
abbrev pub fresh_output : Option (List ℕ) → OutputState
fresh_output contents = record { contents = contents; faults = 0 }
