-- Where a run's one session is open. All of it is this project's own.
use Rattle.std.specs.Prelude.{◌≡◌, ℕ, ◌<◌, ◌≤◌, true, false, length}
use Rattle.pt_stream.specs.State.{StreamState, no_place, place_at}
use Rattle.pt_live.specs.state.Run.{RunState}

-- The run's session was opened on the rows up to the second number, each in its first life and before its thread's first
-- write, and was closed again on those up to the first one.
pub record IsOpenOn (run : RunState) (rows low high : ℕ) (stream : StreamState) : Type 0 where
  pub id_is : stream.id ≡ 1
  pub config_is : stream.config ≡ run.config
  pub count : length stream.places ≡ rows
  pub ordered : low ≤ high
  pub closed : (row : ℕ) → 0 < row → row ≤ low → place_at stream.places row ≡ record { next = 1; is_open = false }
  pub opened : (row : ℕ) → low < row → row ≤ high → place_at stream.places row ≡ record { next = 1; is_open = true }
  pub none : (row : ℕ) → high < row → place_at stream.places row ≡ no_place
  pub early : stream.early ≡ true
