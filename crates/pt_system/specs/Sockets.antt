-- What is known of a socket that is used as a link, and of the way to such sockets.
use Rattle.std.specs.Prelude.{ℕ, ◌-◌, ◌^◌, List, [], Option, Some, None}

-- What the socket took first, if that was to be known, how many bytes it may still give, and how often a read and a write of it
-- failed.
pub record SocketState : Type 0 where
  pub taken : List ℕ
  pub may_give : ℕ
  pub read_faults : ℕ
  pub write_faults : ℕ

-- A socket that was not used yet.
abbrev pub fresh_socket : SocketState
fresh_socket = record { taken = []; may_give = 2 ^ 63 - 1; read_faults = 0; write_faults = 0 }

-- The bytes of what it took first.
abbrev pub first_of : Option (List ℕ) → List ℕ
first_of None = []
first_of (Some bytes) = bytes

-- How many links a caller gave, and how often a call of it failed.
pub record CallerState : Type 0 where
  pub links : ℕ
  pub faults : ℕ

-- A caller that was not used yet.
abbrev pub fresh_caller : CallerState
fresh_caller = record { links = 0; faults = 0 }

-- A caller gives no more links than it can count.
abbrev pub MOST_LINKS : ℕ
MOST_LINKS = 2 ^ 64 - 1
