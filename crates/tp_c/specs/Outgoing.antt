-- What contracts see of the bytes that go out.
use Rattle.std.specs.Prelude.{ℕ, true, ◌++◌, List, [], take, drop}
use Rattle.pt_io.specs.Sides.{ReadSide}

-- The bytes that were pulled, those that are left, and how often there was no memory for more.
pub record Outgoing : Type 0 where
  pub pulled : List ℕ
  pub left : List ℕ
  pub faults : ℕ

-- Nothing has come yet.
abbrev pub no_bytes : Outgoing
no_bytes = record { pulled = []; left = []; faults = 0 }

-- All that has come, pulled or not.
abbrev pub all_of : Outgoing → List ℕ
all_of outgoing = outgoing.pulled ++ outgoing.left

-- After a pull of this many bytes.
abbrev pub after_pull : ℕ → Outgoing → Outgoing
after_pull count outgoing =
    record outgoing { pulled = outgoing.pulled ++ take count outgoing.left; left = drop count outgoing.left }

-- What was pulled is what it gave, so a write leaves it.
abbrev pub given_by : Outgoing → ReadSide
given_by outgoing = record { tells = true; given = outgoing.pulled; left = []; may_give = 0; faults = 0 }
