-- A stream as a whole (the NetTrace format document of PerfView (version 4)).
use Rattle.std.specs.Prelude.{◌≡◌, ℕ, ◌+◌, List, [], ◌∷◌, ◌++◌, length, codes, IsTrue}
use Rattle.std.specs.List.{flat_map}
use Rattle.std.specs.Int.{w32}
use Rattle.ep_defs.specs.declared.session.TraceInfo.{TraceInfo}
use Rattle.ep_defs.specs.Session.{is_info}
use Rattle.nt_object.specs.declared.limits.TheConstants.{START_BYTES}
use Rattle.nt_object.specs.Object.{trace_object, Block, block_bytes, CanStand}
use Rattle.pt_num.specs.Numbers.{fixed}

-- The 32 bytes with which each stream begins.
abbrev pub stream_head : List ℕ
stream_head = codes "Nettrace" ++ fixed w32 20 ++ codes "!FastSerialization.1"

-- The head of a stream, and its Trace object.
abbrev pub stream_start : TraceInfo → List ℕ
stream_start info = stream_head ++ trace_object info

-- The blocks stand one after another, the first at this offset.
abbrev pub CanFollow : ℕ → List Block → Type 0
CanFollow at [] = Unit {0}
CanFollow at (block ∷ blocks) = CanStand at block × CanFollow (at + length (block_bytes block)) blocks

-- Blocks one after another.
abbrev pub blocks_bytes : List Block → List ℕ
blocks_bytes blocks = flat_map block_bytes blocks

-- The 32 bytes of the head and the 70 of the Trace object.
abbrev pub start_len : ℕ
start_len = START_BYTES

-- The head, the one Trace object, the blocks, and the null reference.
pub record IsStream (info : TraceInfo) (blocks : List Block) (bytes : List ℕ) : Type 0 where
  pub spelled : bytes ≡ stream_start info ++ blocks_bytes blocks ++ 1 ∷ []
  pub info_fits : IsTrue (is_info info)
  pub placed : CanFollow start_len blocks
