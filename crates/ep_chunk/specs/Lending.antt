-- What a chain is once its last chunk was written to.
use Rattle.std.specs.Prelude.{◌-◌, List, length, Option, slice_set}
use Rattle.std.specs.Borrow.{LendsIf, MutBor, Fml}
use Rattle.ep_chunk.specs.contracts.chain.Chain.{the_row as chain_row}
use Rattle.ep_chunk.specs.contracts.chunk.Chunk.{the_row as chunk_row}
use Rattle.ep_chunk.specs.Record.{Record}

-- The chain ends with its last chunk as it was left.
abbrev pub LendsLast : MutBor (List (List Record)) → Option (MutBor (List Record)) → Fml
LendsLast chain last = LendsIf chain_row chunk_row chain last (slice_set chain.now (length chain.now - 1)) chain.now
