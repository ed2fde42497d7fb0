use Rattle.std.specs.List.{All}
use Rattle.pt_io.specs.Memory.{IsUnused}
use Rattle.pt_peers.proofs.peer.links_of.Given as goal

-- the links so far
abbrev pub invariant-loop-peer : goal.invariant-loop-peer
invariant-loop-peer l = All IsUnused l.links.items
