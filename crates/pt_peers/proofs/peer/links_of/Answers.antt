use Rattle.std.specs.Prelude.{is_ok}
use Rattle.std.proofs.lemmas.Result.{IfOk-at_ok}
use Rattle.pt_io.specs.Memory.{IsUnused}
use Rattle.pt_peers.proofs.Links.{links-pushed}
use Rattle.pt_peers.proofs.peer.links_of.Goals as goal

pub loop-peer-preserved : goal.loop-peer-preserved
loop-peer-preserved c =
    links-pushed (is_ok c.push_back.result) c.push_back.new.self.items c.loop-peer.links.items c.in_ok-link_of.field-0 c.push_back.ensures.items c.loop-peer.invariant
    (IfOk-at_ok IsUnused c.in_ok-link_of.was c.link_of.ensures)
