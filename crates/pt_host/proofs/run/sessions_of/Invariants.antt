use Rattle.std.proofs.Common.{◌≡◌, ◌≤◌, length, take}
use Rattle.std.specs.Prelude.{vec_capacity, vec_len}
use Rattle.ep_journal.specs.declared.limits.TheConstants.{CONNECTIONS}
use Rattle.pt_host.specs.Ending.{AreLeftOver}
use Rattle.pt_host.proofs.run.sessions_of.Given as goal

-- what is left of the sessions so far
abbrev pub invariant-loop-place : goal.invariant-loop-place
invariant-loop-place g l =
    record {
      number : l.id ≡ length l.yielded;
      few : vec_len l.sessions ≤ length l.yielded;
      room : CONNECTIONS ≤ vec_capacity l.sessions;
      left : AreLeftOver g.L.Sink.read_side g.L.Sink g.W.World.world (take (length l.yielded) l.entries) l.sessions.items;
    }
