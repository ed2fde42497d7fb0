use Rattle.std.proofs.Common.{◌≡◌, ◌≤◌, length}
use Rattle.std.specs.Prelude.{vec_capacity, vec_len}
use Rattle.pt_roles.proofs.groups.all_left.Given as goal

-- the roles so far
abbrev pub invariant-loop-streamer : goal.invariant-loop-streamer
invariant-loop-streamer g l =
    record {
      count : vec_len l.roles ≡ length l.yielded;
      room : vec_capacity l.initial.roles ≤ vec_capacity l.roles;
      roles : l.roles.items ≡ l.yielded;
    }
