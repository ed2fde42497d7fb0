use Rattle.std.proofs.Common.{◌≡◌, ◌≤◌, vec_len, vec_capacity}
use Rattle.std.specs.Prelude.{All}
use Rattle.ep_pool.specs.Free.{IsOneEmpty}
use Rattle.ep_pool.proofs.own_pool.OwnPool.new.Given as goal

abbrev pub invariant-loop : goal.invariant-loop
invariant-loop l =
    record {
      count : vec_len l.free ≡ l.counter;
      reserved : l.chunks ≤ vec_capacity l.free;
      empty : All IsOneEmpty l.free.items;
    }
