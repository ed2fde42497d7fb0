use Rattle.std.proofs.Common.{◌≡◌}
use Rattle.ep_pool.proofs.pool.Pool.new.Given as goal

abbrev pub ghosts-first : goal.ghosts-first
ghosts-first g a = record { total = a.chunks; seats = a.seats }

abbrev pub invariant-loop : goal.invariant-loop
invariant-loop g l = l.seat ≡ record { pool = l.pool-inside.queue.table.shared.table_id; total = l.chunks; seats = l.seats; share = l.seats; taken = l.chunks; given = l.counter; dry = 0 }
