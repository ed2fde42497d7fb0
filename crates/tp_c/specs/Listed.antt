-- The counts of threads, listed in the threads' order.
use Rattle.std.specs.Prelude.{◌≡◌, ℕ, List, map, nat_lt, unwrap_or, Option}
use Rattle.std.specs.BTreeMap.{is_at}
use Rattle.std.specs.List.{list_any}
use Rattle.std.specs.Ordering.{nat_cmp}

-- The count that stands at a thread, 0 where none does.
abbrev pub count_at : (ℕ → Option ℕ) → ℕ → ℕ
count_at counts thread = unwrap_or (counts thread) 0

-- The threads, each with its count.
abbrev pub listed : (ℕ → Option ℕ) → List ℕ → List (ℕ × ℕ)
listed counts threads = map (λ thread. (thread, count_at counts thread)) threads

-- Exactly the threads that have events are listed.
abbrev pub AreListed : (ℕ → Option ℕ) → List ℕ → Type 0
AreListed counts threads =
    (thread : ℕ) → list_any (is_at (nat_cmp thread)) threads ≡ nat_lt 0 (count_at counts thread)
