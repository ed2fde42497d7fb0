use Rattle.std.proofs.Common.{◌≡◌, ◌≤◌, take, length, vec_len, vec_capacity}
use Rattle.ep_stream.specs.Named.{numbers_of}
use Rattle.ep_stream.proofs.opened.put_numbers.Given as goal

abbrev pub invariant-loop-name : goal.invariant-loop-name
invariant-loop-name l =
    record {
      items : l.numbers.items ≡ numbers_of (take l.name-index l.named);
      len : vec_len l.numbers ≡ l.name-index;
      room : length l.named ≤ vec_capacity l.numbers;
      capacity : vec_capacity l.fn.numbers ≤ vec_capacity l.numbers;
    }
