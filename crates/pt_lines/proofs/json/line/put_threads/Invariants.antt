-- What is left of the threads is still to be put.
use Rattle.std.proofs.Common.{◌≡◌, ◌++◌, drop}
use Rattle.std.specs.Prelude.{map}
use Rattle.pt_lines.specs.Json.{commas, known_object}
use Rattle.pt_lines.specs.state.Nest.{after}
use Rattle.pt_lines.proofs.json.line.put_threads.Given as goal

abbrev pub invariant-loop-thread : goal.invariant-loop-thread
invariant-loop-thread l =
    l.out.items ++ after l.is_first (map known_object (drop l.thread-index l.threads)) ≡ l.fn.out.items ++ commas (map known_object l.fn.threads)
