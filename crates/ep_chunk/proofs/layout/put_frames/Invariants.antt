use Rattle.std.proofs.Common.{◌≡◌, ◌≤◌, ◌++◌, take, vec_capacity, vec_len, ◌+◌, ◌*◌}
use Rattle.ep_chunk.specs.Record.{frame_bytes}
use Rattle.ep_chunk.proofs.layout.put_frames.Given as goal

abbrev pub invariant-loop-frame : goal.invariant-loop-frame
invariant-loop-frame l =
    record {
      items : l.bytes.items ≡ l.fn.bytes.items ++ frame_bytes (take l.frame-index l.frames);
      len : vec_len l.bytes ≡ vec_len l.fn.bytes + 8 * l.frame-index;
      room : vec_capacity l.fn.bytes ≤ vec_capacity l.bytes;
    }
