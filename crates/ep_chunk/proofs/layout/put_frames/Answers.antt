use Rattle.std.proofs.Common.{ℕ, ◌<◌, ◌^◌, arith}
use Rattle.std.proofs.lemmas.List.Elements.{All-from_get_or}
use Rattle.ep_chunk.proofs.layout.put_frames.Goals as goal

pub returns-clause-fitting : goal.returns-clause-fitting
returns-clause-fitting c =
    All-from_get_or (λ (frame : ℕ). frame < 2 ^ 64) c.args.frames.now 0 (λ i h. let fits = c.type_inv.frames i in omega arith)
