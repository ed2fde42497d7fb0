use Rattle.std.proofs.Common.{refl, arith}
use Rattle.std.proofs.lemmas.Grind.{common_steps}
use Rattle.ep_chunk.proofs.chain.Chain.last_mut.Goals as goal

pub returns : goal.returns
returns c =
    rw (← c.self.view_is) (
      refl,
      record {
        writes_back = tt;
        empty = grind (arith, common_steps, c.back_mut.ensures.variant);
        last = c.back_mut.ensures.value;
      },
    )
