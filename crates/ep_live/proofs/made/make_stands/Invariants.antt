use Rattle.std.proofs.Common.{◌≡◌}
use Rattle.std.specs.Prelude.{vec_len}
use Rattle.ep_live.specs.Made.{AreStands}
use Rattle.ep_live.proofs.made.make_stands.Given as goal

abbrev pub invariant-loop-number : goal.invariant-loop-number
invariant-loop-number g l =
    record {
      made : l.maker.made ≡ l.number;
      places : l.maker.places ≡ l.initial.maker.places;
      lefts : vec_len l.lefts ≡ l.number;
      rights : vec_len l.rights ≡ l.number;
      rows : AreStands 0 l.lefts.items;
      threads : AreStands 0 l.rights.items;
    }
