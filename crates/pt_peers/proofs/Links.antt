-- Links in a row, each of which is unused.
use Rattle.std.specs.Prelude.{◌≡◌, Bool, true, false, cond, List, [], ◌∷◌, ◌++◌}
use Rattle.std.proofs.Common.{subst, sym}
use Rattle.std.specs.List.{All}
use Rattle.std.proofs.lemmas.List.Elements.{All-push}
use Rattle.pt_io.specs.Memory.{LinkState, IsUnused}

-- And with one more, if it was pushed.
pub links-pushed : (is_pushed : Bool) (now links : List LinkState) (link : LinkState) → now ≡ cond is_pushed (links ++ link ∷ []) links → All IsUnused links → IsUnused link → All IsUnused now
links-pushed true now links link e before unused = subst (All IsUnused) (sym e) (All-push IsUnused links link before unused)
links-pushed false now links link e before unused = subst (All IsUnused) (sym e) before
