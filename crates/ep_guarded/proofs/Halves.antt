-- What halves of ties tell of what is open.
use Rattle.std.proofs.Common.{◌≡◌, Option, Some, ap, sym, ◌∙◌}
use Rattle.std.specs.Prelude.{option_map}
use Rattle.ep_guarded.specs.declared.agreed.Told.{Told}
use Rattle.ep_guarded.specs.declared.agreed.Agreed.TheVariants as agreed
use Rattle.ep_guarded.specs.declared.kept.Kept.{Kept}
use Rattle.ep_guarded.specs.Resting.{told_as}

-- What is told of what is open is what the other half tells.
pub told-one : (kept : Option Kept) (one : Kept) (told : Told) → kept ≡ Some one → Some (told_as (option_map (λ k. k.told) kept)) ≡ Some (agreed.Told told) → one.told ≡ told
told-one kept one told is e =
    same one.told told (sym (ap (λ (k : Option Kept). Some (told_as (option_map (λ k. k.told) k))) is) ∙ e)
  where
    same : (a b : Told) → Some (agreed.Told a) ≡ Some (agreed.Told b) → a ≡ b
    same a b e = cc
