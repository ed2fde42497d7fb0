use Rattle.std.proofs.Common.{◌≡◌, ℕ, zero, suc, [], ◌∷◌, Some, sym, subst}
use Rattle.std.specs.Prelude.{slice_get}
use Rattle.std.proofs.lemmas.Option.{none-some}
use Rattle.ep_tie.specs.Tied.{Tied}
use Rattle.ep_guarded.specs.declared.agreed.Agreed.{Agreed}
use Rattle.ep_live.specs.Made.{AreStands, IsStand}
use Rattle.ep_live.proofs.Pushing.{same}
use Rattle.ep_live_tests.proofs.tests.plays.list_of_two.Goals as goal

two : (turns : ℕ) (x y : Tied Agreed) → IsStand turns 0 x → IsStand turns 1 y → (k : ℕ) (half : Tied Agreed) → slice_get (x ∷ y ∷ []) k ≡ Some half → IsStand turns k half
two turns x y is_x is_y zero half is = subst (IsStand turns 0) (same x half is) is_x
two turns x y is_x is_y (suc zero) half is = subst (IsStand turns 1) (same y half is) is_y
two turns x y is_x is_y (suc (suc k)) half is = absurd (none-some half is)

pub returns-clause-stands : goal.returns-clause-stands
returns-clause-stands g c =
    subst (AreStands c.args.turns) (sym c.in_ok-halves.ensures.items) (two c.args.turns c.args.first c.args.second c.requires.first c.requires.second)
