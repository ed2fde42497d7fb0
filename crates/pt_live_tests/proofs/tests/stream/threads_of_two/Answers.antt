use Rattle.std.proofs.Common.{◌≡◌, ◌∙◌, ℕ, List, [], ◌∷◌, length, refl, ap, sym, subst, arith, get_or}
use Rattle.std.specs.List.{swap_remove}
use Rattle.ep_tie.specs.Tied.{Tied}
use Rattle.ep_guarded.specs.declared.agreed.Agreed.{Agreed}
use Rattle.ep_live.specs.Made.{AreStands, IsStand}
use Rattle.pt_live_tests.proofs.tests.stream.threads_of_two.Goals as goal

two : (halves : List (Tied Agreed)) (x y : Tied Agreed) → length halves ≡ 2 → y ≡ get_or halves 1 y → x ≡ get_or (swap_remove halves 1 y) 0 x → AreStands 0 halves → IsStand 0 0 x × IsStand 0 1 y
two [] x y count there here stands = absurd (omega (arith, count))
two (a ∷ []) x y count there here stands = absurd (omega (arith, count))
two (a ∷ b ∷ []) x y count there here stands = (subst (IsStand 0 0) (sym here) (stands 0 a refl), subst (IsStand 0 1) (sym there) (stands 1 b refl))
two (a ∷ b ∷ e ∷ halves) x y count there here stands = absurd (omega (arith, count))

pub returns : goal.returns
returns g c =
    let both = two c.args.threads.items c.swap_remove.result c.swap_remove-second.result (sym c.args.threads.ok.0 ∙ c.requires.count) c.swap_remove-second.ensures.value
    (c.swap_remove.ensures.value ∙ ap (λ (hs : List (Tied Agreed)). get_or hs 0 c.swap_remove.result) c.swap_remove-second.ensures.items) c.requires.stands
    in (record { place = both.0.place; stands = both.0.stands }, record { place = both.1.place; stands = both.1.stands })
