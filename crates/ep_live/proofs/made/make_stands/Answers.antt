use Rattle.std.proofs.Common.{◌≡◌, ◌∙◌, ℕ, ◌+◌, List, [], ◌∷◌, ◌++◌, Some, length, ap, sym, subst, rules}
use Rattle.ep_tie.specs.Tied.{Tied}
use Rattle.ep_guarded.specs.declared.agreed.Agreed.{Agreed}
use Rattle.ep_guarded.specs.declared.agreed.Agreed.TheVariants as agreed
use Rattle.ep_guarded.specs.Tied.{stand_in}
use Rattle.ep_live.specs.Made.{AreStands, IsStand}
use Rattle.ep_live.proofs.Pushing.{each-push}
use Rattle.ep_live.proofs.made.make_stands.Goals as goal

pub loop-number-preserved : goal.loop-number-preserved
loop-number-preserved g c =
    let n : ℕ = c.loop-number.number in
    let inv = c.loop-number.invariant in
    let next = c.next-left.ensures in
    let lefts : List (Tied Agreed) = c.loop-number.lefts.items in
    let rights : List (Tied Agreed) = c.loop-number.rights.items in
    let left_len : length lefts ≡ n = sym c.loop-number.lefts.ok.0 ∙ inv.lefts in
    let right_len : length rights ≡ n = sym c.loop-number.rights.ok.0 ∙ inv.rights in
    let stand = ap (λ (t : ℕ). Some (agreed.Stand (record { thread = t + 1; index = 0 }))) c.from.ensures in
    let left : Tied Agreed = c.next-left.result.0 in
    let right : Tied Agreed = c.next-left.result.1 in
    let grown : c.push.new.self.items ≡ lefts ++ left ∷ [] = c.in_ok-push.ensures.items in
    let grown_right : c.push-in-loop-number.new.self.items ≡ rights ++ right ∷ [] = c.in_ok-push-2.ensures.items in
    let left_is : IsStand 0 (length lefts) left = subst (λ (k : ℕ). IsStand 0 k left) (sym left_len) (record { place = next.place.0 ∙ inv.made; stands = ap stand_in (next.value.0 ∙ stand) }) in
    let right_is : IsStand 0 (length rights) right = subst (λ (k : ℕ). IsStand 0 k right) (sym right_len) (record { place = next.place.1 ∙ inv.made; stands = ap stand_in (next.value.1 ∙ stand) }) in
    record {
      made = next.made.0 ∙ ap (λ (m : ℕ). m + 1) inv.made;
      places = next.made.1 ∙ inv.places;
      lefts = search rules;
      rights = search rules;
      rows = subst (AreStands 0) (sym grown) (each-push (IsStand 0) lefts left inv.rows left_is);
      threads = subst (AreStands 0) (sym grown_right) (each-push (IsStand 0) rights right inv.threads right_is);
    }
