use Rattle.std.proofs.Common.{◌≡◌, ◌∙◌, ℕ, Option, None, Bool, true, false, refl, sym}
use Rattle.std.specs.Prelude.{◌==◌, if◌then◌else◌}
use Rattle.ep_slot.specs.Hand.{HandState}
use Rattle.ep_live_tests.specs.Rows.{two_hands}
use Rattle.ep_live_tests.proofs.tests.rows.closed.Goals as goal

either : (which : Bool) (x y : Option HandState) → x ≡ None → y ≡ None → (if which then x else y) ≡ None
either true x y is _ = is
either false x y _ is = is

none_of_two : (row slot : ℕ) → two_hands None None row slot ≡ None
none_of_two row slot = either (slot == 3) _ None (either (row == 1) None _ refl (either (row == 2) None None refl refl)) refl

pub returns-clause-closed : goal.returns-clause-closed
returns-clause-closed g c =
    let fresh = c.new.ensures in
    record {
      rows = fresh.count ∙ c.requires.two;
      hands = λ row slot. fresh.closed row slot ∙ sym (none_of_two row slot);
      given = fresh.given;
    }
