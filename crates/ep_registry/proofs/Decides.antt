-- What the server's half shows of a decision.
use Rattle.std.proofs.Common.{◌≡◌, ℕ, List, [], ◌∷◌, ◌++◌, refl, ◌∙◌}
use Rattle.ep_table.specs.declared.table.StopAnswer.{StopAnswer}
use Rattle.ep_table.specs.declared.table.StopAnswer.TheVariants as answer
use Rattle.ep_journal.specs.declared.decision.Decision.{Decision}
use Rattle.ep_registry.specs.Registered.{ServerHalf}
use Rattle.ep_journal.specs.Recorded.{Recorded, stopped_as, answer_to, after_stopping}
use Rattle.ep_registry.specs.Held.{stop_decides}

stopped-as-decides : (r : Recorded) (a : StopAnswer) → (stopped_as r a).decisions ≡ r.decisions ++ stop_decides a ∷ []
stopped-as-decides r (answer.Ticket ticket) = refl
stopped-as-decides r (answer.NotLive id) = refl

pub stopped-decides : (r : Recorded) (id : ℕ) → (after_stopping r id).decisions ≡ r.decisions ++ stop_decides (answer_to r id) ∷ []
stopped-decides r id = stopped-as-decides r (answer_to r id)

pub decided-as : (ds es : List Decision) (x y : Decision) → es ≡ ds → y ≡ x → ds ++ x ∷ [] ≡ es ++ y ∷ []
decided-as ds es x y a b = rw (a, b) refl

-- The server's half shows other decisions.
pub half-is : (s s' t : ServerHalf) (ds es : List Decision) → t ≡ record s' { decisions = ds } → s' ≡ s → ds ≡ es → t ≡ record s { decisions = es }
half-is s s' t ds es a b c = a ∙ rw (b, c) refl
