-- The session that is found stands at its place.
use Rattle.std.proofs.Common.{◌≡◌, ℕ, Bool, List, Some, get_or, ap, sym, ◌∙◌, subst}
use Rattle.std.specs.Prelude.{slice_get, position, ◌==◌}
use Rattle.std.proofs.lemmas.List.Quantifiers.{position-Some}
use Rattle.std.proofs.lemmas.Option.{slice_get-get_or}
use Rattle.ep_tables.specs.declared.tables.Present.{Present}
use Rattle.ep_tables.specs.declared.tables.Tables.{Tables}
use Rattle.ep_tables.specs.Can.{HasPlace}

pub found_there : {A : Type 0} (test : A → Bool) (xs : List A) (place : ℕ) (x : A) → position test xs ≡ Some place → x ≡ get_or xs place x → slice_get xs place ≡ Some x
found_there test xs place x found read =
    slice_get-get_or xs place x (position-Some test xs place x found).0 ∙ ap (λ y. Some y) (sym read)

-- What a step asks of its session holds of the one that is found.
pub holds_there : (tables : Tables) (session place : ℕ) (one : Present) (Holds : Present → Type 0) → position (λ (p : Present). p.number == session) tables.present.items ≡ Some place
    → slice_get tables.present.items place ≡ Some one → HasPlace tables session Holds → Holds one
holds_there tables session place one Holds first there can =
    let at : Some can.place ≡ Some place = sym can.first ∙ first in
    let same : can.place ≡ place = cc in
    let is : Some can.present ≡ Some one = sym can.there ∙ ap (slice_get tables.present.items) same ∙ there in
    let one_is : can.present ≡ one = cc in
    subst Holds one_is can.holds
