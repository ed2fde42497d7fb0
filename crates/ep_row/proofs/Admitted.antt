-- A list of what a session gets says what its configuration says.
use Rattle.std.proofs.Common.{◌≡◌, ℕ, zero, suc, Bool, List, [], ◌∷◌, length, refl, ap, sym, ◌∙◌}
use Rattle.std.specs.Prelude.{◌==◌, if◌then◌else◌, slice_index}
use Rattle.std.specs.Int.{bit_at}
use Rattle.std.proofs.lemmas.List.{length-map}
use Rattle.ep_defs.specs.declared.event.EventDef.{EventDef}
use Rattle.ep_defs.specs.declared.session.Config.{Config}
use Rattle.ep_defs.specs.Admits.{session_admits}
use Rattle.ep_row.specs.Bits.{one_if, SetsBits}
use Rattle.ep_row.specs.Row.{gets, admitted_of, is_admitted}

admitted-gets : (events : List EventDef) (config : Config) (place : ℕ) → is_admitted (admitted_of events config) place ≡ gets events config place
admitted-gets [] config place = refl
admitted-gets (def ∷ events) config zero = refl
admitted-gets (def ∷ events) config (suc place) = admitted-gets events config place

-- It is as long as the list of the events.
pub length-admitted : (events : List EventDef) (config : Config) (admitted : List Bool) → admitted ≡ admitted_of events config → length admitted ≡ length events
length-admitted events config admitted is = ap (length {A = Bool}) is ∙ length-map events (λ def. session_admits config def)

pub sets-gets : (events : List EventDef) (config : Config) (admitted : List Bool) (slot : ℕ) (old new : List ℕ) → admitted ≡ admitted_of events config → SetsBits slot (is_admitted admitted) old new → SetsBits slot (gets events config) old new
sets-gets events config admitted slot old new is sets =
    record {
      count = sets.count;
      bits =
          λ place s p h.
          sets.bits place s p h
          ∙ ap (λ (v : Bool). if s == slot then one_if v else bit_at (slice_index old place) s) (ap (λ (list : List Bool). is_admitted list place) is ∙ admitted-gets events config place);
    }
