-- A program of one event, and a session over its rows, for the tests of both.
use Rattle.std.proofs.Common.{◌≡◌, ℕ, zero, suc, ◌≤◌, List, [], ◌∷◌, None, Some, inl, inr, length, refl, ap, sym, ◌∙◌, subst, arith}
use Rattle.std.specs.Prelude.{IsTrue, slice_get}
use Rattle.std.specs.List.{list_all}
use Rattle.std.proofs.lemmas.Option.{none-some}
use Rattle.ep_defs.specs.declared.event.EventDef.{EventDef}
use Rattle.ep_defs.specs.declared.session.Marks.{Marks}
use Rattle.ep_defs.specs.Definitions.{AreDistinct, definition_at}
use Rattle.ep_defs.specs.Event.{is_valid_event}
use Rattle.ep_rundown.specs.Rundown.{lacks_rundown}
use Rattle.ep_slot.specs.Hand.{HandState}
use Rattle.nt_write.specs.Vectors.{event_e}
use Rattle.ep_stream.specs.declared.session.Session.{Session}
use Rattle.ep_stream.specs.Session.{hand_on, rest_of, WasOpened}

pub one_is_valid : (events : List EventDef) → events ≡ event_e ∷ [] → IsTrue (list_all is_valid_event events)
one_is_valid events is = ap (list_all is_valid_event) is

pub one_is_distinct : (events : List EventDef) → events ≡ event_e ∷ [] → AreDistinct (definition_at events)
one_is_distinct events is = subst (λ (es : List EventDef). AreDistinct (definition_at es)) (sym is) alone
  where
    alone : AreDistinct (definition_at (event_e ∷ []))
    alone zero j def at other = absurd (cc)
    alone (suc zero) zero def at other = absurd (cc)
    alone (suc zero) (suc zero) def at other = refl
    alone (suc zero) (suc (suc j)) def at other = absurd (cc)
    alone (suc (suc i)) j def at other = absurd (cc)

pub one_is_few : (events : List EventDef) → events ≡ event_e ∷ [] → length events ≤ 1000
one_is_few events is = let one = ap (length {A = EventDef}) is in omega (arith, one)

pub one_lacks_rundown : (events : List EventDef) → events ≡ event_e ∷ [] → IsTrue (lacks_rundown events)
one_lacks_rundown events is = ap lacks_rundown is

-- A program without events.
pub none_is_distinct : (events : List EventDef) → events ≡ [] → AreDistinct (definition_at events)
none_is_distinct events is = subst (λ (es : List EventDef). AreDistinct (definition_at es)) (sym is) alone
  where
    alone : AreDistinct (definition_at [])
    alone zero j def at other = absurd (cc)
    alone (suc i) j def at other = absurd (cc)

-- It was opened on no thread of a row where it is not open, if it was closed nowhere.
pub not_opened : {S : Type 0} (session : Session S) (row thread : ℕ) → ((r : ℕ) (h : HandState) → hand_on session r ≡ Some h → h.thread ≡ r) → hand_on session row ≡ None → (rest_of session).marks ≡ [] → thread ≡ row
    → WasOpened session thread → ⊥
not_opened session row thread numbers off unmarked is (inl (r, h, on, same)) =
    let at : row ≡ r = sym is ∙ sym same ∙ numbers r h on in
    absurd (none-some h (sym off ∙ ap (hand_on session) at ∙ on))
not_opened session row thread numbers off unmarked is (inr (place, mark, at, same)) =
    absurd (none-some mark (sym (ap (λ (ms : List Marks). slice_get ms place) unmarked) ∙ at))
