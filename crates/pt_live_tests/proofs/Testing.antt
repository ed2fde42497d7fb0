-- What the tests need of a program with one event, whose threads all make one write.
use Rattle.std.proofs.Common.{◌≡◌, ◌∙◌, ℕ, zero, suc, ◌<◌, ◌≤◌, true, List, [], ◌∷◌, length, None, Some, refl, sym, subst, arith}
use Rattle.std.specs.Prelude.{IsTrue, replicate, slice_get}
use Rattle.std.specs.List.{list_all}
use Rattle.std.proofs.lemmas.List.{length-replicate, get_or-replicate}
use Rattle.std.proofs.lemmas.Option.{none-some, slice_get_read}
use Rattle.ep_defs.specs.declared.event.EventDef.{EventDef}
use Rattle.ep_defs.specs.declared.session.Write.{Write}
use Rattle.ep_defs.specs.Definitions.{definition_at}
use Rattle.ep_defs.specs.Event.{is_valid_event}
use Rattle.ep_defs.specs.Session.{fits}
use Rattle.ep_rundown.specs.Rundown.{lacks_rundown}
use Rattle.pt_live_tests.specs.Tests.{IsProgram}

one-of : (events : List EventDef) → length events ≡ 1 → (i : ℕ) (def : EventDef) → definition_at events i ≡ Some def → i ≡ 1
one-of [] one i def is = absurd (omega (arith, one))
one-of (e ∷ []) one zero def is = absurd (none-some def is)
one-of (e ∷ []) one (suc zero) def is = refl
one-of (e ∷ []) one (suc (suc k)) def is = absurd (none-some def is)
one-of (e ∷ f ∷ events) one i def is = absurd (omega (arith, one))

pub program-of : (turns : ℕ) (events : List EventDef) (write : Write) → length events ≡ 1 → list_all is_valid_event events ≡ true → lacks_rundown events ≡ true → write.event ≡ 1 → IsTrue (fits write) → IsProgram events (λ _. replicate turns write) turns write
program-of turns events write one valid lacks event fit =
    record {
      some = omega (arith, one);
      valid = record { few = omega (arith, one); valid = valid; distinct = λ i j def here there. one-of events one i def here ∙ sym (one-of events one j def there); lacks = lacks };
      event = event;
      fit = fit;
      lengths = λ _. length-replicate turns write;
      each =
          λ _ index few.
          slice_get_read (replicate turns write) _ index write refl (omega (arith, few, length-replicate turns write))
          (sym (get_or-replicate turns index write write few));
    }
