-- A program whose threads all make one write.
use Rattle.std.proofs.Common.{◌≡◌, ℕ, ◌≤◌, List, length, refl, sym, arith}
use Rattle.std.specs.Prelude.{IsTrue, replicate}
use Rattle.std.proofs.lemmas.List.{length-replicate, get_or-replicate}
use Rattle.std.proofs.lemmas.Option.{slice_get_read}
use Rattle.ep_defs.specs.declared.event.EventDef.{EventDef}
use Rattle.ep_defs.specs.declared.session.Write.{Write}
use Rattle.ep_defs.specs.Session.{fits}
use Rattle.ep_live_tests.specs.Runs.{IsProgram}

pub program-of : (turns : ℕ) (events : List EventDef) (write : Write) → length events ≡ 1 → turns ≤ 1000 → write.event ≡ 1 → IsTrue (fits write) → IsProgram events (λ _. replicate turns write) turns write
program-of turns events write one most event fit =
    record {
      one = one;
      event = event;
      fit = fit;
      few = most;
      lengths = λ _. length-replicate turns write;
      each =
          λ _ index few.
          slice_get_read (replicate turns write) _ index write refl (omega (arith, few, length-replicate turns write))
          (sym (get_or-replicate turns index write write few));
    }
