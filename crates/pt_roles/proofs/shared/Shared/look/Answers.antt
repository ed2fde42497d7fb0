use Rattle.std.proofs.Common.{◌≡◌, ℕ, Bool, true, false, Option, Some, None, ap, sym}
use Rattle.ep_journal.specs.declared.session.Fate.{Fate}
use Rattle.ep_journal.specs.declared.session.Fate.TheVariants as fate
use Rattle.ep_journal.specs.Recorded.{fate_by}
use Rattle.ep_registry.specs.declared.hold.Hold.{Hold}
use Rattle.ep_registry.specs.Held.{stage_found}
use Rattle.pt_roles.specs.Roles.{IsLooked, is_found}
use Rattle.pt_roles.proofs.shared.Shared.look.Goals as goal

same : (a b : Fate) → Some a ≡ Some b → a ≡ b
same a b e = cc

-- It is found to end by a stop or with the program.
found-by : (ended : Bool) (ticket : Option ℕ) (f : Fate) → fate_by ended ticket ≡ Some f → is_found f ≡ true
found-by ended (Some conn) f is = ap is_found (sym (same (fate.Requested conn) f is))
found-by true None f is = ap is_found (sym (same fate.ProgramEnd f is))
found-by false None f is = absurd (cc)

looked : (old new : Hold) (result : Option Fate) (ended : Bool) (ticket : Option ℕ) → result ≡ fate_by ended ticket → new ≡ record old { stage = stage_found old.stage result } → IsLooked old new result
looked old new None ended ticket answer is = is
looked old new (Some f) ended ticket answer is = (found-by ended ticket f (sym answer), is)

pub returns : goal.returns
returns g c = looked _ _ _ _ _ c.look.ensures.answer c.look.ensures.found
