use Rattle.std.proofs.Common.{ℕ, Option, ap, sym, ◌∙◌}
use Rattle.std.proofs.lemmas.Iterator.Adapters.{position_from-zero}
use Rattle.std.specs.Prelude.{unwrap_or}
use Rattle.ep_defs.specs.declared.event.EventDef.{EventDef}
use Rattle.ep_defs.specs.Event.{is_same_event}
use Rattle.tp_c.proofs.Definitions.{position-next, position-none}
use Rattle.tp_c.proofs.catalog.number_in.Goals as goal

pub returns-in-Some : goal.returns-in-Some
returns-in-Some c =
    let xs = c.args.definitions.now in
    let from_zero = sym (position_from-zero (λ (known : EventDef). is_same_event c.args.def.now known) xs) ∙ sym c.in-Some.ensures.first in
    sym (ap (λ (o : Option ℕ). unwrap_or o 0) (position-next (λ (known : EventDef). is_same_event c.args.def.now known) 0 xs c.in-Some.place from_zero))

pub returns-in-None : goal.returns-in-None
returns-in-None c =
    let xs = c.args.definitions.now in
    let from_zero = sym (position_from-zero (λ (known : EventDef). is_same_event c.args.def.now known) xs) ∙ sym c.in-None.ensures.first in
    sym (ap (λ (o : Option ℕ). unwrap_or o 0) (position-none (λ (known : EventDef). is_same_event c.args.def.now known) 0 xs from_zero))
