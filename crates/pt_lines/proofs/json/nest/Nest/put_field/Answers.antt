-- A field was put.
use Rattle.std.proofs.Common.{ℕ, false, Some, None, ap, refl}
use Rattle.std.proofs.lemmas.Result.{on_ok_weaker}
use Rattle.nt_fields.specs.declared.value.Value.{Value}
use Rattle.nt_fields.specs.Taking.{value_in}
use Rattle.pt_lines.proofs.Nests.{add-object, add-text}
use Rattle.pt_lines.proofs.json.nest.Nest.put_field.Goals as goal

pub returns-in-Object : goal.returns-in-Object
returns-in-Object c =
    on_ok_weaker c.open.result
    (λ e. (
      None,
      ap (λ (value : Value ℕ). value_in c.args.bytes.now value) c.in-Object.is,
      add-object c.args.field.now c.args.self.now c.close_to.new.self c.open.new.self c.args.out.now.items c.close_to.new.out.items c.put_name.new.out.items c.open.new.out.items
          (rw c.depth.ensures at c.in_ok-close_to.ensures) c.in_ok-put_name.ensures (rw c.depth-in-Object.ensures at e.0) e.1 e.2,
    ))
    c.open.ensures

pub returns-in_default : goal.returns-in_default
returns-in_default c =
    on_ok_weaker c.put_value.result
    (λ put. (
      Some put.0,
      put.1,
      add-text c.args.field.now put.0 c.args.self.now c.close_to.new.self (record { depths = c.close_to.new.self.depths; is_first = false }) c.args.out.now.items c.close_to.new.out.items c.put_name.new.out.items c.put_value.new.out.items
          (rw c.depth.ensures at c.in_ok-close_to.ensures) c.in_ok-put_name.ensures refl refl put.2,
    ))
    c.put_value.ensures
