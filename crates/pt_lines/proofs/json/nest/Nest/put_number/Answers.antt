-- A field was put.
use Rattle.std.proofs.Common.{decimal, false, refl}
use Rattle.std.proofs.lemmas.Result.{on_ok_weaker}
use Rattle.pt_lines.proofs.Nests.{add-text}
use Rattle.pt_lines.proofs.json.nest.Nest.put_number.Goals as goal

pub returns : goal.returns
returns c =
    on_ok_weaker c.put_digits.result
    (λ e.
    add-text c.args.field.now (decimal c.args.number) c.args.self.now c.close_to.new.self (record { depths = c.close_to.new.self.depths; is_first = false }) c.args.out.now.items c.close_to.new.out.items c.put_name.new.out.items c.put_digits.new.out.items
    (rw c.depth.ensures at c.in_ok-close_to.ensures) c.in_ok-put_name.ensures refl refl e)
    c.put_digits.ensures
