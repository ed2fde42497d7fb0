use Rattle.std.proofs.Common.{ap, sym, ◌∙◌}
use Rattle.std.specs.Int.{w16}
use Rattle.pt_num.specs.Numbers.{fixed}
use Rattle.ipc_frame.proofs.Back.{whole-message}
use Rattle.ipc_frame.proofs.frame.take_message.Goals as goal

pub returns-clause-message : goal.returns-clause-message
returns-clause-message c =
    whole-message c.args.bytes.now c.from-used.result
    (sym c.if-not-has_magic.ensures)
    (ap (fixed w16) c.from-used.ensures ∙ c.size_in-size.ensures.form)
    c.if-used-lt-HEADER_BYTES.false
    c.if-bytes-used.false
