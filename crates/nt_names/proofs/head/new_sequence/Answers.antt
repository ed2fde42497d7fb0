use Rattle.std.proofs.Common.{Some, refl}
use Rattle.nt_head.proofs.Steps.{sequence_read}
use Rattle.nt_names.proofs.head.new_sequence.Goals as goal

pub returns-then-there-clause-some : goal.returns-then-there-clause-some
returns-then-there-clause-some c =
    let sequence = sequence_read c.args.bytes.now _ _ _ _ _ _ _ c.in_ok-increment.ensures.some c.in_ok-capture.ensures.some c.in_ok-next32.ensures.some in
    record {
      said = Some (record { increment = c.in_ok-increment.increment; capture = c.in_ok-capture.capture; processor = c.in_ok-next32.field-0 });
      within = c.in_ok-next32.ensures.some.within;
      read = rw c.if-there.true sequence;
      number = c.number_after.ensures;
      capture = refl;
    }
