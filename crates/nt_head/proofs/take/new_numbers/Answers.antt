use Rattle.std.proofs.Common.{Some, refl}
use Rattle.nt_head.proofs.Steps.{sequence_read, sequence_there}
use Rattle.nt_head.proofs.take.new_numbers.Goals as goal

pub returns-then-has_flag-clause-ok : goal.returns-then-has_flag-clause-ok
returns-then-has_flag-clause-ok c =
    let sequence = sequence_read c.args.bytes.now _ _ _ _ _ _ _ c.in_ok-increment.ensures.ok c.in_ok-capture.ensures.ok c.in_ok-processor.ensures.ok in
    record {
      said = Some (record { increment = c.in_ok-increment.increment; capture = c.in_ok-capture.capture; processor = c.in_ok-processor.processor });
      within = c.in_ok-processor.ensures.ok.within;
      read = sequence_there _ _ _ c.if-has_flag.ensures sequence;
      number = c.number_after.ensures;
      capture = refl;
      processor = refl;
    }
