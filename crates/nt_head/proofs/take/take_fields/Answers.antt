use Rattle.std.proofs.Common.{get_or, refl}
use Rattle.nt_head.specs.declared.flags.TheConstants.{SORTED}
use Rattle.nt_head.specs.Reading.{has_flag}
use Rattle.nt_head.proofs.Steps.{head_stops, stops_answer, carry_metadata, carry_numbers, carry_thread, carry_stack, carry_increment, carry_activity, carry_related, carry_size, fields_made, state_read, head_read}
use Rattle.nt_head.proofs.ReadTo.{filled, to_flags, to_thread, to_related}
use Rattle.nt_head.proofs.take.take_fields.Goals as goal

pub returns-in_err-set32-clause-stop : goal.returns-in_err-set32-clause-stop
returns-in_err-set32-clause-stop c =
    let flags = to_flags c.args.bytes.now (filled c.args.bytes.now c.requires) in
    stops_answer _ _ _ c.from_residual.ensures.1 (head_stops _ c.args.state.now c.args.bytes.now _ c.in_err-set32.field-0.0 (carry_metadata c.args.bytes.now _ flags) c.in_err-set32.ensures.stop)

pub returns-in_err-numbers-clause-stop : goal.returns-in_err-numbers-clause-stop
returns-in_err-numbers-clause-stop c =
    let flags = to_flags c.args.bytes.now (filled c.args.bytes.now c.requires) in
    stops_answer _ _ _ c.from_residual-in_err-numbers.ensures.1 (head_stops _ c.args.state.now c.args.bytes.now _ c.in_err-numbers.field-0.0 (carry_numbers c.args.bytes.now _ _ _ flags c.in_ok-set32.ensures.ok.read) c.in_err-numbers.ensures.stop)

pub returns-in_err-set64-clause-stop : goal.returns-in_err-set64-clause-stop
returns-in_err-set64-clause-stop c =
    let flags = to_flags c.args.bytes.now (filled c.args.bytes.now c.requires) in
    stops_answer _ _ _ c.from_residual-in_err-set64.ensures.1 (head_stops _ c.args.state.now c.args.bytes.now _ c.in_err-set64.field-0.0 (carry_thread c.args.bytes.now _ _ _ _ _ flags c.in_ok-set32.ensures.ok.read c.in_ok-numbers.ensures.ok.read) c.in_err-set64.ensures.stop)

pub returns-in_err-set32-2-clause-stop : goal.returns-in_err-set32-2-clause-stop
returns-in_err-set32-2-clause-stop c =
    let front = to_thread _ _ (filled c.args.bytes.now c.requires) refl c.in_ok-set32.ensures.ok.read refl c.in_ok-numbers.ensures.ok.read refl c.in_ok-set64.ensures.ok.read in
    stops_answer _ _ _ c.from_residual-in_err-set32-2.ensures.1 (head_stops _ c.args.state.now c.args.bytes.now _ c.in_err-set32-2.field-0.0 (carry_stack c.args.bytes.now _ _ _ _ _ _ _ front.first front.metadata front.sequence front.thread) c.in_err-set32-2.ensures.stop)

pub returns-in_err-increment-clause-stop : goal.returns-in_err-increment-clause-stop
returns-in_err-increment-clause-stop c =
    let front = to_thread _ _ (filled c.args.bytes.now c.requires) refl c.in_ok-set32.ensures.ok.read refl c.in_ok-numbers.ensures.ok.read refl c.in_ok-set64.ensures.ok.read in
    stops_answer _ _ _ c.from_residual-in_err-increment.ensures.1 (head_stops _ c.args.state.now c.args.bytes.now _ c.in_err-increment.field-0.0 (carry_increment c.args.bytes.now _ _ _ _ _ _ _ _ _ front.first front.metadata front.sequence front.thread c.in_ok-set32-2.ensures.ok.read) c.in_err-increment.ensures.stop)

pub returns-in_err-set_id-clause-stop : goal.returns-in_err-set_id-clause-stop
returns-in_err-set_id-clause-stop c =
    let front = to_thread _ _ (filled c.args.bytes.now c.requires) refl c.in_ok-set32.ensures.ok.read refl c.in_ok-numbers.ensures.ok.read refl c.in_ok-set64.ensures.ok.read in
    stops_answer _ _ _ c.from_residual-in_err-set_id.ensures.1 (head_stops _ c.args.state.now c.args.bytes.now _ c.in_err-set_id.field-0.0 (carry_activity c.args.bytes.now _ _ _ _ _ _ _ _ _ _ _ front.first front.metadata front.sequence front.thread c.in_ok-set32-2.ensures.ok.read c.in_ok-increment.ensures.ok.read) c.in_err-set_id.ensures.stop)

pub returns-in_err-set_id-2-clause-stop : goal.returns-in_err-set_id-2-clause-stop
returns-in_err-set_id-2-clause-stop c =
    let front = to_thread _ _ (filled c.args.bytes.now c.requires) refl c.in_ok-set32.ensures.ok.read refl c.in_ok-numbers.ensures.ok.read refl c.in_ok-set64.ensures.ok.read in
    stops_answer _ _ _ c.from_residual-in_err-set_id-2.ensures.1 (head_stops _ c.args.state.now c.args.bytes.now _ c.in_err-set_id-2.field-0.0 (carry_related c.args.bytes.now _ _ _ _ _ _ _ _ _ _ _ _ _ front.first front.metadata front.sequence front.thread c.in_ok-set32-2.ensures.ok.read c.in_ok-increment.ensures.ok.read c.in_ok-set_id.ensures.ok.read) c.in_err-set_id-2.ensures.stop)

pub returns-in_err-set32-3-clause-stop : goal.returns-in_err-set32-3-clause-stop
returns-in_err-set32-3-clause-stop c =
    let front = to_thread _ _ (filled c.args.bytes.now c.requires) refl c.in_ok-set32.ensures.ok.read refl c.in_ok-numbers.ensures.ok.read refl c.in_ok-set64.ensures.ok.read in
    let back = to_related _ _ _ refl c.in_ok-set32-2.ensures.ok.read c.in_ok-increment.ensures.ok.read refl c.in_ok-set_id.ensures.ok.read refl c.in_ok-set_id-2.ensures.ok.read in
    stops_answer _ _ _ c.from_residual-in_err-set32-3.ensures.1 (head_stops _ c.args.state.now c.args.bytes.now _ c.in_err-set32-3.field-0.0 (carry_size c.args.bytes.now _ _ _ _ _ _ _ _ _ _ _ _ _ _ _ front.first front.metadata front.sequence front.thread back.stack back.stamp back.activity back.related) c.in_err-set32-3.ensures.stop)

pub returns-clause-ok : goal.returns-clause-ok
returns-clause-ok c =
    let flags = to_flags c.args.bytes.now (filled c.args.bytes.now c.requires) in
    let fields = fields_made c.args.bytes.now _ _ _ _ _ _ _ _ _ _ _ _ _ _ _ _ _ _ flags.read c.in_ok-set32.ensures.ok.read c.in_ok-numbers.ensures.ok.read c.in_ok-set64.ensures.ok.read c.in_ok-set32-2.ensures.ok.read c.in_ok-increment.ensures.ok.read c.in_ok-set_id.ensures.ok.read c.in_ok-set_id-2.ensures.ok.read c.in_ok-set32-3.ensures.ok.read in
    record {
      within = c.in_ok-set32-3.ensures.ok.within;
      read =
          head_read c.args.state.now _ _ c.args.bytes.now _ fields
          (state_read c.args.state.now _ (record { metadata = c.in_ok-set32.ensures.ok.said; sequence = c.in_ok-numbers.ensures.ok.said; thread = c.in_ok-set64.ensures.ok.said; stack = c.in_ok-set32-2.ensures.ok.said; stamp_increment = c.in_ok-increment.increment; activity = c.in_ok-set_id.ensures.ok.said; related = c.in_ok-set_id-2.ensures.ok.said; sorted = has_flag SORTED (get_or c.args.bytes.now 0 0); size = c.in_ok-set32-3.ensures.ok.said }) c.in_ok-set32.ensures.ok.value c.in_ok-numbers.ensures.ok.number c.in_ok-numbers.ensures.ok.capture c.in_ok-numbers.ensures.ok.processor
          c.in_ok-set64.ensures.ok.value c.in_ok-set32-2.ensures.ok.value refl c.in_ok-set_id.ensures.ok.value c.in_ok-set_id-2.ensures.ok.value c.has_flag-state.ensures c.in_ok-set32-3.ensures.ok.value);
    }
