use Rattle.std.proofs.Common.{◌≡◌, ◌+◌, None, get_or, length, drop, sym, refl, arith}
use Rattle.std.specs.Int.{w32, w64}
use Rattle.std.proofs.lemmas.Bool.{eqb-true}
use Rattle.pt_num.specs.Fields.{bytes_at, var_at}
use Rattle.nt_head.specs.Head.{HeadFields, state_after}
use Rattle.nt_head.specs.declared.flags.TheConstants.{ACTIVITY, RELATED, SEQUENCE, SIZE, SORTED, STACK, THREAD}
use Rattle.nt_head.specs.declared.limits.TheConstants.{ID_BYTES}
use Rattle.nt_head.specs.Reading.{has_flag, sequence_at}
use Rattle.nt_head.proofs.ReadTo.{to_flags, to_thread, to_related}
use Rattle.nt_head.proofs.Steps.{carry_metadata, carry_numbers, carry_thread, carry_stack, carry_increment, carry_activity, carry_related, carry_size, fields_made, head_read}
use Rattle.nt_names.proofs.Heads.{cut_flags, cut_head, field_unset, head_kept}
use Rattle.nt_names.proofs.head.read_head.Goals as goal

pub returns-then-is_empty-clause-none : goal.returns-then-is_empty-clause-none
returns-then-is_empty-clause-none c = λ none.
    cut_flags c.args.bytes.now (eqb-true (length c.args.bytes.now) 0 (sym c.if-is_empty.ensures))

pub returns-in_err-metadata-clause-none : goal.returns-in_err-metadata-clause-none
returns-in_err-metadata-clause-none c = λ none.
    let flags = to_flags c.args.bytes.now c.if-is_empty.ensures in
    cut_head _ c.args.bytes.now _ (carry_metadata c.args.bytes.now _ flags) (rw c.has_flag.ensures at (c.in_err-metadata.ensures.none refl))

pub returns-in_err-sequence-clause-none : goal.returns-in_err-sequence-clause-none
returns-in_err-sequence-clause-none c = λ none.
    let flags = to_flags c.args.bytes.now c.if-is_empty.ensures in
    let e1 = (rw c.has_flag.ensures at c.in_ok-metadata.ensures.some.read) in
    cut_head _ c.args.bytes.now _ (carry_numbers c.args.bytes.now _ _ _ flags e1) (rw c.has_flag-2.ensures at (c.in_err-sequence.ensures.none refl))

pub returns-in_err-pass64-clause-none : goal.returns-in_err-pass64-clause-none
returns-in_err-pass64-clause-none c = λ none.
    let flags = to_flags c.args.bytes.now c.if-is_empty.ensures in
    let e1 = (rw c.has_flag.ensures at c.in_ok-metadata.ensures.some.read) in
    let e2 = (rw c.has_flag-2.ensures at c.in_ok-sequence.ensures.some.read) in
    cut_head _ c.args.bytes.now _ (carry_thread c.args.bytes.now _ _ _ _ _ flags e1 e2) (rw c.has_flag-3.ensures at (c.in_err-pass64.ensures.none refl))

pub returns-in_err-stack-clause-none : goal.returns-in_err-stack-clause-none
returns-in_err-stack-clause-none c = λ none.
    let front = to_thread _ _ c.if-is_empty.ensures c.has_flag.ensures c.in_ok-metadata.ensures.some.read c.has_flag-2.ensures c.in_ok-sequence.ensures.some.read c.has_flag-3.ensures c.in_ok-pass64.ensures.some.read in
    cut_head _ c.args.bytes.now _ (carry_stack c.args.bytes.now _ _ _ _ _ _ _ front.first front.metadata front.sequence front.thread) (rw c.has_flag-4.ensures at (c.in_err-stack.ensures.none refl))

pub returns-in_err-next64-2-clause-none : goal.returns-in_err-next64-2-clause-none
returns-in_err-next64-2-clause-none c = λ none.
    let front = to_thread _ _ c.if-is_empty.ensures c.has_flag.ensures c.in_ok-metadata.ensures.some.read c.has_flag-2.ensures c.in_ok-sequence.ensures.some.read c.has_flag-3.ensures c.in_ok-pass64.ensures.some.read in
    let e4 = (rw c.has_flag-4.ensures at c.in_ok-stack.ensures.some.read) in
    cut_head _ c.args.bytes.now _ (carry_increment c.args.bytes.now _ _ _ _ _ _ _ _ _ front.first front.metadata front.sequence front.thread e4) (c.in_err-next64-2.ensures.none refl)

pub returns-in_err-pass_id-clause-none : goal.returns-in_err-pass_id-clause-none
returns-in_err-pass_id-clause-none c = λ none.
    let front = to_thread _ _ c.if-is_empty.ensures c.has_flag.ensures c.in_ok-metadata.ensures.some.read c.has_flag-2.ensures c.in_ok-sequence.ensures.some.read c.has_flag-3.ensures c.in_ok-pass64.ensures.some.read in
    let e4 = (rw c.has_flag-4.ensures at c.in_ok-stack.ensures.some.read) in
    let e5 = c.in_ok-next64-2.ensures.some.read in
    cut_head _ c.args.bytes.now _ (carry_activity c.args.bytes.now _ _ _ _ _ _ _ _ _ _ _ front.first front.metadata front.sequence front.thread e4 e5) (rw c.has_flag-5.ensures at (c.in_err-pass_id.ensures.none refl))

pub returns-in_err-pass_id-2-clause-none : goal.returns-in_err-pass_id-2-clause-none
returns-in_err-pass_id-2-clause-none c = λ none.
    let front = to_thread _ _ c.if-is_empty.ensures c.has_flag.ensures c.in_ok-metadata.ensures.some.read c.has_flag-2.ensures c.in_ok-sequence.ensures.some.read c.has_flag-3.ensures c.in_ok-pass64.ensures.some.read in
    let e4 = (rw c.has_flag-4.ensures at c.in_ok-stack.ensures.some.read) in
    let e5 = c.in_ok-next64-2.ensures.some.read in
    let e6 = (rw c.has_flag-5.ensures at c.in_ok-pass_id.ensures.some.read) in
    cut_head _ c.args.bytes.now _ (carry_related c.args.bytes.now _ _ _ _ _ _ _ _ _ _ _ _ _ front.first front.metadata front.sequence front.thread e4 e5 e6) (rw c.has_flag-6.ensures at (c.in_err-pass_id-2.ensures.none refl))

pub returns-in_err-size-clause-none : goal.returns-in_err-size-clause-none
returns-in_err-size-clause-none c = λ none.
    let front = to_thread _ _ c.if-is_empty.ensures c.has_flag.ensures c.in_ok-metadata.ensures.some.read c.has_flag-2.ensures c.in_ok-sequence.ensures.some.read c.has_flag-3.ensures c.in_ok-pass64.ensures.some.read in
    let back = to_related _ _ _ c.has_flag-4.ensures c.in_ok-stack.ensures.some.read c.in_ok-next64-2.ensures.some.read c.has_flag-5.ensures c.in_ok-pass_id.ensures.some.read c.has_flag-6.ensures c.in_ok-pass_id-2.ensures.some.read in
    cut_head _ c.args.bytes.now _ (carry_size c.args.bytes.now _ _ _ _ _ _ _ _ _ _ _ _ _ _ _ front.first front.metadata front.sequence front.thread back.stack back.stamp back.activity back.related) (rw c.has_flag-7.ensures at (c.in_err-size.ensures.none refl))

pub returns-clause-some : goal.returns-clause-some
returns-clause-some c =
    let flags = to_flags c.args.bytes.now c.if-is_empty.ensures in
    let e1 = (rw c.has_flag.ensures at c.in_ok-metadata.ensures.some.read) in
    let e2 = (rw c.has_flag-2.ensures at c.in_ok-sequence.ensures.some.read) in
    let e3 = (rw c.has_flag-3.ensures at c.in_ok-pass64.ensures.some.read) in
    let e4 = (rw c.has_flag-4.ensures at c.in_ok-stack.ensures.some.read) in
    let e5 = c.in_ok-next64-2.ensures.some.read in
    let e6 = (rw c.has_flag-5.ensures at c.in_ok-pass_id.ensures.some.read) in
    let e7 = (rw c.has_flag-6.ensures at c.in_ok-pass_id-2.ensures.some.read) in
    let e8 = (rw c.has_flag-7.ensures at c.in_ok-size.ensures.some.read) in
    let said : HeadFields = record { metadata = c.in_ok-metadata.ensures.some.said; sequence = c.in_ok-sequence.ensures.some.said; thread = c.in_ok-pass64.ensures.some.said; stack = c.in_ok-stack.ensures.some.said; stamp_increment = c.in_ok-next64-2.field-0; activity = c.in_ok-pass_id.ensures.some.said; related = c.in_ok-pass_id-2.ensures.some.said; sorted = has_flag SORTED (get_or c.args.bytes.now 0 0); size = c.in_ok-size.ensures.some.said } in
    let fields = fields_made c.args.bytes.now _ _ _ _ _ _ _ _ _ _ _ _ _ _ _ _ _ _ flags.read e1 e2 e3 e4 e5 e6 e7 e8 in
    record {
      within = c.in_ok-size.ensures.some.within;
      after = λ before same. record {
        state = state_after before said;
        kept = head_kept before said c.args.previous.now _ same c.in_ok-metadata.ensures.some.value c.in_ok-sequence.ensures.some.number c.in_ok-sequence.ensures.some.capture c.in_ok-stack.ensures.some.value c.in_ok-size.ensures.some.value;
        read = head_read before (state_after before said) said c.args.bytes.now _ fields refl;
      };
    }

pub returns-in_err-next64-clause-none : goal.returns-in_err-next64-clause-none
returns-in_err-next64-clause-none c = λ none.
    let flags = to_flags c.args.bytes.now c.if-is_empty.ensures in
    let e1 = (rw c.has_flag.ensures at c.in_ok-metadata.ensures.some.read) in
    let e2 = field_unset SEQUENCE (get_or c.args.bytes.now 0 0) sequence_at (drop c.new32.new.at c.args.bytes.now) (omega arith) (omega (arith, c.if-flags-lt-SEQUENCE.true)) in
    let e3 = field_unset THREAD (get_or c.args.bytes.now 0 0) (var_at w64) (drop c.new32.new.at c.args.bytes.now) (omega arith) (omega (arith, c.if-flags-lt-SEQUENCE.true)) in
    let e4 = field_unset STACK (get_or c.args.bytes.now 0 0) (var_at w32) (drop c.new32.new.at c.args.bytes.now) (omega arith) (omega (arith, c.if-flags-lt-SEQUENCE.true)) in
    cut_head _ c.args.bytes.now _ (carry_increment c.args.bytes.now _ _ _ _ _ _ _ _ _ flags e1 e2 e3 e4) (c.in_err-next64.ensures.none refl)

pub returns-then-flags-lt-SEQUENCE-clause-some : goal.returns-then-flags-lt-SEQUENCE-clause-some
returns-then-flags-lt-SEQUENCE-clause-some c =
    let flags = to_flags c.args.bytes.now c.if-is_empty.ensures in
    let e1 = (rw c.has_flag.ensures at c.in_ok-metadata.ensures.some.read) in
    let e2 = field_unset SEQUENCE (get_or c.args.bytes.now 0 0) sequence_at (drop c.new32.new.at c.args.bytes.now) (omega arith) (omega (arith, c.if-flags-lt-SEQUENCE.true)) in
    let e3 = field_unset THREAD (get_or c.args.bytes.now 0 0) (var_at w64) (drop c.new32.new.at c.args.bytes.now) (omega arith) (omega (arith, c.if-flags-lt-SEQUENCE.true)) in
    let e4 = field_unset STACK (get_or c.args.bytes.now 0 0) (var_at w32) (drop c.new32.new.at c.args.bytes.now) (omega arith) (omega (arith, c.if-flags-lt-SEQUENCE.true)) in
    let e5 = c.in_ok-next64.ensures.some.read in
    let e6 = field_unset ACTIVITY (get_or c.args.bytes.now 0 0) (bytes_at ID_BYTES) (drop c.next64.new.at c.args.bytes.now) (omega arith) (omega (arith, c.if-flags-lt-SEQUENCE.true)) in
    let e7 = field_unset RELATED (get_or c.args.bytes.now 0 0) (bytes_at ID_BYTES) (drop c.next64.new.at c.args.bytes.now) (omega arith) (omega (arith, c.if-flags-lt-SEQUENCE.true)) in
    let e8 = field_unset SIZE (get_or c.args.bytes.now 0 0) (var_at w32) (drop c.next64.new.at c.args.bytes.now) (omega arith) (omega (arith, c.if-flags-lt-SEQUENCE.true)) in
    let none : c.args.previous.now.names.number + 0 ≡ c.args.previous.now.names.number = omega arith in
    let said : HeadFields = record { metadata = c.in_ok-metadata.ensures.some.said; sequence = None; thread = None; stack = None; stamp_increment = c.in_ok-next64.field-0; activity = None; related = None; sorted = has_flag SORTED (get_or c.args.bytes.now 0 0); size = None } in
    let fields = fields_made c.args.bytes.now _ _ _ _ _ _ _ _ _ _ _ _ _ _ _ _ _ _ flags.read e1 e2 e3 e4 e5 e6 e7 e8 in
    record {
      within = c.in_ok-next64.ensures.some.within;
      after = λ before same. record {
        state = state_after before said;
        kept = head_kept before said c.args.previous.now _ same c.in_ok-metadata.ensures.some.value (rw none at c.number_after-number.ensures) refl refl refl;
        read = head_read before (state_after before said) said c.args.bytes.now _ fields refl;
      };
    }
