use Rattle.std.proofs.Common.{◌≡◌, ◌+◌, None, get_or, length, drop, sym, refl, arith, ◌∙◌}
use Rattle.std.specs.Int.{w32, w64}
use Rattle.std.proofs.lemmas.Bool.{eqb-true}
use Rattle.pt_num.specs.Fields.{bytes_at, var_at}
use Rattle.nt_head.specs.declared.flags.TheConstants.{ACTIVITY, METADATA, RELATED, SEQUENCE, SIZE, SORTED, STACK, THREAD}
use Rattle.nt_head.specs.declared.limits.TheConstants.{ID_BYTES}
use Rattle.nt_head.specs.Head.{HeadFields}
use Rattle.nt_head.specs.Reading.{has_flag, sequence_at}
use Rattle.nt_head.proofs.ReadTo.{to_flags}
use Rattle.nt_head.proofs.Steps.{head_stops, stops_answer, stop_flags, carry_increment, fields_made, state_read, head_read}
use Rattle.nt_head.proofs.Usual.{Usual, usual_is, field_absent}
use Rattle.nt_head.proofs.take.take_next.Goals as goal

pub returns-then-is_empty-clause-stop : goal.returns-then-is_empty-clause-stop
returns-then-is_empty-clause-stop c =
    stop_flags c.args.bytes.now c.args.state.now (eqb-true (length c.args.bytes.now) 0 (sym c.if-is_empty.ensures))

pub returns-in_err-increment-clause-stop : goal.returns-in_err-increment-clause-stop
returns-in_err-increment-clause-stop c =
    let bytes = c.args.bytes.now in
    let flags = get_or bytes 0 0 in
    let usual : Usual flags = usual_is flags (sym c.is_usual.ensures ∙ c.if-not-is_usual.false) in
    let e1 = field_absent (has_flag METADATA flags) (var_at w32) (drop 1 bytes) usual.metadata in
    let e2 = field_absent (has_flag SEQUENCE flags) sequence_at (drop 1 bytes) usual.sequence in
    let e3 = field_absent (has_flag THREAD flags) (var_at w64) (drop 1 bytes) usual.thread in
    let e4 = field_absent (has_flag STACK flags) (var_at w32) (drop 1 bytes) usual.stack in
    stops_answer _ _ _ c.from_residual.ensures.1 (head_stops (var_at w64) c.args.state.now bytes 1 c.in_err-increment.field-0.0 (carry_increment bytes flags 1 1 1 1 None None None None (to_flags bytes c.if-is_empty.ensures) e1 e2 e3 e4) c.in_err-increment.ensures.stop)

pub returns-clause-ok : goal.returns-clause-ok
returns-clause-ok c =
    let bytes = c.args.bytes.now in
    let flags = get_or bytes 0 0 in
    let usual : Usual flags = usual_is flags (sym c.is_usual.ensures ∙ c.if-not-is_usual.false) in
    let end = c.next64.new.at in
    let e1 = field_absent (has_flag METADATA flags) (var_at w32) (drop 1 bytes) usual.metadata in
    let e2 = field_absent (has_flag SEQUENCE flags) sequence_at (drop 1 bytes) usual.sequence in
    let e3 = field_absent (has_flag THREAD flags) (var_at w64) (drop 1 bytes) usual.thread in
    let e4 = field_absent (has_flag STACK flags) (var_at w32) (drop 1 bytes) usual.stack in
    let e5 = c.in_ok-increment.ensures.ok.read in
    let e6 = field_absent (has_flag ACTIVITY flags) (bytes_at ID_BYTES) (drop end bytes) usual.activity in
    let e7 = field_absent (has_flag RELATED flags) (bytes_at ID_BYTES) (drop end bytes) usual.related in
    let e8 = field_absent (has_flag SIZE flags) (var_at w32) (drop end bytes) usual.size in
    let none : c.args.state.now.number + 0 ≡ c.args.state.now.number = omega arith in
    let said : HeadFields = record { metadata = None; sequence = None; thread = None; stack = None; stamp_increment = c.in_ok-increment.increment; activity = None; related = None; sorted = has_flag SORTED flags; size = None } in
    let fields = fields_made bytes _ _ _ _ _ _ _ _ _ _ _ _ _ _ _ _ _ _ (to_flags bytes c.if-is_empty.ensures).read e1 e2 e3 e4 e5 e6 e7 e8 in
    record {
      within = c.in_ok-increment.ensures.ok.within;
      read =
          head_read c.args.state.now _ said bytes _ fields
          (state_read c.args.state.now _ said refl (rw none at c.number_after-state.ensures) refl refl refl refl refl refl refl c.has_flag-state.ensures refl);
    }
