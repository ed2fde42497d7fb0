use Rattle.std.proofs.Common.{rules, ◌≡◌, ◌∙◌, ◌+◌, ◌≤◌, length, drop, sym, ap, arith}
use Rattle.std.specs.Cmp.Lexicographic.{bytes_decides}
use Rattle.std.proofs.lemmas.List.{take_rest}
use Rattle.byteorder.specs.Endian.{little_number}
use Rattle.nt_stacks.proofs.Frames.{frame_more, both_same}
use Rattle.nt_stacks.proofs.recent.is_same.Goals as goal

pub loop-at-preserved : goal.loop-at-preserved
loop-at-preserved c =
    let within : c.loop-at.at + 8 ≤ length c.args.bytes.now = search rules in
    let long : length c.args.kept.now ≡ length c.args.bytes.now = c.loop-at.invariant.1 in
    let read : c.read_u64.result ≡ c.read_u64-in-loop-at.result = search rules in
    let e : little_number 8 (drop c.loop-at.at c.args.kept.now) ≡ little_number 8 (drop c.loop-at.at c.args.bytes.now) =
    ap (little_number 8) (sym (take_rest c.args.kept.now c.loop-at.at)) ∙ sym c.read_u64.ensures ∙ read ∙ c.read_u64-in-loop-at.ensures ∙ ap (little_number 8) (take_rest c.args.bytes.now c.loop-at.at) in
    (within, long, frame_more c.loop-at.at c.args.kept.now c.args.bytes.now (omega (arith, within, long)) long (λ i. omega (arith, c.type_inv.kept i)) (λ i. omega (arith, c.type_inv.bytes i)) c.loop-at.invariant.2 e)

pub returns-else-at-bytes : goal.returns-else-at-bytes
returns-else-at-bytes c = λ same.
    let rest : drop c.loop-at.at c.args.kept.now ≡ drop c.loop-at.at c.args.bytes.now =
    sym (take_rest c.args.kept.now c.loop-at.at) ∙ (bytes_decides _ _).0 (sym c.eq.ensures ∙ same) ∙ take_rest c.args.bytes.now c.loop-at.at in
    both_same c.loop-at.at c.args.kept.now c.args.bytes.now c.loop-at.invariant.2 rest
