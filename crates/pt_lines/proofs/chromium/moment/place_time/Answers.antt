-- The pieces are written one before another.
use Rattle.std.proofs.Common.{List, ℕ, ◌++◌, ◌/◌, ◌%◌, drop, decimal, ap, sym, ◌∙◌, append_assoc, arith}
use Rattle.std.specs.Prelude.{codes}
use Rattle.std.proofs.lemmas.Fmt.{length-decimal-le}
use Rattle.pt_lines.specs.Texts.{digits_in}
use Rattle.pt_lines.proofs.chromium.moment.place_time.Goals as goal

pub write_digits-start-requires : goal.write_digits-start-requires
write_digits-start-requires c = (
  omega (arith, c.requires.room, c.place_three-fraction.ensures.start, c.place_word-point.ensures.start, length-decimal-le 20 (c.args.nanos / 1000) (omega arith) (omega (arith, c.ranges.nanos.fits)) (omega (arith, c.ranges.nanos.fits))),
  omega (arith, c.requires.within, c.place_three-fraction.ensures.start, c.place_three-fraction.ensures.len, c.place_word-point.ensures.start, c.place_word-point.ensures.len),
)

pub place_word-requires-clause-room : goal.place_word-requires-clause-room
place_word-requires-clause-room c =
    omega (arith, c.requires.room, c.place_three-fraction.ensures.start, c.place_word-point.ensures.start, c.write_digits-start.ensures.start, length-decimal-le 20 (c.args.nanos / 1000) (omega arith) (omega (arith, c.ranges.nanos.fits)) (omega (arith, c.ranges.nanos.fits)))

pub returns-clause-written : goal.returns-clause-written
returns-clause-written c =
    let rest = drop c.args.end c.args.text.now in
    let whole = decimal (c.args.nanos / 1000) in
    let part = digits_in 3 (c.args.nanos % 1000) in
    c.place_word.ensures.written
    ∙ ap (λ (xs : List ℕ). codes ",\"ts\":" ++ xs)
    (c.write_digits-start.ensures.written
    ∙ ap (λ (xs : List ℕ). whole ++ xs) (c.place_word-point.ensures.written ∙ ap (λ (xs : List ℕ). codes "." ++ xs) c.place_three-fraction.ensures.written)
    ∙ sym (append_assoc whole (codes ".") (part ++ rest))
    ∙ sym (append_assoc (whole ++ codes ".") part rest))
