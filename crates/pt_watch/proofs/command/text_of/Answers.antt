use Rattle.std.proofs.Common.{◌∙◌, ◌+◌, List, ◌++◌, ap, sym, append_assoc, ℕ}
use Rattle.std.specs.Prelude.{slice_index}
use Rattle.pt_watch.specs.Lines.{count_line_of, counted_lines, mark_lines}
use Rattle.pt_watch.proofs.Telling.{counted-more}
use Rattle.pt_watch.proofs.command.text_of.Goals as goal

pub loop-place-preserved : goal.loop-place-preserved
loop-place-preserved c =
    let marks = c.args.marks.now in
    let counts = c.args.counts.now in
    let n : ℕ = c.loop-place.place in
    c.in_ok-put_count.ensures
    ∙ ap (λ (t : List ℕ). t ++ count_line_of (n + 1) (slice_index counts (n + 1))) c.loop-place.invariant
    ∙ append_assoc (mark_lines marks) (counted_lines n counts) (count_line_of (n + 1) (slice_index counts (n + 1)))
    ∙ ap (λ (t : List ℕ). mark_lines marks ++ t) (sym (counted-more counts n))
