-- The members are the pieces that were placed.
use Rattle.std.proofs.Common.{List, ℕ, ◌++◌, drop, ap, ◌∙◌}
use Rattle.pt_lines.proofs.Entries.{ids-placed}
use Rattle.pt_lines.proofs.chromium.line.place_ids.Goals as goal

pub returns-clause-written : goal.returns-clause-written
returns-clause-written c =
    ids-placed c.args.thread c.from-2.ensures c.from.ensures c.place_member.ensures.written c.place_member-next.ensures.written c.place_member-last.ensures.written
    (c.place_word-fields.ensures.written ∙ ap (λ (xs : List ℕ). xs ++ drop c.args.end c.args.text.now) c.as_bytes.ensures.value)
