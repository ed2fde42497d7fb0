-- A part of a line that is too long is refused, whatever follows.
use Rattle.std.proofs.Common.{ℕ, ◌+◌, ◌<◌, length, List, ◌++◌, ◌∙◌, sym, subst, arith}
use Rattle.ep_model.proofs.Lists.{none_is}
use Rattle.ep_plan.specs.declared.line.LineKind.TheVariants.{Long}
use Rattle.pt_replay.specs.declared.errors.Reason.TheVariants.{Line}
use Rattle.pt_replay.specs.Schedule.{IsRefused}
use Rattle.ep_plan.specs.declared.limits.TheConstants.{LINE_BYTES}
use Rattle.pt_replay.proofs.ReadSoFar.{so_far-good, read-long}
use Rattle.pt_replay.proofs.text.Reader.take_part.Goals as goal

pub returns-then-text-len-clause-read : goal.returns-then-text-len-clause-read
returns-then-text-len-clause-read c = λ bytes read.
    let reader = c.args.self.now in
    let text = c.args.text.now in
    let good = so_far-good bytes reader.schedule reader.part.items reader.refusal (none_is reader.refusal (sym c.is_some.ensures ∙ c.if-is_some.false)) read in
    let long : LINE_BYTES < length reader.part.items + length text = omega (arith, c.len.ensures, c.if-text-len.true, good.short) in
    let IsLong : ℕ → Type 0 = λ n.
    (rest : List ℕ) → IsRefused ((bytes ++ text) ++ rest) (record { line = n + 1; column = 1; reason = Line Long }) in
    subst IsLong (sym c.lines.ensures) (read-long bytes reader.schedule reader.part.items good text c.requires.no_feed long)
