use Rattle.std.proofs.Common.{List, ℕ, Some, map, ap, ◌∙◌}
use Rattle.ep_defs.specs.declared.event.EventDef.{EventDef}
use Rattle.nt_write.proofs.Used.{definitions-used, writing-of-more}
use Rattle.nt_write.proofs.writer.TraceWriter.used.Goals as goal

pub returns-clause-named : goal.returns-clause-named
returns-clause-named g c before defs info entries h =
    ap (λ (numbers : List ℕ). map defs numbers) c.numbers.ensures.is ∙ h.at.kept.ids.numbers
    ∙ ap (λ (definitions : List EventDef). map Some definitions) (definitions-used entries)

pub returns-clause-goes_on : goal.returns-clause-goes_on
returns-clause-goes_on g c more before defs info entries h extends =
    writing-of-more g.S.Sink.tells_taken g.S.Sink.taken before defs more info entries c.args.self.now h extends
