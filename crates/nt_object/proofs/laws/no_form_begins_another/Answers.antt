use Rattle.nt_object.proofs.Fronts.{kinds_differ, same_block, same_start}
use Rattle.nt_object.proofs.laws.no_form_begins_another.Goals as goal

pub returns-clause-start : goal.returns-clause-start
returns-clause-start c =
    let numbers = c.no_form_begins_another.ensures in
    λ info other more rest first second e. same_start numbers.fixed16 numbers.fixed32 numbers.fixed64 info other more rest first second e

pub returns-clause-block : goal.returns-clause-block
returns-clause-block c = λ at block other more rest first second e. same_block c.no_form_begins_another.ensures.fixed32 at block other more rest first second e

pub returns-clause-kinds : goal.returns-clause-kinds
returns-clause-kinds c = λ info block more rest e. kinds_differ info block more rest e
