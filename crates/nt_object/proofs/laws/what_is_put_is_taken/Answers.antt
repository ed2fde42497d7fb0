use Rattle.nt_object.proofs.Fronts.{block_taken, start_taken, trace_taken}
use Rattle.nt_object.proofs.laws.what_is_put_is_taken.Goals as goal

pub returns-clause-start : goal.returns-clause-start
returns-clause-start c = λ info rest. start_taken info rest

pub returns-clause-trace : goal.returns-clause-trace
returns-clause-trace c = λ info rest. trace_taken info rest

pub returns-clause-block : goal.returns-clause-block
returns-clause-block c = λ block rest. block_taken block rest
