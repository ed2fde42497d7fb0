use Rattle.std.proofs.Common.{◌≡◌, map, drop}
use Rattle.ep_model.specs.Lawful.{first_kind}
use Rattle.ep_tables.specs.Tables.{objection_of}
use Rattle.ep_tables.proofs.tables.judge.first.Given as goal

abbrev pub invariant-loop-there : goal.invariant-loop-there
invariant-loop-there l = first_kind (map objection_of l.objections) ≡ first_kind (map objection_of (drop l.there-index l.objections))
