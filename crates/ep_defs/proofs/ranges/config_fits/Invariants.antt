-- So far the rules fit.
use Rattle.std.proofs.Common.{All, take}
use Rattle.ep_defs.specs.Ranges.{RuleFits}
use Rattle.ep_defs.proofs.ranges.config_fits.Given as goal

abbrev pub invariant-loop-rule : goal.invariant-loop-rule
invariant-loop-rule l = All RuleFits (take l.rule-index l.fn.config.rules)
