-- The dock had called nobody when the run began.
use Rattle.std.proofs.Common.{rules, ap, ◌∙◌}
use Rattle.pt_run.proofs.Tool.{reverse-of}
use Rattle.pt_run.proofs.reverse.run_reverse.Goals as goal

pub returns : goal.returns
returns g c =
    reverse-of g.O.Sink g.K.Caller g.L.Sink g.L.Sink.read_side g.L.Source.write_side c.args.asked.now c.args.reverse.now c.args.system.now.facts.now c.args.output.now c.run_named-dock.new.output _
    c.new-dock.result c.run_named-dock.result c.args.caller.now _ c.end.result c.run_named-dock.new.ran.live c.run_named-dock.new.ran.end
    c.run_named-dock.ensures.makes c.run_named-dock.ensures.runs (ap g.K.Caller.links c.new-dock.ensures.now) (c.new-dock.ensures.fixed.0 ∙ c.advert-advert.ensures.bytes) (search rules)
    c.new-dock.ensures.now c.new-dock.ensures.none.0 c.new-dock.ensures.none.1 (search rules) (search rules)
