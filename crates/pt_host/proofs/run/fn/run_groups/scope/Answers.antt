use Rattle.std.proofs.Common.{◌∙◌, ap}
use Rattle.ep_registry.specs.Registered.{ServerHalf}
use Rattle.pt_host.proofs.Ran.{served-by}
use Rattle.pt_host.proofs.run.fn.run_groups.scope.Goals as goal

pub serve_on-held-requires-clause-open : goal.serve_on-held-requires-clause-open
serve_on-held-requires-clause-open g c κs within =
    c.serve_until_ready-held.ensures.turned.goes.left ∙ ap (λ (h : ServerHalf). h.left) c.requires.0

pub serve_on-held-requires-clause-greeting : goal.serve_on-held-requires-clause-greeting
serve_on-held-requires-clause-greeting g c κs within = c.serve_until_ready-held.ensures.turned.greets ∙ c.requires.2

pub returns : goal.returns
returns g c = record {
  same = c.serve_on-held.ensures.same ∙ c.serve_until_ready-held.ensures.same;
  served = served-by g.D.Dock g.L.Sink.read_side g.L.Source.write_side g.W.Process.facts g.W.Process.greeting _ _ _ _ _ _ _ _ _ _ _ c.requires.0 c.serve_until_ready-held.ensures.turned c.serve_until_ready-held.ensures.enough c.serve_on-held.ensures.turned c.close-server.ensures.server c.close-server.ensures.told;
  none = tt;
}
