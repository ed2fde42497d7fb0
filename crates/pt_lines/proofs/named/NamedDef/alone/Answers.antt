-- It is that of the definition.
use Rattle.std.proofs.Common.{ap, ◌∙◌}
use Rattle.pt_lines.specs.state.Pieces.{alone_text}
use Rattle.pt_lines.proofs.named.NamedDef.alone.Goals as goal

pub returns : goal.returns
returns c = c.as_slice.ensures.value ∙ c.self.invariant.3 ∙ ap alone_text c.self.view_is
