-- The text is that of the stack, of which a copy is kept.
use Rattle.std.proofs.Common.{List, ℕ, sym, ◌∙◌, subst}
use Rattle.pt_lines.specs.state.Opening.{IsStackOpened}
use Rattle.pt_lines.proofs.json.stack.ShownStack.new.Goals as goal

pub invariant_of-result : goal.invariant_of-result
invariant_of-result c = λ some.
    subst (λ (bytes : List ℕ). IsStackOpened c.text_width-width.result bytes c.put_text.new.text.items) (c.as_slice.ensures ∙ sym c.in_ok-bytes.ensures) (c.in_ok-put_text.ensures some)
