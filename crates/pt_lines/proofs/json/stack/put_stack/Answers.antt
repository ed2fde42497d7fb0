use Rattle.std.proofs.Common.{List, ℕ, ◌++◌, ◌∙◌, ap, sym, subst, drop, take, false}
use Rattle.std.proofs.lemmas.List.{drop_min, take_min}
use Rattle.pt_lines.specs.Json.{address_text}
use Rattle.pt_lines.specs.state.Nest.{comma}
use Rattle.pt_lines.proofs.Frames.{Framing, framing-all, framing-more, is-empty, not-empty}
use Rattle.pt_lines.proofs.json.stack.put_stack.Goals as goal

pub loop-left-preserved : goal.loop-left-preserved
loop-left-preserved c =
    let left = c.loop-left.left.now in
    let first = c.loop-left.is_first in
    let out = c.loop-left.out.items in
    let front = c.split_at.ensures.front ∙ ap (λ (n : ℕ). take n left) c.min.ensures ∙ take_min c.args.width left in
    let back = c.split_at.ensures.back ∙ ap (λ (n : ℕ). drop n left) c.min.ensures ∙ drop_min c.args.width left in
    let put = c.in_ok-put_frame.ensures ∙ ap (λ (frame : List ℕ). out ++ comma first ++ address_text frame) front in
    subst (λ (rest : List ℕ). Framing c.args.width c.args.stack.now c.args.out.now.items rest false c.put_frame.new.out.items) (sym back)
    (framing-more c.args.width c.args.stack.now c.args.out.now.items left first out c.put_frame.new.out.items
    (not-empty left (sym c.is_empty.ensures ∙ c.loop-left-test.true)) c.loop-left.invariant put)

pub returns : goal.returns
returns c =
    let none = is-empty c.loop-left.left.now (sym c.is_empty.ensures ∙ c.loop-left-test.false) in
    framing-all c.args.width c.args.stack.now c.args.out.now.items c.loop-left.is_first c.loop-left.out.items c.push-2.new.self.items
    (subst (λ (left : List ℕ). Framing c.args.width c.args.stack.now c.args.out.now.items left c.loop-left.is_first c.loop-left.out.items) none c.loop-left.invariant)
    c.in_ok-push-2.ensures.items
