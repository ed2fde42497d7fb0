use Rattle.std.proofs.Common.{◌≡◌, ℕ, List, [], ◌∷◌, ◌++◌, sym, ap, ◌∙◌, append_assoc}
use Rattle.std.proofs.lemmas.List.{append-nil}
use Rattle.std.proofs.lemmas.Map.Iter.{rest_all, rest_more}
use Rattle.std.specs.Map.Iter.{deref}
use Rattle.std.specs.List.{flat_map}
use Rattle.std.specs.Cmp.Lexicographic.{slice_cmp}
use Rattle.std.specs.Ordering.{nat_cmp}
use Rattle.pt_report.specs.Order.{uses_of}
use Rattle.pt_report.specs.Report.{stack_line}
use Rattle.pt_report.proofs.lines.put_stacks.Goals as goal

pub loop-stack-preserved : goal.loop-stack-preserved
loop-stack-preserved c = λ names uses h.
    let lines : List ℕ → List ℕ = λ (key : List ℕ). stack_line key (uses_of (slice_cmp nat_cmp) uses key) in
    let rest : c.loop-stack.stack-iterator ≡ c.in-Some.stack.now ∷ c.next.new.self = rest_more deref _ _ _ _ c.in-Some.is c.next.ensures.steps in
    let put : stack_line c.as_slice.result.now c.uses.result ≡ lines c.in-Some.stack.now =
    ap (λ (key : List ℕ). stack_line key c.uses.result) c.as_slice.ensures ∙ ap (stack_line c.in-Some.stack.now) (c.uses.ensures names uses h) in
    ap (λ (out : List ℕ). out ++ flat_map lines c.next.new.self) (c.in_ok-put_stack.ensures ∙ ap (λ (l : List ℕ). c.loop-stack.out.items ++ l) put)
    ∙ append_assoc c.loop-stack.out.items (lines c.in-Some.stack.now) (flat_map lines c.next.new.self)
    ∙ ap (λ (left : List (List ℕ)). c.loop-stack.out.items ++ flat_map lines left) (sym rest)
    ∙ c.loop-stack.invariant names uses h

pub returns : goal.returns
returns c = λ names uses h.
    let lines : List ℕ → List ℕ = λ (key : List ℕ). stack_line key (uses_of (slice_cmp nat_cmp) uses key) in
    let none : c.loop-stack.stack-iterator ≡ [] = rest_all deref _ _ _ c.in-None.is c.next.ensures.steps in
    sym (append-nil c.loop-stack.out.items)
    ∙ ap (λ (left : List (List ℕ)). c.loop-stack.out.items ++ flat_map lines left) (sym none)
    ∙ c.loop-stack.invariant names uses h
    ∙ ap (λ (keys : List (List ℕ)). c.args.out.now.items ++ flat_map lines keys) h.ordered
