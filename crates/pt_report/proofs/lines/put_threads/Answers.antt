use Rattle.std.proofs.Common.{◌≡◌, ℕ, List, ◌∷◌, ◌++◌, sym, ap, ◌∙◌, append_assoc}
use Rattle.std.proofs.lemmas.Map.Iter.{rest_more}
use Rattle.std.specs.Map.Iter.{deref}
use Rattle.std.specs.List.{flat_map}
use Rattle.nt_check.specs.Numbers.{numbers_of}
use Rattle.pt_report.specs.Report.{thread_line, numbers_line}
use Rattle.pt_report.proofs.lines.put_threads.Goals as goal

pub loop-thread-preserved-in-Continue-1 : goal.loop-thread-preserved-in-Continue-1
loop-thread-preserved-in-Continue-1 c = λ kinds took.
    let lines : ℕ → List ℕ = λ (thread : ℕ). numbers_line thread (numbers_of thread kinds) in
    let rest : c.loop-thread.thread-iterator ≡ c.in-Some.thread.now ∷ c.next.new.self = rest_more deref _ _ _ _ c.in-Some.is c.next.ensures.steps in
    let line : thread_line c.in-Some.thread.now c.in-Some-gaps.numbers ≡ lines c.in-Some.thread.now = ap (numbers_line c.in-Some.thread.now) (c.in-Some-gaps.ensures kinds took) in
    ap (λ (out : List ℕ). out ++ flat_map lines c.next.new.self) (c.in_ok-put_thread.ensures ∙ ap (λ (l : List ℕ). c.loop-thread.out.items ++ l) line)
    ∙ append_assoc c.loop-thread.out.items (lines c.in-Some.thread.now) (flat_map lines c.next.new.self)
    ∙ ap (λ (left : List ℕ). c.loop-thread.out.items ++ flat_map lines left) (sym rest)
    ∙ c.loop-thread.invariant kinds took
