use Rattle.std.proofs.Common.{◌≡◌, ℕ, ◌+◌, List, [], ◌∷◌, ◌++◌, map, take, get_or, sym, ap, ◌∙◌, subst, add-one, append_assoc}
use Rattle.std.proofs.Math.Seq.{take-suc}
use Rattle.std.proofs.lemmas.List.{map-append}
use Rattle.std.specs.Ordering.{nat_cmp}
use Rattle.pt_report.specs.state.Counts.{Counts}
use Rattle.pt_report.proofs.counters.name_all.Goals as goal

pub loop-thread-preserved : goal.loop-thread-preserved
loop-thread-preserved c = λ names h.
    let pairs = c.args.threads.now in
    let count = c.loop-thread.thread-index in
    let more : take (count + 1) pairs ≡ take count pairs ++ get_or pairs count (0, 0) ∷ [] = rw add-one (take-suc pairs count (0, 0) c.loop-thread-test.true) in
    let all : names ++ map (λ (t : ℕ × ℕ). t.0) (take (count + 1) pairs) ≡ (names ++ map (λ (t : ℕ × ℕ). t.0) (take count pairs)) ++ (get_or pairs count (0, 0)).0 ∷ [] =
    ap (λ (first : List (ℕ × ℕ)). names ++ map (λ (t : ℕ × ℕ). t.0) first) more
    ∙ ap (λ (ids : List ℕ). names ++ ids) (map-append (λ (t : ℕ × ℕ). t.0) (take count pairs) (get_or pairs count (0, 0) ∷ []))
    ∙ sym (append_assoc names (map (λ (t : ℕ × ℕ). t.0) (take count pairs)) ((get_or pairs count (0, 0)).0 ∷ [])) in
    subst (λ (ids : List ℕ). Counts nat_cmp ids [] c.name.new.self) (sym all) (c.in_ok-name.ensures.ok (names ++ map (λ (t : ℕ × ℕ). t.0) (take count pairs)) [] (c.loop-thread.invariant names h))
