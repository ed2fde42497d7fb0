use Rattle.std.proofs.Common.{◌≡◌, ◌<◌, ◌≤◌, List, length, subst, sym, ◌∙◌, arith, rules}
use Rattle.std.specs.Prelude.{slice_index_or}
use Rattle.std.specs.List.{insert}
use Rattle.std.specs.List.Sorted.{IsNonDecreasingBy}
use Rattle.std.proofs.lemmas.List.Sorted.{IsNonDecreasingBy-insert}
use Rattle.ep_stream.specs.declared.opened.Named.{Named}
use Rattle.ep_stream.proofs.Ascending.{inserts_by}
use Rattle.ep_stream.proofs.opened.name_one.Goals as goal

pub returns-clause-items : goal.returns-clause-items
returns-clause-items c =
    let xs = c.args.named.now.items in
    let place = c.place_behind-place.result in
    let e = c.as_slice.ensures.value in
    let same : c.insert.new.self.items ≡ insert xs place c.args.name = search rules in
    same
    ∙ inserts_by (λ (n : Named). n.thread) c.args.name xs place
    (subst (λ (ys : List Named). place ≤ length ys) e c.place_behind-place.ensures.within)
    (λ k d small. subst (λ (ys : List Named). (slice_index_or ys k d).thread ≤ c.args.name.thread) e (c.place_behind-place.ensures.below k d small))
    (λ k d from small. subst (λ (ys : List Named). c.args.name.thread < (slice_index_or ys k d).thread) e (c.place_behind-place.ensures.others k d from (subst (λ (ys : List Named). k < length ys) (sym e) small)))

pub returns-clause-rise : goal.returns-clause-rise
returns-clause-rise c =
    let xs = c.args.named.now.items in
    let place = c.place_behind-place.result in
    let e = c.as_slice.ensures.value in
    let same : c.insert.new.self.items ≡ insert xs place c.args.name = search rules in
    subst (λ (ys : List Named). IsNonDecreasingBy (λ (n : Named). n.thread) ys) (sym same)
    (IsNonDecreasingBy-insert (λ (n : Named). n.thread) xs place c.args.name c.requires.rise
    (subst (λ (ys : List Named). place ≤ length ys) e c.place_behind-place.ensures.within)
    (λ k d small. subst (λ (ys : List Named). (slice_index_or ys k d).thread ≤ c.args.name.thread) e (c.place_behind-place.ensures.below k d small))
    (λ k d from small.
    let above = subst (λ (ys : List Named). c.args.name.thread < (slice_index_or ys k d).thread) e (c.place_behind-place.ensures.others k d from (subst (λ (ys : List Named). k < length ys) (sym e) small)) in
    omega (arith, above)))
