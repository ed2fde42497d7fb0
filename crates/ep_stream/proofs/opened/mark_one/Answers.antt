use Rattle.std.proofs.Common.{◌≡◌, ◌<◌, ◌≤◌, List, length, subst, sym, ◌∙◌, arith, rules}
use Rattle.std.specs.Prelude.{slice_index_or}
use Rattle.std.specs.List.{insert}
use Rattle.std.specs.List.Sorted.{IsNonDecreasingBy}
use Rattle.std.proofs.lemmas.List.Sorted.{IsNonDecreasingBy-insert}
use Rattle.ep_defs.specs.declared.session.Marks.{Marks}
use Rattle.ep_stream.proofs.Ascending.{inserts_by}
use Rattle.ep_stream.proofs.opened.mark_one.Goals as goal

pub returns-clause-items : goal.returns-clause-items
returns-clause-items c =
    let xs = c.args.marks.now.items in
    let place = c.mark_place-place.result in
    let e = c.as_slice.ensures.value in
    let same : c.insert.new.self.items ≡ insert xs place c.args.mark = search rules in
    same
    ∙ inserts_by (λ (n : Marks). n.thread) c.args.mark xs place
    (subst (λ (ys : List Marks). place ≤ length ys) e c.mark_place-place.ensures.within)
    (λ k d small. subst (λ (ys : List Marks). (slice_index_or ys k d).thread ≤ c.args.mark.thread) e (c.mark_place-place.ensures.below k d small))
    (λ k d from small. subst (λ (ys : List Marks). c.args.mark.thread < (slice_index_or ys k d).thread) e (c.mark_place-place.ensures.others k d from (subst (λ (ys : List Marks). k < length ys) (sym e) small)))

pub returns-clause-rise : goal.returns-clause-rise
returns-clause-rise c =
    let xs = c.args.marks.now.items in
    let place = c.mark_place-place.result in
    let e = c.as_slice.ensures.value in
    let same : c.insert.new.self.items ≡ insert xs place c.args.mark = search rules in
    subst (λ (ys : List Marks). IsNonDecreasingBy (λ (n : Marks). n.thread) ys) (sym same)
    (IsNonDecreasingBy-insert (λ (n : Marks). n.thread) xs place c.args.mark c.requires.rise
    (subst (λ (ys : List Marks). place ≤ length ys) e c.mark_place-place.ensures.within)
    (λ k d small. subst (λ (ys : List Marks). (slice_index_or ys k d).thread ≤ c.args.mark.thread) e (c.mark_place-place.ensures.below k d small))
    (λ k d from small.
    let above = subst (λ (ys : List Marks). c.args.mark.thread < (slice_index_or ys k d).thread) e (c.mark_place-place.ensures.others k d from (subst (λ (ys : List Marks). k < length ys) (sym e) small)) in
    omega (arith, above)))
