use Rattle.std.proofs.Common.{◌≡◌, ◌++◌, ◌∷◌, [], List, ℕ, Option, Some, cond, eqb, length, refl, sym, ap, ◌∙◌, subst}
use Rattle.std.specs.Cmp.Lexicographic.{slice_cmp}
use Rattle.std.specs.Ordering.{nat_cmp}
use Rattle.std.specs.BTreeMap.{get}
use Rattle.nt_check.specs.state.Ids.{value_at}
use Rattle.pt_report.specs.declared.stacks.Stacks.{Stacks}
use Rattle.pt_report.specs.Report.{stack_in}
use Rattle.pt_report.proofs.Steps.{some-stack}
use Rattle.pt_report.proofs.Used.{used-first}
use Rattle.pt_report.proofs.stacks.Stacks.count_first.Goals as goal

pub returns : goal.returns
returns c = λ uses named bytes h is.
    let old = c.args.self.now in
    let new : Stacks = record { stacks = old.stacks; places = c.insert.new.self; uses = c.count.new.self } in
    let stack = c.in-Some.stack.now in
    let stack-is : stack ≡ bytes =
    let both : ◌≡◌ {A = Option (List ℕ)} (Some stack) (Some bytes) = sym c.in-Some.ensures ∙ ap (value_at old.stacks) c.from.ensures ∙ h.found c.args.id ∙ is in cc in
    let key = c.in_ok-copy.field-0 in
    let key-is : key ≡ bytes = c.in_ok-copy.ensures ∙ stack-is in
    let some : stack_in bytes ≡ bytes ∷ [] = some-stack bytes (ap (λ (b : List ℕ). eqb (length b) 0) (sym stack-is ∙ sym c.as_slice.ensures) ∙ sym c.is_empty.ensures ∙ c.if-is_empty.false) in
    let place-put : (q : ℕ) → value_at new.places q ≡ cond (eqb c.args.id q) (Some (Some c.in_ok-place.place)) (value_at old.places q) =
    λ q. subst (λ (i : ℕ). value_at new.places q ≡ cond (eqb i q) (Some (Some c.in_ok-place.place)) (value_at old.places q)) c.from-2.ensures (c.in_ok-insert.ensures.ok q) in
    used-first c.args.id c.in_ok-place.place key bytes uses named old new h key-is is some (λ q. refl) place-put
    (λ name place e. ap (λ m. get (slice_cmp nat_cmp) m name) c.count.ensures.places ∙ c.in_ok-place.ensures.kept name place e)
    (ap (λ m. get (slice_cmp nat_cmp) m key) c.count.ensures.places ∙ c.in_ok-place.ensures.place)
    (c.count.ensures.counted (uses ++ key ∷ []) uses key (c.in_ok-place.ensures.ok uses uses h.counted) c.in_ok-place.ensures.place)
