use Rattle.std.proofs.Common.{◌≡◌, ◌∙◌, ℕ, ◌+◌, false, Some, ap, sym, arith, rules}
use Rattle.ep_row.specs.Row.{RowState}
use Rattle.ep_tie.specs.Tied.{Tied}
use Rattle.ep_guarded.specs.declared.agreed.Agreed.TheVariants as agreed
use Rattle.ep_guarded.specs.Tied.{left_in}
use Rattle.ep_guarded.proofs.Resting.{leaving}
use Rattle.ep_guarded.proofs.Lives.{row-entered, few-lives}
use Rattle.ep_guarded.proofs.row.TiedRow.enter.Goals as goal

pub overflow_add-self : goal.overflow_add-self
overflow_add-self g c =
    let here = leaving c.self.inside.row _ (sym c.meet.ensures.equal ∙ c.self.invariant.stands) c.requires.left in
    let few = c.requires.few _ (ap left_in here.1) in
    let lives = few-lives g.P.Program.rows c.self.inside.writer.place c.self.inside.life c.requires.rows.1 in
    omega (arith, few, lives, c.self.invariant.thread_is, c.requires.rows.1)

pub invariant_of-self-2 : goal.invariant_of-self-2
invariant_of-self-2 g c =
    let old : RowState = c.self.inside.row in
    let next : c.thread.result + c.from.result ≡ old.thread + g.P.Program.rows = omega (arith, c.thread.ensures, c.from.ensures, c.requires.rows.0) in
    row-entered _ _ _ _ c.self.inside.row c.enter.new.self _ c.self.inside.writer c.set.new.self c.self.invariant c.enter.ensures.rest
    (c.enter.ensures.row ∙ ap (λ (t : ℕ). record old { thread = t; index = 0; left = false }) next)
    (c.is_free.ensures.0 (search (c.if-not-is_free, rules)))
    (c.set.ensures.place.0 ∙ ap (λ (t : Tied _). t.place) c.meet.ensures.same.0)
    (c.set.ensures.value.0 ∙ ap (λ (t : ℕ). Some (agreed.Stand (record { thread = t; index = 0 }))) next)
