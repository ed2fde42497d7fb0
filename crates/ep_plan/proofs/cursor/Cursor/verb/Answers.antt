use Rattle.std.proofs.Common.{ℕ, List, subst}
use Rattle.ep_plan.specs.Cursor.{TookWord}
use Rattle.ep_plan.proofs.cursor.Cursor.verb.Goals as goal

pub returns-in-Some : goal.returns-in-Some
returns-in-Some c =
    let found = c.in-Some.ensures in
    let Takes : List ℕ → Type 0 = λ word. TookWord c.args.self.now c.pass.new.self word in
    subst Takes found.1 (c.pass.ensures found.0)
