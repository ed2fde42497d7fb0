use Rattle.std.proofs.Common.{◌≡◌, ℕ, ◌+◌, List, Option, Some, None, cond, eqb, ap, sym, ◌∙◌, arith}
use Rattle.std.proofs.lemmas.Bool.{lt-ltb}
use Rattle.std.specs.BTreeSet.{keys}
use Rattle.std.specs.Prelude.{unwrap_or}
use Rattle.nt_check.specs.declared.by_id.ById.{ById}
use Rattle.nt_check.specs.state.Ids.{value_at}
use Rattle.tp_c.specs.Counting.{told_of, thread_refused}
use Rattle.tp_c.specs.Listed.{count_at, listed}
use Rattle.tp_c.proofs.Listings.{told-some, told-set, is-there, listed-ascends}
use Rattle.tp_c.proofs.threads.Threads.count.Goals as goal

pub returns-in-Some-clause-refused : goal.returns-in-Some-clause-refused
returns-in-Some-clause-refused c refusal is =
    let told = told-some (value_at c.self.inside.counts) (keys c.self.inside.threads) c.args.self.now c.args.thread c.self.view_is c.self.invariant.2 c.in-Some.ensures.some in
    grind arith

pub returns-in-Some-clause-number : goal.returns-in-Some-clause-number
returns-in-Some-clause-number c =
    let told = told-some (value_at c.self.inside.counts) (keys c.self.inside.threads) c.args.self.now c.args.thread c.self.view_is c.self.invariant.2 c.in-Some.ensures.some in
    c.in-Some.ensures.number ∙ ap (λ (o : Option ℕ). unwrap_or o 0 + 1) (sym told)

pub returns-in-Some-clause-counted : goal.returns-in-Some-clause-counted
returns-in-Some-clause-counted c = λ other.
    let old = value_at c.self.inside.counts in
    let threads = keys c.self.inside.threads in
    let seen = c.args.self.now in
    let thread = c.args.thread in
    let told = told-some old threads seen thread c.self.view_is c.self.invariant.2 c.in-Some.ensures.some in
    let there = is-there thread threads (c.self.invariant.2 thread ∙ lt-ltb 0 (count_at old thread) c.in-Some.ensures.some) in
    told-set old (value_at c.one_more.new.counts) threads threads seen thread c.in-Some.number c.self.view_is c.in-Some.ensures.put there other
    ∙ ap (λ (n : ℕ). cond (eqb thread other) (Some n) (told_of other seen)) (c.in-Some.ensures.number ∙ ap (λ (o : Option ℕ). unwrap_or o 0 + 1) (sym told))

pub returns-in-Some-clause-ascending : goal.returns-in-Some-clause-ascending
returns-in-Some-clause-ascending c = listed-ascends (value_at c.one_more.new.counts) (keys c.self.inside.threads) c.self.invariant.1

pub returns-then-count-eq0-clause-refused : goal.returns-then-count-eq0-clause-refused
returns-then-count-eq0-clause-refused c refusal is =
    let none : c.one_more.result ≡ None = grind arith in
    let same = ap (λ (counts : ById ℕ). thread_refused (listed (value_at counts) (keys c.self.inside.threads)) c.args.thread) (c.one_more.ensures.same none) in
    c.enter.ensures.refused refusal (same ∙ ap (λ (seen : List (ℕ × ℕ)). thread_refused seen c.args.thread) c.self.view_is ∙ is)

pub returns-then-count-eq0-clause-memory : goal.returns-then-count-eq0-clause-memory
returns-then-count-eq0-clause-memory c refusal is refused =
    let none : c.one_more.result ≡ None = grind arith in
    let same = ap (λ (counts : ById ℕ). thread_refused (listed (value_at counts) (keys c.self.inside.threads)) c.args.thread) (c.one_more.ensures.same none) in
    c.enter.ensures.memory refusal (same ∙ ap (λ (seen : List (ℕ × ℕ)). thread_refused seen c.args.thread) c.self.view_is ∙ is) refused
