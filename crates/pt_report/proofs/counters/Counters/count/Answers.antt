use Rattle.std.proofs.Common.{ℕ, List, [], ◌∷◌, ◌++◌, map, Some, not, refl, ap, ◌∙◌, subst}
use Rattle.std.specs.Ordering.{nat_cmp}
use Rattle.std.specs.List.{flat_map}
use Rattle.nt_blocks.specs.Ordered.{no_names}
use Rattle.nt_check.specs.state.Took.{names_at}
use Rattle.pt_report.specs.declared.counters.Counters.{Counters}
use Rattle.pt_report.specs.Report.{used_stacks, threads_in}
use Rattle.pt_report.specs.state.Counts.{Counts}
use Rattle.pt_report.specs.state.Stacks.{ShowsStacks}
use Rattle.pt_report.proofs.Counted.{trace-new, trace-old, trace-shown, meta-shown, stack-shown, event-shown, point-shown}
use Rattle.pt_report.proofs.Steps.{on-ok}
use Rattle.pt_report.proofs.counters.Counters.count.Goals as goal

pub returns-then-is_none : goal.returns-then-is_none
returns-then-is_none c = λ kinds entries more h told.
    let old = c.args.self.now in
    let new : Counters = record { trace = Some c.in-Trace.info; totals = c.after-self.result; events = old.events; threads = old.threads; stacks = old.stacks } in
    let first = trace-new old.trace c.in-Trace.info (c.is_none.ensures ∙ ap not c.if-is_none.true) in
    rw c.in-Trace.is (trace-shown kinds entries more old new h c.in-Trace.info (rw c.in-Trace.is at told) first (rw c.in-Trace.is at c.after-self.ensures) refl refl refl)

pub returns-else-is_none : goal.returns-else-is_none
returns-else-is_none c = λ kinds entries more h told.
    let old = c.args.self.now in
    let new : Counters = record { trace = old.trace; totals = c.after-self.result; events = old.events; threads = old.threads; stacks = old.stacks } in
    let first = trace-old old.trace c.in-Trace.info (c.is_none.ensures ∙ ap not c.if-is_none.false) in
    rw c.in-Trace.is (trace-shown kinds entries more old new h c.in-Trace.info (rw c.in-Trace.is at told) first (rw c.in-Trace.is at c.after-self.ensures) refl refl refl)

pub returns-in-Meta : goal.returns-in-Meta
returns-in-Meta c =
    on-ok c.define.result (λ events. λ kinds entries more h told.
    let old = c.args.self.now in
    let new : Counters = record { trace = old.trace; totals = c.after-self.result; events = c.define.new.self; threads = old.threads; stacks = old.stacks } in
    rw c.in-Meta.is (meta-shown kinds entries more old new h c.in-Meta.id c.in-Meta.def (rw c.in-Meta.is at told) refl (rw c.in-Meta.is at c.after-self.ensures) (events _ _ _ h.events_are) refl refl))
    c.define.ensures

pub returns-in-Stack : goal.returns-in-Stack
returns-in-Stack c =
    on-ok c.define-in-Stack.result (λ stacks. λ kinds entries more h told.
    let old = c.args.self.now in
    let new : Counters = record { trace = old.trace; totals = c.after-self.result; events = old.events; threads = old.threads; stacks = c.define-in-Stack.new.self } in
    let shown = subst (λ (bytes : List ℕ). ShowsStacks (used_stacks entries) ((c.in-Stack.id, bytes) ∷ (names_at no_names kinds).stacks) c.define-in-Stack.new.self) c.as_slice.ensures (stacks _ _ h.stacks_are) in
    rw c.in-Stack.is (stack-shown kinds entries more old new h c.in-Stack.id c.in-Stack.bytes (rw c.in-Stack.is at told) refl (rw c.in-Stack.is at c.after-self.ensures) refl refl shown))
    c.define-in-Stack.ensures

pub returns-in_ok-count-in-Event : goal.returns-in_ok-count-in-Event
returns-in_ok-count-in-Event c = λ kinds entries more h told.
    let old = c.args.self.now in
    let e = c.in-Event in
    let new : Counters = record { trace = old.trace; totals = c.after-self.result; events = c.count-in-Event.new.self; threads = c.name.new.self; stacks = c.count.new.self } in
    rw e.is
    (event-shown kinds entries more old new h e.metadata e.number e.capture e.processor e.thread e.stack e.stamp e.activity e.related e.payload (rw e.is at told) refl (rw e.is at c.after-self.ensures)
    (λ def is. c.count-in-Event.ensures _ _ _ def h.events_are is)
    (c.in_ok-name-in-Event.ensures.ok _ _ h.threads_are)
    (λ bytes is. c.in_ok-count-in-Event.ensures _ _ bytes h.stacks_are is))

pub returns-in_ok-name_all-in-Point : goal.returns-in_ok-name_all-in-Point
returns-in_ok-name_all-in-Point c = λ kinds entries more h told.
    let old = c.args.self.now in
    let new : Counters = record { trace = old.trace; totals = c.after-self.result; events = old.events; threads = c.name_all.new.tally; stacks = c.clear.new.self } in
    let named = subst (λ (threads : List (ℕ × ℕ)). Counts nat_cmp (flat_map threads_in kinds ++ map (λ (thread : ℕ × ℕ). thread.0) threads) [] c.name_all.new.tally) c.as_slice-in-Point.ensures (c.in_ok-name_all-in-Point.ensures _ h.threads_are) in
    rw c.in-Point.is
    (point-shown kinds entries more old new h c.in-Point.stamp c.in-Point.threads (rw c.in-Point.is at told) refl (rw c.in-Point.is at c.after-self.ensures) refl named (c.clear.ensures _ _ h.stacks_are))
