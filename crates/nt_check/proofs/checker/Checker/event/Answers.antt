use Rattle.std.proofs.Common.{not, is_some, ◌∙◌, sym, ap, subst, Err}
use Rattle.pt_num.proofs.Steps.{ok_no_fault}
use Rattle.nt_blocks.specs.Ordered.{no_names}
use Rattle.nt_check.specs.declared.checker.CheckFault.TheVariants.{Bad}
use Rattle.nt_check.specs.Events.{event_item}
use Rattle.nt_check.specs.Faults.{disorder_of}
use Rattle.nt_blocks.specs.Seen.{seen_in}
use Rattle.nt_check.specs.state.Took.{Knows, names_at}
use Rattle.nt_check.specs.state.Counting.{after_all, numbers_in}
use Rattle.nt_check.proofs.Told.{told-refused, told-taken, names_at-more, memory-no-fault, fault-same, bad-same, disorder-same}
use Rattle.nt_check.proofs.Counted.{event-step, numbers_of-more}
use Rattle.nt_check.proofs.checker.Checker.event.Goals as goal

pub returns-in-Some-clause-refused : goal.returns-in-Some-clause-refused
returns-in-Some-clause-refused c = λ kinds took rest fault.
    let told = told-refused no_names kinds (event_item c.args.event.now rest) (disorder_of c.in-Some.fault) took.ordered (c.in-Some.ensures (names_at no_names kinds) took.names rest) in (
      λ is. told ∙ ap (λ kind. Err (disorder_of kind)) (bad-same c.in-Some.fault fault is),
      λ is. ap (λ kind. Err (Bad kind)) (fault-same c.in-Some.fault fault (disorder-same _ _ _ told is)),
    )

pub returns-in_err-first-clause-refused : goal.returns-in_err-first-clause-refused
returns-in_err-first-clause-refused c = λ kinds took rest fault.
    let fine = told-taken no_names kinds (event_item c.args.event.now rest) took.ordered (c.in_default.ensures (names_at no_names kinds) took.names rest) in
    (λ is. absurd (memory-no-fault _ fault c.from_residual.ensures.1 is), λ is. absurd (ok_no_fault _ _ fine is))

pub returns-clause-taken : goal.returns-clause-taken
returns-clause-taken c = λ kinds took rest.
    let event = event_item c.args.event.now rest in
    record {
      ordered = told-taken no_names kinds event took.ordered (c.in_default.ensures (names_at no_names kinds) took.names rest);
      names = subst (λ names. Knows names c.args.self.now.ids) (sym (names_at-more no_names kinds event)) took.names;
      numbers = λ thread.
          c.in_ok-first.ensures.ok thread
          ∙ event-step (numbers_in c.args.self.now.threads) c.args.event.now.capture thread c.args.event.now.number
          ∙ ap (λ numbers. after_all numbers (seen_in thread event)) (took.numbers thread)
          ∙ sym (numbers_of-more thread kinds event);
    }

pub returns-clause-first : goal.returns-clause-first
returns-clause-first c = λ kinds took.
    c.in_ok-first.ensures.first ∙ ap (λ numbers. not (is_some numbers)) (took.numbers c.args.event.now.capture)

pub returns-clause-refused : goal.returns-clause-refused
returns-clause-refused c = λ kinds took rest fault.
    let fine = told-taken no_names kinds (event_item c.args.event.now rest) took.ordered (c.in_default.ensures (names_at no_names kinds) took.names rest) in
    (λ is. absurd (cc), λ is. absurd (ok_no_fault _ _ fine is))
