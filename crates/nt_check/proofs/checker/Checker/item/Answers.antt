use Rattle.std.proofs.Common.{◌∙◌, sym, ap, subst, Err}
use Rattle.pt_num.proofs.Steps.{ok_no_fault}
use Rattle.nt_blocks.specs.Ordered.{no_names}
use Rattle.nt_check.specs.declared.checker.CheckFault.TheVariants.{Bad}
use Rattle.nt_check.specs.Faults.{disorder_of}
use Rattle.nt_blocks.specs.Seen.{seen_in}
use Rattle.nt_check.specs.state.Took.{Knows, names_at}
use Rattle.nt_check.specs.state.Counting.{after_all}
use Rattle.nt_check.proofs.Told.{told-refused, told-taken, names_at-more, memory-no-fault, fault-same, bad-same, disorder-same}
use Rattle.nt_check.proofs.Counted.{numbers_of-more}
use Rattle.nt_check.proofs.checker.Checker.item.Goals as goal

pub returns-in-Some-clause-refused : goal.returns-in-Some-clause-refused
returns-in-Some-clause-refused c = λ kinds took fault.
    let told = told-refused no_names kinds c.args.kind.now (disorder_of c.in-Some.fault) took.ordered (c.in-Some.ensures (names_at no_names kinds) took.names) in (
      λ is. told ∙ ap (λ kind. Err (disorder_of kind)) (bad-same c.in-Some.fault fault is),
      λ is. ap (λ kind. Err (Bad kind)) (fault-same c.in-Some.fault fault (disorder-same _ _ _ told is)),
    )

pub returns-in_err-make_room-clause-refused : goal.returns-in_err-make_room-clause-refused
returns-in_err-make_room-clause-refused c = λ kinds took fault.
    let fine = told-taken no_names kinds c.args.kind.now took.ordered (c.in_default.ensures (names_at no_names kinds) took.names) in
    (λ is. absurd (memory-no-fault _ fault c.from_residual.ensures.1 is), λ is. absurd (ok_no_fault _ _ fine is))

pub returns-in_err-define-clause-refused : goal.returns-in_err-define-clause-refused
returns-in_err-define-clause-refused c = λ kinds took fault.
    let fine = told-taken no_names kinds c.args.kind.now took.ordered (c.in_default.ensures (names_at no_names kinds) took.names) in
    (λ is. absurd (memory-no-fault _ fault c.from_residual-in_err-define.ensures.1 is), λ is. absurd (ok_no_fault _ _ fine is))

pub returns-clause-taken : goal.returns-clause-taken
returns-clause-taken c = λ kinds took.
    record {
      ordered = told-taken no_names kinds c.args.kind.now took.ordered (c.in_default.ensures (names_at no_names kinds) took.names);
      names = subst (λ names. Knows names c.define.new.self) (sym (names_at-more no_names kinds c.args.kind.now)) (c.in_ok-define.ensures.ok (names_at no_names kinds) took.names);
      numbers = λ thread. c.see.ensures thread ∙ ap (λ numbers. after_all numbers (seen_in thread c.args.kind.now)) (c.in_ok-make_room.ensures.same thread ∙ took.numbers thread) ∙ sym (numbers_of-more thread kinds c.args.kind.now);
    }

pub returns-clause-refused : goal.returns-clause-refused
returns-clause-refused c = λ kinds took fault.
    let fine = told-taken no_names kinds c.args.kind.now took.ordered (c.in_default.ensures (names_at no_names kinds) took.names) in
    (λ is. absurd (cc), λ is. absurd (ok_no_fault _ _ fine is))
