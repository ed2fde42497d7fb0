-- One item more.
use Rattle.std.proofs.Common.{[], refl, sym}
use Rattle.std.proofs.lemmas.Result.{on_ok_weaker}
use Rattle.ep_defs.specs.declared.item.ItemKind.TheVariants as item
use Rattle.nt_blocks.specs.Ordered.{no_names, tell}
use Rattle.nt_check.specs.Faults.{disorder_of}
use Rattle.nt_check.specs.state.Took.{names_at}
use Rattle.pt_lines.specs.Forms.{AreLines}
use Rattle.pt_lines.proofs.Steps.{nothing}
use Rattle.pt_events.proofs.Items.{listed-quiet, refused-kind, told-none}
use Rattle.pt_events.proofs.listing.Listing.item.Goals as goal

pub returns-in-Trace-clause-listed : goal.returns-in-Trace-clause-listed
returns-in-Trace-clause-listed c = λ kinds had.
    rw c.in-Trace.is (listed-quiet kinds (item.Trace c.in-Trace.info) c.args.self.now _ refl had refl had.names refl refl)

pub returns-in-Trace-clause-lines : goal.returns-in-Trace-clause-lines
returns-in-Trace-clause-lines c = λ kinds had. rw c.in-Trace.is (nothing (AreLines c.args.form []) c.args.out.now.items refl)

pub returns-in-Meta-clause-listed : goal.returns-in-Meta-clause-listed
returns-in-Meta-clause-listed c = λ kinds had.
    let kind = item.Meta c.in-Meta.id c.in-Meta.def in
    rw c.in-Meta.is
    (on_ok_weaker c.define.result (λ new. listed-quiet kinds kind c.args.self.now _ refl had (told-none (tell (names_at no_names kinds) kind) new.0) new.1 refl refl)
    (c.define.ensures.defined (names_at no_names kinds) had.names))

pub returns-in-Meta-clause-lines : goal.returns-in-Meta-clause-lines
returns-in-Meta-clause-lines c = λ kinds had.
    rw c.in-Meta.is
    (on_ok_weaker c.define.result (λ new. nothing (AreLines c.args.form []) c.args.out.now.items refl) (c.define.ensures.defined (names_at no_names kinds) had.names))

pub returns-in-Meta-clause-refused : goal.returns-in-Meta-clause-refused
returns-in-Meta-clause-refused c = λ kinds had fault is.
    rw c.in-Meta.is
    (refused-kind kinds (item.Meta c.in-Meta.id c.in-Meta.def) c.args.self.now (disorder_of fault) had (c.define.ensures.refused (names_at no_names kinds) had.names fault is))

pub returns-in-Stack-clause-listed : goal.returns-in-Stack-clause-listed
returns-in-Stack-clause-listed c = λ kinds had.
    let kind = item.Stack c.in-Stack.id c.in-Stack.bytes in
    rw c.in-Stack.is
    (on_ok_weaker c.define_stack.result (λ new. listed-quiet kinds kind c.args.self.now _ refl had (told-none (tell (names_at no_names kinds) kind) new.0) new.1 refl refl)
    (c.define_stack.ensures.defined (names_at no_names kinds) had.names))

pub returns-in-Stack-clause-lines : goal.returns-in-Stack-clause-lines
returns-in-Stack-clause-lines c = λ kinds had.
    rw c.in-Stack.is
    (on_ok_weaker c.define_stack.result (λ new. nothing (AreLines c.args.form []) c.args.out.now.items refl) (c.define_stack.ensures.defined (names_at no_names kinds) had.names))

pub returns-in-Stack-clause-refused : goal.returns-in-Stack-clause-refused
returns-in-Stack-clause-refused c = λ kinds had fault is.
    rw c.in-Stack.is
    (refused-kind kinds (item.Stack c.in-Stack.id c.in-Stack.bytes) c.args.self.now (disorder_of fault) had (c.define_stack.ensures.refused (names_at no_names kinds) had.names fault is))

pub returns-in-Event-clause-listed : goal.returns-in-Event-clause-listed
returns-in-Event-clause-listed c = λ kinds had. rw (c.in-Event.is, sym c.as_slice.ensures) (c.event.ensures.listed kinds had)

pub returns-in-Event-clause-lines : goal.returns-in-Event-clause-lines
returns-in-Event-clause-lines c = λ kinds had. rw (c.in-Event.is, sym c.as_slice.ensures) (c.event.ensures.lines kinds had)

pub returns-in-Event-clause-refused : goal.returns-in-Event-clause-refused
returns-in-Event-clause-refused c = λ kinds had fault is.
    rw (c.in-Event.is, sym c.as_slice.ensures) (c.event.ensures.refused kinds had fault is)

pub returns-in-Point-clause-lines : goal.returns-in-Point-clause-lines
returns-in-Point-clause-lines c = λ kinds had.
    rw (c.in-Point.is, sym c.as_slice-in-Point.ensures) (c.point.ensures.lines kinds had)
