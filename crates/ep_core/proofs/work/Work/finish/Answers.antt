use Rattle.std.proofs.Common.{sym, ◌∙◌, ⊎_elim}
use Rattle.std.proofs.Math.Logic.{∥∥₁_elim}
use Rattle.ep_core_laws.specs.Ends.{EndsNext}
use Rattle.ep_core.proofs.Working.{not_requested, tied_once}
use Rattle.ep_core.proofs.work.Work.finish.Goals as goal

pub finish-end-requires-clause-tied : goal.finish-end-requires-clause-tied
finish-end-requires-clause-tied c = tied_once c.requires.goes

pub unreachable-requires : goal.unreachable-requires
unreachable-requires c =
    let ended = c.finish-end.ensures.ended in
    ⊎_elim (λ requested. not_requested ended.ended.answer requested.0 (sym ended.ended.fate_is ∙ requested.1))
    (λ long. ∥∥₁_elim c.requires.goes (hlevel) (λ goes.
    c.stack_ids_suffice.ensures.end c.args.of.session c.args.stamp c.args.self.now.tables c.args.self.now.begun.items c.finish-end.result goes ended long))
    c.in-Requested.is

pub returns-in-ProgramEnd-clause-works : goal.returns-in-ProgramEnd-clause-works
returns-in-ProgramEnd-clause-works c =
    c.a_machine_follows_a_finish.ensures c.args.of.session c.args.stamp c.args.self.now.tables _ c.args.self.now.begun.items c.finish-end.ensures.made c.finish-end.ensures.tied

pub returns-in-ProgramEnd-clause-ended : goal.returns-in-ProgramEnd-clause-ended
returns-in-ProgramEnd-clause-ended c events info past before =
    let law = c.a_session_ends_with_its_entries.ensures in
    let next : EndsNext events info past c.args.of.session c.args.stamp c.finish-end.result = record {
      tables = c.args.self.now.tables;
      begun = c.args.self.now.begun.items;
      before = before;
      ended = c.finish-end.ensures.ended;
    } in
    record {
      finished = c.a_finished_session_stays.ensures.ended c.args.of.session c.args.stamp past;
      canonical = law.stream events info past c.args.of.session c.args.stamp c.finish-end.result next c.in-ProgramEnd.is;
      marks_are = law.marks events info past c.args.of.session c.args.stamp c.finish-end.result next;
    }
