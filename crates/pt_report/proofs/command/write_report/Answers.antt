-- What was read is judged by its bytes.
use Rattle.std.proofs.Common.{◌≡◌, Err, refl, sym, subst, ap}
use Rattle.pt_command.specs.declared.end.End.TheVariants as ends
use Rattle.pt_command.proofs.Answering.{answered, unanswered, no-refusal, no-done}
use Rattle.pt_report.specs.Command.{IsError}
use Rattle.pt_report.specs.Found.{IsWhole, IsReported}
use Rattle.pt_report.proofs.Whole.{reported-whole, flaw-not_whole}
use Rattle.pt_report.proofs.command.write_report.Goals as goal

pub returns-in-Ok : goal.returns-in-Ok
returns-in-Ok g c =
    let read = c.in-Ok.ensures.all in
    let answers =
    answered g.I.Source g.O.Sink IsReported IsError c.args.input.now c.read_all.new.input c.args.output.now c.answer.new.output read.0 c.answer.result
    read.2 (c.in-Ok.ensures.read (λ is. cc)) (c.answer.ensures read.0 read.1) in
    record {
      answers = answers;
      whole = λ tells whole at refused.
          let text = answers.refused at refused in
          let refusal = text.1.is_text.0 in
          flaw-not_whole text.1.bytes refusal.at refusal.flaw text.1.is_text.1 (subst IsWhole (text.1.read.told tells).0 whole);
      not_whole = λ tells none done.
          let text = answers.done done in
          none (subst IsWhole (sym (text.1.read.told tells).0) (reported-whole text.1.bytes text.0 text.1.is_text));
    }

pub returns : goal.returns
returns g c =
    let answers =
    unanswered g.I.Source g.O.Sink IsReported IsError c.args.input.now c.read_all.new.input c.args.output.now c.args.output.now c.in-Err.end
    c.in-Err.ensures.end (λ is. c.in-Err.ensures.fault (ap Err is)) (λ other. c.in-Err.ensures.read (λ is. other (let same : c.in-Err.end ≡ ends.ReadFault = cc in same))) refl in
    record {
      answers = answers;
      whole = λ tells whole at refused. no-refusal c.in-Err.end at c.in-Err.ensures.end refused;
      not_whole = λ tells none done. no-done c.in-Err.end c.in-Err.ensures.end done;
    }
