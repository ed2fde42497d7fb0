-- What was read is judged by its bytes.
use Rattle.std.proofs.Common.{◌≡◌, Err, refl, ap}
use Rattle.pt_command.specs.declared.end.End.TheVariants as ends
use Rattle.pt_command.proofs.Answering.{answered, unanswered, no-refusal, no-done}
use Rattle.pt_replay.specs.Command.{IsErrorAt}
use Rattle.pt_replay.specs.Replay.{IsReplayed}
use Rattle.pt_replay.proofs.Answering.{replayed-not_refused, replayed-not_unfinished, error-not_finished}
use Rattle.pt_replay.proofs.command.replay.Goals as goal

pub returns-in-Ok : goal.returns-in-Ok
returns-in-Ok g c =
    let source = g.I.Source in
    let session = c.args.session in
    let law = c.a_text_has_one_outcome.ensures in
    let read = c.in-Ok.ensures.all in
    let left = source.left c.args.input.now in
    let answers = answered source g.O.Sink (IsReplayed session) (IsErrorAt session) c.args.input.now c.judge.new.input c.args.output.now c.answer.new.output read.0 c.answer.result
    read.2 (c.in-Ok.ensures.read (λ is. cc)) (c.answer.ensures read.0 read.1) in
    record {
      answers = answers;
      refused_exactly = λ refusal tells refused done.
          let text = answers.done done in
          replayed-not_refused law.one_schedule law.not_both session text.1.bytes left text.0 refusal (text.1.read.told tells).0 text.1.is_text refused;
      unfinished = λ tells unfinished done.
          let text = answers.done done in
          replayed-not_unfinished law.one_schedule law.not_both session text.1.bytes left text.0 (text.1.read.told tells).0 text.1.is_text unfinished;
      taken = λ tells finishes at refused.
          let text = answers.refused at refused in
          error-not_finished law.one_schedule law.not_both session text.1.bytes left text.0 (text.1.read.told tells).0 text.1.is_text.1 finishes;
    }

pub returns-in-Err : goal.returns-in-Err
returns-in-Err g c =
    let session = c.args.session in
    let answers =
    unanswered g.I.Source g.O.Sink (IsReplayed session) (IsErrorAt session) c.args.input.now c.judge.new.input c.args.output.now c.args.output.now c.in-Err.end
    c.in-Err.ensures.end (λ is. c.in-Err.ensures.fault (ap Err is)) (λ other. c.in-Err.ensures.read (λ is. other (let same : c.in-Err.end ≡ ends.ReadFault = cc in same))) refl in
    record {
      answers = answers;
      refused_exactly = λ refusal tells refused done. no-done c.in-Err.end c.in-Err.ensures.end done;
      unfinished = λ tells unfinished done. no-done c.in-Err.end c.in-Err.ensures.end done;
      taken = λ tells finishes at refused. no-refusal c.in-Err.end at c.in-Err.ensures.end refused;
    }
