-- What the peer said is answered, and the peer is the one that was called.
use Rattle.std.proofs.Common.{◌≡◌, ◌++◌, [], ℕ, List, Err, IsTrue, refl, rules, sym, ap, subst, ◌∙◌, inl}
use Rattle.pt_client.specs.Answers.{IsAnsweredTo}
use Rattle.pt_client.proofs.InVain.{answer-in-vain}
use Rattle.pt_client.proofs.calling.client.Goals as goal

pub returns-in-Ok-ask-clause-asks : goal.returns-in-Ok-ask-clause-asks
returns-in-Ok-ask-clause-asks g c =
    record {
      answered = search rules;
      peer_line = λ code is. absurd (cc);
      reply_line = λ at is. absurd (cc);
      target = record { fresh = c.in-Ok.link; leads = search rules; told = search rules; whole = search rules };
      asked = λ done. (c.ask.new.link, refl, search rules);
      asked_part = search rules;
      called = search rules;
      uncalled = tt;
      link_fault = λ is. absurd (cc);
      sound = search rules;
      write_fault = λ is. absurd (cc);
      all_written = search rules;
      ends = inl refl;
    }

pub returns-in-Err-clause-asks : goal.returns-in-Err-clause-asks
returns-in-Err-clause-asks g c =
    let source = g.K.Link.Source in
    let link = c.ask.new.link in
    let none : source.given c.in-Ok.link ≡ [] = search rules in
    record {
      answered = λ tells.
          let told : IsTrue (source.tells_given c.in-Ok.link) = subst (λ b. IsTrue b) c.ask.ensures.told tells in
          let bytes_are : source.given link ++ source.left link ≡ source.left c.in-Ok.link = c.ask.ensures.whole told ∙ ap (λ bs. bs ++ source.left c.in-Ok.link) none in
          let answer =
          answer-in-vain g.O.Sink c.args.command.now (source.left c.in-Ok.link) c.args.output.now c.ask.new.output c.end_by.new.output c.in-Err.fault c.end_by.result
          (λ code is. c.ask.ensures.error code (c.in-Err.is ∙ ap Err is) told) (λ at is. c.ask.ensures.bad at (c.in-Err.is ∙ ap Err is) told)
          (λ code is. c.ask.ensures.no_stream code (c.in-Err.is ∙ ap Err is)) (λ at is. c.ask.ensures.no_reply at (c.in-Err.is ∙ ap Err is))
          (λ is. c.ask.ensures.unwritten told (c.in-Err.is ∙ ap Err is)) (λ other. search rules)
          c.end_by.ensures.peer_error c.end_by.ensures.bad_reply c.end_by.ensures.link_fault c.end_by.ensures.write_fault c.end_by.ensures.memory in
          subst (λ (bytes : List ℕ). IsAnsweredTo g.O.Sink c.args.output.now c.end_by.new.output c.args.command.now bytes c.end_by.result) (sym bytes_are) answer;
      peer_line = search rules;
      reply_line = search rules;
      target = record { fresh = c.in-Ok.link; leads = search rules; told = search rules; whole = search rules };
      asked = search rules;
      asked_part = search rules;
      called = search rules;
      uncalled = tt;
      link_fault = search rules;
      sound = search rules;
      write_fault = search rules;
      all_written = search rules;
      ends = search rules;
    }
