-- What the program says is answered, where there is no result.
use Rattle.std.proofs.Common.{◌≡◌, ◌++◌, [], List, ℕ, Err, IsTrue, rules, sym, ap, subst, ◌∙◌}
use Rattle.pt_client.specs.Greeting.{IsAnsweredBy, greeted}
use Rattle.pt_client.proofs.Greeted.{answered_in_vain}
use Rattle.pt_client.proofs.greeting.greet.Goals as goal

pub returns-in-Err-ask_caller-clause-greets : goal.returns-in-Err-ask_caller-clause-greets
returns-in-Err-ask_caller-clause-greets g c =
    let source = g.D.Link.Source in
    let came = c.in-Ok-Some.link in
    let link = c.ask_caller.new.link in
    let none : source.given came ≡ [] = search rules in
    record {
      answered = λ tells.
          let told : IsTrue (source.tells_given came) = subst (λ b. IsTrue b) c.ask_caller.ensures.told tells in
          let bytes_are : source.given link ++ source.left link ≡ source.left came = c.ask_caller.ensures.whole told ∙ ap (λ bs. bs ++ source.left came) none in
          let answer =
          answered_in_vain g.O.Sink (greeted (source.left came)) c.args.output.now c.ask_caller.new.output c.end_by.new.output c.in-Err-ask_caller.fault c.end_by.result
          (λ code is. c.ask_caller.ensures.error code (c.in-Err-ask_caller.is ∙ ap Err is) told) (λ at is. c.ask_caller.ensures.bad at (c.in-Err-ask_caller.is ∙ ap Err is) told)
          (λ is. c.ask_caller.ensures.unwritten told (c.in-Err-ask_caller.is ∙ ap Err is)) (λ other. search rules)
          c.end_by.ensures.peer_error c.end_by.ensures.bad_reply c.end_by.ensures.link_fault c.end_by.ensures.write_fault c.end_by.ensures.memory in
          subst (λ (bytes : List ℕ). IsAnsweredBy g.O.Sink c.args.output.now c.end_by.new.output (greeted bytes) c.end_by.result) (sym bytes_are) answer;
      peer_line = search rules;
      reply_line = search rules;
      asked = search rules;
      asked_part = search rules;
      came = search rules;
      none = tt;
      nobody = tt;
      refused = search rules;
      link_fault = search rules;
      sound = search rules;
      write_fault = search rules;
      all_written = search rules;
      ends = search rules;
    }
