-- What was said are the lines of the schedule.
use Rattle.std.proofs.Common.{◌≡◌, ℕ, List, inl, inr, subst, ◌∙◌}
use Rattle.pt_io.specs.declared.sink.Sink.{Ghosts as Sink}
use Rattle.pt_command.specs.declared.end.End.{End}
use Rattle.pt_command.specs.declared.end.End.TheVariants as ends
use Rattle.pt_command.specs.Says.{Says}
use Rattle.pt_gen.specs.declared.words.Asked.{Asked}
use Rattle.pt_gen.specs.Command.{Generates}
use Rattle.pt_gen.specs.Summary.{gen_text}
use Rattle.pt_gen.proofs.command.generate.Goals as goal

generated-text : {O : Type 0} (sink : Sink O) (asked : Asked) (old new : O) (end : End)
    → Says sink old new (gen_text asked.seed asked.writes) ends.Done end → Generates sink asked old new end
generated-text sink asked old new end (inl said) =
    let is : end ≡ ends.Done = said.0 in
    record {
      done = λ _. said.1.took;
      written_part = λ other. absurd (cc);
      memory = λ other. absurd (cc);
      write_fault = λ other. absurd (cc);
      all_written = λ _. said.1.sound;
      ends = inl is;
    }
generated-text sink asked old new end (inr broke) =
    let is : end ≡ ends.WriteFault = broke.0 in
    record {
      done = λ other. absurd (cc);
      written_part = λ _. broke.1.part;
      memory = λ other. absurd (cc);
      write_fault = λ _. broke.1.fault;
      all_written = λ other. absurd (other is);
      ends = inr (inl is);
    }

pub returns-in-Ok : goal.returns-in-Ok
returns-in-Ok g c =
    let is = c.as_slice.ensures.value ∙ c.in-Ok.ensures in
    generated-text g.O.Sink c.args.asked c.args.output.now c.say.new.output c.say.result
    (subst (λ (text : List ℕ). Says g.O.Sink c.args.output.now c.say.new.output text ends.Done c.say.result) is c.say.ensures)
