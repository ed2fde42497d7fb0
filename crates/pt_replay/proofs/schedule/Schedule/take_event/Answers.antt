-- The definition is the next one, valid and unlike those before it and that of the rundown.
use Rattle.std.proofs.Common.{◌≡◌, ◌+◌, ◌++◌, [], ◌∷◌, ap, ◌∙◌, arith, length-append}
use Rattle.std.specs.List.{list_any}
use Rattle.std.proofs.lemmas.Bool.{or_parts}
use Rattle.ep_defs.specs.Event.{is_same_event}
use Rattle.ep_rundown.specs.Rundown.{rundown_def}
use Rattle.pt_replay.specs.Schedule.{definitions_of, past_of}
use Rattle.pt_replay.proofs.Definitions.{all-more, lacks-more, distinct-more}
use Rattle.pt_replay.proofs.OneMore.{machine-unused, lawful-unused}
use Rattle.pt_replay.proofs.schedule.Schedule.take_event.Goals as goal

pub returns-clause-taken : goal.returns-clause-taken
returns-clause-taken c = λ lines text index stands is_line.
    let law = c.a_line_means_one_thing.ensures.event (definitions_of lines) _ text index c.args.def is_line in
    let unlike = or_parts (is_same_event c.args.def rundown_def) (list_any (λ other. is_same_event other c.args.def) (definitions_of lines)) law.4 in
    let pushed : c.push.new.self.items ≡ c.args.self.now.events.items ++ c.args.def ∷ [] = search (c.in_ok-push.ensures) in
    record {
      count = omega (arith, stands.count);
      events_are = pushed ∙ ap (λ events. events ++ c.args.def ∷ []) stands.events_are;
      machine_is = machine-unused (definitions_of lines) (definitions_of lines ++ c.args.def ∷ []) (past_of lines) c.args.self.now.lines (c.args.self.now.lines + 1) c.args.self.now.machine law.0 stands.machine_is;
      few = omega (arith, length-append (definitions_of lines) (c.args.def ∷ []), law.1, law.2);
      valid = all-more (definitions_of lines) c.args.def stands.valid law.3;
      distinct = distinct-more (definitions_of lines) c.args.def stands.distinct unlike.1;
      lacks = lacks-more (definitions_of lines) c.args.def stands.lacks unlike.0;
      lawful = lawful-unused (definitions_of lines ++ c.args.def ∷ []) (past_of lines) law.0;
    }
