-- The stream of a session that was judged good has a report, with the lines of the session's threads.
use Rattle.ep_told.specs.Told.{told_entries}
use Rattle.pt_replay.specs.Schedule.{definitions_of, past_of}
use Rattle.pt_replay.proofs.ReadSoFar.{judged-good}
use Rattle.pt_replay.proofs.text.Reader.outcome.Goals as goal

pub returns-in-Some-stream : goal.returns-in-Some-stream
returns-in-Some-stream c = λ bytes judged.
    let law = c.a_stream_of_a_session_is_reported.ensures in
    let reader = c.args.self.now in
    let stream = c.in-Some-stream.stream.now in
    let good = judged-good bytes reader.schedule reader.refusal c.in_default.is judged in
    let lines = good.0 in
    let lawful = good.2.lawful in
    let is = c.in-Some-stream.ensures.some lines good.2 in
    let canonical = is.1.canonical in
    record {
      lines = lines;
      schedule = good.1;
      lawful = lawful;
      finished = is.0;
      told = is.1;
      whole = law.whole canonical.items (told_entries (definitions_of lines) c.args.session (past_of lines)) stream is.1.found canonical.told;
      threads = λ text reported. law.threads (definitions_of lines) c.args.session (past_of lines) canonical.items stream text lawful is.0 canonical.told is.1.found reported;
    }
