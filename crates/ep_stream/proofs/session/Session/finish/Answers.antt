use Rattle.nt_write.specs.declared.fault.Fault.TheVariants.{WriteFault}
use Rattle.ep_stream.specs.Rundown.{last_definitions}
use Rattle.ep_stream.specs.Session.{rest_of, last_entries}
use Rattle.ep_stream.proofs.Telling.{ends, ends_faulty, ends_wrote}
use Rattle.ep_stream.proofs.session.Session.finish.Goals as goal

pub returns-clause-ended : goal.returns-clause-ended
returns-clause-ended g c =
    let defs = last_definitions (rest_of c.args.self).config.rundown c.args.events.now in
    record {
      answer = c.end-sink.result.1;
      fate_is = c.fate_of.ensures;
      stream = λ before info told telling.
          ends g.S.Sink.tells_taken g.S.Sink.taken before defs info told (last_entries c.args.stamp told (rest_of c.args.self)) c.write_last.result c.end-sink.result.1 c.write_last.new.self.writer c.end-sink.result.0
          (c.write_last.ensures.writes before info told telling) c.write_last.ensures.faulty.fails c.write_last.ensures.faulty.sound
          (λ es w. c.end-sink.ensures.ok before defs info es w)
          (λ es w. c.end-sink.ensures.part before defs info es w)
          c.end-sink.ensures.stays c.end-sink.ensures.too_long;
      stays = λ fault is. (c.end-sink.ensures.stays fault (c.write_last.ensures.faulty.fails fault (c.write_last.ensures.faulty.stays fault is))).0;
      write_fault = ends_faulty g.S.Sink.write_faults c.args.self.writer c.write_last.new.self.writer c.end-sink.result.0 c.write_last.result c.end-sink.result.1 c.write_last.ensures.faulty c.end-sink.ensures.write_fault c.end-sink.ensures.later;
      wrote = ends_wrote g.S.Sink.write_faults c.args.self.writer c.write_last.new.self.writer c.end-sink.result.0 c.write_last.result c.end-sink.result.1 c.write_last.ensures.faulty (λ is. (c.end-sink.ensures.stays WriteFault is).0) c.end-sink.ensures.wrote;
    }
