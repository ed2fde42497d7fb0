use Rattle.std.proofs.Common.{ℕ, None, inr}
use Rattle.ep_defs.specs.Definitions.{definition_at}
use Rattle.ep_stream.specs.Session.{TookStart}
use Rattle.ep_stream.proofs.Telling.{tells_nothing, err_holds}
use Rattle.ep_stream.proofs.session.Session.start.Goals as goal

pub returns-clause-sound : goal.returns-clause-sound
returns-clause-sound g c = (c.in_ok-writer.ensures.ok (λ (n : ℕ). None)).sound

pub returns-clause-started : goal.returns-clause-started
returns-clause-started g c =
    record {
      before = g.S.Sink.taken c.write_reply.new.sink;
      reply_is = c.in_default.ensures.took;
      telling = λ events. tells_nothing g.S.Sink.tells_taken g.S.Sink.taken _ (definition_at events) c.args.info.now c.in_ok-writer.writer (c.in_ok-writer.ensures.ok (definition_at events));
    }

pub returns-in_err-writer-clause-part : goal.returns-in_err-writer-clause-part
returns-in_err-writer-clause-part g c =
    err_holds c.from_residual.result c.in_err-writer.field-0.0
    (λ failed. TookStart g.S.Sink.tells_taken g.S.Sink.taken c.args.reply.now c.args.info.now c.args.sink failed.0) c.from_residual.ensures.1
    (inr (g.S.Sink.taken c.write_reply.new.sink, c.in_default.ensures.took, c.in_err-writer.ensures.part))
