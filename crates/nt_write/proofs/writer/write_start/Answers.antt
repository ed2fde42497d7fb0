use Rattle.nt_object.specs.Stream.{stream_start}
use Rattle.nt_write.proofs.Answered.{on_err}
use Rattle.nt_write.proofs.Prefixes.{some-none}
use Rattle.nt_write.proofs.writer.write_start.Goals as goal

pub returns-in_err-ids-clause-part : goal.returns-in_err-ids-clause-part
returns-in_err-ids-clause-part g c =
    on_err c.from_residual.result (some-none g.S.Sink.tells_taken g.S.Sink.taken (stream_start c.args.info.now) c.args.sink.now)

pub returns-in_err-put_start-clause-part : goal.returns-in_err-put_start-clause-part
returns-in_err-put_start-clause-part g c =
    on_err c.from_residual-in_err-put_start.result (some-none g.S.Sink.tells_taken g.S.Sink.taken (stream_start c.args.info.now) c.args.sink.now)
