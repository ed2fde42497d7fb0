-- The answer that is due on a connection, with its reply.
use Rattle.std.specs.Prelude.{◌≡◌}
use Rattle.ep_defs.specs.declared.session.Facts.{Facts}
use Rattle.ipc_body.specs.Answering.{info_reply}
use Rattle.ipc_serve.specs.Info.{info_of}
use Rattle.pt_server.specs.declared.desk.ConnAnswer.{ConnAnswer}
use Rattle.pt_server.specs.declared.desk.ConnAnswer.TheVariants as answer
use Rattle.pt_server.specs.declared.reply.Due.{Due}
use Rattle.pt_server.specs.declared.reply.Due.TheVariants as due

-- The answer.
abbrev pub answer_by : Due → ConnAnswer
answer_by (due.Error code) = answer.Error code
answer_by (due.Info reply) = answer.Info
answer_by (due.Stopped id) = answer.Stopped id

-- Where it has bytes of its own they are the description of the process.
abbrev pub IsReply : Facts → Due → Type 0
IsReply facts (due.Error code) = Unit {0}
IsReply facts (due.Info reply) = reply ≡ info_reply (info_of facts)
IsReply facts (due.Stopped id) = Unit {0}
