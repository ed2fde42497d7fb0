-- The line is that of the code, or of the offset.
use Rattle.std.proofs.Common.{◌≡◌, ℕ, subst}
use Rattle.pt_command.specs.declared.end.End.TheVariants as ends
use Rattle.pt_command.specs.Says.{SaysLine}
use Rattle.pt_client.specs.Lines.{peer_error, reply_error}
use Rattle.pt_client.proofs.calling.end_by.Goals as goal

pub returns-in-PeerError-clause-peer_error : goal.returns-in-PeerError-clause-peer_error
returns-in-PeerError-clause-peer_error g c = λ code is.
    let same : c.in-PeerError.code ≡ code = cc in
    let Says : ℕ → Type 0 = λ n. SaysLine g.O.Sink c.args.output.now c.say_line.new.output (peer_error n) (ends.PeerError n) c.say_line.result in
    subst Says same (c.say_line.ensures (peer_error c.in-PeerError.code) c.peer_error_text.ensures)

pub returns-in-BadReply-clause-bad_reply : goal.returns-in-BadReply-clause-bad_reply
returns-in-BadReply-clause-bad_reply g c = λ at is.
    let same : c.in-BadReply.at ≡ at = cc in
    let Says : ℕ → Type 0 = λ n. SaysLine g.O.Sink c.args.output.now c.say_line-in-BadReply.new.output (reply_error n) (ends.BadReply n) c.say_line-in-BadReply.result in
    subst Says same (c.say_line-in-BadReply.ensures (reply_error c.in-BadReply.at) c.reply_error_text.ensures)
