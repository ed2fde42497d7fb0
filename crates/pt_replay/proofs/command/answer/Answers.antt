-- What is said is the answer to the bytes.
use Rattle.std.proofs.Common.{refl, inl, inr}
use Rattle.pt_command.specs.declared.end.End.TheVariants as ends
use Rattle.pt_replay.specs.Errors.{refusal_error, unfinished_error}
use Rattle.pt_replay.proofs.command.answer.Goals as goal

pub returns-in-Stream : goal.returns-in-Stream
returns-in-Stream g c = λ bytes judged. inl (c.in-Stream.stream.now, ends.Done, inl (c.in-Stream.ensures bytes judged, refl), c.say.ensures)

pub returns-in-Refused : goal.returns-in-Refused
returns-in-Refused g c = λ bytes judged.
    let refusal = c.in-Refused.refusal in
    elim (c.say_line.ensures (refusal_error refusal) c.refusal_text.ensures) [
      | inl said ↦ inl (refusal_error refusal, ends.Refused 0, inr (0, (refl, inl (refusal, c.in-Refused.ensures bytes judged, refl)), refl), said)
      | inr none ↦ inr none
    ]

pub returns-in-Unfinished : goal.returns-in-Unfinished
returns-in-Unfinished g c = λ bytes judged.
    let session = c.args.session in
    elim (c.say_line-in-Unfinished.ensures (unfinished_error session) c.unfinished_text.ensures) [
      | inl said ↦ inl (unfinished_error session, ends.Refused 0, inr (0, (refl, inr (c.in-Unfinished.ensures bytes judged, refl)), refl), said)
      | inr none ↦ inr none
    ]
