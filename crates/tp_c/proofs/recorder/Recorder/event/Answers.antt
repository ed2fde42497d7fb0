use Rattle.std.proofs.Common.{◌≡◌, true, Option, None, Some, refl, ap, sym, ◌∙◌}
use Rattle.std.specs.Option.{option_or}
use Rattle.std.specs.Prelude.{is_none}
use Rattle.tp_c.specs.declared.refusal.Refusal.{Refusal}
use Rattle.tp_c.specs.declared.refusal.Refusal.TheVariants.{Cut}
use Rattle.tp_c.specs.Counting.{thread_refused}
use Rattle.tp_c.specs.Recording.{threads_of}
use Rattle.tp_c.proofs.Recordings.{never-cut, head-cut}
use Rattle.tp_c.proofs.recorder.Recorder.event.Goals as goal

pub returns-clause-refused : goal.returns-clause-refused
returns-clause-refused c refusal is =
    let none = nothing _ (sym c.takes_head.ensures ∙ c.if-not-takes_head.false) in
    c.take_event.ensures.refused refusal (ap (λ (o : Option Refusal). option_or o (thread_refused (threads_of c.args.self.now) c.args.head.now.thread)) (sym none) ∙ is)
  where
    nothing : (reason : Option Refusal) → is_none reason ≡ true → reason ≡ None
    nothing None e = refl
    nothing (Some refusal) e = absurd cc

pub returns-then-not-takes_head-clause-cut : goal.returns-then-not-takes_head-clause-cut
returns-then-not-takes_head-clause-cut c info entries pulled h is =
    let cut : c.head_refusal.result ≡ Cut = cc in
    never-cut info entries pulled c.args.self.now h (head-cut _ _ _ _ _ (c.head_refusal.ensures ∙ ap Some cut))
