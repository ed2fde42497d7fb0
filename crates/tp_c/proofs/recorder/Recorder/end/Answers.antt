use Rattle.std.proofs.Common.{ap, sym, ◌∙◌, subst}
use Rattle.tp_c.specs.declared.recorder.Stage.{Stage}
use Rattle.tp_c.specs.Recording.{StandsFor, bytes_of}
use Rattle.tp_c.proofs.Recordings.{ended-whole, ended-cut}
use Rattle.tp_c.proofs.recorder.Recorder.end.Goals as goal

pub returns-clause-whole : goal.returns-clause-whole
returns-clause-whole c info entries pulled h cut =
    let old = c.args.self.now in
    let stands = subst (λ (s : Stage). StandsFor info entries old.definitions s) (sym c.replace.ensures.value) h.stands in
    ended-whole info entries pulled old c.ended.result h (c.ended.ensures.whole info entries old.definitions h.distinct stands cut)
    (c.ended.ensures.pulled ∙ ap (λ (s : Stage). (bytes_of s).pulled) c.replace.ensures.value)

pub returns-clause-broken : goal.returns-clause-broken
returns-clause-broken c info entries pulled h cut =
    let old = c.args.self.now in
    let stands = subst (λ (s : Stage). StandsFor info entries old.definitions s) (sym c.replace.ensures.value) h.stands in
    ended-cut info entries pulled old c.ended.result h.bytes cut (c.ended.ensures.broken info entries old.definitions h.distinct stands cut)
    (c.ended.ensures.pulled ∙ ap (λ (s : Stage). (bytes_of s).pulled) c.replace.ensures.value)
