use Rattle.std.proofs.Common.{◌≡◌, ℕ, List, [], ◌∷◌, None, ap, ◌∙◌, subst}
use Rattle.ep_defs.specs.Entry.{Point}
use Rattle.ep_rundown.specs.Rundown.{naming}
use Rattle.nt_write.specs.declared.fault.Fault.TheVariants.{OutOfMemory}
use Rattle.nt_write.specs.Writer.{point_of}
use Rattle.ep_stream.specs.Named.{numbers_of}
use Rattle.ep_stream.specs.Opened.{named_in}
use Rattle.ep_stream.specs.Telling.{Tells}
use Rattle.ep_stream.proofs.Telling.{tells_one, none_long}
use Rattle.ep_stream.proofs.Describing.{tells_none, not_long}
use Rattle.ep_stream.proofs.session.Session.point_with_rundown.Goals as goal

pub returns-in_default-clause-writes : goal.returns-in_default-clause-writes
returns-in_default-clause-writes g c defs before info told telling =
    tells_none g.S.Sink.tells_taken g.S.Sink.taken before defs info told (Point (naming c.args.described (point_of c.args.stamp (numbers_of (named_in c.args.self.now.opened)))) ∷ []) OutOfMemory _
    c.give_up.ensures.fault (c.give_up.ensures.part before defs info told (telling.sound c.requires.sound)) not_long

pub returns-clause-writes : goal.returns-clause-writes
returns-clause-writes g c defs before info told telling =
    let stamp = c.args.stamp in
    let all : c.numbers.result.now ≡ (0, c.args.described) ∷ numbers_of (named_in c.args.self.now.opened) =
    c.numbers.ensures ∙ c.in-Ok.ensures.numbers ∙ ap (λ (ns : List (ℕ × ℕ)). (0, c.args.described) ∷ ns) c.count_off.ensures.numbers
    in
    subst (λ (ns : List (ℕ × ℕ)). Tells g.S.Sink.tells_taken g.S.Sink.taken before defs info told (Point (point_of stamp ns) ∷ []) c.point.result c.point.new.self) all
    (tells_one g.S.Sink.tells_taken g.S.Sink.taken before defs info told (Point (point_of stamp c.numbers.result.now)) c.args.self.now.writer c.point.new.self None c.point.result c.requires.sound telling
    (λ w. c.point.ensures.ok before defs info told w)
    (λ w. c.point.ensures.part before defs info told w)
    (λ w e. none_long c.args.self.now.writer w.sound (c.point.ensures.too_long e))
    c.point.ensures.fails c.point.ensures.sound c.point.ensures.stays)
