use Rattle.std.proofs.Common.{◌≡◌, ℕ, true, false, [], ◌∷◌, ◌++◌, length, sym, subst, rules}
use Rattle.std.specs.Prelude.{Result, Err}
use Rattle.ep_defs.specs.Definitions.{definition_at}
use Rattle.ep_defs.specs.Entry.{PointEntry, Point}
use Rattle.ep_rundown.specs.Rundown.{section, used, naming, with_rundown}
use Rattle.nt_write.specs.declared.fault.Fault.{Fault}
use Rattle.nt_write.specs.Writer.{point_of}
use Rattle.ep_stream.specs.Named.{numbers_of}
use Rattle.ep_stream.specs.Rundown.{last_definitions}
use Rattle.ep_stream.specs.Session.{rest_of, last_entries, writer_of}
use Rattle.ep_stream.specs.Telling.{Tells}
use Rattle.ep_stream.proofs.Telling.{err_is}
use Rattle.ep_stream.proofs.Describing.{tells_both, tells_first, tells_plain, tells_described}
use Rattle.ep_stream.proofs.session.Session.write_last.Goals as goal

pub returns-then-not-self-clause-writes : goal.returns-then-not-self-clause-writes
returns-then-not-self-clause-writes g c before info told telling =
    let rest = rest_of c.args.self.now in
    let off : rest.config.rundown ≡ false = search rules in
    tells_plain g.S.Sink.tells_taken g.S.Sink.taken before c.args.events.now info told rest.config.rundown (point_of c.args.stamp (numbers_of rest.named)) c.point.result (writer_of c.point.new.self) off
    (c.point.ensures.writes c.args.events.now before info told telling)

pub returns-in_err-described-clause-writes : goal.returns-in_err-described-clause-writes
returns-in_err-described-clause-writes g c before info told telling =
    let rest = rest_of c.args.self.now in
    let stamp = c.args.stamp in
    let events = c.args.events.now in
    let point : PointEntry = point_of stamp (numbers_of rest.named) in
    let on : rest.config.rundown ≡ true = search rules in
    let fault : Fault = c.in_err-described.field-0.0 in
    subst (λ (r : Result (Unit {0}) Fault). Tells g.S.Sink.tells_taken g.S.Sink.taken before (last_definitions rest.config.rundown events) info told (last_entries stamp told rest) r c.describe_used.new.writer) (sym (err_is _ _ c.from_residual.ensures.1))
    (tells_described g.S.Sink.tells_taken g.S.Sink.taken before events info told rest.config.rundown point (Err fault) c.describe_used.new.writer on
    (tells_first g.S.Sink.tells_taken g.S.Sink.taken before (with_rundown (definition_at events)) info told (section stamp told) (Point (naming (length (used told)) point) ∷ []) fault c.describe_used.new.writer
    (c.in_err-described.ensures.writes before info told telling)))

pub returns-clause-writes : goal.returns-clause-writes
returns-clause-writes g c before info told telling =
    let rest = rest_of c.args.self.now in
    let stamp = c.args.stamp in
    let events = c.args.events.now in
    let defs = with_rundown (definition_at events) in
    let point : PointEntry = point_of stamp (numbers_of rest.named) in
    let on : rest.config.rundown ≡ true = search rules in
    let count : c.in_ok-described.described ≡ length (used told) = c.in_ok-described.ensures.counted before info told telling in
    tells_described g.S.Sink.tells_taken g.S.Sink.taken before events info told rest.config.rundown point c.point_with_rundown.result (writer_of c.point_with_rundown.new.self) on
    (tells_both g.S.Sink.tells_taken g.S.Sink.taken before defs info told (section stamp told) (Point (naming (length (used told)) point) ∷ []) c.in_ok-described.described c.point_with_rundown.result c.describe_used.new.writer (writer_of c.point_with_rundown.new.self)
    (c.in_ok-described.ensures.writes before info told telling)
    (λ t. subst (λ (n : ℕ). Tells g.S.Sink.tells_taken g.S.Sink.taken before defs info (told ++ section stamp told) (Point (naming n point) ∷ []) c.point_with_rundown.result (writer_of c.point_with_rundown.new.self)) count
    (c.point_with_rundown.ensures.writes defs before info (told ++ section stamp told) t)))
