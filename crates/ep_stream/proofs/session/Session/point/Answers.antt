use Rattle.std.proofs.Common.{◌≡◌, ℕ, List, [], ◌∷◌, refl, sym, subst, ◌∙◌}
use Rattle.std.specs.Prelude.{Result, Ok, Err}
use Rattle.ep_defs.specs.Definitions.{definition_at}
use Rattle.ep_defs.specs.Entry.{Point}
use Rattle.nt_write.specs.Writer.{fault_of, point_of}
use Rattle.ep_stream.specs.Named.{numbers_of}
use Rattle.ep_stream.specs.Opened.{named_in}
use Rattle.ep_stream.specs.Telling.{Tells}
use Rattle.nt_write.specs.declared.fault.Fault.{Fault}
use Rattle.ep_stream.proofs.Telling.{tells_one, err_is, ok_long, none_long}
use Rattle.ep_stream.proofs.session.Session.point.Goals as goal

pub returns-clause-writes : goal.returns-clause-writes
returns-clause-writes g c events before info told telling =
    let stamp = c.args.stamp in
    let e : c.numbers.result.now ≡ numbers_of (named_in c.args.self.now.opened) = c.numbers.ensures ∙ c.count_off.ensures.numbers in
    subst (λ (ns : List (ℕ × ℕ)). Tells {A = Unit {0}} g.S.Sink.tells_taken g.S.Sink.taken before (definition_at events) info told (Point (point_of stamp ns) ∷ []) (Ok c.in_ok-point.field-0) c.point.new.self) e
    (tells_one g.S.Sink.tells_taken g.S.Sink.taken before (definition_at events) info told (Point (point_of stamp c.numbers.result.now)) c.args.self.now.writer c.point.new.self (fault_of c.args.self.now.writer) (Ok c.in_ok-point.field-0) refl telling
    (λ w. c.in_ok-point.ensures.ok before (definition_at events) info told w)
    (λ w. c.in_ok-point.ensures.part before (definition_at events) info told w)
    (λ w e. ok_long c.in_ok-point.field-0 e)
    c.in_ok-point.ensures.fails c.in_ok-point.ensures.sound c.in_ok-point.ensures.stays)

pub returns-in_err-point-clause-writes : goal.returns-in_err-point-clause-writes
returns-in_err-point-clause-writes g c events before info told telling =
    let stamp = c.args.stamp in
    let e : c.numbers.result.now ≡ numbers_of (named_in c.args.self.now.opened) = c.numbers.ensures ∙ c.count_off.ensures.numbers in
    subst (λ (r : Result (Unit {0}) Fault). Tells g.S.Sink.tells_taken g.S.Sink.taken before (definition_at events) info told (Point (point_of stamp (numbers_of (named_in c.args.self.now.opened))) ∷ []) r c.point.new.self) (sym (err_is _ _ c.from_residual.ensures.1))
    (subst (λ (ns : List (ℕ × ℕ)). Tells {A = Unit {0}} g.S.Sink.tells_taken g.S.Sink.taken before (definition_at events) info told (Point (point_of stamp ns) ∷ []) (Err c.in_err-point.field-0.0) c.point.new.self) e
    (tells_one g.S.Sink.tells_taken g.S.Sink.taken before (definition_at events) info told (Point (point_of stamp c.numbers.result.now)) c.args.self.now.writer c.point.new.self (fault_of c.args.self.now.writer) (Err c.in_err-point.field-0.0) refl telling
    (λ w. c.in_err-point.ensures.ok before (definition_at events) info told w)
    (λ w. c.in_err-point.ensures.part before (definition_at events) info told w)
    (λ w e. none_long c.args.self.now.writer w.sound (c.in_err-point.ensures.too_long e))
    c.in_err-point.ensures.fails c.in_err-point.ensures.sound c.in_err-point.ensures.stays))
