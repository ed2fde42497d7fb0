use Rattle.std.proofs.Common.{◌≡◌, ℕ, length, None, Some, ap, sym, ◌∙◌, subst, rules, arith}
use Rattle.std.specs.Prelude.{Result}
use Rattle.ep_defs.specs.Definitions.{definition_at}
use Rattle.ep_rundown.specs.Rundown.{section, used, with_rundown}
use Rattle.nt_write.specs.declared.fault.Fault.{Fault}
use Rattle.nt_write.specs.declared.fault.Fault.TheVariants.{OutOfMemory}
use Rattle.nt_write.specs.Writer.{fault_of}
use Rattle.ep_stream.specs.Telling.{Tells}
use Rattle.ep_stream.proofs.Telling.{err_is}
use Rattle.ep_stream.proofs.Describing.{tells_none, not_long, tells_err, tells_ok, telling_more, extends, are-used, used_count}
use Rattle.ep_stream.proofs.rundown.describe_used.Goals as goal

pub returns-in-Some-clause-writes : goal.returns-in-Some-clause-writes
returns-in-Some-clause-writes g c before info told telling =
    let some : fault_of c.args.writer.now ≡ Some c.in-Some.fault = sym c.in-Some.ensures in
    tells_none g.S.Sink.tells_taken g.S.Sink.taken before (with_rundown (definition_at c.args.events.now)) info told (section c.args.stamp told) c.in-Some.fault c.args.writer.now
    some (telling.failed c.in-Some.fault some) (λ e. telling.spent (some ∙ ap (λ (f : Fault). Some f) e))

pub returns-in_default-prepare-clause-writes : goal.returns-in_default-prepare-clause-writes
returns-in_default-prepare-clause-writes g c before info told telling =
    let sound : fault_of c.args.writer.now ≡ None = search rules in
    tells_none g.S.Sink.tells_taken g.S.Sink.taken before (with_rundown (definition_at c.args.events.now)) info told (section c.args.stamp told) OutOfMemory c.give_up.new.self
    c.give_up.ensures.fault (c.give_up.ensures.part before (definition_at c.args.events.now) info told (telling.sound sound)) not_long

pub returns-in_err-describe_each-clause-writes : goal.returns-in_err-describe_each-clause-writes
returns-in_err-describe_each-clause-writes g c before info told telling =
    let events = c.args.events.now in
    let defs = definition_at events in
    let more = with_rundown defs in
    let fault : Fault = c.in_err-describe_each.field-0.0 in
    let named = c.used.ensures.named before defs info told (telling.sound (search rules)) in
    let extended = extends events c.used.result.now (used told) c.requires.few c.requires.lacks named in
    let are = are-used events c.deref.result.now c.used.result.now (used told) (c.deref.ensures.value ∙ c.in-Ok.ensures.numbers) named c.requires.distinct c.requires.lacks in
    let now = telling_more g.S.Sink.tells_taken g.S.Sink.taken before defs more info told c.args.writer.now telling (λ w. c.used.ensures.goes_on before defs more info told w extended) in
    subst (λ (r : Result ℕ Fault). Tells g.S.Sink.tells_taken g.S.Sink.taken before more info told (section c.args.stamp told) r c.describe_each.new.writer) (sym (err_is _ _ c.from_residual.ensures.1))
    (tells_err g.S.Sink.tells_taken g.S.Sink.taken before more info told (section c.args.stamp told) fault c.describe_each.new.writer
    (c.in_err-describe_each.ensures.writes more (used told) are before info told now))

pub returns-clause-writes : goal.returns-clause-writes
returns-clause-writes g c before info told telling =
    let events = c.args.events.now in
    let defs = definition_at events in
    let more = with_rundown defs in
    let named = c.used.ensures.named before defs info told (telling.sound (search rules)) in
    let extended = extends events c.used.result.now (used told) c.requires.few c.requires.lacks named in
    let now = telling_more g.S.Sink.tells_taken g.S.Sink.taken before defs more info told c.args.writer.now telling (λ w. c.used.ensures.goes_on before defs more info told w extended) in
    tells_ok g.S.Sink.tells_taken g.S.Sink.taken before more info told (section c.args.stamp told) c.in_ok-describe_each.field-0 _ c.describe_each.new.writer
    (c.in_ok-describe_each.ensures.writes more (used told)
    (are-used events c.deref.result.now c.used.result.now (used told) (c.deref.ensures.value ∙ c.in-Ok.ensures.numbers) named c.requires.distinct c.requires.lacks)
    before info told now)

pub returns-clause-counted : goal.returns-clause-counted
returns-clause-counted g c before info told telling =
    let events = c.args.events.now in
    let sound : fault_of c.args.writer.now ≡ None = search rules in
    let named = c.used.ensures.named before (definition_at events) info told (telling.sound sound) in
    let count = used_count events c.used.result.now (used told) named in
    let numbers = ap (length {A = ℕ}) c.in-Ok.ensures.numbers in
    omega (arith, count, numbers)
