use Rattle.std.proofs.Common.{◌≡◌, ◌+◌, [], sym, refl, arith}
use Rattle.ep_defs.specs.Definitions.{definition_at}
use Rattle.nt_write.specs.Value.{framed_with}
use Rattle.tp_c.proofs.Recordings.{by_writer, at-its-own, has-taken, has-cut}
use Rattle.tp_c.proofs.recorder.Recorder.take_event.Goals as goal

pub returns-then-not-is_empty-clause-ok : goal.returns-then-not-is_empty-clause-ok
returns-then-not-is_empty-clause-ok c info entries pulled h =
    let old = c.args.self.now in
    let def = c.in-Some.def.now in
    let before = c.in-Open.writer in
    let found = sym c.in-Some.ensures.found in
    let framed : old.framed + 1 ≡ framed_with old.framed c.args.frames.now = grind arith in
    has-taken info entries pulled def c.args.head.now c.args.frames.now c.args.payload.now c.in_ok-number.number old _ before c.sound_event.new.self h found c.in_ok-number.ensures.number c.in-Open.is refl refl
    (λ table distinct has. c.in-Ok.ensures.ok [] table info entries (by_writer info entries old.definitions old.stage before c.in-Open.is h.stands table distinct has) distinct (has c.args.head.now.event def found))
    c.sound_event.ensures.other_side c.in_ok-number.ensures.ascending c.in_ok-number.ensures.counted framed

pub returns-else-not-is_empty-clause-ok : goal.returns-else-not-is_empty-clause-ok
returns-else-not-is_empty-clause-ok c info entries pulled h =
    let old = c.args.self.now in
    let def = c.in-Some.def.now in
    let before = c.in-Open.writer in
    let found = sym c.in-Some.ensures.found in
    let framed : old.framed ≡ framed_with old.framed c.args.frames.now = grind arith in
    has-taken info entries pulled def c.args.head.now c.args.frames.now c.args.payload.now c.in_ok-number.number old _ before c.sound_event.new.self h found c.in_ok-number.ensures.number c.in-Open.is refl refl
    (λ table distinct has. c.in-Ok.ensures.ok [] table info entries (by_writer info entries old.definitions old.stage before c.in-Open.is h.stands table distinct has) distinct (has c.args.head.now.event def found))
    c.sound_event.ensures.other_side c.in_ok-number.ensures.ascending c.in_ok-number.ensures.counted framed

pub returns-in-Err-clause-cut : goal.returns-in-Err-clause-cut
returns-in-Err-clause-cut c info entries pulled h is =
    let old = c.args.self.now in
    let def = c.in-Some.def.now in
    let before = c.in-Open.writer in
    let found = sym c.in-Some.ensures.found in
    let writing = at-its-own info entries old.definitions before h.distinct (by_writer info entries old.definitions old.stage before c.in-Open.is h.stands) in
    has-cut info entries pulled def c.args.head.now c.args.frames.now c.args.payload.now c.in_ok-number.number c.in-Err.field-0 old _ before c.sound_event.new.self h found c.in_ok-number.ensures.number c.in-Open.is refl c.in-Err.ensures.fails
    (c.in-Err.ensures.part [] (definition_at old.definitions) info entries writing h.distinct found) c.sound_event.ensures.other_side
