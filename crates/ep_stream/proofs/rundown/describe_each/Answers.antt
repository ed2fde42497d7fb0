use Rattle.std.proofs.Common.{◌≡◌, ℕ, ◌+◌, ◌<◌, ◌≤◌, ◌⊎◌, inl, inr, List, [], ◌∷◌, ◌++◌, length, map, take, Some, ap, sym, ◌∙◌, subst, arith}
use Rattle.std.specs.Prelude.{Result, Ok, Err, slice_get, slice_index}
use Rattle.std.proofs.lemmas.List.{take_all}
use Rattle.std.proofs.lemmas.Option.{same_Some}
use Rattle.ep_defs.specs.Definitions.{definition_at}
use Rattle.ep_defs.specs.declared.event.EventDef.{EventDef}
use Rattle.ep_defs.specs.Entry.{Entry, Event}
use Rattle.ep_rundown.specs.Rundown.{describing, describing_from}
use Rattle.nt_write.specs.declared.fault.Fault.{Fault}
use Rattle.nt_write.specs.declared.fault.Fault.TheVariants.{WriteFault}
use Rattle.ep_stream.specs.Telling.{IsTelling, Tells}
use Rattle.ep_stream.proofs.Telling.{definition_is, told_after, tells_after, tells_all, err_is, ok_is_no_fault}
use Rattle.ep_stream.proofs.Describing.{used_at, used_count, in_range, next_described, split_described}
use Rattle.ep_stream.proofs.rundown.describe_each.Goals as goal
use Rattle.ep_stream.proofs.rundown.describe_each.Goals.{then-number-gt0+then-number-events+in_ok-describe_one, else-number-gt0, else-number-gt0-via-then-number-gt0+else-number-events, else-number-gt0-via-else-number-gt0}

-- What is used at a place is the definition that was looked up there.
found_at : (events : List EventDef) (numbers : List ℕ) (used : List EventDef) (place : ℕ) (def : EventDef) → map (definition_at events) numbers ≡ map Some used → place < length numbers → definition_at events (slice_index numbers place) ≡ Some def → slice_get used place ≡ Some def
found_at events numbers used place def are low at =
    let u = used_at events numbers used place are low in
    u.found ∙ ap (λ (d : EventDef). Some d) (same_Some u.def def (sym u.numbered ∙ at))

-- A number that was used is that of a definition.
used_in_range : (events : List EventDef) (numbers : List ℕ) (used : List EventDef) (place : ℕ) → map (definition_at events) numbers ≡ map Some used → place < length numbers → (slice_index numbers place ≤ 0) ⊎ (length events < slice_index numbers place) → ⊥
used_in_range events numbers used place are low out =
    let u = used_at events numbers used place are low in
    let within = in_range events (slice_index numbers place) u.def u.numbered in
    clash out within.0 within.1
  where
    clash : {n m : ℕ} → (n ≤ 0) ⊎ (m < n) → 0 < n → n ≤ m → ⊥
    clash (inl none) some few = omega (arith, none, some)
    clash (inr above) some few = omega (arith, above, few)

-- The descriptions with the one at this place.
next_at : (stamp : ℕ) (used : List EventDef) (place : ℕ) (def : EventDef) → slice_get used place ≡ Some def → describing_from stamp 1 (take (place + 1) used) ≡ describing_from stamp 1 (take place used) ++ Event (describing stamp (place + 1) def) ∷ []
next_at stamp used place def found =
    let turn : 1 + place ≡ place + 1 = omega arith in
    next_described stamp 1 used place def found ∙ ap (λ (n : ℕ). describing_from stamp 1 (take place used) ++ Event (describing stamp n def) ∷ []) turn

-- The descriptions about the one at this place.
split_at : (stamp : ℕ) (used : List EventDef) (place : ℕ) (def : EventDef) → slice_get used place ≡ Some def → (after : List Entry) × (describing_from stamp 1 used ≡ describing_from stamp 1 (take place used) ++ (Event (describing stamp (place + 1) def) ∷ [] ++ after))
split_at stamp used place def found =
    let turn : 1 + place ≡ place + 1 = omega arith in
    let split = split_described stamp 1 used place def found in
    (split.0, split.1 ∙ ap (λ (n : ℕ). describing_from stamp 1 (take place used) ++ (Event (describing stamp n def) ∷ [] ++ split.0)) turn)

pub loop-place-preserved : goal.loop-place-preserved
loop-place-preserved g c =
    let inv = c.loop-place.invariant in
    let events = c.args.events.now in
    let numbers = c.args.numbers.now in
    let stamp = c.args.stamp in
    let place = c.loop-place.place in
    let low : place < length numbers = omega (arith, c.loop-place-test.true) in
    elim c.if-number-gt0.branch [
      | then-number-gt0+then-number-events+in_ok-describe_one w ↦ rw w.writer-is (record {
        sound = w.in_ok-describe_one.ensures.faulty.sound;
        wrote = w.in_ok-describe_one.ensures.faulty.wrote (ok_is_no_fault w.in_ok-describe_one.field-0 WriteFault) ∙ inv.wrote;
        other_side = w.in_ok-describe_one.ensures.other_side ∙ inv.other_side;
        telling = λ before defs info told used are now.
            let def : EventDef = w.index-events-number.result in
            let first = describing_from stamp 1 (take place used) in
            let found = found_at events numbers used place def are.numbers_are low (definition_is events (slice_index numbers place) def w.if-number-gt0.true w.if-number-events.true w.index-events-number.is) in
            let next = next_at stamp used place def found in
            subst (λ (es : List Entry). IsTelling g.S.Sink.tells_taken g.S.Sink.taken before defs info (told ++ es) w.describe_one.new.writer) (sym next)
            (told_after g.S.Sink.tells_taken g.S.Sink.taken before defs info told first (Event (describing stamp (place + 1) def) ∷ []) w.in_ok-describe_one.field-0 w.describe_one.new.writer
            (w.in_ok-describe_one.ensures.writes defs are.distinct are.rundown_is before info (told ++ first) (inv.telling before defs info told used are now)));
      })
      | else-number-gt0 w ↦ rw w.writer-is (record {
        sound = inv.sound;
        wrote = inv.wrote;
        other_side = inv.other_side;
        telling = λ before defs info told used are now.
            absurd (used_in_range events numbers used place are.numbers_are low (elim w.else-number-gt0.branch [
              | else-number-gt0-via-then-number-gt0+else-number-events v ↦ inr v.if-number-events.false
              | else-number-gt0-via-else-number-gt0 v ↦ inl v.if-number-gt0.false
            ]));
      })
    ]

pub returns-in_err-describe_one-clause-writes : goal.returns-in_err-describe_one-clause-writes
returns-in_err-describe_one-clause-writes g c defs used are before info told now =
    let inv = c.loop-place.invariant in
    let fault : Fault = c.in_err-describe_one.field-0.0 in
    let events = c.args.events.now in
    let stamp = c.args.stamp in
    let place = c.loop-place.place in
    let number : ℕ = slice_index c.args.numbers.now place in
    let def : EventDef = c.index-events-number.result in
    let first = describing_from stamp 1 (take place used) in
    let found = found_at events c.args.numbers.now used place def are.numbers_are (omega (arith, c.loop-place-test.true)) (definition_is events number def c.if-number-gt0.true c.if-number-events.true c.index-events-number.is) in
    let split = split_at stamp used place def found in
    subst (λ (r : Result (Unit {0}) Fault). Tells g.S.Sink.tells_taken g.S.Sink.taken before defs info told (describing_from stamp 1 used) r c.describe_one.new.writer) (sym (err_is _ _ c.from_residual.ensures.1))
    (subst (λ (es : List Entry). Tells {A = Unit {0}} g.S.Sink.tells_taken g.S.Sink.taken before defs info told es (Err fault) c.describe_one.new.writer) (sym split.1)
    (tells_after g.S.Sink.tells_taken g.S.Sink.taken before defs info told first (Event (describing stamp (place + 1) def) ∷ []) split.0 fault c.describe_one.new.writer
    (c.in_err-describe_one.ensures.writes defs are.distinct are.rundown_is before info (told ++ first) (inv.telling before defs info told used are now))))

pub returns-clause-writes : goal.returns-clause-writes
returns-clause-writes g c defs used are before info told now =
    let inv = c.loop-place.invariant in
    let place = c.loop-place.place in
    let many : length c.args.numbers.now ≡ length used = used_count c.args.events.now c.args.numbers.now used are.numbers_are in
    let all : take place used ≡ used = take_all place used (omega (arith, c.loop-place-test.false, many)) in
    subst (λ (defs_used : List EventDef). Tells {A = Unit {0}} g.S.Sink.tells_taken g.S.Sink.taken before defs info told (describing_from c.args.stamp 1 defs_used) (Ok tt) c.loop-place.writer) all
    (tells_all g.S.Sink.tells_taken g.S.Sink.taken before defs info told (describing_from c.args.stamp 1 (take place used)) tt c.loop-place.writer (inv.telling before defs info told used are now))
