use Rattle.std.proofs.Common.{◌≡◌, ◌∙◌, ◌-◌, ◌+◌, refl, ℕ, List, ap, sym, subst, length, take, drop, arith, rules, vec_capacity}
use Rattle.std.proofs.lemmas.List.{take_rest}
use Rattle.std.proofs.lemmas.Bool.{true≢false}
use Rattle.ep_chunk.specs.Record.{size_of}
use Rattle.ep_chunk.specs.Places.{Tells}
use Rattle.ep_chunk.specs.Held.{HasRecord, record_in}
use Rattle.ep_chunk.proofs.Placed.{at-place}
use Rattle.ep_chunk.proofs.chunk.Chunk.at.Goals as goal

pub returns-then-place-bytes-clause-end : goal.returns-then-place-bytes-clause-end
returns-then-place-bytes-clause-end c =
    let at = at-place c.as_slice-bytes.result.now c.self.inside.bytes.items (vec_capacity c.self.inside.bytes) c.args.self.now c.args.place c.as_slice-bytes.ensures.value c.self.invariant c.self.view_is c.requires in
    (λ _. omega (arith, at.used), λ _. refl)

pub returns-then-place-bytes-clause-over : goal.returns-then-place-bytes-clause-over
returns-then-place-bytes-clause-over c =
    let at = at-place c.as_slice-bytes.result.now c.self.inside.bytes.items (vec_capacity c.self.inside.bytes) c.args.self.now c.args.place c.as_slice-bytes.ensures.value c.self.invariant c.self.view_is c.requires in
    at.over c.if-place-bytes.true

pub slice_bounds-record_at-count : goal.slice_bounds-record_at-count
slice_bounds-record_at-count c = let at = at-place c.as_slice-bytes.result.now c.self.inside.bytes.items (vec_capacity c.self.inside.bytes) c.args.self.now c.args.place c.as_slice-bytes.ensures.value c.self.invariant c.self.view_is c.requires in at.within

pub slice_bounds-record_at-start : goal.slice_bounds-record_at-start
slice_bounds-record_at-start c = let at = at-place c.as_slice-bytes.result.now c.self.inside.bytes.items (vec_capacity c.self.inside.bytes) c.args.self.now c.args.place c.as_slice-bytes.ensures.value c.self.invariant c.self.view_is c.requires in search (rules, at.within)

pub record_at-requires-clause-stands : goal.record_at-requires-clause-stands
record_at-requires-clause-stands c =
    let at = at-place c.as_slice-bytes.result.now c.self.inside.bytes.items (vec_capacity c.self.inside.bytes) c.args.self.now c.args.place c.as_slice-bytes.ensures.value c.self.invariant c.self.view_is c.requires in
    subst HasRecord (sym (take_rest c.as_slice-bytes.result.now c.args.place)) (at.stands c.if-place-bytes.false)

pub record_at-requires-clause-within : goal.record_at-requires-clause-within
record_at-requires-clause-within c =
    let at = at-place c.as_slice-bytes.result.now c.self.inside.bytes.items (vec_capacity c.self.inside.bytes) c.args.self.now c.args.place c.as_slice-bytes.ensures.value c.self.invariant c.self.view_is c.requires in
    let same = ap (length {A = ℕ}) c.as_slice-bytes.ensures.value in
    omega (arith, at.within, c.self.invariant.within)

pub returns-clause-end : goal.returns-clause-end
returns-clause-end c =
    let at = at-place c.as_slice-bytes.result.now c.self.inside.bytes.items (vec_capacity c.self.inside.bytes) c.args.self.now c.args.place c.as_slice-bytes.ensures.value c.self.invariant c.self.view_is c.requires in
    (λ e. absurd (true≢false e), λ e. absurd (c.if-place-bytes.false (e ∙ sym at.used)))

pub returns-clause-told : goal.returns-clause-told
returns-clause-told c =
    let at = at-place c.as_slice-bytes.result.now c.self.inside.bytes.items (vec_capacity c.self.inside.bytes) c.args.self.now c.args.place c.as_slice-bytes.ensures.value c.self.invariant c.self.view_is c.requires in
    let bytes = c.as_slice-bytes.result.now in
    let behind : take (length bytes - c.args.place) (drop c.args.place bytes) ≡ drop c.args.place bytes = take_rest bytes c.args.place in
    let parts = subst (λ (xs : List ℕ). Tells (record_in xs) c.record_at.result) behind c.record_at.ensures.told in
    at.told c.if-place-bytes.false c.record_at.result parts
    (c.record_at.ensures.next ∙ ap (λ (xs : List ℕ). c.args.place + size_of (record_in xs)) behind)
