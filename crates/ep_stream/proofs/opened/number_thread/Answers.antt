use Rattle.std.proofs.Common.{◌≡◌, ◌&&◌, false, ap, ◌∙◌, arith}
use Rattle.std.specs.Prelude.{slice_index_or, slice_set}
use Rattle.std.proofs.lemmas.List.{get_or_default}
use Rattle.ep_stream.specs.declared.opened.Named.{Named}
use Rattle.ep_stream.proofs.Ascending.{changes_at, changes_none}
use Rattle.ep_stream.proofs.opened.number_thread.Goals as goal

pub returns-then-place-named-clause-items : goal.returns-then-place-named-clause-items
returns-then-place-named-clause-items c =
    changes_none (λ (n : Named). record n { number = c.args.number; is_open = n.is_open && c.args.stays }) c.args.thread c.args.named.now
    c.place_of-place.result c.place_of-place.ensures.within c.place_of-place.ensures.below
    (λ e small. absurd (omega (arith, small, c.if-place-named.true)))

pub returns-then-name-thread-clause-items : goal.returns-then-name-thread-clause-items
returns-then-name-thread-clause-items c =
    let none : Named = record { thread = 0; number = 0; is_open = false } in
    let place = c.place_of-place.result in
    changes_none (λ (n : Named). record n { number = c.args.number; is_open = n.is_open && c.args.stays }) c.args.thread c.args.named.now
    place c.place_of-place.ensures.within c.place_of-place.ensures.below
    (λ e small.
    let same : (slice_index_or c.args.named.now place e).thread ≡ (slice_index_or c.args.named.now place none).thread = ap (λ (n : Named). n.thread) (get_or_default c.args.named.now place e none small) in
    let most = c.place_of-place.ensures.others place e (omega arith) small in
    omega (arith, same, most, c.if-name-thread.true))

pub returns-clause-items : goal.returns-clause-items
returns-clause-items c =
    let none : Named = record { thread = 0; number = 0; is_open = false } in
    let place = c.place_of-place.result in
    ap (λ (n : Named). slice_set c.args.named.now place n) c.numbered.ensures
    ∙ changes_at (λ (n : Named). record n { number = c.args.number; is_open = n.is_open && c.args.stays }) c.args.thread c.args.named.now place none
    (omega (arith, c.place_of-place.ensures.within, c.if-place-named.false)) c.place_of-place.ensures.below c.if-name-thread.false
