use Rattle.std.proofs.Common.{◌≡◌, ◌∙◌, length, refl, sym, arith}
use Rattle.std.proofs.lemmas.Option.{slice_get_read}
use Rattle.ep_live_tests.proofs.tests.begun.hands_of.Goals as goal

pub returns : goal.returns
returns g c =
    let hands = c.args.hands.items in
    let low = c.args.low in
    let high = c.args.high in
    let len : length hands ≡ 128 = sym c.args.hands.ok.0 ∙ c.requires.many in
    let other = c.swap_remove-second in
    let second = c.requires.hands high other.result (slice_get_read hands _ high other.result refl (omega (arith, len, c.requires.within)) other.ensures.value) in
    let one = c.swap_remove in
    let there = one.ensures.value ∙ other.ensures.by_index.1 low one.result (λ (e : low ≡ high). omega (arith, e, c.requires.ordered)) (omega (arith, c.requires.many, c.requires.ordered, c.requires.within)) in
    (c.requires.hands low one.result (slice_get_read hands _ low one.result refl (omega (arith, len, c.requires.ordered, c.requires.within)) there), second)
