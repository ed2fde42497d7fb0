use Rattle.std.proofs.Common.{◌≡◌, ℕ, List, [], ◌∷◌, ◌∙◌}
use Rattle.pt_lines.specs.Json.{address_text}
use Rattle.pt_lines.proofs.Addresses.{digits_of_eight, eight}
use Rattle.pt_print.proofs.Numbers.{appended}
use Rattle.pt_lines.proofs.json.stack.put_eight.Goals as goal

pub returns : goal.returns
returns c =
    let frame = c.args.frame.now in
    let piece : List ℕ =
    34 ∷ c.high_text.result ∷ c.low_text.result ∷ c.high_text-2.result ∷ c.low_text-2.result ∷ c.high_text-3.result ∷ c.low_text-3.result ∷ c.high_text-4.result ∷ c.low_text-4.result ∷ c.high_text-5.result ∷ c.low_text-5.result ∷ c.high_text-6.result ∷ c.low_text-6.result ∷ c.high_text-7.result ∷ c.low_text-7.result ∷ c.high_text-8.result ∷ c.low_text-8.result ∷ 34 ∷ [] in
    let digits : piece ≡ digits_of_eight frame = λ i.
    34 ∷ c.high_text.ensures i ∷ c.low_text.ensures i ∷ c.high_text-2.ensures i ∷ c.low_text-2.ensures i ∷ c.high_text-3.ensures i ∷ c.low_text-3.ensures i ∷ c.high_text-4.ensures i ∷ c.low_text-4.ensures i ∷ c.high_text-5.ensures i ∷ c.low_text-5.ensures i ∷ c.high_text-6.ensures i ∷ c.low_text-6.ensures i ∷ c.high_text-7.ensures i ∷ c.low_text-7.ensures i ∷ c.high_text-8.ensures i ∷ c.low_text-8.ensures i ∷ 34 ∷ [] in
    appended c.extend_from_slice.result c.args.out.now.items _ piece (address_text frame) c.extend_from_slice.ensures.items (digits ∙ eight frame c.requires)
