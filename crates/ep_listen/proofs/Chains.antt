-- What is heard of a chain's records, chunk by chunk.
use Rattle.std.proofs.Common.{◌≡◌, ℕ, ◌+◌, List, ◌++◌, Some, length, ap, sym, ◌∙◌, append_assoc, length-append, take, drop}
use Rattle.std.specs.Prelude.{slice_get}
use Rattle.std.proofs.lemmas.List.{map-append}
use Rattle.ep_chunk.specs.Record.{Record}
use Rattle.ep_slot.specs.Chain.{records_of}
use Rattle.ep_slot.proofs.Chains.{split_chain}
use Rattle.ep_listen.specs.Heard.{HeardEvent, heard_in, heard_of}

-- No chunk has more records than the chain.
pub chunk-few : (chain : List (List Record)) (place : ℕ) (chunk : List Record) → slice_get chain place ≡ Some chunk → length (records_of chain) ≡ length (records_of (take place chain)) + (length chunk + length (records_of (drop (place + 1) chain)))
chunk-few chain place chunk is =
    ap length (split_chain chain place chunk is)
    ∙ length-append (records_of (take place chain)) (chunk ++ records_of (drop (place + 1) chain))
    ∙ ap (λ (n : ℕ). length (records_of (take place chain)) + n) (length-append chunk (records_of (drop (place + 1) chain)))

-- What is heard of records behind others.
pub heard-behind : (before : List HeardEvent) (first second : List Record) → (before ++ heard_in first) ++ heard_in second ≡ before ++ heard_in (first ++ second)
heard-behind before first second =
    append_assoc before (heard_in first) (heard_in second) ∙ ap (λ (es : List HeardEvent). before ++ es) (sym (map-append heard_of first second))
