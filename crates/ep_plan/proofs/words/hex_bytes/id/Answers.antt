use Rattle.std.proofs.Common.{replicate, ap, ◌∙◌}
use Rattle.std.specs.Result.{result_ok}
use Rattle.hex.specs.Hex.{decode_sized}
use Rattle.ep_plan.specs.Words.{id_in}
use Rattle.ep_plan.proofs.Separated.{dash_or-dash, dash_or-other}
use Rattle.ep_plan.proofs.words.hex_bytes.id.Goals as goal

pub returns-then-eq : goal.returns-then-eq
unfolding id_in
returns-then-eq c = dash_or-dash (replicate 16 0) (λ digits. result_ok (decode_sized digits 16)) c.args.word.now c.as_slice.result.now c.as_slice.ensures c.if-eq.ensures

pub returns : goal.returns
unfolding id_in
returns c =
    c.ok.ensures.value ∙ ap result_ok c.from_hex.ensures
    ∙ dash_or-other (replicate 16 0) (λ digits. result_ok (decode_sized digits 16)) c.args.word.now c.as_slice.result.now c.as_slice.ensures c.if-eq.ensures
