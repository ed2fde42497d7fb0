use Rattle.std.proofs.Common.{◌≡◌, Some, ap, ◌∙◌}
use Rattle.pt_stream.specs.State.{StreamState}
use Rattle.pt_host.specs.Server.{lent_if}
use Rattle.pt_host.proofs.host.open_lent.Goals as goal

pub take_back-stream-requires-clause-halves : goal.take_back-stream-requires-clause-halves
take_back-stream-requires-clause-halves g c =
    let here : c.args.stands.now ≡ Some 0 = c.requires.stands ∙ ap lent_if c.if-not-early.false in
    c.lend-lent.ensures.halves 0 here

pub take_back-requires-clause-halves : goal.take_back-requires-clause-halves
take_back-requires-clause-halves g c =
    let here : c.open_all-stream.result.0.stands ≡ Some 0 =
    ap (λ (s : StreamState). s.stands) c.open_all-stream.ensures.same ∙ ap (λ (s : StreamState). s.stands) c.take_back-stream.ensures
    in
    c.lend-stream.ensures.halves 0 here
