use Rattle.std.proofs.Common.{[]}
use Rattle.ep_defs.specs.Definitions.{definition_at}
use Rattle.tp_c.proofs.Recordings.{by_writer, at-its-own, over-whole, over-broken}
use Rattle.tp_c.proofs.recorder.ended.Goals as goal

pub returns-in-Open-clause-whole : goal.returns-in-Open-clause-whole
returns-in-Open-clause-whole c info entries definitions distinct stands cut =
    let writer = c.in-Open.writer in
    let writing = at-its-own info entries definitions writer distinct (by_writer info entries definitions c.args.stage writer c.in-Open.is stands) in
    over-whole info entries definitions c.end-outlet.result.0 c.end-outlet.result.1 _ c.is_ok.ensures.value
    (c.end-outlet.ensures.ok [] (definition_at definitions) info entries writing) cut

pub returns-in-Open-clause-broken : goal.returns-in-Open-clause-broken
returns-in-Open-clause-broken c info entries definitions distinct stands cut =
    let writer = c.in-Open.writer in
    let writing = at-its-own info entries definitions writer distinct (by_writer info entries definitions c.args.stage writer c.in-Open.is stands) in
    over-broken info entries c.end-outlet.result.0 c.end-outlet.result.1 _ c.is_ok.ensures.value
    (c.end-outlet.ensures.part [] (definition_at definitions) info entries writing) cut
