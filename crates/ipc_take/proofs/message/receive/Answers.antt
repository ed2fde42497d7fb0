use Rattle.std.proofs.Common.{ℕ, List, ◌++◌, ◌∙◌, ap}
use Rattle.ipc_take.specs.Own.{own_bytes}
use Rattle.ipc_take.proofs.Reading.{own-is, header-part, later-part, part-whole}
use Rattle.ipc_take.proofs.message.receive.Goals as goal

pub returns-clause-own : goal.returns-clause-own
returns-clause-own g c =
    let first = c.in_ok-read_more.ensures.gave in
    let second = c.in_ok-read_more-2.ensures.gave in
    let head_is = first.3.0 ∙ ap (λ (xs : List ℕ). xs ++ first.0) c.new-bytes.ensures.items in
    own-is g.L.Source.tells_given g.L.Source.given g.L.Source.left c.args.link.now c.read_more.new.link c.read_more-2.new.link
    first.0 c.deref.result.now second.0 c.read_more-2.new.bytes.items c.lacking_bytes-lacking.result
    first.1 first.3.1 c.read_more.ensures.told second.1 second.3.1
    (c.deref.ensures.value ∙ head_is) c.lacking_bytes-lacking.ensures
    (second.3.0 ∙ ap (λ (xs : List ℕ). xs ++ second.0) head_is)

pub returns-in_err-read_more-clause-part : goal.returns-in_err-read_more-clause-part
returns-in_err-read_more-clause-part g c =
    let first = c.in_err-read_more.ensures.gave in
    header-part g.L.Source.tells_given g.L.Source.given g.L.Source.left c.args.link.now c.read_more.new.link first.0 first.1 first.2

pub returns-in_err-read_more-2-clause-part : goal.returns-in_err-read_more-2-clause-part
returns-in_err-read_more-2-clause-part g c =
    let first = c.in_ok-read_more.ensures.gave in
    let second = c.in_err-read_more-2.ensures.gave in
    let head_is = first.3.0 ∙ ap (λ (xs : List ℕ). xs ++ first.0) c.new-bytes.ensures.items in
    later-part g.L.Source.tells_given g.L.Source.given g.L.Source.left c.args.link.now c.read_more.new.link c.read_more-2.new.link
    first.0 c.deref.result.now second.0 c.lacking_bytes-lacking.result
    first.1 first.3.1 c.read_more.ensures.told second.1 second.2
    (c.deref.ensures.value ∙ head_is) c.lacking_bytes-lacking.ensures

pub returns-clause-part : goal.returns-clause-part
returns-clause-part g c =
    let first = c.in_ok-read_more.ensures.gave in
    let second = c.in_ok-read_more-2.ensures.gave in
    let head_is = first.3.0 ∙ ap (λ (xs : List ℕ). xs ++ first.0) c.new-bytes.ensures.items in
    later-part g.L.Source.tells_given g.L.Source.given g.L.Source.left c.args.link.now c.read_more.new.link c.read_more-2.new.link
    first.0 c.deref.result.now second.0 c.lacking_bytes-lacking.result
    first.1 first.3.1 c.read_more.ensures.told second.1 second.2
    (c.deref.ensures.value ∙ head_is) c.lacking_bytes-lacking.ensures

pub returns-in_err-read_more-clause-whole : goal.returns-in_err-read_more-clause-whole
returns-in_err-read_more-clause-whole g c =
    part-whole g.L.Source.tells_given g.L.Source.given g.L.Source.left c.args.link.now c.read_more.new.link (own_bytes (g.L.Source.left c.args.link.now)) (returns-in_err-read_more-clause-part g c)

pub returns-in_err-read_more-2-clause-whole : goal.returns-in_err-read_more-2-clause-whole
returns-in_err-read_more-2-clause-whole g c =
    part-whole g.L.Source.tells_given g.L.Source.given g.L.Source.left c.args.link.now c.read_more-2.new.link (own_bytes (g.L.Source.left c.args.link.now)) (returns-in_err-read_more-2-clause-part g c)

pub returns-clause-whole : goal.returns-clause-whole
returns-clause-whole g c =
    part-whole g.L.Source.tells_given g.L.Source.given g.L.Source.left c.args.link.now c.read_more-2.new.link (own_bytes (g.L.Source.left c.args.link.now)) (returns-clause-part g c)
