use Rattle.std.proofs.Common.{◌-◌, ◌∙◌, ℕ, sym, subst, arith}
use Rattle.std.proofs.Math.Logic.{∥∥₁_elim, ∥∥₁_map}
use Rattle.std.proofs.lemmas.Option.{same_Some}
use Rattle.ep_core_laws.specs.Rests.{IsKeptAt}
use Rattle.ep_core.proofs.Taking.{take_once}
use Rattle.ep_core.proofs.Working.{tied_once, place_within, read_is}
use Rattle.ep_core.proofs.work.Work.show.Goals as goal

pub index-requires : goal.index-requires
index-requires c =
    let begun = c.args.self.now.begun in
    let within = place_within c.args.both.on.row c.requires.goes c.requires.ready.there.on.is_row in
    omega (arith, within, begun.ok.0)

pub unreachable-requires : goal.unreachable-requires
unreachable-requires c =
    let self = c.args.self.now in
    let on = c.args.both.on in
    let own = c.requires.ready.there.on in
    let got = read_is self.begun.items (on.row - 1) c.index.result.now _ (place_within on.row c.requires.goes own.is_row) c.index.ensures c.in_default.is in
    ∥∥₁_elim c.requires.goes (hlevel) (λ goes. c.a_due_write_can_be_taken.ensures.kept on.thread c.args.both.of.session on.row self.tables self.begun.items goes own.own got)

pub show-requires-clause-tied : goal.show-requires-clause-tied
show-requires-clause-tied c = tied_once c.requires.goes

pub show-requires-clause-room : goal.show-requires-clause-room
show-requires-clause-room c =
    let self = c.args.self.now in
    let on = c.args.both.on in
    let session = c.args.both.of.session in
    let write = c.in-Some.write in
    let own = c.requires.ready.there.on in
    let got = read_is self.begun.items (on.row - 1) c.index.result.now _ (place_within on.row c.requires.goes own.is_row) c.index.ensures c.in-Some.is in
    take_once on.thread session write self.tables c.requires.ready.can
    (∥∥₁_map c.requires.goes (λ goes. c.a_due_write_can_be_taken.ensures.taken on.thread session on.row write self.tables self.begun.items goes own.own got))

pub returns : goal.returns
returns c =
    let self = c.args.self.now in
    let on = c.args.both.on in
    let write = c.in-Some.write in
    let own = c.requires.ready.there.on in
    let made = c.show.ensures.made in
    let got = read_is self.begun.items (on.row - 1) c.index.result.now _ (place_within on.row c.requires.goes own.is_row) c.index.ensures c.in-Some.is in
    let At : ℕ → Type 0 = λ r. IsKeptAt r write self.begun.items in
    c.a_machine_follows_a_show.ensures on.thread c.args.both.of.session write self.tables _ self.begun.items made c.show.ensures.tied
    (subst At (same_Some on.row made.row (sym own.own ∙ made.own)) got)
