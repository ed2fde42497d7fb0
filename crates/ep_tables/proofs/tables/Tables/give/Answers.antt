use Rattle.std.proofs.Common.{refl, ap, ◌∙◌, ◌+◌}
use Rattle.nt_write.specs.Writer.{fault_of as writer_fault}
use Rattle.ep_stream.specs.Session.{Rest}
use Rattle.ep_tables.specs.Made.{Gives}
use Rattle.ep_tables.specs.Tied.{IsTied}
use Rattle.ep_tables.proofs.Turning.{stands_at, one_of, turn_made, session_tied, kept_now, give_told}
use Rattle.ep_tables.specs.Tables.{number_of}
use Rattle.ep_tables.proofs.Falling.{falls_set}
use Rattle.ep_tables.proofs.tables.Tables.give.Goals as goal

pub returns-clause-made : goal.returns-clause-made
returns-clause-made c =
    let old = c.args.self.now in
    let was = c.index_mut.result.now in
    let stands = stands_at old c.args.of.session c.args.of.place was c.requires.ready.there c.index_mut.ensures.value in
    let tied = one_of (IsTied old.rows) old.present.items c.args.of.place was c.requires.tied.sessions stands.there in
    turn_made c.args.of.session c.args.of.place Gives old _ was _ stands refl refl refl
    (ap (λ (r : Rest). r.seat) c.give.ensures.rest) (ap (λ (r : Rest). r.config) c.give.ensures.rest)
    (record {
      told = give_told was.slot _ _ old.rows c.give.new.rows tied.slot c.give.ensures.none c.give.ensures.told;
      hands = c.give.ensures.hands;
      rest = c.give.ensures.rest;
      writer = c.give.ensures.writer;
      opened = refl;
    })
    refl c.give.ensures.set.definitions_are refl refl refl refl refl

pub returns-clause-tied : goal.returns-clause-tied
returns-clause-tied c =
    let old = c.args.self.now in
    let was = c.index_mut.result.now in
    session_tied old _ c.args.of.session c.args.of.place was _ (stands_at old c.args.of.session c.args.of.place was c.requires.ready.there c.index_mut.ensures.value)
    refl refl refl refl c.give.ensures.set.definitions_are c.give.ensures.slots
    (λ tied. kept_now old.rows c.give.new.rows was _ refl refl refl (ap (λ (r : Rest). r.seat) c.give.ensures.rest) c.give.ensures.count c.give.ensures.rows
    (ap writer_fault c.give.ensures.writer ∙ tied.sound) c.give.ensures.hands (ap (λ (r : Rest). r.marks) c.give.ensures.rest) tied)
    c.requires.tied

pub invariant_of-self-clause-falling : goal.invariant_of-self-clause-falling
invariant_of-self-clause-falling c =
    let old = c.args.self.now in
    falls_set number_of (old.last_session + 1) old.present.items c.args.of.place c.index_mut.result.now _ c.index_mut.ensures.value refl old.falling
