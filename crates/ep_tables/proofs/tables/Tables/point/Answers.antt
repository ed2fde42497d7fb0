use Rattle.std.proofs.Common.{refl, ap, ◌+◌}
use Rattle.ep_stream.specs.Session.{Rest}
use Rattle.ep_tables.specs.Made.{Points}
use Rattle.ep_tables.proofs.Telling.{ok_with, from_ok, tells_in, spent_in}
use Rattle.ep_tables.proofs.Turning.{stands_at, turn_made, session_tied, kept_now, rows_with, keeps_same}
use Rattle.ep_tables.specs.Tables.{number_of}
use Rattle.ep_tables.proofs.Falling.{falls_set}
use Rattle.ep_tables.proofs.tables.Tables.point.Goals as goal

pub returns-clause-made : goal.returns-clause-made
returns-clause-made c =
    let old = c.args.self.now in
    let was = c.index_mut.result.now in
    ok_with c.point.result
    (λ u is.
    turn_made c.args.of.session c.args.of.place (Points old.events.items c.args.stamp) old _ was _
    (stands_at old c.args.of.session c.args.of.place was c.requires.ready.there c.index_mut.ensures.value) refl refl refl
    (ap (λ (r : Rest). r.seat) c.point.ensures.others) (ap (λ (r : Rest). r.config) c.point.ensures.others)
    (record {
      told = refl;
      hands = c.point.ensures.hands;
      rest = from_ok c.point.result u is c.point.ensures.named;
      tells = tells_in old.events.items _ was (record was { session = c.point.new.self }) c.point.result u is (c.point.ensures.writes old.events.items);
      opened = refl;
    })
    refl refl refl refl refl refl refl)

pub returns-clause-tied : goal.returns-clause-tied
returns-clause-tied c =
    let old = c.args.self.now in
    let was = c.index_mut.result.now in
    let others = c.point.ensures.others in
    ok_with c.point.result
    (λ u is.
    session_tied old _ c.args.of.session c.args.of.place was _ (stands_at old c.args.of.session c.args.of.place was c.requires.ready.there c.index_mut.ensures.value)
    refl refl refl refl refl (keeps_same old.rows _)
    (λ tied. kept_now old.rows old.rows was _ refl refl refl (ap (λ (r : Rest). r.seat) others) c.point.ensures.count
    (rows_with old.rows was (record was { session = c.point.new.self }) (ap (λ (r : Rest). r.seat) others) (ap (λ (r : Rest). r.config) others) (ap (λ (r : Rest). r.in_hand) others) c.point.ensures.hands tied.rows_are)
    (from_ok c.point.result u is c.point.ensures.faulty.sound) c.point.ensures.hands (ap (λ (r : Rest). r.marks) others) tied)
    c.requires.tied)

pub returns-clause-long : goal.returns-clause-long
returns-clause-long c is =
    let old = c.args.self.now in
    let was = c.index_mut.result.now in
    record {
      place = c.args.of.place;
      was = was;
      stands = stands_at old c.args.of.session c.args.of.place was c.requires.ready.there c.index_mut.ensures.value;
      spent = spent_in old.events.items _ was (record was { session = c.point.new.self }) c.point.result is (c.point.ensures.writes old.events.items) c.point.ensures.faulty;
    }

pub invariant_of-self-clause-falling : goal.invariant_of-self-clause-falling
invariant_of-self-clause-falling c =
    let old = c.args.self.now in
    falls_set number_of (old.last_session + 1) old.present.items c.args.of.place c.index_mut.result.now _ c.index_mut.ensures.value refl old.falling
