use Rattle.std.proofs.Common.{◌≡◌, true, List, Ok, Err, refl, ap, ◌∙◌, subst, ◌+◌}
use Rattle.ep_defs.specs.declared.event.EventDef.{EventDef}
use Rattle.ep_chunk.specs.Record.{Record}
use Rattle.pt_io.specs.Memory.{SinkState}
use Rattle.nt_write.specs.declared.fault.Fault.{Fault}
use Rattle.nt_write.specs.declared.fault.Fault.TheVariants.{TooLong}
use Rattle.ep_stream.specs.Session.{Rest, rest_of, Writes}
use Rattle.ep_stream.specs.Steps.{Steals}
use Rattle.ep_stream.specs.Telling.{entries_of}
use Rattle.ep_stream.proofs.Telling.{err_is}
use Rattle.ep_stream.proofs.Sweep.{err_same}
use Rattle.ep_rows.specs.Rows.{told_of}
use Rattle.ep_tables.specs.Made.{StealsOn, IsSpent}
use Rattle.ep_tables.proofs.Telling.{tells_in, spent_in}
use Rattle.ep_tables.proofs.Ready.{stealing}
use Rattle.ep_tables.proofs.Turning.{turn_made, session_tied, hand_now}
use Rattle.ep_tables.specs.Tables.{number_of}
use Rattle.ep_tables.proofs.Falling.{falls_set}
use Rattle.ep_tables.proofs.tables.Tables.steal.Goals as goal

pub returns-in_err-steal-clause-long : goal.returns-in_err-steal-clause-long
returns-in_err-steal-clause-long c is =
    let old = c.args.self.now in
    let was = c.index_mut.result.now in
    let at = stealing old c.args.both was c.requires.ready c.requires.tied c.index_mut.ensures.value in
    let stolen = c.steal.ensures.stolen in
    let stacks = (rest_of was.session).config.stackwalk in
    let told = subst (λ s. Steals c.args.both.on.row s stolen.records stolen.last stolen.chunks (told_of old.rows) (told_of c.steal.new.rows)) at.tied.slot stolen.told in
    let writes = subst (λ (es : List EventDef). Writes (λ (s : SinkState). true) (λ (s : SinkState). s.taken) es (entries_of es stacks stolen.records) was.session c.steal.new.self c.steal.result) c.as_slice.ensures.value stolen.writes in
    let long : c.steal.result ≡ Err TooLong = c.in_err-steal.was ∙ (ap (λ (fault : Fault). Err fault) (err_same _ _ _ (err_is c.from_residual.result c.in_err-steal.field-0.0 c.from_residual.ensures.1) is)) in
    record {
      row = c.args.both.on.row;
      own = c.requires.ready.there.on.own;
      place = c.args.both.of.place;
      was = was;
      stands = at.stands;
      buffer = told.buffer;
      slot_is = told.was;
      spent = subst (λ (rs : List Record). IsSpent old.events.items (entries_of old.events.items stacks rs) was) told.all.records_are
          (spent_in old.events.items (entries_of old.events.items stacks stolen.records) was (record was { session = c.steal.new.self }) c.steal.result long writes c.steal.ensures.faulty);
    }

pub returns-clause-made : goal.returns-clause-made
returns-clause-made c =
    let old = c.args.self.now in
    let was = c.index_mut.result.now in
    let at = stealing old c.args.both was c.requires.ready c.requires.tied c.index_mut.ensures.value in
    let stolen = c.in_ok-steal.ensures.stolen in
    let stacks = (rest_of was.session).config.stackwalk in
    record {
      row = c.args.both.on.row;
      own = c.requires.ready.there.on.own;
      is_row = c.requires.ready.there.on.is_row;
      one = turn_made c.args.both.of.session c.args.both.of.place (StealsOn old.events.items c.args.both.on.row) old _ was _ at.stands refl refl refl
          (ap (λ (r : Rest). r.seat) stolen.rest) (ap (λ (r : Rest). r.config) stolen.rest)
          (record {
            hand = stolen.hand;
            records = stolen.records;
            last = stolen.last;
            chunks = stolen.chunks;
            held = stolen.was;
            empty = at.empty;
            told = subst (λ s. Steals c.args.both.on.row s stolen.records stolen.last stolen.chunks (told_of old.rows) (told_of c.steal.new.rows)) at.tied.slot stolen.told;
            hands = stolen.hands;
            rest = stolen.rest;
            tells = tells_in old.events.items (entries_of old.events.items stacks stolen.records) was (record was { session = c.steal.new.self }) (Ok c.in_ok-steal.field-0) c.in_ok-steal.field-0 refl
                (subst (λ (es : List EventDef). Writes (λ (s : SinkState). true) (λ (s : SinkState). s.taken) es (entries_of es stacks stolen.records) was.session c.steal.new.self (Ok c.in_ok-steal.field-0)) c.as_slice.ensures.value stolen.writes);
            opened = refl;
          })
          refl c.in_ok-steal.ensures.set.definitions_are refl refl refl refl refl;
    }

pub returns-clause-tied : goal.returns-clause-tied
returns-clause-tied c =
    let old = c.args.self.now in
    let was = c.index_mut.result.now in
    let stolen = c.in_ok-steal.ensures.stolen in
    session_tied old _ c.args.both.of.session c.args.both.of.place was _ (stealing old c.args.both was c.requires.ready c.requires.tied c.index_mut.ensures.value).stands
    refl refl refl refl c.in_ok-steal.ensures.set.definitions_are c.in_ok-steal.ensures.slots
    (λ tied. hand_now old.rows c.steal.new.rows was _ c.args.both.on.row stolen.hand _ refl refl refl (ap (λ (r : Rest). r.seat) stolen.rest) c.in_ok-steal.ensures.count c.in_ok-steal.ensures.rows
    c.in_ok-steal.ensures.faulty.sound stolen.hands stolen.was refl (ap (λ (r : Rest). r.marks) stolen.rest) tied)
    c.requires.tied

pub steal-requires-clause-row : goal.steal-requires-clause-row
steal-requires-clause-row c = (stealing c.args.self.now c.args.both c.index_mut.result.now c.requires.ready c.requires.tied c.index_mut.ensures.value).hand

pub steal-requires-clause-empty : goal.steal-requires-clause-empty
steal-requires-clause-empty c = (stealing c.args.self.now c.args.both c.index_mut.result.now c.requires.ready c.requires.tied c.index_mut.ensures.value).empty

pub invariant_of-self-clause-falling : goal.invariant_of-self-clause-falling
invariant_of-self-clause-falling c =
    let old = c.args.self.now in
    falls_set number_of (old.last_session + 1) old.present.items c.args.both.of.place c.index_mut.result.now _ c.index_mut.ensures.value refl old.falling
