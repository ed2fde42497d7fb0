use Rattle.std.proofs.Common.{true, List, refl, ap, subst, ◌+◌}
use Rattle.ep_defs.specs.declared.event.EventDef.{EventDef}
use Rattle.ep_chunk.specs.Record.{Record}
use Rattle.pt_io.specs.Memory.{SinkState}
use Rattle.ep_stream.specs.Session.{Rest, rest_of, Writes}
use Rattle.ep_stream.specs.Steps.{Closes}
use Rattle.ep_stream.specs.Telling.{entries_of}
use Rattle.ep_rows.specs.Rows.{told_of}
use Rattle.ep_tables.specs.Made.{ClosesOn, IsSpent}
use Rattle.ep_tables.proofs.Telling.{ok_with, from_ok, tells_in, spent_in}
use Rattle.ep_tables.proofs.Ready.{closing}
use Rattle.ep_tables.proofs.Turning.{turn_made, session_tied, closed_now}
use Rattle.ep_tables.specs.Tables.{number_of}
use Rattle.ep_tables.proofs.Falling.{falls_set}
use Rattle.ep_tables.proofs.tables.Tables.close.Goals as goal

pub returns-clause-made : goal.returns-clause-made
returns-clause-made c =
    let old = c.args.self.now in
    let was = c.index_mut.result.now in
    let at = closing old c.args.both was c.requires.ready c.requires.tied c.index_mut.ensures.value in
    let closed = c.detach.ensures.detached in
    let stacks = (rest_of was.session).config.stackwalk in
    ok_with c.detach.result
    (λ u is.
    record {
      row = c.args.both.on.row;
      own = c.requires.ready.there.on.own;
      is_row = c.requires.ready.there.on.is_row;
      one = turn_made c.args.both.of.session c.args.both.of.place (ClosesOn old.events.items c.args.both.on.row) old _ was _ at.stands refl refl refl
          (ap (λ (r : Rest). r.seat) closed.rest) (ap (λ (r : Rest). r.config) closed.rest)
          (record {
            hand = closed.hand;
            records = closed.records;
            last = closed.last;
            chunks = closed.chunks;
            marks = closed.marks;
            held = closed.was;
            empty = at.empty;
            told = subst (λ s. Closes c.args.both.on.row s closed.records closed.last closed.chunks closed.marks (told_of old.rows) (told_of c.detach.new.rows)) at.tied.slot closed.told;
            hands = closed.hands;
            rest = closed.rest;
            tells = tells_in old.events.items (entries_of old.events.items stacks closed.records) was (record was { session = c.detach.new.self }) c.detach.result u is
                (subst (λ (es : List EventDef). Writes (λ (s : SinkState). true) (λ (s : SinkState). s.taken) es (entries_of es stacks closed.records) was.session c.detach.new.self c.detach.result) c.as_slice.ensures.value closed.writes);
            opened = refl;
          })
          refl c.detach.ensures.set.definitions_are refl refl refl refl refl;
    })

pub returns-clause-tied : goal.returns-clause-tied
returns-clause-tied c =
    let old = c.args.self.now in
    let was = c.index_mut.result.now in
    let closed = c.detach.ensures.detached in
    ok_with c.detach.result
    (λ u is.
    session_tied old _ c.args.both.of.session c.args.both.of.place was _ (closing old c.args.both was c.requires.ready c.requires.tied c.index_mut.ensures.value).stands
    refl refl refl refl c.detach.ensures.set.definitions_are c.detach.ensures.slots
    (λ tied. closed_now old.rows c.detach.new.rows was _ c.args.both.on.row closed.hand closed.marks refl refl refl (ap (λ (r : Rest). r.seat) closed.rest) c.detach.ensures.count c.detach.ensures.rows
    (from_ok c.detach.result u is c.detach.ensures.faulty.sound) closed.hands closed.was closed.marked.thread (ap (λ (r : Rest). r.marks) closed.rest) tied)
    c.requires.tied)

pub returns-clause-long : goal.returns-clause-long
returns-clause-long c is =
    let old = c.args.self.now in
    let was = c.index_mut.result.now in
    let at = closing old c.args.both was c.requires.ready c.requires.tied c.index_mut.ensures.value in
    let closed = c.detach.ensures.detached in
    let stacks = (rest_of was.session).config.stackwalk in
    let told = subst (λ s. Closes c.args.both.on.row s closed.records closed.last closed.chunks closed.marks (told_of old.rows) (told_of c.detach.new.rows)) at.tied.slot closed.told in
    record {
      row = c.args.both.on.row;
      own = c.requires.ready.there.on.own;
      place = c.args.both.of.place;
      was = was;
      stands = at.stands;
      buffer = told.buffer;
      slot_is = told.was;
      spent = subst (λ (rs : List Record). IsSpent old.events.items (entries_of old.events.items stacks rs) was) told.all.records_are
          (spent_in old.events.items (entries_of old.events.items stacks closed.records) was (record was { session = c.detach.new.self }) c.detach.result is
          (subst (λ (es : List EventDef). Writes (λ (s : SinkState). true) (λ (s : SinkState). s.taken) es (entries_of es stacks closed.records) was.session c.detach.new.self c.detach.result) c.as_slice.ensures.value closed.writes)
          c.detach.ensures.faulty);
    }

pub detach-requires-clause-row : goal.detach-requires-clause-row
detach-requires-clause-row c = (closing c.args.self.now c.args.both c.index_mut.result.now c.requires.ready c.requires.tied c.index_mut.ensures.value).hand

pub detach-requires-clause-empty : goal.detach-requires-clause-empty
detach-requires-clause-empty c = (closing c.args.self.now c.args.both c.index_mut.result.now c.requires.ready c.requires.tied c.index_mut.ensures.value).empty

pub invariant_of-self-clause-falling : goal.invariant_of-self-clause-falling
invariant_of-self-clause-falling c =
    let old = c.args.self.now in
    falls_set number_of (old.last_session + 1) old.present.items c.args.both.of.place c.index_mut.result.now _ c.index_mut.ensures.value refl old.falling
