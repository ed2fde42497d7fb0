use Rattle.std.proofs.Common.{◌+◌, List, refl, ap, ◌∙◌, subst}
use Rattle.std.specs.Prelude.{is_some, if◌then◌else◌}
use Rattle.std.specs.BTreeMap.{get, btree_map_len}
use Rattle.std.specs.Ordering.{nat_cmp}
use Rattle.ep_defs.specs.declared.event.EventDef.{EventDef}
use Rattle.nt_write.specs.Writer.{fault_of as writer_fault}
use Rattle.ep_stream.specs.Session.{Rest, rest_of}
use Rattle.ep_stream.specs.Steps.{Opens}
use Rattle.ep_rows.specs.Rows.{told_of}
use Rattle.ep_tables.specs.Made.{OpensOn}
use Rattle.ep_tables.proofs.Opened.{open_now, opened_more}
use Rattle.ep_tables.proofs.Ready.{opening, hand_off, few_opened, never_opened}
use Rattle.ep_tables.proofs.Turning.{turn_made, session_tied, own_thread}
use Rattle.ep_tables.specs.Tables.{number_of}
use Rattle.ep_tables.proofs.Falling.{falls_set}
use Rattle.ep_tables.proofs.tables.Tables.open.Goals as goal

pub returns-clause-made : goal.returns-clause-made
returns-clause-made c =
    let old = c.args.self.now in
    let was = c.index_mut-present.result.now in
    let row = c.args.both.on.row in
    let rest = rest_of was.session in
    let at = opening old c.args.both was c.requires.ready c.requires.tied c.index_mut-present.ensures.value in
    let attached = c.in_ok-attach.ensures.attached in
    record {
      row = row;
      own = c.requires.ready.there.on.own;
      is_row = c.requires.ready.there.on.is_row;
      one = turn_made c.args.both.of.session c.args.both.of.place (OpensOn old.events.items c.args.both.on.thread row) old _ was _ at.stands refl refl refl
          (ap (λ (r : Rest). r.seat) attached.rest) (ap (λ (r : Rest). r.config) attached.rest)
          (record {
            attached = attached;
            told = subst (λ s. Opens old.events.items row s rest.seat.id rest.config (told_of old.rows) (told_of c.attach.new.rows)) at.tied.slot
                (subst (λ (es : List EventDef). Opens es row rest.seat.slot rest.seat.id rest.config (told_of old.rows) (told_of c.attach.new.rows)) c.requires.tied.known c.in_ok-attach.ensures.told);
            writer = c.in_ok-attach.ensures.writer;
            ever = λ t. opened_more (get nat_cmp c.insert.new.self t) (get nat_cmp was.opened t) _ c.args.both.on.thread t (c.in_ok-insert.ensures.updates.0 t);
            count = c.in_ok-insert.ensures.len ∙ ap (λ o. btree_map_len was.opened + (if is_some o then 0 else 1)) (c.in_ok-insert.ensures.old ∙ at.can.never);
          })
          refl c.in_ok-attach.ensures.set.definitions_are refl refl refl refl refl;
    }

pub returns-clause-tied : goal.returns-clause-tied
returns-clause-tied c =
    let old = c.args.self.now in
    let was = c.index_mut-present.result.now in
    let row = c.args.both.on.row in
    let at = opening old c.args.both was c.requires.ready c.requires.tied c.index_mut-present.ensures.value in
    let attached = c.in_ok-attach.ensures.attached in
    session_tied old _ c.args.both.of.session c.args.both.of.place was _ at.stands
    refl refl refl refl c.in_ok-attach.ensures.set.definitions_are c.in_ok-attach.ensures.slots
    (λ tied. open_now old.rows c.attach.new.rows was _ row c.args.both.on.thread attached.hand refl refl (ap (λ (r : Rest). r.seat) attached.rest) c.in_ok-attach.ensures.count
    (c.in_ok-insert.ensures.len ∙ ap (λ o. btree_map_len was.opened + (if is_some o then 0 else 1)) (c.in_ok-insert.ensures.old ∙ at.can.never))
    (λ t. opened_more (get nat_cmp c.insert.new.self t) (get nat_cmp was.opened t) _ c.args.both.on.thread t (c.in_ok-insert.ensures.updates.0 t))
    c.in_ok-attach.ensures.rows (ap writer_fault c.in_ok-attach.ensures.writer ∙ tied.sound) attached.hands
    (attached.tested ∙ own_thread (told_of old.rows) c.args.both.on.thread row (get nat_cmp old.threads c.args.both.on.thread) c.requires.ready.there.on.own)
    (ap (λ (r : Rest). r.marks) attached.rest) tied)
    c.requires.tied

pub attach-requires-clause-off : goal.attach-requires-clause-off
attach-requires-clause-off c =
    let both = c.args.both in
    let was = c.index_mut-present.result.now in
    let at = opening c.args.self.now both was c.requires.ready c.requires.tied c.index_mut-present.ensures.value in
    hand_off c.args.self.now.rows was both.on.thread both.on.row at.tied at.can

pub attach-requires-clause-few : goal.attach-requires-clause-few
attach-requires-clause-few c =
    let both = c.args.both in
    let was = c.index_mut-present.result.now in
    let at = opening c.args.self.now both was c.requires.ready c.requires.tied c.index_mut-present.ensures.value in
    few_opened c.args.self.now.rows was both.on.thread both.on.row at.tied at.can

pub attach-requires-clause-new : goal.attach-requires-clause-new
attach-requires-clause-new c hand tested =
    let old = c.args.self.now in
    let both = c.args.both in
    let was = c.index_mut-present.result.now in
    let at = opening old both was c.requires.ready c.requires.tied c.index_mut-present.ensures.value in
    never_opened old.rows was both.on.thread both.on.row hand.thread at.tied at.can
    (tested ∙ own_thread (told_of old.rows) both.on.thread both.on.row (get nat_cmp old.threads both.on.thread) c.requires.ready.there.on.own)

pub invariant_of-self : goal.invariant_of-self
invariant_of-self c =
    let old = c.args.self.now in
    record {
      given = old.given;
      places = old.places;
      known = old.known;
      falling = falls_set number_of (old.last_session + 1) old.present.items c.args.both.of.place c.index_mut-present.result.now _ c.index_mut-present.ensures.value refl old.falling;
    }

pub invariant_of-self-2-clause-falling : goal.invariant_of-self-2-clause-falling
invariant_of-self-2-clause-falling c =
    let old = c.args.self.now in
    falls_set number_of (old.last_session + 1) old.present.items c.args.both.of.place c.index_mut-present.result.now _ c.index_mut-present.ensures.value refl old.falling
