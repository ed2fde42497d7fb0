use Rattle.std.proofs.Common.{◌≡◌, ◌∙◌, ◌*◌, ◌+◌, ◌<◌, ℕ, List, length, Option, Some, refl, ap, sym, subst, rules, arith}
use Rattle.std.specs.Prelude.{IsNone, option_map}
use Rattle.std.proofs.lemmas.Option.{slice_get_read}
use Rattle.ep_row.specs.declared.row.Opening.{Opening}
use Rattle.ep_tie.specs.Tied.{Tied}
use Rattle.ep_guarded.specs.declared.agreed.Told.{Told}
use Rattle.ep_guarded.specs.declared.agreed.Agreed.{Agreed}
use Rattle.ep_slot.specs.Hand.{HandState}
use Rattle.ep_guarded.specs.Tied.{TiedRowState, BufferState, hand_in, grant_in, thread_of}
use Rattle.ep_guarded.specs.declared.grant.Grant.{Grant}
use Rattle.ep_guarded.specs.Resting.{RowRests}
use Rattle.ep_guarded.specs.Calls.{OpensRow}
use Rattle.ep_guarded.proofs.Openings.{put-back, set-twice, row-opened}
use Rattle.ep_guarded.proofs.row.TiedRow.open.Goals as goal

pub open-requires-clause-off : goal.open-requires-clause-off
open-requires-clause-off g c =
    let at = slice_get_read c.self.inside.buffers.items _ c.args.asked.now.site.slot c.index_mut.result.now refl (omega (arith, c.self.invariant.count, c.requires.can.slot_is)) c.index_mut.ensures.value in
    let told = c.self.invariant.told c.args.asked.now.site.slot c.index_mut.result.now at in
    subst (λ (o : Option Opening). IsNone o) (sym (told.slot_is ∙ ap (λ (t : Option Told). option_map (λ t. t.opening) t) c.meet.ensures.off)) refl

pub put-requires-clause-place : goal.put-requires-clause-place
put-requires-clause-place g c =
    let slot = c.args.asked.now.site.slot in
    let buffers : List (Tied Agreed) = c.self.inside.buffers.items in
    let small : slot < length buffers = omega (arith, c.self.invariant.count, c.requires.can.slot_is) in
    let at = slice_get_read buffers _ slot c.index_mut.result.now refl small c.index_mut.ensures.value in
    ap (λ (t : Tied Agreed). t.place) (put-back buffers slot c.meet.new.half c.index_mut-2.result.now small c.index_mut-2.ensures.value ∙ c.meet.ensures.same.1)
    ∙ c.self.invariant.places slot c.index_mut.result.now at
    ∙ ap (λ (r : TiedRowState). g.P.Program.rows + 2 * (r.number * 64 + slot)) c.self.view_is
    ∙ sym c.requires.place
    ∙ ap (λ (b : BufferState). b.place) (sym c.meet.ensures.same.0)

pub invariant_of-self-2 : goal.invariant_of-self-2
invariant_of-self-2 g c =
    let slot = c.args.asked.now.site.slot in
    let buffers : List (Tied Agreed) = c.self.inside.buffers.items in
    let small : slot < length buffers = omega (arith, c.self.invariant.count, c.requires.can.slot_is) in
    let at = slice_get_read buffers _ slot c.index_mut.result.now refl small c.index_mut.ensures.value in
    let same = put-back buffers slot c.meet.new.half c.index_mut-2.result.now small c.index_mut-2.ensures.value in
    let opened = c.in_ok-kept.ensures.opened in
    subst (λ (bs : List (Tied Agreed)). RowRests g.P.Program.rows g.P.Program.events g.P.Program.writes c.self.inside.life c.open.new.row bs c.self.inside.writer) (sym (set-twice buffers slot c.meet.new.half c.put.new.half))
    (row-opened _ _ _ _ c.self.inside.row c.open.new.row buffers _ c.index_mut.result.now c.put.new.half slot c.in_ok-kept.kept.told c.self.invariant at
    (c.put.ensures.places.1 ∙ ap (λ (t : Tied Agreed). t.place) (same ∙ c.meet.ensures.same.1))
    c.put.ensures.told opened.thread
    (subst (λ (g' : Grant). OpensRow g.P.Program.events slot g'.config c.in_ok-kept.kept.told.opening c.self.inside.row c.open.new.row) (sym opened.grant_is) opened.row_is))

pub returns-clause-opens : goal.returns-clause-opens
returns-clause-opens g c =
    let opened = c.in_ok-kept.ensures.opened in
    let asked = c.args.asked.now in
    let rows : ℕ = g.P.Program.rows in
    let life : c.self.inside.life ≡ asked.site.life = search rules in
    let thread =
    c.self.invariant.thread_is ∙ ap (λ (r : TiedRowState). thread_of rows r.number c.self.inside.life) c.self.view_is
    ∙ ap (λ (l : ℕ). thread_of rows c.args.self.now.number l) life
    in
    record {
      hand_is =
          opened.fresh
          ∙ ap (λ (t : ℕ). record { session = asked.session; thread = t; from = c.self.inside.row.index; taken = 0; last = 0; stolen = 0 }) thread
          ∙ ap (λ (f : ℕ). record { session = asked.session; thread = thread_of rows c.args.self.now.number asked.site.life; from = f; taken = 0; last = 0; stolen = 0 }) (sym (ap (λ (h : HandState). h.from) opened.fresh));
      half_is = ap hand_in c.put.ensures.held ∙ ap (λ (h : HandState). Some h) (sym opened.agree);
      grant_is = ap grant_in c.put.ensures.held ∙ ap (λ (x : Grant). Some x) opened.grant_is;
      seat_is = c.in_ok-kept.ensures.seat;
    }
