use Rattle.std.proofs.Common.{ℕ, ap, sym, ◌∙◌}
use Rattle.nt_meta.specs.Meta.{meta_payload}
use Rattle.nt_write.proofs.Defining.{payload-put}
use Rattle.nt_write.proofs.writer.new_meta.Goals as goal

pub returns-clause-new : goal.returns-clause-new
returns-clause-new c defs definitions h at =
    let put = payload-put c.put_meta.new.out.items c.new-payload.result.items c.next.result c.args.def.now c.in_ok-put_meta.ensures.ok c.new-payload.ensures.items in (
      sym (h.id_is c.args.number c.args.def.now at) ∙ sym c.get.ensures ∙ c.if-get-ne0.false,
      c.new.ensures ∙ put ∙ ap (λ (n : ℕ). meta_payload n c.args.def.now) (c.next.ensures.next defs definitions h),
    )
