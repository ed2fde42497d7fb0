use Rattle.std.proofs.Common.{refl, length}
use Rattle.nt_write.specs.Layout.{new_metas}
use Rattle.nt_write.proofs.Answered.{on_ok-then}
use Rattle.nt_write.proofs.Defining.{definition-pending}
use Rattle.nt_write.proofs.pending.Pending.add_definition.Goals as goal

pub returns-clause-ok : goal.returns-clause-ok
returns-clause-ok c layout def h few is_new =
    on_ok-then c.add.result
    (λ made. definition-pending layout def c.args.self.now _ c.meta_head.result c.args.payload.now (length c.args.payload.now) h few is_new made c.meta_head.ensures refl refl refl)
    (c.add.ensures.ok (new_metas layout) h.metadata)
