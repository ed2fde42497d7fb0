use Rattle.std.proofs.Common.{nat_lt, arith}
use Rattle.std.proofs.lemmas.List.Sums.{prefix_len-le-length}
use Rattle.ep_defs.specs.declared.event.FieldDef.{FieldDef}
use Rattle.nt_meta.proofs.PutFields.{after_is}
use Rattle.nt_meta.proofs.put.split_inside.Goals as goal

pub split_at-requires : goal.split_at-requires
split_at-requires c =
    let few = prefix_len-le-length (λ (f : FieldDef). nat_lt c.args.field.now.depth f.depth) c.args.later.now in
    omega (arith, c.inside_len.ensures)

pub returns-clause-after : goal.returns-clause-after
returns-clause-after c =
    let e = after_is c.args.field.now c.args.later.now in
    cc (c.split_at.ensures.back, c.inside_len.ensures)
