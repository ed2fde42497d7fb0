use Rattle.std.proofs.Common.{◌∙◌, sym}
use Rattle.nt_object.proofs.Named.{named_open, named_ended}
use Rattle.nt_object.proofs.head.named.Goals as goal

pub returns-then-bytes-name_len-ne-END_OBJECT : goal.returns-then-bytes-name_len-ne-END_OBJECT
returns-then-bytes-name_len-ne-END_OBJECT c =
    named_open c.args.name_len c.args.bytes.now c.in-Some.kind (sym c.in-Some.ensures) c.if-bytes-name_len-ne-END_OBJECT.true

pub returns : goal.returns
returns c =
    c.versions.ensures
    ∙ named_ended c.args.name_len c.args.bytes.now c.in-Some.kind (sym c.in-Some.ensures) c.if-bytes-name_len-ne-END_OBJECT.false
