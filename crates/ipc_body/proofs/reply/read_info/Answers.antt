use Rattle.pt_num.proofs.Joined.{rest_is}
use Rattle.ipc_body.proofs.Placed.{replies-through, info-is, info-no_line, info-no_system, info-no_arch}
use Rattle.ipc_body.specs.Reply.{text_at, info_at}
use Rattle.ipc_body.proofs.reply.read_info.Goals as goal

pub returns-in-Err-clause-exact : goal.returns-in-Err-clause-exact
returns-in-Err-clause-exact c =
    replies-through (info_at c.args.bytes.now) (text_at c.args.bytes.now 44) c.in-Err.fault
    (λ at. info-no_line c.args.bytes.now _ c.in-Some-take_cookie.cookie c.in-Some.process_id at
    (record { there = rest_is 20 c.args.bytes.now; number = c.in-Some.ensures.read; long = c.in-Some-take_cookie.ensures.0; bytes = c.in-Some-take_cookie.ensures.1 }))
    c.in-Err.ensures.exact

pub returns-in-Err-read_text-clause-exact : goal.returns-in-Err-read_text-clause-exact
returns-in-Err-read_text-clause-exact c =
    replies-through (info_at c.args.bytes.now) (text_at c.args.bytes.now c.in-Ok.text.1) c.in-Err-read_text.fault
    (λ at. info-no_system c.args.bytes.now _ c.in-Some-take_cookie.cookie c.in-Ok.text.0 c.in-Some.process_id c.in-Ok.text.1 at
    (record { there = rest_is 20 c.args.bytes.now; number = c.in-Some.ensures.read; long = c.in-Some-take_cookie.ensures.0; bytes = c.in-Some-take_cookie.ensures.1 })
    c.in-Ok.ensures.exact)
    c.in-Err-read_text.ensures.exact

pub returns-in-Err-read_text-2-clause-exact : goal.returns-in-Err-read_text-2-clause-exact
returns-in-Err-read_text-2-clause-exact c =
    replies-through (info_at c.args.bytes.now) (text_at c.args.bytes.now c.in-Ok-read_text.text.1) c.in-Err-read_text-2.fault
    (λ at. info-no_arch c.args.bytes.now _ c.in-Some-take_cookie.cookie c.in-Ok.text.0 c.in-Ok-read_text.text.0 c.in-Some.process_id c.in-Ok.text.1 c.in-Ok-read_text.text.1 at
    (record { there = rest_is 20 c.args.bytes.now; number = c.in-Some.ensures.read; long = c.in-Some-take_cookie.ensures.0; bytes = c.in-Some-take_cookie.ensures.1 })
    c.in-Ok.ensures.exact c.in-Ok-read_text.ensures.exact)
    c.in-Err-read_text-2.ensures.exact

pub returns-clause-exact : goal.returns-clause-exact
returns-clause-exact c =
    info-is c.args.bytes.now _ c.in-Some-take_cookie.cookie c.in-Ok.text.0 c.in-Ok-read_text.text.0 c.in-Ok-read_text-2.text.0 c.in-Some.process_id
    c.in-Ok.text.1 c.in-Ok-read_text.text.1 c.in-Ok-read_text-2.text.1
    (record { there = rest_is 20 c.args.bytes.now; number = c.in-Some.ensures.read; long = c.in-Some-take_cookie.ensures.0; bytes = c.in-Some-take_cookie.ensures.1 })
    c.in-Ok.ensures.exact c.in-Ok-read_text.ensures.exact c.in-Ok-read_text-2.ensures.exact
