-- The members stand behind what opens them, or all of the payload in place of that.
use Rattle.std.proofs.Common.{◌≡◌, List, ℕ, ◌++◌, length, take, ap, ◌∙◌, arith, length-append}
use Rattle.std.specs.Prelude.{codes}
use Rattle.std.proofs.lemmas.Result.{on_ok_weaker}
use Rattle.nt_fields.specs.Values.{payload_at}
use Rattle.pt_lines.specs.state.Opening.{opening}
use Rattle.pt_lines.proofs.Members.{payload-fits, payload-misfits}
use Rattle.pt_lines.proofs.json.fields.put_payload.Goals as goal

pub returns-then-branch : goal.returns-then-branch
returns-then-branch c = λ old opened.
    let fields = c.args.fields.now in
    let payload = c.args.payload.now in
    payload-fits fields payload (payload_at fields payload) old c.args.out.now.items c.put_members.new.out.items _
    (rw c.if-branch.true at c.in_ok-put_members.ensures) opened c.in_ok-push.ensures.items

pub returns : goal.returns
returns c = λ old opened.
    let fields = c.args.fields.now in
    let payload = c.args.payload.now in
    let size : length c.args.out.now.items ≡ length (old ++ opening) = ap length opened in
    let start : c.saturating_sub-start.result ≡ length old = omega (arith, c.saturating_sub-start.ensures, c.len.ensures, c.args.out.now.ok.0, size, length-append old opening) in
    let cut = c.truncate.ensures.items ∙ ap (λ (n : ℕ). take n c.put_members.new.out.items) start in
    on_ok_weaker c.put_quoted_hex.result
    (λ e.
    payload-misfits fields payload (payload_at fields payload) old c.args.out.now.items c.put_members.new.out.items c.put_word.new.out.items _
    (rw c.if-branch.false at c.in_ok-put_members.ensures) opened
    (c.in_ok-put_word.ensures.ok ∙ ap (λ (xs : List ℕ). xs ++ codes ",\"payload\":") cut) e)
    c.put_quoted_hex.ensures
