-- The members are the pieces that were put.
use Rattle.std.proofs.Common.{◌≡◌, List, ℕ, ◌++◌, ◌∙◌, sym, ap, replicate, append_assoc}
use Rattle.std.specs.Prelude.{codes}
use Rattle.std.proofs.lemmas.Result.{on_ok_weaker}
use Rattle.ep_defs.specs.declared.event.EventDef.{EventDef}
use Rattle.ep_defs.proofs.Sameness.{text-means}
use Rattle.pt_lines.specs.Json.{activity_members, behind_commas, definition_members}
use Rattle.pt_lines.specs.state.Pieces.{activities_text, alone_text, described_text}
use Rattle.pt_print.proofs.Numbers.{appended}
use Rattle.pt_lines.proofs.Steps.{then}
use Rattle.pt_lines.proofs.Uuids.{alone-is, members-are}
use Rattle.pt_lines.proofs.json.line.put_described.Goals as goal

pub returns-then-is_none-2 : goal.returns-then-is_none-2
returns-then-is_none-2 c = λ origin processor thread entry tells.
    let activity : entry.activity ≡ replicate 16 0 =
    sym tells.activity ∙ text-means c.args.event.now.activity.now (replicate 16 0) (sym c.is_none.ensures ∙ c.if-is_none.true) in
    let related : entry.related ≡ replicate 16 0 =
    sym tells.related ∙ text-means c.args.event.now.related.now (replicate 16 0) (sym c.is_none-then-is_none.ensures ∙ c.if-is_none-2.true) in
    appended c.extend_from_slice.result c.args.out.now.items _ c.alone.result.now (described_text entry) c.extend_from_slice.ensures.items
    (c.alone.ensures ∙ ap alone_text tells.def ∙ alone-is entry activity related)

pub returns : goal.returns
returns c = λ origin processor thread entry tells.
    let event = c.args.event.now in
    let old = c.args.out.now.items in
    let defs = behind_commas (definition_members entry.def) in
    let acts = behind_commas (activity_members entry) in
    let key = codes ",\"stack\":" in
    let defined = c.in_ok-extend_from_slice.ensures.items ∙ ap (λ (xs : List ℕ). old ++ xs) (c.members.ensures ∙ ap (λ (def : EventDef). behind_commas (definition_members def)) tells.def) in
    let named : activities_text event.activity.now event.related.now ≡ acts ++ key = rw (tells.activity, tells.related) (members-are entry) in
    on_ok_weaker c.put_activities.result
    (λ e.
    then (activities_text event.activity.now event.related.now) defined e
    ∙ append_assoc old defs (activities_text event.activity.now event.related.now)
    ∙ ap (λ (xs : List ℕ). old ++ (defs ++ xs)) named
    ∙ ap (λ (xs : List ℕ). old ++ xs) (sym (append_assoc defs acts key)))
    c.put_activities.ensures
