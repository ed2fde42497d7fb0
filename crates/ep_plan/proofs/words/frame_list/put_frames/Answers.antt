use Rattle.std.proofs.Common.{◌++◌, ℕ, List, [], ◌∷◌, ap, sym, ◌∙◌, rules, get_or}
use Rattle.std.proofs.lemmas.List.{append_assoc}
use Rattle.ep_plan.specs.Words.{comma, hex_text}
use Rattle.ep_plan.proofs.Separated.{frames_so_far, frames_so_far-more, frames_so_far-all, frames_text-none}
use Rattle.ep_plan.proofs.words.frame_list.put_frames.Goals as goal

pub returns-in_default : goal.returns-in_default
returns-in_default c =
    let text = frames_text-none c.args.frames.now c.in_default.ensures.cases in
    rw text (search rules)

pub loop-frame-preserved : goal.loop-frame-preserved
loop-frame-preserved c =
    let frame : List ℕ = hex_text (get_or c.in-Some.others.now c.loop-frame.frame-index 0) in
    let so_far : List ℕ = frames_so_far c.args.frames.now c.in-Some.others.now c.loop-frame.frame-index in
    c.in_ok-put_hexadecimal-2.ensures
    ∙ ap (λ (text : List ℕ). text ++ frame) (c.in_ok-extend_from_slice.ensures.items ∙ ap (λ (text : List ℕ). text ++ comma ∷ []) c.loop-frame.invariant)
    ∙ append_assoc (c.args.out.now.items ++ so_far) (comma ∷ []) frame
    ∙ append_assoc c.args.out.now.items so_far (comma ∷ frame)
    ∙ ap (λ (text : List ℕ). c.args.out.now.items ++ text) (sym (frames_so_far-more c.args.frames.now c.in-Some.others.now c.loop-frame.frame-index c.loop-frame-test.true))

pub returns : goal.returns
returns c =
    c.loop-frame.invariant
    ∙ ap (λ (text : List ℕ). c.args.out.now.items ++ text) (frames_so_far-all c.args.frames.now c.in-Some.others.now c.in-Some.first.now c.loop-frame.frame-index c.in-Some.ensures.cases.0 c.loop-frame-test.false)
