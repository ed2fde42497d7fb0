-- What stands for all of the definition is put, and then the phase.
use Rattle.std.proofs.Common.{◌≡◌, List, ℕ, ◌++◌, replicate, false, ap, ◌∙◌, sym, subst, append_assoc}
use Rattle.std.specs.List.{concat}
use Rattle.std.proofs.lemmas.Result.{on_ok_weaker}
use Rattle.ep_defs.specs.declared.event.EventDef.{EventDef}
use Rattle.ep_defs.specs.Event.{is_same_text}
use Rattle.pt_lines.specs.Chromium.{phase_text}
use Rattle.pt_lines.specs.declared.chromium.phase.Phase.{Phase}
use Rattle.pt_lines.specs.state.Pieces.{end_of, named_pieces, span_text}
use Rattle.pt_lines.proofs.Entries.{phased-is}
use Rattle.pt_lines.proofs.chromium.line.put_phased.Goals as goal

pub returns : goal.returns
returns c = λ origin processor thread entry tells.
    let event = c.args.event.now in
    let old = c.args.out.now.items in
    let activity = event.activity.now in
    let def = event.def.now in
    let some = subst (λ (a : List ℕ). is_same_text a (replicate 16 0) ≡ false) tells.activity c.requires in
    let joined : span_text def ++ phase_text activity (end_of def.name).0 ≡ concat (named_pieces entry) =
    ap (λ (d : EventDef). span_text d ++ phase_text activity (end_of d.name).0) tells.def
    ∙ ap (λ (a : List ℕ). span_text entry.def ++ phase_text a (end_of entry.def.name).0) tells.activity
    ∙ sym (phased-is entry some) in
    on_ok_weaker c.put_phase.result
    (λ e.
    e
    ∙ ap (λ (p : Phase). c.extend_from_slice.new.self.items ++ phase_text activity p) c.phase.ensures
    ∙ ap (λ (xs : List ℕ). xs ++ phase_text activity (end_of def.name).0) (c.in_ok-extend_from_slice.ensures.items ∙ ap (λ (xs : List ℕ). old ++ xs) c.span.ensures)
    ∙ append_assoc old (span_text def) (phase_text activity (end_of def.name).0)
    ∙ ap (λ (xs : List ℕ). old ++ xs) joined)
    c.put_phase.ensures
