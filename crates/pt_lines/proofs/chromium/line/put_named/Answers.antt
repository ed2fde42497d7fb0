-- An event of no activity is an instant, which is what stands for all of its definition.
use Rattle.std.proofs.Common.{◌≡◌, List, ℕ, true, replicate, ap, ◌∙◌, sym, subst}
use Rattle.std.specs.List.{concat}
use Rattle.ep_defs.specs.Event.{is_same_text}
use Rattle.pt_lines.specs.state.Pieces.{instant_text, named_pieces}
use Rattle.pt_lines.proofs.Entries.{plain-is}
use Rattle.pt_print.proofs.Numbers.{appended}
use Rattle.pt_lines.proofs.chromium.line.put_named.Goals as goal

pub returns-then-is_none : goal.returns-then-is_none
returns-then-is_none c = λ origin processor thread entry tells.
    let none : is_same_text c.args.event.now.activity.now (replicate 16 0) ≡ true = sym c.is_none.ensures ∙ c.if-is_none.true in
    appended c.extend_from_slice.result c.args.out.now.items _ c.instant.result.now (concat (named_pieces entry)) c.extend_from_slice.ensures.items
    (c.instant.ensures ∙ ap instant_text tells.def ∙ sym (plain-is entry (subst (λ (a : List ℕ). is_same_text a (replicate 16 0) ≡ true) tells.activity none)))

pub returns : goal.returns
returns c = c.put_phased.ensures
