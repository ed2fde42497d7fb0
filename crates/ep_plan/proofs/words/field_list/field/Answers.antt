use Rattle.std.proofs.Common.{refl, sym, ◌∙◌}
use Rattle.ep_plan.specs.Words.{colon, parts_at, field_in}
use Rattle.ep_plan.proofs.Separated.{field-is, field_of-code, field_of-other}
use Rattle.ep_plan.proofs.words.field_list.field.Goals as goal

pub returns-in_default : goal.returns-in_default
unfolding field_in
returns-in_default c = sym (field_of-other (parts_at colon c.args.part.now) c.in_default.ensures.none)

pub returns-in_default-code_of : goal.returns-in_default-code_of
returns-in_default-code_of c =
    sym (field-is _ _ _ _ _ c.in-Some.ensures.some refl (sym c.code_of.ensures ∙ c.in_default-code_of.is) ∙ field_of-code _)

pub returns-in_default-2 : goal.returns-in_default-2
returns-in_default-2 c = sym (field-is _ _ _ _ _ c.in-Some.ensures.some (sym c.in_ok-name.ensures ∙ c.in_default-2.is) refl)

pub returns : goal.returns
returns c =
    sym (field-is _ _ _ _ _ c.in-Some.ensures.some (sym c.in_ok-name.ensures ∙ c.in-Some-2.is) (sym c.code_of.ensures ∙ c.in-Some-code_of.is))
