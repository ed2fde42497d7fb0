use Rattle.std.proofs.Common.{◌∙◌, sym, ap, Some}
use Rattle.std.specs.Option.{option_map}
use Rattle.std.specs.FinMap as map
use Rattle.nt_stacks.proofs.Tables.{get-seen}
use Rattle.nt_stacks.proofs.table.StackTable.find.Goals as goal

pub returns-in-Some : goal.returns-in-Some
returns-in-Some c =
    ap Some c.as_slice.ensures.value
    ∙ ap (option_map (λ s. s.items)) c.in-Some.ensures.value
    ∙ sym (get-seen (λ s. s.items) c.self.inside.stacks.entries c.args.id)
    ∙ ap (λ m. map.get m c.args.id) c.self.view_is

pub returns-in-None : goal.returns-in-None
returns-in-None c =
    ap (option_map (λ s. s.items)) c.in-None.ensures.value
    ∙ sym (get-seen (λ s. s.items) c.self.inside.stacks.entries c.args.id)
    ∙ ap (λ m. map.get m c.args.id) c.self.view_is
