use Rattle.std.proofs.Common.{refl, ap, ◌∙◌, ℕ, ◌+◌, List}
use Rattle.std.specs.Prelude.{slice_index}
use Rattle.nt_write.specs.declared.limits.TheConstants.{LAST_EVENT}
use Rattle.nt_write.proofs.IdTables.{slice_index-zeros}
use Rattle.nt_write.proofs.ids.IdTable.new.Goals as goal

pub returns : goal.returns
returns c defs =
    record {
      used = refl;
      id_is =
          λ number def at.
          ap (λ (xs : List ℕ). slice_index xs number) (c.in_ok-table.ensures.items_if_clones_equal (λ y e. e))
          ∙ slice_index-zeros (LAST_EVENT + 1) number;
      none_is =
          λ number none.
          ap (λ (xs : List ℕ). slice_index xs number) (c.in_ok-table.ensures.items_if_clones_equal (λ y e. e))
          ∙ slice_index-zeros (LAST_EVENT + 1) number;
      numbers = refl;
    }
