use Rattle.std.proofs.Common.{◌≡◌, ◌∙◌, ℕ, List, length, ap, sym, subst, arith, rules}
use Rattle.std.specs.Prelude.{Some, slice_get}
use Rattle.ep_live.specs.Free.{ColumnState}
use Rattle.ep_live.proofs.Columns.{none-dealt}
use Rattle.ep_live.proofs.Pushing.{each-push}
use Rattle.ep_live.proofs.free.no_columns.Goals as goal

pub loop-slot-preserved : goal.loop-slot-preserved
loop-slot-preserved g c =
    let columns : List ColumnState = c.loop-slot.columns.items in
    let inv = c.loop-slot.invariant in
    let len : length columns ≡ c.loop-slot.slot = sym c.loop-slot.columns.ok.0 ∙ inv.count in
    record {
      count = search rules;
      none = subst (λ (cs : List ColumnState). (k : ℕ) (column : ColumnState) → slice_get cs k ≡ Some column → column ≡ record { slot = k; count = 0 }) (sym c.in_ok-push.ensures.items)
          (each-push (λ k column. column ≡ record { slot = k; count = 0 }) columns c.new.result inv.none (c.new.ensures ∙ ap (λ (k : ℕ). record { slot = k; count = 0 }) (sym len)));
    }

pub returns : goal.returns
returns g c =
    none-dealt c.loop-slot.columns.items (omega (arith, c.loop-slot.columns.ok.0, c.loop-slot.invariant.count, c.loop-slot-test.false, c.loop-slot.auto)) c.loop-slot.invariant.none
