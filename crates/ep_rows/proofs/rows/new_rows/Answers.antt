use Rattle.std.proofs.Common.{◌≡◌, ◌∙◌, ◌+◌, ℕ, List, length, ap, sym, subst, arith}
use Rattle.ep_row.specs.Row.{RowState, new_row}
use Rattle.ep_row.specs.AtRest.{RestsAnew}
use Rattle.ep_rows.specs.Told.{row_at}
use Rattle.ep_rows.proofs.Making.{one_more}
use Rattle.ep_rows.proofs.rows.new_rows.Goals as goal

pub loop-number-preserved : goal.loop-number-preserved
loop-number-preserved c =
    let rows : List RowState = c.loop-number.rows.items in
    let count : length rows ≡ c.loop-number.number = omega (arith, c.loop-number.rows.ok.0, c.loop-number.invariant.count) in
    record {
      count = omega (arith, c.in_ok-push.ensures.len, c.loop-number.invariant.count);
      rows = λ r some most. ap (λ (xs : List RowState). row_at xs r) c.in_ok-push.ensures.items
          ∙ one_more (λ r x. x ≡ new_row r c.args.events) rows c.in_ok-new.field-0 c.loop-number.number count (c.in_ok-new.ensures.row ∙ ap (λ (n : ℕ). new_row (n + 1) c.args.events) c.from.ensures) c.loop-number.invariant.rows r some most;
      rest = λ r some most. subst (λ (xs : List RowState). RestsAnew (row_at xs r)) (sym c.in_ok-push.ensures.items)
          (one_more (λ r x. RestsAnew x) rows c.in_ok-new.field-0 c.loop-number.number count c.in_ok-new.ensures.rest c.loop-number.invariant.rest r some most);
    }

pub returns-clause-rest : goal.returns-clause-rest
returns-clause-rest c r is = c.loop-number.invariant.rest r is.0 (omega (arith, is.1, c.loop-number-test.false))
