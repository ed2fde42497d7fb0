use Rattle.std.proofs.Common.{◌∙◌, ℕ, ◌%◌, List, [], ◌∷◌, length, refl, ap, sym, subst, arith}
use Rattle.std.specs.Prelude.{slice_get}
use Rattle.std.proofs.lemmas.List.{length-append}
use Rattle.std.proofs.lemmas.Option.{slice_get_read}
use Rattle.std.proofs.lemmas.Iterator.Adapters.{YieldsList-from_vec}
use Rattle.std.proofs.lemmas.Iterator.Consumers.{YieldsList-turn}
use Rattle.ep_live.specs.Free.{ColumnState}
use Rattle.ep_live.specs.Made.{IsSlotTie}
use Rattle.ep_live.proofs.Columns.{next-tie, columns-more}
use Rattle.ep_live.proofs.free.deal.Goals as goal

pub push-requires : goal.push-requires
push-requires g c =
    let gives = c.into_iter-half-iterator.ensures.into_iter_gives in
    let turn = YieldsList-turn (YieldsList-from_vec {s = c.into_iter-half-iterator.result} c.args.hands.items gives.0 (gives.1 ∙ c.args.hands.ok.0)) c.loop-half.yielded c.loop-half.half-iterator c.loop-half.yielded_by c.next.result c.next.new.self c.in-Some.half c.in-Some.is c.next.ensures.steps in
    let at = slice_get_read c.args.hands.items _ (length c.loop-half.yielded) c.in-Some.half refl turn.0 turn.1 in
    let n : ℕ = c.loop-half.number in
    let tie = c.requires.hands n c.in-Some.half (ap (λ (k : ℕ). slice_get c.args.hands.items k) c.loop-half.invariant.number ∙ at) in
    let columns : List ColumnState = c.loop-half.columns.items in
    let inv = c.loop-half.invariant.columns in
    let there = slice_get_read columns _ (n % 64) c.index_mut.result.now refl (omega (arith, inv.count)) c.index_mut.ensures.value in
    subst (λ (column : ColumnState). IsSlotTie g.P.Program.rows column.slot column.count c.in-Some.half) (sym (inv.each (n % 64) c.index_mut.result.now there))
    (next-tie g.P.Program.rows n c.in-Some.half tie)

pub loop-half-preserved : goal.loop-half-preserved
loop-half-preserved g c =
    let n : ℕ = c.loop-half.number in
    let columns : List ColumnState = c.loop-half.columns.items in
    let inv = c.loop-half.invariant in
    let there = slice_get_read columns _ (n % 64) c.index_mut.result.now refl (omega (arith, inv.columns.count)) c.index_mut.ensures.value in
    record {
      number = omega (arith, inv.number, length-append c.loop-half.yielded (c.in-Some.half ∷ []));
      columns = columns-more n columns c.index_mut.result.now c.push.new.self inv.columns there c.in_ok-push.ensures;
    }
