use Rattle.std.proofs.Common.{◌≡◌, ◌∙◌, ℕ, ◌+◌, List, [], ◌∷◌, ◌++◌, Some, length, ap, sym, subst, refl, arith, rules, length-append}
use Rattle.std.specs.Global.{Box}
use Rattle.std.proofs.lemmas.Option.{slice_get_read}
use Rattle.std.proofs.lemmas.Iterator.Adapters.{YieldsList-from_vec}
use Rattle.std.proofs.lemmas.Iterator.Consumers.{YieldsList-turn}
use Rattle.ep_guarded.specs.declared.agreed.Agreed.TheVariants as agreed
use Rattle.ep_row.specs.Row.{new_row}
use Rattle.ep_guarded.specs.Tied.{TiedRowState}
use Rattle.ep_live.specs.Made.{AreRows, IsRow}
use Rattle.ep_live.proofs.Halves.{stand-is}
use Rattle.ep_live.proofs.Pushing.{each-push}
use Rattle.ep_live.proofs.made.make_rows.Goals as goal

pub new-requires-clause-number : goal.new-requires-clause-number
new-requires-clause-number g c =
    let gives = c.into_iter-stand-iterator.ensures.into_iter_gives in
    let turn = YieldsList-turn (YieldsList-from_vec {s = c.into_iter-stand-iterator.result} c.args.stands.items gives.0 (gives.1 ∙ c.args.stands.ok.0)) c.loop-stand.yielded c.loop-stand.stand-iterator c.loop-stand.yielded_by c.next.result c.next.new.self c.in-Some.stand c.in-Some.is c.next.ensures.steps in
    let at = slice_get_read c.args.stands.items _ (length c.loop-stand.yielded) c.in-Some.stand refl turn.0 turn.1 in
    (c.requires.stands _ c.in-Some.stand at).place ∙ sym c.loop-stand.invariant.number

pub new-requires-clause-stands : goal.new-requires-clause-stands
new-requires-clause-stands g c =
    let gives = c.into_iter-stand-iterator.ensures.into_iter_gives in
    let turn = YieldsList-turn (YieldsList-from_vec {s = c.into_iter-stand-iterator.result} c.args.stands.items gives.0 (gives.1 ∙ c.args.stands.ok.0)) c.loop-stand.yielded c.loop-stand.stand-iterator c.loop-stand.yielded_by c.next.result c.next.new.self c.in-Some.stand c.in-Some.is c.next.ensures.steps in
    let at = slice_get_read c.args.stands.items _ (length c.loop-stand.yielded) c.in-Some.stand refl turn.0 turn.1 in
    stand-is c.in-Some.stand.value _ (c.requires.stands _ c.in-Some.stand at).stands
    ∙ ap (λ (n : ℕ). Some (agreed.Stand (record { thread = n + 1; index = 0 }))) (sym c.loop-stand.invariant.number)

pub loop-stand-preserved : goal.loop-stand-preserved
loop-stand-preserved g c =
    let n : ℕ = c.loop-stand.number in
    let inv = c.loop-stand.invariant in
    let made = c.in_ok-lefts.ensures in
    let rows : List (Box TiedRowState) = c.loop-stand.rows.items in
    let row : Box TiedRowState = c.in_ok-new.field-0 in
    let len : length rows ≡ n = sym c.loop-stand.rows.ok.0 ∙ inv.count in
    let grown : c.push.new.self.items ≡ rows ++ row ∷ [] = c.in_ok-push.ensures.items in
    let is : row.value ≡ record { number = n; life = 0; row = new_row (n + 1) c.args.events } = c.in_ok-new.ensures.ok ∙ c.in_ok-row.ensures.row in
    let row_is : IsRow (length rows) row.value =
    subst (λ (r : TiedRowState). IsRow (length rows) r) (sym is) (record { number_is = sym len; quiet = refl })
    in
    record {
      number = omega (arith, inv.number, length-append c.loop-stand.yielded (c.in-Some.stand ∷ []));
      made = made.made;
      places = made.places ∙ inv.places;
      count = search rules;
      buffer_count = made.count;
      hand_count = made.hand_count;
      rows = subst AreRows (sym grown) (each-push (λ k r. IsRow k r.value) rows row inv.rows row_is);
      buffers = made.buffers;
      hands = made.hands;
    }
