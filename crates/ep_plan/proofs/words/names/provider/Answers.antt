use Rattle.std.proofs.Common.{◌≡◌, ℕ, nat_lt, true, false, List, [], ◌∷◌, length, refl, Some, None, ap, sym, ◌∙◌, arith, rules, tests, map}
use Rattle.std.specs.List.{list_all}
use Rattle.std.proofs.lemmas.Bool.{cond-true, cond-false, and_from, and_left, and_right, eqb-true, eqb-false, le-ltb, lt-ltb}
use Rattle.std.proofs.lemmas.Iterator.{YieldsList-from_slice, YieldsList-from_map, items_from_collect}
use Rattle.std.proofs.lemmas.Iterator.Search.{all_from_yields_List}
use Rattle.std.proofs.lemmas.Result.{IfOk-at_ok}
use Rattle.ep_plan.specs.Words.{is_name, is_name_byte, provider_in}
use Rattle.ep_plan.proofs.words.names.provider.Goals as goal
use Rattle.ep_plan.proofs.words.names.provider.Goals.{then-is_empty-via-then-is_empty, then-is_empty-via-else-is_empty+then-not-all}

-- A copy, one item after another.
map-same : (xs : List ℕ) → map (λ x. x) xs ≡ xs
map-same [] = refl
map-same (x ∷ xs) = ap (λ (rest : List ℕ). x ∷ rest) (map-same xs)

pub returns-then-is_empty : goal.returns-then-is_empty
unfolding provider_in
returns-then-is_empty c =
    elim c.then-is_empty.branch [
      | then-is_empty-via-then-is_empty w ↦
          let none = eqb-true (length c.args.word.now) 0 (sym w.if-is_empty.ensures) in
          let short : nat_lt 0 (length c.args.word.now) ≡ false = le-ltb 0 (length c.args.word.now) (omega arith) in
          sym (cond-false (is_name c.args.word.now) (Some c.args.word.now) None (and_left (nat_lt 0 (length c.args.word.now)) (list_all is_name_byte c.args.word.now) short))
      | then-is_empty-via-else-is_empty+then-not-all w ↦
          let good = all_from_yields_List is_name_byte _ _ w.all.result w.all.ensures.ran (YieldsList-from_slice c.args.word.now cc) (λ x b q k. search (rules, tests)) in
          let bad : list_all is_name_byte c.args.word.now ≡ false = sym good ∙ w.if-not-all.true in
          sym (cond-false (is_name c.args.word.now) (Some c.args.word.now) None (and_right (nat_lt 0 (length c.args.word.now)) (list_all is_name_byte c.args.word.now) bad))
    ]

pub returns : goal.returns
unfolding provider_in
returns c =
    let good = all_from_yields_List is_name_byte _ _ c.all.result c.all.ensures.ran (YieldsList-from_slice c.args.word.now cc) (λ x b q k. search (rules, tests)) in
    let some = eqb-false (length c.args.word.now) 0 (sym c.if-is_empty.ensures) in
    let bytes : list_all is_name_byte c.args.word.now ≡ true = sym good ∙ c.if-not-all.false in
    let name : is_name c.args.word.now ≡ true = and_from (nat_lt 0 (length c.args.word.now)) (list_all is_name_byte c.args.word.now) (lt-ltb 0 (length c.args.word.now) (omega arith)) bytes in
    let copied = items_from_collect _ c.collect.ensures.ran (YieldsList-from_map _ (λ (b : ℕ). b) (YieldsList-from_slice c.args.word.now (search rules)) c.map.ensures.closure (λ x r q k. search rules)) in
    let units : c.in_ok-units.units.items ≡ c.args.word.now = IfOk-at_ok _ c.in_ok-units.was copied ∙ map-same c.args.word.now in
    ap Some (c.new.ensures ∙ units) ∙ sym (cond-true (is_name c.args.word.now) (Some c.args.word.now) None name)
