use Rattle.std.proofs.Common.{◌≡◌, ◌++◌, ℕ, List, [], ◌∷◌, ap, ◌∙◌}
use Rattle.std.proofs.lemmas.List.{append_assoc}
use Rattle.std.proofs.lemmas.Result.{IfOk-weaker}
use Rattle.ep_plan.specs.Words.{colon, rule_text, hex_text, number_text}
use Rattle.ep_plan.proofs.words.rules.put_rule.Goals as goal

-- The five pieces of a rule, one after another.
pieces : (out name keywords level : List ℕ) → ((((out ++ name) ++ colon ∷ []) ++ keywords) ++ colon ∷ []) ++ level ≡ out ++ (name ++ colon ∷ (keywords ++ colon ∷ level))
pieces out name keywords level = simp append_assoc

pub returns : goal.returns
unfolding rule_text
returns c =
    let out : List ℕ = c.args.out.now.items in
    let name : List ℕ = c.args.rule.now.name in
    let keywords : List ℕ = hex_text c.args.rule.now.keywords in
    let named : c.put_name.new.out.items ≡ out ++ name = c.in_ok-put_name.ensures ∙ ap (λ (text : List ℕ). out ++ text) c.as_slice.ensures in
    let front : c.extend_from_slice-2.new.self.items ≡ (((out ++ name) ++ colon ∷ []) ++ keywords) ++ colon ∷ [] =
    c.in_ok-extend_from_slice-2.ensures.items
    ∙ ap (λ (text : List ℕ). text ++ colon ∷ []) (c.in_ok-put_hexadecimal.ensures
    ∙ ap (λ (text : List ℕ). text ++ keywords) (c.in_ok-extend_from_slice.ensures.items ∙ ap (λ (text : List ℕ). text ++ colon ∷ []) named)) in
    let level : number_text c.from.result ≡ number_text c.args.rule.now.level = ap number_text c.from.ensures in
    IfOk-weaker c.put_number.result
    (λ _. c.put_number.new.out.items ≡ c.extend_from_slice-2.new.self.items ++ number_text c.from.result)
    (λ _. c.put_number.new.out.items ≡ out ++ rule_text c.args.rule.now)
    (λ _ h. h ∙ ap (λ (text : List ℕ). text ++ number_text c.from.result) front
    ∙ ap (λ (text : List ℕ). ((((out ++ name) ++ colon ∷ []) ++ keywords) ++ colon ∷ []) ++ text) level
    ∙ pieces out name keywords (number_text c.args.rule.now.level))
    c.put_number.ensures
