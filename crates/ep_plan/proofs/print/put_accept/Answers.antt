use Rattle.std.proofs.Common.{◌≡◌, [], ◌∷◌, ◌++◌, map, codes, OnOk, sym, ◌∙◌, subst, List, ℕ}
use Rattle.std.specs.List.{join_with_byte}
use Rattle.ep_plan.specs.Words.{space, number_text, rule_text}
use Rattle.ep_plan.proofs.Printed.{ok-line, accept-words, accept3-words}
use Rattle.ep_plan.proofs.print.put_accept.Goals as goal

pub returns-in_ok-put_numbers : goal.returns-in_ok-put_numbers
returns-in_ok-put_numbers c =
    let start = c.args.line.now.items in
    let session = c.from-session.ensures in
    let chunks = c.from-chunks.ensures in
    let rules = c.as_slice-rules.ensures in
    let words : codes "accept" ∷ number_text c.from-session.result ∷ number_text c.from-chunks.result ∷ map rule_text c.as_slice-rules.result.now ≡ codes "accept" ∷ number_text c.args.session ∷ number_text c.args.config.now.chunks ∷ map rule_text c.args.config.now.rules = cc in
    let whole : List (List ℕ) → Type 0 = λ ws. OnOk c.put_rules.result (c.put_rules.new.line.items ≡ start ++ join_with_byte space ws) in
    subst whole (words ∙ sym (accept-words c.args.session c.args.config.now c.if-config.false c.if-config-2.true)) (ok-line c.put_rules.result start c.put_numbers.new.line.items c.put_rules.new.line.items (codes "accept") (number_text c.from-session.result ∷ number_text c.from-chunks.result ∷ []) (map rule_text c.as_slice-rules.result.now) c.in_ok-put_numbers.ensures c.put_rules.ensures)

pub returns-in_ok-put_numbers-2 : goal.returns-in_ok-put_numbers-2
returns-in_ok-put_numbers-2 c =
    let start = c.args.line.now.items in
    let session = c.from-session.ensures in
    let chunks = c.from-chunks.ensures in
    let rules = c.as_slice-rules.ensures in
    let words : codes "accept3" ∷ number_text c.from-session.result ∷ number_text c.from-chunks.result ∷ number_text 0 ∷ map rule_text c.as_slice-rules.result.now ≡ codes "accept3" ∷ number_text c.args.session ∷ number_text c.args.config.now.chunks ∷ number_text 0 ∷ map rule_text c.args.config.now.rules = cc in
    let whole : List (List ℕ) → Type 0 = λ ws. OnOk c.put_rules-else-config-2.result (c.put_rules-else-config-2.new.line.items ≡ start ++ join_with_byte space ws) in
    subst whole (words ∙ sym (accept3-words c.args.session c.args.config.now c.if-config.false c.if-config-2.false)) (ok-line c.put_rules-else-config-2.result start c.put_numbers-else-config-2.new.line.items c.put_rules-else-config-2.new.line.items (codes "accept3") (number_text c.from-session.result ∷ number_text c.from-chunks.result ∷ number_text 0 ∷ []) (map rule_text c.as_slice-rules.result.now) c.in_ok-put_numbers-2.ensures c.put_rules-else-config-2.ensures)
