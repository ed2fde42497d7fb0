use Rattle.std.proofs.Common.{◌≡◌, [], ◌∷◌, ◌++◌, map, codes, OnOk, sym, ◌∙◌, subst, List, ℕ}
use Rattle.std.specs.List.{join_with_byte}
use Rattle.ep_plan.specs.Words.{space, number_text, rule_text}
use Rattle.ep_plan.specs.Printing.{flag_text}
use Rattle.ep_plan.proofs.Printed.{ok-line, accept4-words}
use Rattle.ep_plan.proofs.print.put_accept4.Goals as goal

pub returns : goal.returns
returns c =
    let start = c.args.line.now.items in
    let session = c.from-session.ensures in
    let chunks = c.from-chunks.ensures in
    let stacks = c.from-stacks.ensures in
    let rules = c.as_slice.ensures in
    let words : codes "accept4" ∷ number_text c.from-session.result ∷ number_text c.from-chunks.result ∷ number_text c.from-stacks.result ∷ number_text 1 ∷ map rule_text c.as_slice.result.now ≡ codes "accept4" ∷ number_text c.args.session ∷ number_text c.args.config.now.chunks ∷ flag_text c.args.config.now.stackwalk ∷ number_text 1 ∷ map rule_text c.args.config.now.rules = cc in
    let whole : List (List ℕ) → Type 0 = λ ws. OnOk c.put_rules.result (c.put_rules.new.line.items ≡ start ++ join_with_byte space ws) in
    subst whole (words ∙ sym (accept4-words c.args.session c.args.config.now c.requires.ends)) (ok-line c.put_rules.result start c.put_numbers.new.line.items c.put_rules.new.line.items (codes "accept4") (number_text c.from-session.result ∷ number_text c.from-chunks.result ∷ number_text c.from-stacks.result ∷ number_text 1 ∷ []) (map rule_text c.as_slice.result.now) c.in_ok-put_numbers.ensures c.put_rules.ensures)
