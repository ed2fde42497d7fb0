use Rattle.std.proofs.Common.{◌≡◌, List, subst, sym, rules}
use Rattle.std.specs.List.Sorted.{IsNonDecreasingBy}
use Rattle.std.proofs.lemmas.Fn.{filter_same}
use Rattle.std.proofs.lemmas.List.Kept.{IsNonDecreasingBy-filter}
use Rattle.ep_stream.specs.declared.opened.Named.{Named}
use Rattle.ep_stream.specs.Named.{still_open}
use Rattle.ep_stream.proofs.opened.keep_open.Goals as goal

pub returns-clause-items : goal.returns-clause-items
returns-clause-items c = filter_same _ (λ (n : Named). n.is_open) _ (λ x b f' k. search rules) _ _ c.retain.ensures.filtered

pub returns-clause-rise : goal.returns-clause-rise
returns-clause-rise c =
    let same : c.retain.new.self.items ≡ still_open c.args.named.now.items = filter_same _ (λ (n : Named). n.is_open) _ (λ x b f' k. search rules) _ _ c.retain.ensures.filtered in
    subst (λ (ys : List Named). IsNonDecreasingBy (λ (n : Named). n.thread) ys) (sym same)
    (IsNonDecreasingBy-filter (λ (n : Named). n.thread) (λ (n : Named). n.is_open) c.args.named.now.items c.requires.rise)
