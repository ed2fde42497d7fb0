use Rattle.std.proofs.Common.{ℕ, List, [], refl, sym, subst}
use Rattle.std.specs.BTreeMap.{is_at}
use Rattle.std.specs.Map.{lookup}
use Rattle.std.specs.Ordering.{nat_cmp}
use Rattle.ep_core.specs.declared.ended.Ended.{Ended}
use Rattle.ep_core.specs.state.Works.{EndedAt}
use Rattle.ep_core.proofs.machine.Machine.new.Goals as goal

pub invariant_of-result : goal.invariant_of-result
invariant_of-result c =
    record { stands = λ _. ∣ record { events = c.args.events.items; past = []; works = c.in_ok-new.ensures c.args.info } ∣₁ }

pub returns-clause-fresh : goal.returns-clause-fresh
returns-clause-fresh c =
    record {
      count = refl;
      info_is = refl;
      works = c.in_ok-new.ensures c.args.info;
      ended = λ session.
          let At : List (ℕ × Ended) → Type 0 = λ entries. EndedAt c.args.events.items c.args.info session [] (lookup (is_at (nat_cmp session)) entries) in
          subst At (sym c.new-2.ensures.empty) refl;
    }
