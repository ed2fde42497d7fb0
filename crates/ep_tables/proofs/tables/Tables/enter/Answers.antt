use Rattle.std.proofs.Common.{ℕ, refl, ap, sym, ◌∙◌, subst, set}
use Rattle.std.specs.BTreeMap.{get, is_at}
use Rattle.std.specs.Map.{lookup}
use Rattle.std.specs.Ordering.{nat_cmp}
use Rattle.ep_tables.proofs.Near.{AreNear, near_set}
use Rattle.ep_tables.proofs.Ties.{stays_tied, keeps_told}
use Rattle.ep_tables.proofs.tables.Tables.enter.Goals as goal

pub returns-clause-tied : goal.returns-clause-tied
returns-clause-tied c =
    stays_tied c.args.self.now _ refl refl refl c.enter.ensures.definitions
    (keeps_told c.args.self.now.rows c.enter.new.self c.enter.ensures.enters.slots c.enter.ensures.kept) c.requires.tied

pub invariant_of-self : goal.invariant_of-self
invariant_of-self c =
    let old = c.args.self.now in
    let same = c.in_err-insert.ensures.err in
    record {
      given = λ thread row is. old.given thread row (ap (lookup (is_at (nat_cmp thread))) (sym same) ∙ is);
      places = old.places;
      known = λ place on at.
          let was = old.known place on at in
          (was.0, ap (lookup (is_at (nat_cmp on.thread))) same ∙ was.1);
      falling = old.falling;
    }

pub invariant_of-self-2-clause-known : goal.invariant_of-self-2-clause-known
invariant_of-self-2-clause-known c =
    let old = c.args.self.now in
    let given = get nat_cmp c.insert.new.self in
    subst (λ (place : ℕ). AreNear given (set old.near.items place c.args.on)) (sym c.near_place.ensures)
    (near_set (get nat_cmp old.threads) given old.near.items c.args.on old.known c.in_ok-insert.ensures.updates.0)
