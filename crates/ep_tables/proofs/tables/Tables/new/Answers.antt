use Rattle.std.proofs.Common.{ap, sym, ◌∙◌, subst, length, List, map}
use Rattle.std.specs.List.{AllByRecursion}
use Rattle.std.specs.BTreeMap.{get}
use Rattle.std.specs.Ordering.{nat_cmp}
use Rattle.ep_table.specs.Sessions.{is_held, held_count}
use Rattle.ep_tables.specs.Tables.{has_slot, number_of}
use Rattle.ep_tables.specs.Tied.{IsTied, HaveOwnSlots}
use Rattle.ep_tables.proofs.Near.{first_near}
use Rattle.ep_tables.proofs.TiedComings.{none_held}
use Rattle.ep_tables.specs.Falling.{falls}
use Rattle.ep_tables.specs.declared.tables.Present.{Present}
use Rattle.ep_tables.proofs.tables.Tables.new.Goals as goal

pub returns-clause-tied : goal.returns-clause-tied
returns-clause-tied c =
    let none = sym c.new-2.ensures.items in
    record {
      known = c.in_ok-rows.ensures.definitions ∙ c.in_ok-copies.ensures ∙ c.as_slice.ensures.value;
      can_be_told = record { few = c.requires.few; valid = c.requires.valid; distinct = c.requires.distinct; lacks = c.requires.lacks };
      sessions = subst (AllByRecursion (IsTied c.in_ok-rows.rows)) none tt;
      own_slots = subst HaveOwnSlots none tt;
      held = λ slot. ap (λ t. is_held t slot) c.new-3.ensures ∙ none_held 64 slot ∙ ap (has_slot slot) none;
      count = ap held_count c.new-3.ensures ∙ ap length none;
      seats = ap (λ t. length t.seats) c.new-3.ensures;
      off = λ r s _. c.in_ok-rows.ensures.fresh.slots r s;
    }

pub invariant_of-result-clause-places : goal.invariant_of-result-clause-places
invariant_of-result-clause-places c = c.in_ok-first_near.field-0.ok.0 ∙ c.in_ok-first_near.ensures.count

pub invariant_of-result-clause-known : goal.invariant_of-result-clause-known
invariant_of-result-clause-known c =
    first_near (get nat_cmp c.in_ok-threads.threads) c.in_ok-first_near.field-0.items c.in_ok-first_near.ensures.known c.in_ok-threads.ensures

pub invariant_of-result-clause-falling : goal.invariant_of-result-clause-falling
invariant_of-result-clause-falling c = ap (λ (ps : List Present). falls 1 (map number_of ps)) c.new-2.ensures.items
