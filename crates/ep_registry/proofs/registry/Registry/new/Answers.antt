use Rattle.std.proofs.Common.{false, map, refl, ap, sym, ◌∙◌}
use Rattle.ep_table.specs.Sessions.{is_free}
use Rattle.ep_journal.specs.Recorded.{Recorded}
use Rattle.ep_registry.specs.Registered.{Desk}
use Rattle.ep_registry.proofs.Calls.{start-tied}
use Rattle.ep_registry.proofs.Things.{none-over}
use Rattle.ep_registry.proofs.Slots.{all-free}
use Rattle.ep_registry.proofs.registry.Registry.new.Goals as goal

pub invariant_of-registry : goal.invariant_of-registry
invariant_of-registry g c =
    let d : Desk = record {
      recorded = c.in_ok-journal.journal;
      book = c.in_ok-halves.halves.book;
      holds = c.in_ok-halves.halves.holds;
      spare = c.in_ok-halves.halves.spare.items;
      marks = c.in_ok-halves.halves.marks;
      roles = c.args.roles;
      closed = false;
      early = 0;
      late = 0;
    } in
    record {
      tied =
          start-tied d c.in_ok-journal.ensures c.in_ok-halves.ensures.book c.in_ok-halves.ensures.holds.0 c.in_ok-halves.ensures.holds.1 c.in_ok-halves.ensures.marks refl refl refl
          c.requires.roles.0;
      free = c.in_ok-kept.ensures.frees ∙ sym (ap (λ (r : Recorded). map is_free r.table.seats) c.in_ok-journal.ensures ∙ all-free);
      over = rw (c.in_ok-kept.ensures.overs, c.in_ok-journal.ensures) none-over;
      gone = ap (λ (r : Recorded). r.ended) c.in_ok-journal.ensures ∙ sym c.in_ok-kept.ensures.gone;
    }
