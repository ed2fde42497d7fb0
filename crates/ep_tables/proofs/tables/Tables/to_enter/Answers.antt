use Rattle.std.proofs.Common.{true, false, Some, None, refl, sym}
use Rattle.ep_tables.proofs.Slots.{full_found}
use Rattle.ep_tables.proofs.Judging.{stop, pass, next_is}
use Rattle.ep_tables.proofs.tables.Tables.to_enter.Goals as goal

pub returns-in-Some : goal.returns-in-Some
returns-in-Some c =
    let tables = c.args.self.now in
    let free = c.in-Some.ensures in
    record {
      kind_is = λ events past h.
          pass _ _ _ _ (next_is 256 c.args.thread tables.last_thread _ c.if-thread-le-THREADS.false c.if-thread-self.false (h.last_thread c.args.thread))
          (pass _ _ _ _ (sym (full_found events past tables (Some c.in-Some.row) false h free.row free.left free.off tt refl)) refl);
      found = record { step_is = refl; there = record { is_row = free.row; left = free.left; off = free.off } };
    }

pub returns-in-None : goal.returns-in-None
returns-in-None c =
    let tables = c.args.self.now in
    record {
      kind_is = λ events past h.
          pass _ _ _ _ (next_is 256 c.args.thread tables.last_thread _ c.if-thread-le-THREADS.false c.if-thread-self.false (h.last_thread c.args.thread))
          (stop _ _ _ (sym (full_found events past tables None true h tt tt tt c.in-None.ensures.none refl)));
      found = tt;
    }
