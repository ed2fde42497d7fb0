use Rattle.std.proofs.Common.{◌≡◌, ◌∙◌, ◌+◌, sym, subst, arith}
use Rattle.std.specs.Prelude.{OnOk, Result, Ok, Err}
use Rattle.std.specs.List.{AllByRecursion}
use Rattle.pt_stream.specs.State.{IsDone, StreamState}
use Rattle.pt_roles.proofs.Rows.{complete-opened, keeps-opened}
use Rattle.pt_roles.proofs.serving.follow_row.Goals as goal

on-ok : {T E : Type 0} (r : Result T E) (x : T) (P : Type 0) → r ≡ Ok x → OnOk r P → P
on-ok (Ok y) x P is on = on
on-ok (Err e) x P is on = absurd (cc)

pub returns-in_default-Ok-clause-same : goal.returns-in_default-Ok-clause-same
returns-in_default-Ok-clause-same g c =
    keeps-opened (c.args.number + 1) c.in-Some.life c.args.stream c.open_row.result.0 (omega arith) (omega (arith, c.requires.row, c.place-place.ensures.count))
    (on-ok c.open_row.result.1 _ _ c.in_default-Ok.is-1 c.open_row.ensures.opened) c.requires.follows.complete

pub returns-in_default-Ok-clause-follows : goal.returns-in_default-Ok-clause-follows
returns-in_default-Ok-clause-follows g c =
    let opened = on-ok c.open_row.result.1 _ _ c.in_default-Ok.is-1 c.open_row.ensures.opened in
    let same = keeps-opened (c.args.number + 1) c.in-Some.life c.args.stream c.open_row.result.0 (omega arith) (omega (arith, c.requires.row, c.place-place.ensures.count)) opened c.requires.follows.complete in
    record {
      complete = complete-opened (c.args.number + 1) c.in-Some.life c.args.stream c.open_row.result.0 opened c.requires.follows.complete;
      lent = same.stands ∙ c.requires.follows.lent;
      done = subst (λ (s : StreamState). AllByRecursion (IsDone g.W.Program.writes) s.marks) (sym opened) c.requires.follows.done;
    }
