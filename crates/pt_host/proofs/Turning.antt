-- What the server's turns come to.
use Rattle.std.proofs.Common.{◌≡◌, ℕ, ◌≤◌, true, false, List, length, Some, IsTrue, ◌⊎◌, inl, inr, refl, ap, ◌∙◌, sym, subst, arith}
use Rattle.ep_defs.specs.declared.session.Facts.{Facts}
use Rattle.ep_journal.specs.declared.limits.TheConstants.{CONNECTIONS}
use Rattle.ep_registry.specs.Registered.{ServerHalf}
use Rattle.pt_io.specs.Faults.{HasRisen}
use Rattle.pt_io.specs.Sides.{ReadSide, WriteSide}
use Rattle.pt_io.specs.declared.dock.Dock.{Ghosts as Dock}
use Rattle.pt_io.specs.declared.sink.Sink.{Ghosts as Sink}
use Rattle.pt_server.specs.Told.{AreTold}
use Rattle.pt_server.specs.declared.desk.ConnEnd.{ConnEnd}
use Rattle.pt_host.specs.Ending.{IsAllOver, has_failed}
use Rattle.pt_roles.specs.Ran.{HasWaited, IsRan}
use Rattle.pt_host.specs.Server.{GoesOnFrom, HasServed, HasTurned, IsExit, is_last, no_server}
use Rattle.pt_roles.specs.World.{WorldState, rows_of}
use Rattle.pt_host.specs.declared.exit.Exit.{Exit}
use Rattle.pt_host.specs.declared.exit.Exit.TheVariants as exit
use Rattle.pt_roles.specs.declared.live_end.LiveEnd.{LiveEnd}

-- ---- the server

module _ {D L : Type 0} (dock : Dock D L) (gave : L → ReadSide) (took : L → WriteSide) (facts : Facts) (greeting : List ℕ) (wait : ℕ) where
  at-end : (last : Exit) (old mid new : D) (half now : ServerHalf) → dock.dock_faults mid ≡ dock.dock_faults old → IsExit dock (Some last) mid new now → IsExit dock (Some last) old new (record now { left = true })
  at-end exit.Enough old mid new half now same is = is ∙ same
  at-end exit.Closed old mid new half now same is = (is.0 ∙ same, is.1)
  at-end exit.Failed old mid new half now same is = subst (λ (n : ℕ). HasRisen n (dock.dock_faults new)) same is
  at-end exit.Full old mid new half now same is = (is.0 ∙ same, is.1)

  stopped : (first last : Exit) (conns : List (ConnEnd L)) (old mid new : D) (half now : ServerHalf)
      → is_last first ≡ true → HasTurned dock true (Some first) old mid no_server half → (last ≡ first) × (new ≡ mid) × (now ≡ half)
      → AreTold gave took facts greeting 1 now.decisions conns → HasServed dock gave took facts greeting wait last conns old new (record now { left = true })
  stopped first last conns old mid new half now ends a same told =
      let here : HasTurned dock true (Some last) old new no_server now =
      subst (λ (e : Exit). HasTurned dock true (Some e) old new no_server now) (sym same.0)
      (subst (λ (d : D). HasTurned dock true (Some first) old d no_server now) (sym same.1)
      (subst (λ (h : ServerHalf). HasTurned dock true (Some first) old mid no_server h) (sym same.2) a))
      in
      record {
        count = omega (arith, here.count);
        exits = at-end last old old new now now refl here.exits;
        told = told;
        waited = inr (ap is_last same.0 ∙ ends, here.goes.late refl);
      }

  pub has-served : (first last : Exit) (conns : List (ConnEnd L)) (old mid new : D) (half now : ServerHalf)
      → HasTurned dock true (Some first) old mid no_server half → (first ≡ exit.Enough → wait ≤ half.early) → GoesOnFrom dock first last mid new half now
      → AreTold gave took facts greeting 1 now.decisions conns → HasServed dock gave took facts greeting wait last conns old new (record now { left = true })
  has-served exit.Enough last conns old mid new half now a enough b told =
      record {
        count = omega (arith, a.count, b.count);
        exits = at-end last old mid new half now a.exits b.exits;
        told = told;
        waited = inl (omega (arith, enough refl, b.goes.more));
      }
  has-served exit.Closed last conns old mid new half now a enough b told = stopped exit.Closed last conns old mid new half now refl a b told
  has-served exit.Failed last conns old mid new half now a enough b told = stopped exit.Failed last conns old mid new half now refl a b told
  has-served exit.Full last conns old mid new half now a enough b told = stopped exit.Full last conns old mid new half now refl a b told

-- ---- the run

is-done : {D L : Type 0} (dock : Dock D L) (last : Exit) (old new : D) (half : ServerHalf) → is_last last ≡ true → IsExit dock (Some last) old new half
    → IsTrue (dock.is_closed new) ⊎ HasRisen (dock.dock_faults old) (dock.dock_faults new) ⊎ (length half.decisions ≡ CONNECTIONS)
is-done dock exit.Enough old new half ends is = absurd (cc)
is-done dock exit.Closed old new half ends is = inl is.1
is-done dock exit.Failed old new half ends is = inr (inl is)
is-done dock exit.Full old new half ends is = inr (inr is.1)

failed-is : {D L : Type 0} (dock : Dock D L) (last : Exit) (old new : D) (half : ServerHalf) → IsExit dock (Some last) old new half → has_failed last ≡ true → HasRisen (dock.dock_faults old) (dock.dock_faults new)
failed-is dock exit.Enough old new half is failed = absurd (cc)
failed-is dock exit.Closed old new half is failed = absurd (cc)
failed-is dock exit.Failed old new half is failed = is
failed-is dock exit.Full old new half is failed = absurd (cc)

stays-is : {D L : Type 0} (dock : Dock D L) (last : Exit) (old new : D) (half : ServerHalf) → IsExit dock (Some last) old new half → has_failed last ≡ false → dock.dock_faults new ≡ dock.dock_faults old
stays-is dock exit.Enough old new half is failed = is
stays-is dock exit.Closed old new half is failed = is.0
stays-is dock exit.Failed old new half is failed = absurd (cc)
stays-is dock exit.Full old new half is failed = is.0

-- What a run comes to, by what the server, the roles and the writers leave.
pub is-ran : {D L : Type 0} (dock : Dock D L) (sink : Sink L) (gave : L → ReadSide) (took : L → WriteSide) (world : WorldState) (last : Exit) (server : ServerHalf) (old new : D) (end : LiveEnd L)
    → HasServed dock gave took world.facts world.greeting world.options.wait last end.conns.items old new server
    → IsAllOver gave sink world server end.sessions.items
    → end.rows.items ≡ rows_of world.plan world.options.lives → end.dock_failed ≡ has_failed last
    → IsRan dock sink gave took world old new end
is-ran dock sink gave took world last server old new end served over rows failed =
    record {
      decisions = server.decisions;
      entries = over.entries;
      told = over.told;
      count = served.count;
      few = over.few;
      conns = served.told;
      sessions = over.known;
      each = over.each;
      rows = rows;
      waited = waits served.waited;
      dock_failed = λ is. failed-is dock last old new server served.exits (sym failed ∙ is);
      dock_stays = λ is. stays-is dock last old new server served.exits (sym failed ∙ is);
    }
  where
    waits : (world.options.wait ≤ server.early) ⊎ ((is_last last ≡ true) × (server.late ≡ 0))
        → HasWaited world (IsTrue (dock.is_closed new) ⊎ HasRisen (dock.dock_faults old) (dock.dock_faults new) ⊎ (length server.decisions ≡ CONNECTIONS)) end.sessions.items
    waits (inl enough) = inl (omega (arith, enough, over.early))
    waits (inr none) = inr (is-done dock last old new server none.0 served.exits, over.all_early none.1)
