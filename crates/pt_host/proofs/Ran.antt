-- What a run comes to, in the words of its world.
use Rattle.std.proofs.Common.{◌≡◌, ◌≢◌, ℕ, ◌≤◌, true, false, List, Some, refl, sym, subst}
use Rattle.ep_defs.specs.declared.event.EventDef.{EventDef}
use Rattle.ep_defs.specs.declared.session.Facts.{Facts}
use Rattle.ep_defs.specs.declared.session.Write.{Write}
use Rattle.ep_registry.specs.Registered.{ServerHalf}
use Rattle.pt_io.specs.Sides.{ReadSide, WriteSide}
use Rattle.pt_io.specs.declared.dock.Dock.{Ghosts as Dock}
use Rattle.pt_io.specs.declared.sink.Sink.{Ghosts as Sink}
use Rattle.pt_server.specs.Told.{AreTold}
use Rattle.pt_server.specs.declared.desk.ConnEnd.{ConnEnd}
use Rattle.pt_stream.specs.Setting.{Setting}
use Rattle.pt_host.specs.Ending.{IsAllOver, has_failed}
use Rattle.pt_roles.specs.Ran.{IsRan}
use Rattle.pt_host.specs.Server.{GoesOnFrom, HasServed, HasTurned, no_server}
use Rattle.pt_roles.specs.World.{IsWorldOf, WorldState, rows_of}
use Rattle.pt_host.specs.declared.exit.Exit.{Exit}
use Rattle.pt_host.specs.declared.exit.Exit.TheVariants as exit
use Rattle.pt_roles.specs.declared.live_end.LiveEnd.{LiveEnd}
use Rattle.pt_host.proofs.Turning.{has-served, is-ran}

-- Where nobody comes in any more there are no later turns.
pub goes-no-more : {D L : Type 0} (dock : Dock D L) (first : Exit) (old : D) (was : ServerHalf) → first ≢ exit.Enough → GoesOnFrom dock first first old old was was
goes-no-more dock exit.Enough old was not = absurd (not refl)
goes-no-more dock exit.Closed old was not = (refl, refl, refl)
goes-no-more dock exit.Failed old was not = (refl, refl, refl)
goes-no-more dock exit.Full old was not = (refl, refl, refl)

-- Else the later turns are those that follow.
pub goes-further : {D L : Type 0} (dock : Dock D L) (first last : Exit) (old new : D) (was now : ServerHalf) → first ≡ exit.Enough → HasTurned dock false (Some last) old new was now → GoesOnFrom dock first last old new was now
goes-further dock first last old new was now is turned = subst (λ (e : Exit). GoesOnFrom dock e last old new was now) (sym is) turned

-- The server's turns, from its first one to its end.
pub served-by : {D L : Type 0} (dock : Dock D L) (gave : L → ReadSide) (took : L → WriteSide) (facts : Facts) (greeting : List ℕ) (wait : ℕ)
    (first last : Exit) (conns : List (ConnEnd L)) (old mid new : D) (was half now server : ServerHalf)
    → was ≡ no_server → HasTurned dock true (Some first) old mid was half → (first ≡ exit.Enough → wait ≤ half.early) → GoesOnFrom dock first last mid new half now
    → server ≡ record now { left = true } → AreTold gave took facts greeting 1 server.decisions conns → HasServed dock gave took facts greeting wait last conns old new server
served-by dock gave took facts greeting wait first last conns old mid new was half now server fresh turned enough goes is told =
    subst (λ (s : ServerHalf). HasServed dock gave took facts greeting wait last conns old new s) (sym is)
    (has-served dock gave took facts greeting wait first last conns old mid new half now
    (subst (λ (w : ServerHalf). HasTurned dock true (Some first) old mid w half) fresh turned)
    enough
    goes
    (subst (λ (s : ServerHalf). AreTold gave took facts greeting 1 s.decisions conns) is told))

-- The run, by what its server, roles and writers leave.
pub ran-by : {D L : Type 0} (dock : Dock D L) (sink : Sink L) (gave : L → ReadSide) (took : L → WriteSide) (world : WorldState) (rows : ℕ) (events : List EventDef) (writes : ℕ → List Write)
    (setting : Setting) (facts : Facts) (greeting : List ℕ) (last : Exit) (server : ServerHalf) (conns : List (ConnEnd L)) (old new : D) (end : LiveEnd L)
    → IsWorldOf world rows events writes setting facts greeting → HasServed dock gave took facts greeting world.options.wait last conns old new server → end.conns.items ≡ conns
    → IsAllOver gave sink world server end.sessions.items → end.rows.items ≡ rows_of world.plan world.options.lives → end.dock_failed ≡ has_failed last
    → IsRan dock sink gave took world old new end
ran-by dock sink gave took world rows events writes setting facts greeting last server conns old new end w served same over ended failed =
    is-ran dock sink gave took world last server old new end
    (subst (λ (cs : List (ConnEnd _)). HasServed dock gave took world.facts world.greeting world.options.wait last cs old new server) (sym same)
    (subst (λ (g : List ℕ). HasServed dock gave took world.facts g world.options.wait last conns old new server) w.greeting_is
    (subst (λ (f : Facts). HasServed dock gave took f greeting world.options.wait last conns old new server) w.facts_are served)))
    over
    ended
    failed
