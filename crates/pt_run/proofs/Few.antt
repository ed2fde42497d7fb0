-- A session of a run has no more marks than the run has threads.
use Rattle.std.proofs.Common.{◌≡◌, ℕ, ◌+◌, ◌-◌, ◌*◌, ◌<◌, ◌≤◌, List, [], ◌∷◌, length, map, get_or, suc, zero, arith}
use Rattle.std.specs.List.{AllByRecursion}
use Rattle.std.proofs.lemmas.List.{length-map}
use Rattle.std.proofs.Math.Nat.{mul-le-mul}
use Rattle.ep_defs.specs.declared.limits.TheConstants.{SESSION_THREADS as MOST_MARKS}
use Rattle.ep_defs.specs.declared.session.Marks.{Marks}
use Rattle.ep_guarded.specs.Tied.{thread_of}
use Rattle.ep_live_laws.specs.Tracing.{AreAscending}
use Rattle.pt_io.specs.declared.sink.Sink.{Ghosts as Sink}
use Rattle.pt_io.specs.Sides.{ReadSide}
use Rattle.pt_roles.specs.declared.live_end.LiveSession.{LiveSession}
use Rattle.pt_roles.specs.Ran.{AreMarksOf, IsEnd, IsThread}
use Rattle.pt_roles.specs.World.{WorldState}

-- Numbers that ascend between two bounds are as few as these leave.
ascending-few : (least most : ℕ) (ns : List ℕ) → least ≤ most → AreAscending ns → AllByRecursion (λ n. least < n) ns → AllByRecursion (λ n. n ≤ most) ns
    → length ns + least ≤ most
ascending-few least most [] some ascend above below = omega (arith, some)
ascending-few least most (n ∷ ns) some ascend above below =
    let rest = ascending-few n most ns below.0 ascend.1 ascend.0 below.1 in
    omega (arith, rest, above.0)

-- A run of at most 256 rows and 100 lives has 25,600 threads at most.
thread-within : (world : WorldState) (thread : ℕ) → world.plan.threads ≤ 256 → world.options.lives ≤ 100 → IsThread world thread → (0 < thread) × (thread ≤ 25600)
unfolding thread_of
thread-within world thread rows lives is =
    let number = is.number in
    let life = is.life in
    let lasts : life ≤ 99 = omega (arith, is.lives, lives) in
    let product : life * world.plan.threads ≤ 99 * 256 = mul-le-mul lasts rows in
    (omega (arith, is.is), omega (arith, is.is, is.within, rows, product))

above : (world : WorldState) (marks : List Marks) → world.plan.threads ≤ 256 → world.options.lives ≤ 100 → AllByRecursion (λ mark. IsThread world mark.thread) marks
    → AllByRecursion (λ n. 0 < n) (map (λ mark. mark.thread) marks)
above world [] rows lives are = tt
above world (mark ∷ marks) rows lives are = ((thread-within world mark.thread rows lives are.0).0, above world marks rows lives are.1)

below : (world : WorldState) (marks : List Marks) → world.plan.threads ≤ 256 → world.options.lives ≤ 100 → AllByRecursion (λ mark. IsThread world mark.thread) marks
    → AllByRecursion (λ n. n ≤ 25600) (map (λ mark. mark.thread) marks)
below world [] rows lives are = tt
below world (mark ∷ marks) rows lives are = ((thread-within world mark.thread rows lives are.0).1, below world marks rows lives are.1)

marks-few : (world : WorldState) (marks : List Marks) → world.plan.threads ≤ 256 → world.options.lives ≤ 100 → AreAscending (map (λ mark. mark.thread) marks)
    → AllByRecursion (λ mark. IsThread world mark.thread) marks → length marks ≤ MOST_MARKS
marks-few world marks rows lives ascend are =
    let few = ascending-few 0 25600 (map (λ mark. mark.thread) marks) (omega arith) ascend (above world marks rows lives are) (below world marks rows lives are) in
    omega (arith, few, length-map marks (λ (mark : Marks). mark.thread))

pub sessions-few : {L : Type 0} (gave : L → ReadSide) (sink : Sink L) (world : WorldState) (sessions : List (LiveSession L)) → world.plan.threads ≤ 256 → world.options.lives ≤ 100
    → AllByRecursion (IsEnd gave sink world) sessions → AllByRecursion (λ (session : LiveSession L). length session.marks ≤ MOST_MARKS) sessions
sessions-few gave sink world [] rows lives are = tt
sessions-few gave sink world (session ∷ sessions) rows lives are = (
  marks-few world session.marks rows lives are.0.marks.ascending are.0.marks.threads,
  sessions-few gave sink world sessions rows lives are.1,
)

-- The session at a place is one of them.
pub few-at : {L : Type 0} (sessions : List (LiveSession L)) (place : ℕ) (other : LiveSession L) → AllByRecursion (λ (session : LiveSession L). length session.marks ≤ MOST_MARKS) sessions
    → place < length sessions → length (get_or sessions place other).marks ≤ MOST_MARKS
few-at [] place other are within = absurd (omega (arith, within))
few-at (session ∷ sessions) zero other are within = are.0
few-at (session ∷ sessions) (suc place) other are within = few-at sessions place other are.1 (omega (arith, within))
