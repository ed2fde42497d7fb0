use Rattle.std.proofs.Common.{◌≡◌, ℕ, ◌+◌, List, [], ◌∷◌, ◌++◌, Bool, cond, eqb, true, false, Some, ◌∙◌, sym, ap, refl, IsSome, take, get_or, add-one, Option}
use Rattle.std.proofs.Math.Seq.{take-suc}
use Rattle.std.proofs.lemmas.Option.{slice_get-get_or}
use Rattle.nt_check.specs.state.Ids.{value_at}
use Rattle.nt_check.specs.declared.threads.Numbers.{Numbers}
use Rattle.nt_check.specs.state.Counting.{numbers_in, after_all, point_sightings}
use Rattle.nt_check.proofs.Counted.{point-step}
use Rattle.nt_check.proofs.threads.Threads.see_point.Goals as goal

pub see_known-requires : goal.see_known-requires
see_known-requires c =
    c.loop-thread.invariant.room c.loop-thread.thread-index _ (slice_get-get_or c.args.threads.now c.loop-thread.thread-index (0, 0) c.loop-thread-test.true)

pub loop-thread-preserved : goal.loop-thread-preserved
loop-thread-preserved c =
    let pairs = c.args.threads.now in
    let count = c.loop-thread.thread-index in
    let more : take (count + 1) pairs ≡ take count pairs ++ get_or pairs count (0, 0) ∷ [] = rw add-one (take-suc pairs count (0, 0) c.loop-thread-test.true) in
    record {
      numbers = λ thread.
          point-step (numbers_in c.loop-thread.self) (numbers_in c.args.self.now thread) (value_at c.loop-thread.self.numbers thread) thread (take count pairs) (get_or pairs count (0, 0)) (value_at c.see_known.new.self.numbers thread) (c.see_known.ensures thread) refl (c.loop-thread.invariant.numbers thread)
          ∙ ap (λ (first : List (ℕ × ℕ)). after_all (numbers_in c.args.self.now thread) (point_sightings thread first)) (sym more);
      room = λ place pair found.
          rw c.see_known.ensures
          (stays (eqb (get_or pairs count (0, 0)).0 pair.0) _ (value_at c.loop-thread.self.numbers pair.0) (c.loop-thread.invariant.room place pair found));
    }
  where
    stays : (b : Bool) (numbers : Option Numbers) (room : Option (Option Numbers)) → IsSome room → IsSome (cond b (Some numbers) room)
    stays true numbers room there = refl
    stays false numbers room there = there
