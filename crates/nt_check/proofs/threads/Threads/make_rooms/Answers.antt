use Rattle.std.proofs.Common.{ℕ, ◌∙◌, subst, IsSome, inl, inr, add-one}
use Rattle.nt_check.specs.state.Ids.{value_at}
use Rattle.nt_check.proofs.Rooms.{get-more}
use Rattle.nt_check.proofs.threads.Threads.make_rooms.Goals as goal

pub loop-thread-preserved : goal.loop-thread-preserved
loop-thread-preserved c =
    record {
      same = λ other. c.in_ok-make_one_room.ensures.same other ∙ c.loop-thread.invariant.same other;
      room = λ place pair found.
          let found' = rw add-one at found in
          elim (get-more c.args.threads.now c.loop-thread.thread-index place pair found') [
            | inl before ↦ c.in_ok-make_one_room.ensures.kept pair.0 (c.loop-thread.invariant.room place pair before)
            | inr this ↦ subst (λ (p : ℕ × ℕ). IsSome (value_at c.make_one_room.new.self.numbers p.0)) this c.in_ok-make_one_room.ensures.room
          ];
    }
