use Rattle.std.proofs.Common.{◌≡◌, ℕ, ◌<◌, ◌≤◌, Some}
use Rattle.std.specs.Prelude.{IsSome, vec_len, vec_capacity}
use Rattle.ep_listen.specs.Shares.{no_account}
use Rattle.ep_live.specs.RowSet.{life_at}
use Rattle.ep_slot.specs.Hand.{HandState}
use Rattle.ep_stream.specs.Hands.{hand_at}
use Rattle.pt_listen.specs.state.Hearing.{AreItsRows, IsHandBy}
use Rattle.pt_listen.proofs.hearing.open_all.Given as goal

-- the rows on which it was opened
abbrev pub invariant-loop-place : goal.invariant-loop-place
invariant-loop-place g l =
    record {
      rows : AreItsRows g.P.Program.rows l.slot g.P.WatchRun.config l.rows l.hands.items;
      count : vec_len l.hands ≡ l.place;
      room : g.P.Program.rows ≤ vec_capacity l.hands;
      stands : l.rows.stands ≡ Some 0;
      lives : (row : ℕ) → life_at l.rows row ≡ 0;
      dry : l.rows.seat.dry ≡ 0;
      hands_are : (row : ℕ) (hand : HandState) → hand_at l.hands.items row ≡ Some hand → IsHandBy (λ thread. no_account) row hand;
      opened : (row : ℕ) → 0 < row → row ≤ l.place → IsSome (hand_at l.hands.items row);
    }
