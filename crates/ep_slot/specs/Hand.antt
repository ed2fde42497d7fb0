-- What a session's stream knows of a slot, and when both know the same (this project's profile).
use Rattle.std.specs.Prelude.{◌≡◌, ℕ}
use Rattle.ep_slot.specs.Slot.{SlotState}

-- What a hand is.
pub record HandState : Type 0 where
  pub session : ℕ
  pub thread : ℕ
  -- how many writes the thread had made when the session was opened on it
  pub from : ℕ
  -- how many records were taken
  pub taken : ℕ
  -- the last number that was used when something was last taken, or 0
  pub last : ℕ
  -- how many chunks were stolen
  pub stolen : ℕ

-- The hand of a slot.
abbrev pub hand_of : SlotState → HandState
hand_of slot =
    record {
      session = slot.session;
      thread = slot.thread;
      from = slot.from;
      taken = slot.taken;
      last = slot.last;
      stolen = slot.stolen;
    }

-- A slot and a hand agree on session, thread, opening, and what was taken so far.
abbrev pub Agrees : SlotState → HandState → Type 0
Agrees slot hand = hand ≡ hand_of slot
