-- The chunk budget as code can follow it, step by step: a law says that it counts what `Chunks` says by places.
use Rattle.std.specs.Prelude.{ℕ, ◌+◌, ◌-◌, Bool, ◌&&◌, [], ◌∷◌, nat_le, ◌==◌, if◌then◌else◌}
use Rattle.ep_model.specs.declared.step.Step.TheVariants as step
use Rattle.ep_model.specs.Budget.{Pending, no_pending, needs_chunk, chunks_begun, pending_with}
use Rattle.ep_model.specs.Chunks.{chunks_of, shown_size}
use Rattle.ep_model.specs.History.{Past}

-- What is held of a session's chunks.
pub record Budget : Type 0 where
  -- what each thread has, by its number
  pub pending : ℕ → Pending
  -- how many chunks were stolen and not given back
  pub in_hand : ℕ
  -- how many are held in all
  pub held : ℕ

-- Nothing is held.
abbrev pub no_budget : Budget
no_budget = record { pending = λ t. no_pending; in_hand = 0; held = 0 }

-- The thread has this, and all others what they had.
abbrev pub pending_of : Budget → ℕ → Pending → ℕ → Pending
pending_of budget thread pending t = if t == thread then pending else budget.pending t

-- A record of this size needs a chunk where all are held.
abbrev pub lacks_chunk : Budget → ℕ → ℕ → ℕ → Bool
lacks_chunk budget chunks thread size = needs_chunk (budget.pending thread) size && nat_le chunks budget.held

-- A record is written.
abbrev pub with_record : Budget → ℕ → ℕ → Budget
with_record budget thread size =
    record {
      pending = pending_of budget thread (pending_with (budget.pending thread) size);
      in_hand = budget.in_hand;
      held = budget.held + chunks_begun (budget.pending thread) size;
    }

-- What the thread has is stolen.
abbrev pub with_steal : Budget → ℕ → Budget
with_steal budget thread =
    record {
      pending = pending_of budget thread no_pending;
      in_hand = budget.in_hand + (budget.pending thread).chunks;
      held = budget.held;
    }

-- What is in hand is given back.
abbrev pub with_give : Budget → Budget
with_give budget = record { pending = budget.pending; in_hand = 0; held = budget.held - budget.in_hand }

-- A Show is written, or refused and changes nothing.
abbrev pub with_show : Budget → ℕ → ℕ → ℕ → Budget
with_show budget chunks thread size = if lacks_chunk budget chunks thread size then budget else with_record budget thread size

-- What the session's steps so far have left of its budget.
abbrev pub budget_of : ℕ → Past → Budget
budget_of session [] = no_budget
budget_of session (step.Show t s ∷ past) =
    if s == session then with_show (budget_of session past) (chunks_of session past) t (shown_size t past) else budget_of session past
budget_of session (step.Steal s t ∷ past) = if s == session then with_steal (budget_of session past) t else budget_of session past
budget_of session (step.Close s t ∷ past) = if s == session then with_steal (budget_of session past) t else budget_of session past
budget_of session (step.Give s ∷ past) = if s == session then with_give (budget_of session past) else budget_of session past
budget_of session (_ ∷ past) = budget_of session past
