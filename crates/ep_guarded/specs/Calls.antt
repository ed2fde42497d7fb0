-- What the calls make of rows and of what is open in buffers. All of it is this project's own.
use Rattle.std.specs.Prelude.{◌≡◌, ℕ, ◌+◌, ◌-◌, ◌^◌, ◌<◌, List, length, Option, None, Some, slice_get, slice_set}
use Rattle.std.specs.List.{All}
use Rattle.std.specs.Int.{bit_at}
use Rattle.ep_defs.specs.declared.event.EventDef.{EventDef}
use Rattle.ep_defs.specs.declared.session.Config.{Config}
use Rattle.ep_defs.specs.declared.session.Write.{Write}
use Rattle.ep_row.specs.declared.row.Opening.{Opening}
use Rattle.ep_row.specs.Bits.{ClearsBit}
use Rattle.ep_row.specs.Row.{RowState, slot_of}
use Rattle.ep_row.specs.AtRest.{KeepsRest, KeepsRestOpened, IsNumbered}
use Rattle.ep_chunk.specs.Record.{Record}
use Rattle.ep_slot.specs.Hand.{HandState, hand_of}
use Rattle.ep_guarded.specs.declared.agreed.Told.{Told}
use Rattle.ep_guarded.specs.declared.agreed.Agreed.{Agreed}
use Rattle.ep_guarded.specs.declared.agreed.Agreed.TheVariants as agreed
use Rattle.ep_slot.specs.declared.shown.Shown.{Shown}
use Rattle.ep_slot.specs.Slot.{with_steal}
use Rattle.ep_guarded.specs.Tied.{hand_after, AreTaken, Answers}
use Rattle.ep_guarded.specs.declared.grant.Grant.{Grant}
use Rattle.ep_guarded.specs.declared.kept.Kept.{Kept}
use Rattle.ep_guarded.specs.Resting.{KeptRests, RowOver, held_as, state_of}

-- ---- a show

-- What is told once one write more was shown.
abbrev pub raised : Told → Told
raised told = record told { opening = record told.opening { shown = told.opening.shown + 1 } }

-- The row, over all writes of its thread, has begun this write last, and it is due in this slot.
pub record IsDue (events : List EventDef) (writes : List Write) (slot : ℕ) (write : Write) (config : Config) (row : RowState) : Type 0 where
  pub configs : ℕ → Config
  pub config_is : configs slot ≡ config
  pub over : RowOver events configs writes row
  pub begun : 0 < row.index
  pub last : slice_get writes (row.index - 1) ≡ Some write
  pub due : bit_at row.due slot ≡ 1

-- The write of the row is due to what is told in this slot.
pub record IsDueFor (events : List EventDef) (writes : List Write) (slot : ℕ) (write : Write) (row : RowState) (told : Told) : Type 0 where
  pub due : IsDue events writes slot write told.grant.now.config row
  pub known : slot_of row slot ≡ Some told.opening
  pub thread : told.thread ≡ row.thread

-- The row after it showed its write in this slot.
pub record ShowsRow (slot : ℕ) (opening : Opening) (old new : RowState) : Type 0 where
  pub due : ClearsBit slot old.due new.due
  pub bounded : new.due < 2 ^ 64
  pub slots : new.slots ≡ slice_set old.slots slot (Some opening)
  pub known : slot_of new slot ≡ Some opening
  pub others : new ≡ record old { due = new.due; slots = new.slots }
  pub rest : KeepsRest old new

-- What is open was shown the row's write.
pub record IsShown (events : List EventDef) (writes : ℕ → List Write) (slot : ℕ) (write : Write) (shown : Shown) (row new_row : RowState) (kept new_kept : Kept) : Type 0 where
  pub told : new_kept.told ≡ raised kept.told
  pub held : held_as (Some new_kept) ≡ held_as (Some kept)
  pub rests : KeptRests events writes new_kept
  pub row_is : ShowsRow slot new_kept.told.opening row new_row
  pub answers : Answers slot write shown row new_row (state_of kept) (state_of new_kept)

-- What is open, if something is, was shown the row's write.
pub record ShownIn (events : List EventDef) (writes : ℕ → List Write) (slot : ℕ) (write : Write) (shown : Shown) (row new_row : RowState) (kept new_kept : Option Kept) : Type 0 where
  pub one : Kept
  pub was : kept ≡ Some one
  pub next : Kept
  pub now : new_kept ≡ Some next
  pub is : IsShown events writes slot write shown row new_row one next

-- The half of a tie tells the session that is due.
pub record TellsDue (events : List EventDef) (writes : List Write) (slot : ℕ) (write : Write) (row : RowState) (value : Option Agreed) : Type 0 where
  pub told : Told
  pub tells : value ≡ Some (agreed.Told told)
  pub due : IsDueFor events writes slot write row told

-- The session that a half tells was shown the row's write.
pub record ShownBy (slot : ℕ) (row new_row : RowState) (value new_value : Option Agreed) : Type 0 where
  pub told : Told
  pub tells : value ≡ Some (agreed.Told told)
  pub now : new_value ≡ Some (agreed.Told (raised told))
  pub row_is : ShowsRow slot (raised told).opening row new_row

-- ---- a steal

-- All that was pending was taken with a hand.
pub record IsStolen (events : List EventDef) (writes : ℕ → List Write) (records : List Record) (last chunks : ℕ) (hand new_hand : HandState) (kept new_kept : Kept) : Type 0 where
  pub told : new_kept.told ≡ kept.told
  pub hand_is : new_hand ≡ hand_of new_kept.slot
  pub after : new_hand ≡ hand_after hand (length records) last chunks
  pub rests : KeptRests events writes new_kept
  pub taken : AreTaken hand records last
  pub numbered : All (IsNumbered events kept.told.grant.now.config (writes hand.thread) hand.from) records
  pub slot : new_kept.slot ≡ with_steal kept.slot
  pub seat : new_kept.seat ≡ kept.seat
  pub all : records ≡ kept.slot.records
  pub last_is : last ≡ kept.slot.used

-- The same of what is open, if something is.
pub record StolenIn (events : List EventDef) (writes : ℕ → List Write) (records : List Record) (last chunks : ℕ) (hand new_hand : HandState) (kept new_kept : Option Kept) : Type 0 where
  pub one : Kept
  pub was : kept ≡ Some one
  pub next : Kept
  pub now : new_kept ≡ Some next
  pub stolen : IsStolen events writes records last chunks hand new_hand one next

-- ---- an opening and a closing

-- The row on which a session was opened in this slot.
pub record OpensRow (events : List EventDef) (slot : ℕ) (config : Config) (opening : Opening) (old new : RowState) : Type 0 where
  pub slots : new.slots ≡ slice_set old.slots slot (Some opening)
  pub known : slot_of new slot ≡ Some opening
  pub masks : length new.masks ≡ length old.masks
  pub others : new ≡ record old { masks = new.masks; slots = new.slots }
  pub rest : KeepsRestOpened events slot config old new

-- What was opened on a row, with its hand.
pub record IsOpened (events : List EventDef) (writes : ℕ → List Write) (slot session : ℕ) (grant : Grant) (old new : RowState) (kept : Kept) (hand : HandState) : Type 0 where
  pub rests : KeptRests events writes kept
  pub agree : hand ≡ hand_of kept.slot
  pub grant_is : kept.told.grant.now ≡ grant
  pub thread : kept.told.thread ≡ old.thread
  pub fresh : hand ≡ record { session = session; thread = old.thread; from = old.index; taken = 0; last = 0; stolen = 0 }
  pub row_is : OpensRow events slot grant.config kept.told.opening old new

-- The row on which the session in this slot was closed.
pub record ClosesRow (slot : ℕ) (old new : RowState) : Type 0 where
  pub slots : new.slots ≡ slice_set old.slots slot None
  pub masks : length new.masks ≡ length old.masks
  pub others : new ≡ record old { masks = new.masks; slots = new.slots }
  pub rest : KeepsRest old new
