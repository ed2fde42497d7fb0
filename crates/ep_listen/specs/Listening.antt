-- What a listener hands to its callback (this project's profile).
use Rattle.std.specs.Prelude.{◌≡◌, ℕ, Bool, true, false, List, ◌++◌, length, Result, IfOk, OnOk, OnErr}
use Rattle.ep_defs.specs.declared.session.Marks.{Marks}
use Rattle.ep_chunk.specs.Record.{Record}
use Rattle.ep_listen.specs.Heard.{HeardEvent, heard_in}
use Rattle.ep_listen.specs.declared.listener.Listener.{Listener}

-- ---- what a listener has

abbrev pub callback_of : {C : Type 0} → Listener C → C
callback_of listener = listener.callback

-- What the session had of the threads on which it was closed, in the order of the closings.
abbrev pub marks_in : {C : Type 0} → Listener C → List Marks
marks_in listener = listener.left.marks.items

-- For how many marks there is room.
abbrev pub room_of : {C : Type 0} → Listener C → ℕ
room_of listener = listener.left.rows

-- The callback was out of memory.
abbrev pub has_failed : {C : Type 0} → Listener C → Bool
has_failed listener = listener.failed

-- ---- what is handed over

-- The first of these events were handed over, in order and each once: what the callback stood for before, it stands for with them.
-- They are all of them where there was memory.
pub record IsHanded {C A E : Type 0} (has_heard : C → List HeardEvent → Type 0) (events : List HeardEvent) (old new : C) (result : Result A E) : Type 0 where
  pub done : List HeardEvent
  pub others : List HeardEvent
  pub front : done ++ others ≡ events
  pub heard : (before : List HeardEvent) → has_heard old before → has_heard new (before ++ done)
  pub all : OnOk result (done ≡ events)

-- What a listener makes of a batch with these records: it hands the first of them over, and all of them unless it has failed.
-- Where it had failed before it hands nothing over.
pub record Hears {C E : Type 0} (has_heard : C → List HeardEvent → Type 0) (records : List Record) (old new : Listener C) (result : Result ℕ E) : Type 0 where
  pub done : List HeardEvent
  pub others : List HeardEvent
  pub front : done ++ others ≡ heard_in records
  pub heard : (before : List HeardEvent) → has_heard (callback_of old) before → has_heard (callback_of new) (before ++ done)
  pub all : has_failed new ≡ false → (has_failed old ≡ false) × (done ≡ heard_in records)
  pub deaf : has_failed old ≡ true → (has_failed new ≡ true) × (callback_of new ≡ callback_of old)
  pub counted : IfOk result (λ count. count ≡ length records)
  pub sound : OnOk result (has_failed new ≡ false)
  pub failed : OnErr result (has_failed new ≡ true)
