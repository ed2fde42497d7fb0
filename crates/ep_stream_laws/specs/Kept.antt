-- What the steps so far say of what a session keeps of its threads (this project's profile).
use Rattle.std.specs.Prelude.{◌≡◌, ℕ, not, List, ◌∷◌, Some, map, filter}
use Rattle.ep_defs.specs.declared.event.EventDef.{EventDef}
use Rattle.ep_defs.specs.declared.session.Marks.{Marks}
use Rattle.ep_defs.specs.Entry.{Entry}
use Rattle.ep_model.specs.declared.step.Step.TheVariants.{Steal, Close, Finish}
use Rattle.ep_model.specs.Entries.{entries, told_number, is_named}
use Rattle.ep_model.specs.Fold.{budget_of}
use Rattle.ep_model.specs.History.{Past, config_of, opened, is_open, shows}
use Rattle.ep_model.specs.Lawful.{IsLawful}
use Rattle.ep_model.specs.Marks.{marks_on}
use Rattle.ep_rundown.specs.Rundown.{with_section}
use Rattle.ep_stream.specs.declared.opened.Named.{Named}
use Rattle.ep_stream.specs.Session.{Rest}

-- What the next point says of a thread: the last number that was told, and whether the session is open there.
abbrev pub named_on : ℕ → ℕ → Past → Named
named_on session thread past =
    record { thread = thread; number = told_number session thread past; is_open = is_open session thread past }

-- The threads that the next point names, ascending.
abbrev pub names_of : ℕ → Past → List Named
names_of session past = map (λ t. named_on session t past) (filter (λ t. is_named session t past) (opened session past))

-- What the session had of each thread on which it was closed, ascending by thread.
abbrev pub closed_marks : ℕ → Past → List Marks
closed_marks session past = map (λ t. marks_on session t past) (filter (λ t. not (is_open session t past)) (opened session past))

-- What a session keeps is what the steps so far say.
pub record RestFollows (past : Past) (rest : Rest) : Type 0 where
  pub config : config_of rest.seat.id past ≡ Some rest.config
  pub named : rest.named ≡ names_of rest.seat.id past
  pub marks : rest.marks ≡ closed_marks rest.seat.id past
  pub in_hand : rest.in_hand ≡ (budget_of rest.seat.id past).in_hand

-- ---- the next step

-- Where a session keeps what the steps so far say and can steal from a thread, up to its last Show and all the chunks that
-- are pending there, it keeps after the Steal what the steps say then.
abbrev pub StealFollows : List EventDef → Past → ℕ → ℕ → ℕ → Rest → Rest → Type 0
StealFollows events past thread last chunks old new =
    RestFollows past old
    → IsLawful events (Steal old.seat.id thread ∷ past)
    → last ≡ shows old.seat.id thread past
    → chunks ≡ ((budget_of old.seat.id past).pending thread).chunks
    → RestFollows (Steal old.seat.id thread ∷ past) new

-- The same of a Close, with the session's marks of the thread.
abbrev pub CloseFollows : List EventDef → Past → ℕ → ℕ → ℕ → Marks → Rest → Rest → Type 0
CloseFollows events past thread last chunks marks old new =
    RestFollows past old
    → IsLawful events (Close old.seat.id thread ∷ past)
    → last ≡ shows old.seat.id thread past
    → chunks ≡ ((budget_of old.seat.id past).pending thread).chunks
    → marks ≡ marks_on old.seat.id thread (Close old.seat.id thread ∷ past)
    → RestFollows (Close old.seat.id thread ∷ past) new

-- What the stream of a session tells that finishes with this stamp: its entries, with the section of a rundown where it was
-- asked for one.
abbrev pub finished_entries : List EventDef → ℕ → Past → Rest → List Entry
finished_entries events stamp past rest =
    with_section rest.config.rundown (entries events rest.seat.id (Finish rest.seat.id stamp ∷ past))
