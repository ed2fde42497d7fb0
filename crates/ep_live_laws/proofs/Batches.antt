-- The entries of records that are taken with a hand.
use Rattle.std.proofs.Common.{◌≡◌, ℕ, zero, suc, ◌<◌, ◌≤◌, Bool, List, [], ◌∷◌, ◌++◌, length, map, Some, refl, ap, ◌∙◌, arith}
use Rattle.std.specs.Prelude.{slice_get}
use Rattle.std.specs.List.{All}
use Rattle.std.proofs.lemmas.List.Elements.{All-head, All-tail}
use Rattle.ep_defs.specs.Definitions.{definition_at}
use Rattle.ep_defs.specs.declared.event.EventDef.{EventDef}
use Rattle.ep_defs.specs.declared.session.Config.{Config}
use Rattle.ep_defs.specs.declared.session.Write.{Write}
use Rattle.ep_defs.specs.Entry.{EventEntry, Event}
use Rattle.ep_chunk.specs.Record.{Record}
use Rattle.ep_model.specs.Entries.{entry_if, event_entry}
use Rattle.ep_model.specs.Faithful.{Contents, contents_of}
use Rattle.ep_model.proofs.Numbers.{AreOwn}
use Rattle.ep_slot.specs.Slot.{AreRising as AreRisingRecords}
use Rattle.ep_row.specs.AtRest.{write_of}
use Rattle.ep_stream.specs.Rows.{IsDefined}
use Rattle.ep_stream.specs.Telling.{begun_of, entry_of, entries_of}
use Rattle.ep_live_laws.specs.Traced.{AreRising, AreInPlace, contents_from}
use Rattle.ep_live_laws.specs.Tracing.{IsAdmittedAs}
use Rattle.ep_live_laws.proofs.Numbered.{contents-at}

-- Events of a thread, with numbers that rise from above the first up to the last at most, each at its place among all that the session has to tell.
pub record AreToldOf (thread below last : ℕ) (all : List Contents) (count : ℕ) (told : List EventEntry) : Type 0 where
  pub own : AreOwn thread told
  pub rising : AreRising below last (map contents_of told)
  pub in_place : AreInPlace all (map contents_of told)
  pub counted : length told ≡ count

-- An event of the program has a definition.
defined : (events : List EventDef) (event : ℕ) → 0 < event → event ≤ length events → (def : EventDef) × (definition_at events event ≡ Some def)
defined events zero some within = absurd (omega (arith, some))
defined events (suc place) some within = there events place (omega (arith, within))
  where
    there : {A : Type 0} (xs : List A) (place : ℕ) → place < length xs → (x : A) × (slice_get xs place ≡ Some x)
    there [] place within = absurd (omega (arith, within))
    there (x ∷ xs) zero within = (x, refl)
    there (x ∷ xs) (suc place) within = there xs place (omega (arith, within))

-- The events of a batch.
pub record Batch (events : List EventDef) (stacks : Bool) (thread below last : ℕ) (all : List Contents) (records : List Record) : Type 0 where
  pub told : List EventEntry
  pub entries_are : entries_of events stacks records ≡ map Event told
  pub are : AreToldOf thread below last all (length records) told

-- The record of a write that the session gets is told as one event.
pub batch-told : (events : List EventDef) (writes : ℕ → List Write) (config : Config) (thread from below last : ℕ) (records : List Record)
    → All (λ r. r.thread ≡ thread) records → AreRisingRecords below last records → All (IsDefined events) records
    → All (λ r. IsAdmittedAs events writes config thread from r.number (write_of r)) records
    → Batch events config.stackwalk thread below last (contents_from events config from (writes thread)) records
batch-told events writes config thread from below last [] own rising known admitted =
    record { told = []; entries_are = refl; are = record { own = tt; rising = rising; in_place = tt; counted = refl } }
batch-told events writes config thread from below last (r ∷ records) own rising known admitted =
    let is_known = All-head (IsDefined events) r records known in
    let def = defined events r.event is_known.0 is_known.1 in
    let e = event_entry config.stackwalk r.thread r.number (begun_of r) def.0 in
    let first : entry_of events config.stackwalk r ≡ Event e ∷ [] = ap (λ o. map Event (entry_if config.stackwalk r.thread r.number (begun_of r) o)) def.1 in
    let admitted_here = All-head (λ (s : Record). IsAdmittedAs events writes config thread from s.number (write_of s)) r records admitted in
    let at = contents-at events config from r.number (writes thread) (write_of r) def.0 (omega (arith, rising.0)) admitted_here def.1 in
    let later = batch-told events writes config thread from r.number last records
    (All-tail (λ (s : Record). s.thread ≡ thread) r records own) rising.1
    (All-tail (IsDefined events) r records known)
    (All-tail (λ (s : Record). IsAdmittedAs events writes config thread from s.number (write_of s)) r records admitted) in
    record {
      told = e ∷ later.told;
      entries_are = ap (λ es. es ++ entries_of events config.stackwalk records) first ∙ ap (λ es. Event e ∷ es) later.entries_are;
      are = record {
        own = (All-head (λ (s : Record). s.thread ≡ thread) r records own, later.are.own);
        rising = (rising.0, later.are.rising);
        in_place = (at, later.are.in_place);
        counted = ap suc later.are.counted;
      };
    }
