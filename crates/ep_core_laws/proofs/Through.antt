-- A session stands through a step that is not for it.
use Rattle.std.proofs.Common.{◌≡◌, ℕ, true, false, List, [], ◌∷◌, refl, sym, ◌∙◌, subst}
use Rattle.std.specs.Prelude.{◌==◌}
use Rattle.std.proofs.lemmas.Bool.{and_left}
use Rattle.ep_defs.specs.Entry.{Entry}
use Rattle.ep_defs.specs.Definitions.{definition_at}
use Rattle.ep_defs.specs.declared.event.EventDef.{EventDef}
use Rattle.ep_defs.specs.declared.session.TraceInfo.{TraceInfo}
use Rattle.pt_io.specs.Memory.{SinkState}
use Rattle.ep_pool.specs.Counts.{PoolCounts}
use Rattle.ep_model.specs.declared.step.Step.{Step}
use Rattle.ep_model.specs.declared.step.Step.TheVariants as step
use Rattle.ep_model.specs.Entries.{entries}
use Rattle.ep_model.specs.History.{Past}
use Rattle.ep_model.specs.Lawful.{IsLawful}
use Rattle.ep_slot.specs.Slot.{SlotState}
use Rattle.ep_stream.specs.Session.{Rest, rest_of, writer_of}
use Rattle.ep_stream.specs.Steps.{ToldRows}
use Rattle.ep_stream.specs.Telling.{IsTelling}
use Rattle.ep_tables.specs.declared.tables.Present.{Present}
use Rattle.ep_core_laws.specs.Changes.{changes_slot, changes_pool}
use Rattle.ep_core_laws.specs.Kept.{SlotFollows, PoolFollows}
use Rattle.ep_stream_laws.specs.Kept.{RestFollows}
use Rattle.ep_stream_laws.specs.Makers.{is_made_by}
use Rattle.ep_core_laws.specs.Stands.{is_for, KeepsSlot, StandsOn}

-- ---- what is known of the steps below

abbrev pub SlotStays : Type 0
SlotStays = (events : List EventDef) (past : Past) (session : ℕ) (slot : SlotState) (s : Step) → IsLawful events (s ∷ past) → changes_slot session slot.thread s ≡ false → SlotFollows events past session slot → SlotFollows events (s ∷ past) session slot

abbrev pub PoolStays : Type 0
PoolStays = (past : Past) (session : ℕ) (pool : PoolCounts) (s : Step) → changes_pool session s ≡ false → PoolFollows past session pool → PoolFollows (s ∷ past) session pool

abbrev pub RestStays : Type 0
RestStays = (events : List EventDef) (past : Past) (rest : Rest) (s : Step) → RestFollows past rest → IsLawful events (s ∷ past) → is_made_by rest.seat.id s ≡ false → RestFollows (s ∷ past) rest

abbrev pub EntriesStay : Type 0
EntriesStay = (events : List EventDef) (session : ℕ) (past : Past) (s : Step) → is_made_by session s ≡ false → entries events session (s ∷ past) ≡ entries events session past

abbrev pub Through : Type 0
Through =
    (s : Step) (old new : ToldRows) (p : Present)
    → is_for p.number s ≡ false → (rest_of p.session).seat.id ≡ p.number → KeepsSlot p.slot old new → StandsOn s old new p

-- ---- steps that are not for a session

slot_off : (session thread : ℕ) (s : Step) → is_for session s ≡ false → changes_slot session thread s ≡ false
slot_off session thread (step.Open s t) off = and_left (s == session) (t == thread) off
slot_off session thread (step.Show t s) off = and_left (s == session) (t == thread) off
slot_off session thread (step.Steal s t) off = and_left (s == session) (t == thread) off
slot_off session thread (step.Close s t) off = and_left (s == session) (t == thread) off
slot_off session thread _ off = refl

pool_off : (session : ℕ) (s : Step) → is_for session s ≡ false → changes_pool session s ≡ false
pool_off session (step.Accept s config) off = off
pool_off session (step.Show t s) off = off
pool_off session (step.Give s) off = off
pool_off session _ off = refl

made_off : (session : ℕ) (s : Step) → is_for session s ≡ false → is_made_by session s ≡ false
made_off session (step.Show t s) off = refl
made_off session (step.Enter t) off = refl
made_off session (step.Leave t) off = refl
made_off session (step.Begin t stamp write) off = refl
made_off session (step.End t) off = refl
made_off session _ off = off

-- What the stream tells is told by another name.
pub telling_as : (events : List EventDef) (info : TraceInfo) (told more : List Entry) (p : Present) → told ≡ more
    → IsTelling (λ (s : SinkState). true) (λ (s : SinkState). s.taken) [] (definition_at events) info told (writer_of p.session)
    → IsTelling (λ (s : SinkState). true) (λ (s : SinkState). s.taken) [] (definition_at events) info more (writer_of p.session)
telling_as events info told more p same telling =
    subst (λ (es : List Entry). IsTelling (λ (s : SinkState). true) (λ (s : SinkState). s.taken) [] (definition_at events) info es (writer_of p.session)) same telling

pub stands_through : SlotStays → PoolStays → RestStays → EntriesStay → Through
stands_through slot_stays pool_stays rest_stays entries_stay s old new p off id keeps events info past lawful h =
    let Made : ℕ → Type 0 = λ n. is_made_by n s ≡ false in
    let made = made_off p.number s off in
    record {
      slots = λ r is_row slot at. slot_stays events past p.number slot s lawful (slot_off p.number slot.thread s off) (h.slots r is_row slot (sym (keeps.slots r) ∙ at));
      pool = pool_stays past p.number (new.pool p.slot) s (pool_off p.number s off) (subst (PoolFollows past p.number) (sym keeps.pool) h.pool);
      rest = rest_stays events past (rest_of p.session) s h.rest lawful (subst Made (sym id) made);
      telling = telling_as events info (entries events p.number past) (entries events p.number (s ∷ past)) p (sym (entries_stay events p.number past s made)) h.telling;
    }
