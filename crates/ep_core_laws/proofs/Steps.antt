-- What holds before and after each step.
use Rattle.std.proofs.Common.{◌≡◌, ◌≤◌, ◌<◌, ◌+◌, ◌^◌, ℕ, Bool, true, false, List, [], ◌∷◌, length, Option, None, Some, refl, ap, sym, ◌∙◌, subst, arith}
use Rattle.std.specs.Prelude.{◌&&◌, not, nat_lt, nat_le, position}
use Rattle.std.specs.List.{list_any}
use Rattle.std.proofs.lemmas.Bool.{leb-false}
use Rattle.ep_defs.specs.declared.limits.TheConstants.{SESSIONS, WRITES}
use Rattle.ep_defs.specs.declared.event.EventDef.{EventDef}
use Rattle.ep_defs.specs.declared.session.Config.{Config}
use Rattle.ep_defs.specs.declared.session.TraceInfo.{TraceInfo}
use Rattle.ep_defs.specs.declared.session.Write.{Write}
use Rattle.ep_defs.specs.Session.{is_valid_config}
use Rattle.ep_model.specs.declared.step.Step.{Step}
use Rattle.ep_model.specs.declared.step.Step.TheVariants as step
use Rattle.ep_model.specs.declared.step.Kind.{Kind}
use Rattle.ep_model.specs.declared.step.Kind.TheVariants.{SessionNumber, BadConfig, Full}
use Rattle.ep_model.specs.History.{Past, accepted, present, writes_of}
use Rattle.ep_model.specs.Lawful.{IsLawful, Objection, against, first_kind, is_next_session}
use Rattle.ep_table.specs.Sessions.{Sessions, seated_at, is_free, after_free}
use Rattle.ep_rows.specs.Rows.{told_of}
use Rattle.ep_tables.specs.declared.tables.Tables.{Tables}
use Rattle.ep_tables.specs.Tables.{TablesFollow, row_of}
use Rattle.ep_tables.specs.Made.{MakesAccept, IsStart, HasId, HasNumber}
use Rattle.ep_core_laws.specs.Given.{RowsRest}
use Rattle.ep_core_laws.specs.Rests.{AreAtRest}
use Rattle.ep_core_laws.specs.Stands.{StandBefore}
use Rattle.ep_core_laws.specs.Works.{WorksBefore}
use Rattle.ep_core_laws.proofs.Follow.{own_row}

-- What is known of sessions before a step.
pub stands : {events : List EventDef} {info : TraceInfo} {step : Step} {past : Past} {tables : Tables} {begun : List (Option Write)} → WorksBefore events info step past tables begun → StandBefore events info step past tables
stands before = record { lawful = before.lawful; follow = before.works.follow; tied = before.works.tied; stand = before.works.stand }

-- Where all are at rest, the rows are.
pub rows_rest : {events : List EventDef} {past : Past} {tables : Tables} → AreAtRest events past tables → RowsRest events past tables
rows_rest rest = record { configs = rest.configs; configured = rest.configured; rows = rest.rows }

-- ---- ids

-- A step that accepts no session leaves the ids.
pub ids_stay : (old new : Tables) → new.table ≡ old.table → new.last_session ≡ old.last_session → old.table.next ≤ old.last_session + 1 → new.table.next ≤ new.last_session + 1
ids_stay old new table last h =
    subst (λ (n : ℕ). new.table.next ≤ n + 1) (sym last) (subst (λ (t : Sessions). t.next ≤ old.last_session + 1) (sym table) h)

not_there : (test : Bool) (kind : Kind) (others : List Objection) → first_kind (against (not test) kind ∷ others) ≡ None → test ≡ true
not_there true kind others none = refl
not_there false kind others none = absurd (cc)

-- A session that comes has a number above all before.
number_above : (session : ℕ) (past : Past) (last : ℕ) → (nat_lt 0 session ≡ true → list_any (λ s. nat_le session s) (accepted past) ≡ nat_le session last) → is_next_session session past ≡ true → last < session
number_above session past last same next =
    elim (nat_lt 0 session) as (λ v. nat_lt 0 session ≡ v → (v && not (list_any (λ s. nat_le session s) (accepted past))) ≡ true → last < session) [
      | true ↦ λ some none.
          elim (nat_le session last) as (λ v. nat_le session last ≡ v → last < session) [
            | true ↦ λ within. let clash : not true ≡ true = ap not (sym (same some ∙ within)) ∙ none in absurd (cc)
            | false ↦ λ over. leb-false session last over
          ] refl
      | false ↦ λ _ none. absurd (cc)
    ] refl next

next_above : (events : List EventDef) (past : Past) (session : ℕ) (config : Config) (tables : Tables) → IsLawful events (step.Accept session config ∷ past) → TablesFollow events past tables → tables.last_session < session
next_above events past session config tables lawful follow =
    let next : is_next_session session past ≡ true = not_there (is_next_session session past) SessionNumber (against (not (is_valid_config config)) BadConfig ∷ against (nat_le SESSIONS (length (present past))) Full ∷ []) lawful.1 in
    number_above session past tables.last_session (follow.last_session session) next

one_more : (sessions : Sessions) (place : Option ℕ) → (seated_at sessions place).next ≤ sessions.next + 1
one_more sessions None = omega arith
one_more sessions (Some place) = omega arith

-- It gets the next id.
pub ids_rise : (events : List EventDef) (past : Past) (session : ℕ) (config : Config) (info : TraceInfo) (old new : Tables) → IsLawful events (step.Accept session config ∷ past) → TablesFollow events past old → MakesAccept session config info old new
    → old.table.next ≤ old.last_session + 1 → new.table.next ≤ new.last_session + 1
ids_rise events past session config info old new lawful follow made h =
    let above = next_above events past session config old lawful follow in
    let gives : new.table.next ≤ old.table.next + 1 = subst (λ (t : Sessions). t.next ≤ old.table.next + 1) (sym made.table) (one_more old.table (position is_free old.table.seats)) in
    subst (λ (n : ℕ). new.table.next ≤ n + 1) (sym made.last_session) (omega (arith, h, above, gives))

-- There is one for it, since numbers are few.
pub ids_few : (events : List EventDef) (past : Past) (session : ℕ) (config : Config) (tables : Tables) → IsLawful events (step.Accept session config ∷ past) → TablesFollow events past tables
    → session < 2 ^ 32 → tables.table.next ≤ tables.last_session + 1 → HasId tables
ids_few events past session config tables lawful follow small h =
    let above = next_above events past session config tables lawful follow in
    omega (arith, small, h, above)

-- The first tables give the first id.
pub ids_first : (events : List EventDef) (tables : Tables) → IsStart events tables → tables.table.next ≤ tables.last_session + 1
ids_first events tables start =
    let next : tables.table.next ≡ 1 = ap (λ (t : Sessions). t.next) start.table in
    omega (arith, next)

-- A session that ends frees its slot, and leaves the ids.
pub ids_freed : (old new : Tables) (slot : ℕ) → new.table ≡ after_free old.table slot → new.last_session ≡ old.last_session → old.table.next ≤ old.last_session + 1 → new.table.next ≤ new.last_session + 1
ids_freed old new slot table last h =
    subst (λ (n : ℕ). new.table.next ≤ n + 1) (sym last) (subst (λ (t : Sessions). t.next ≤ old.last_session + 1) (sym table) h)

-- ---- numbers

-- A thread that can begin a write has a number left.
pub begins_few : (events : List EventDef) (past : Past) (thread row : ℕ) (tables : Tables) → TablesFollow events past tables → row_of tables thread ≡ Some row → length (writes_of thread past) < WRITES → HasNumber tables row
begins_few events past thread row tables follow own few =
    let mine = own_row events past tables thread row follow own in
    let count : ((told_of tables.rows).row row).index ≡ length (writes_of thread past) = mine.follows.count ∙ ap (λ (t : ℕ). length (writes_of t past)) mine.thread_is in
    subst (λ (n : ℕ). n < WRITES) (sym count) few
