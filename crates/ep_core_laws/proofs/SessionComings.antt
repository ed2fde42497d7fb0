-- Sessions stand where one comes or goes, and at the start.
use Rattle.std.proofs.Common.{◌≡◌, ℕ, Bool, false, List, [], ◌∷◌, map, Some, None, refl, ap, sym, ◌∙◌, subst}
use Rattle.std.specs.Prelude.{◌==◌, if◌then◌else◌}
use Rattle.std.specs.List.{AllByRecursion}
use Rattle.std.proofs.lemmas.Bool.{eqb-false, eq-eqb, ne_eqb, or_parts}
use Rattle.ep_defs.specs.declared.event.EventDef.{EventDef}
use Rattle.ep_defs.specs.declared.session.Config.{Config}
use Rattle.ep_defs.specs.declared.session.TraceInfo.{TraceInfo}
use Rattle.ep_pool.specs.Counts.{PoolCounts}
use Rattle.ep_model.specs.declared.step.Step.TheVariants as step
use Rattle.ep_model.specs.Entries.{entries}
use Rattle.ep_model.specs.History.{Past, accepted}
use Rattle.ep_model.specs.Lawful.{IsLawful}
use Rattle.ep_model.proofs.Lists.{has, eqb_turn}
use Rattle.ep_model.proofs.Objections.{needs_present}
use Rattle.ep_model.proofs.Sessions.{accept_new, absent_apart, not_accepted}
use Rattle.ep_stream.specs.declared.session.Seat.{Seat}
use Rattle.ep_stream.specs.Session.{new_rest}
use Rattle.ep_stream.specs.Steps.{ToldRows}
use Rattle.ep_rows.specs.Rows.{told_of}
use Rattle.ep_rows.specs.Told.{no_chunks}
use Rattle.ep_rows.specs.Writes.{SetsPool}
use Rattle.ep_tables.specs.declared.tables.Present.{Present}
use Rattle.ep_tables.specs.declared.tables.Tables.{Tables}
use Rattle.ep_tables.specs.Tables.{number_of, has_slot}
use Rattle.ep_tables.proofs.Pasts.{has_present}
use Rattle.ep_core_laws.specs.Kept.{PoolFollows}
use Rattle.ep_stream_laws.specs.Kept.{RestFollows}
use Rattle.ep_tables.specs.Made.{MakesAccept, MakesFinish, IsStart}
use Rattle.ep_tables.proofs.Seats.{free_slot}
use Rattle.ep_core_laws.specs.Stands.{SessionStands, SessionsStand, KeepsSlot, StandBefore}
use Rattle.ep_core_laws.proofs.Through.{Through, telling_as}
use Rattle.ep_core_laws.proofs.Sessions.{Before, StandsAs, all_before, stands_now, one_goes}

-- ---- a session that was not accepted

-- Its stream has told nothing.
untold : (events : List EventDef) (session : ℕ) (past : Past) → IsLawful events past → has session (accepted past) ≡ false → entries events session past ≡ []
untold events session [] lawful never = refl
untold events session (step.Accept s config ∷ past) lawful never = untold events session past lawful.0 (or_parts (s == session) (has session (accepted past)) never).1
untold events session (step.Steal s t ∷ past) lawful never =
    rw (absent_apart s session past (needs_present events past (step.Steal s t) lawful.1) never) (untold events session past lawful.0 never)
untold events session (step.Close s t ∷ past) lawful never =
    rw (absent_apart s session past (needs_present events past (step.Close s t) lawful.1) never) (untold events session past lawful.0 never)
untold events session (step.Point s stamp ∷ past) lawful never =
    rw (absent_apart s session past (needs_present events past (step.Point s stamp) lawful.1) never) (untold events session past lawful.0 never)
untold events session (step.Finish s stamp ∷ past) lawful never =
    rw (absent_apart s session past (needs_present events past (step.Finish s stamp) lawful.1) never) (untold events session past lawful.0 never)
untold events session (_ ∷ past) lawful never = untold events session past lawful.0 never

-- ---- a pool is set

kept_slot : (slot : ℕ) (pool : PoolCounts) (old new : ToldRows) → SetsPool slot pool old new → (s : ℕ) → (s ≡ slot → ⊥) → KeepsSlot s old new
kept_slot slot pool old new sets s other =
    record {
      slots = λ r. sets.slots r s;
      pool = sets.pools s ∙ ap (λ (b : Bool). if b then pool else old.pool s) (ne_eqb s slot other);
    }

-- ---- a session comes

abbrev pub PoolAccepts : Type 0
PoolAccepts =
    (events : List EventDef) (past : Past) (session : ℕ) (config : Config) → IsLawful events (step.Accept session config ∷ past)
    → PoolFollows (step.Accept session config ∷ past) session (record { total = config.chunks; free = config.chunks })

abbrev pub RestAccepts : Type 0
RestAccepts =
    (events : List EventDef) (past : Past) (seat : Seat) (config : Config) → IsLawful events (step.Accept seat.id config ∷ past)
    → RestFollows (step.Accept seat.id config ∷ past) (new_rest seat config)

-- What holds of each session with another number and slot holds of all where none has them.
all_others : (P Q : Present → Type 0) (number slot : ℕ) (ps : List Present) → has number (map number_of ps) ≡ false → has_slot slot ps ≡ false
    → ((p : Present) → (p.number == number) ≡ false → (p.slot == slot) ≡ false → P p → Q p) → AllByRecursion P ps → AllByRecursion Q ps
all_others P Q number slot [] none off each all = tt
all_others P Q number slot (p ∷ ps) none off each all =
    let n = or_parts (p.number == number) (has number (map number_of ps)) none in
    let s = or_parts (p.slot == slot) (has_slot slot ps) off in
    (each p n.0 s.0 all.0, all_others P Q number slot ps n.1 s.1 each all.1)

pub accepted_now : Through → PoolAccepts → RestAccepts → (events : List EventDef) (info : TraceInfo) (past : Past) (session : ℕ) (config : Config) (old new : Tables)
    → StandBefore events info (step.Accept session config) past old → MakesAccept session config info old new → SessionsStand events info (step.Accept session config ∷ past) new
accepted_now through pool_accepts rest_accepts events info past session config old new h m =
    let s = step.Accept session config in
    let now = m.now in
    let before = told_of old.rows in
    let after = told_of new.rows in
    let pool : PoolCounts = record { total = config.chunks; free = config.chunks } in
    let seat : Seat = record { slot = now.slot; id = session; conn = m.rest.0 } in
    let anew = accept_new events past session config h.lawful.1 in
    let unheld : has_slot now.slot old.present.items ≡ false = sym (h.follow.held now.slot) ∙ free_slot old.table now.slot m.id m.seat in
    let unknown : has session (map number_of old.present.items) ≡ false =
    sym (ap (has session) h.follow.present_are) ∙ has_present session past ∙ not_accepted session past anew in
    let Now = SessionStands events info (s ∷ past) after in
    let All : List Present → Type 0 = AllByRecursion Now in
    let pool_now : after.pool now.slot ≡ pool = m.rows.pools now.slot ∙ ap (λ (b : Bool). if b then pool else before.pool now.slot) (eq-eqb now.slot now.slot refl) in
    let stands : StandsAs events info (s ∷ past) after session now.slot now = record {
      slots = λ r is_row b at.
          let none : Some b ≡ None = sym at ∙ m.rows.slots r now.slot ∙ h.tied.off r now.slot unheld in
          absurd (cc);
      pool = subst (PoolFollows (s ∷ past) session) (sym pool_now) (pool_accepts events past session config h.lawful);
      rest = subst (RestFollows (s ∷ past)) (sym m.rest.1) (rest_accepts events past seat config h.lawful);
      telling = telling_as events info [] (entries events session past) now (sym (untold events session past h.lawful.0 anew)) (m.begun events);
    } in
    subst All (sym m.sessions) (
      stands_now events info (s ∷ past) after session now.slot now m.number refl stands,
      all_others (Before events info past old) Now session now.slot old.present.items unknown unheld
          (λ p number slot b. through s before after p (eqb_turn p.number session number) b.1.id
          (kept_slot now.slot pool before after m.rows p.slot (eqb-false p.slot now.slot slot)) events info past h.lawful b.0)
          (all_before events info s past old h),
    )

-- ---- a session goes

pub finished_now : Through → (events : List EventDef) (info : TraceInfo) (past : Past) (session stamp : ℕ) (old new : Tables)
    → StandBefore events info (step.Finish session stamp) past old → MakesFinish session old new → SessionsStand events info (step.Finish session stamp ∷ past) new
finished_now through events info past session stamp old new h m =
    one_goes through events info (step.Finish session stamp) past old new session m.place m.was h m.stands m.sessions (λ n off. off)
    (kept_slot m.was.slot no_chunks (told_of old.rows) (told_of new.rows) m.rows)

-- ---- the start

pub starts : (events : List EventDef) (info : TraceInfo) (tables : Tables) → IsStart events tables → SessionsStand events info [] tables
starts events info tables start = subst (AllByRecursion (SessionStands events info [] (told_of tables.rows))) (sym start.present) tt
