-- All stay at rest in a step that begins no write.
use Rattle.std.proofs.Common.{◌≡◌, ℕ, List, ◌∷◌, Some, refl, ap, sym, ◌∙◌, subst}
use Rattle.std.specs.List.{AllByRecursion}
use Rattle.ep_defs.specs.declared.limits.TheConstants.{THREADS}
use Rattle.ep_defs.specs.declared.event.EventDef.{EventDef}
use Rattle.ep_defs.specs.declared.session.Config.{Config}
use Rattle.ep_defs.specs.declared.session.Write.{Write}
use Rattle.ep_model.specs.declared.step.Step.{Step}
use Rattle.ep_model.specs.History.{Past, config_of, writes_of}
use Rattle.ep_slot.specs.Slot.{SlotState}
use Rattle.ep_row.specs.Row.{RowState}
use Rattle.ep_row.specs.AtRest.{RowAtRest, SlotAtRest}
use Rattle.ep_stream.specs.Rows.{IsRow}
use Rattle.ep_stream.specs.Session.{rest_of}
use Rattle.ep_stream.specs.Steps.{ToldRows}
use Rattle.ep_rows.specs.Rows.{told_of}
use Rattle.ep_tables.specs.declared.tables.Present.{Present}
use Rattle.ep_tables.specs.declared.tables.Tables.{Tables}
use Rattle.ep_tables.specs.Made.{KeepsSessions, ChangesOne}
use Rattle.ep_tables.proofs.Items.{All-each}
use Rattle.ep_core_laws.specs.Rests.{AreAtRest}
use Rattle.ep_core_laws.proofs.RestLists.{All-replaced}

-- ---- the configurations of sessions

-- A session's configuration is that of its slot.
abbrev pub IsConfigured : (ℕ → Config) → Past → Present → Type 0
IsConfigured configs past p = config_of p.number past ≡ Some (configs p.slot)

abbrev pub IsKept : (ℕ → Config) → Present → Type 0
IsKept configs p = (rest_of p.session).config ≡ configs p.slot

-- All of them are.
pub record AreConfigured (configs : ℕ → Config) (past : Past) (sessions : List Present) : Type 0 where
  pub configured : AllByRecursion (IsConfigured configs past) sessions
  pub kept : AllByRecursion (IsKept configs) sessions

pub configured_still : (events : List EventDef) (past : Past) (s : Step) (old new : Tables) (h : AreAtRest events past old) → ((n : ℕ) → config_of n (s ∷ past) ≡ config_of n past) → KeepsSessions old new
    → AreConfigured h.configs (s ∷ past) new.present.items
configured_still events past s old new h same keeps =
    record {
      configured = rw keeps.present (All-each (IsConfigured h.configs past) (IsConfigured h.configs (s ∷ past)) old.present.items (λ p is. same p.number ∙ is) h.configured);
      kept = rw keeps.present h.kept;
    }

pub configured_one : (events : List EventDef) (past : Past) (s : Step) (session : ℕ) (Changes : Present → Present → ToldRows → ToldRows → Type 0) (old new : Tables) (h : AreAtRest events past old) → ((n : ℕ) → config_of n (s ∷ past) ≡ config_of n past)
    → ChangesOne session Changes old new → AreConfigured h.configs (s ∷ past) new.present.items
configured_one events past s session Changes old new h same one =
    let items = old.present.items in
    let Before : Present → Type 0 = IsConfigured h.configs past in
    let After : Present → Type 0 = IsConfigured h.configs (s ∷ past) in
    let before = All-each Before After items (λ p is. same p.number ∙ is) h.configured in
    record {
      configured = subst (AllByRecursion After) (sym one.sessions) (All-replaced After items one.place one.was one.now one.stands.there
          (λ is. ap (λ n. config_of n (s ∷ past)) one.number ∙ is ∙ ap (λ place. Some (h.configs place)) (sym one.slot)) before);
      kept = subst (AllByRecursion (IsKept h.configs)) (sym one.sessions) (All-replaced (IsKept h.configs) items one.place one.was one.now one.stands.there
          (λ is. one.config ∙ is ∙ ap h.configs (sym one.slot)) h.kept);
    }

-- ---- rows

-- The row serves the thread that it did, and is at rest where it was.
pub record RestsOn (events : List EventDef) (configs : ℕ → Config) (old new : RowState) : Type 0 where
  pub thread : new.thread ≡ old.thread
  pub rest : (writes : List Write) → RowAtRest events configs writes old → RowAtRest events configs writes new

pub rests_same : (events : List EventDef) (configs : ℕ → Config) (row : RowState) → RestsOn events configs row row
rests_same events configs row = record { thread = refl; rest = λ writes rest. rest }

pub rests_as : (events : List EventDef) (configs : ℕ → Config) (old new : RowState) → new ≡ old → RestsOn events configs old new
rests_as events configs old new same =
    let P : RowState → Type 0 = λ row. RestsOn events configs old row in
    subst P (sym same) (rests_same events configs old)

-- ---- all of them

pub rests_on : (events : List EventDef) (past : Past) (s : Step) (old new : Tables) (h : AreAtRest events past old)
    → ((t : ℕ) → writes_of t (s ∷ past) ≡ writes_of t past)
    → AreConfigured h.configs (s ∷ past) new.present.items
    → ((r : ℕ) → IsRow THREADS r → RestsOn events h.configs ((told_of old.rows).row r) ((told_of new.rows).row r))
    → ((r s : ℕ) → IsRow THREADS r → (slot : SlotState) → (told_of new.rows).slot r s ≡ Some slot → SlotAtRest events (h.configs s) (writes_of ((told_of old.rows).row r).thread past) slot)
    → AreAtRest events (s ∷ past) new
rests_on events past s old new h same sessions rows slots =
    let before = told_of old.rows in
    let after = told_of new.rows in
    let writes : (r : ℕ) → IsRow THREADS r → writes_of (before.row r).thread past ≡ writes_of (after.row r).thread (s ∷ past) = λ r is_row.
    ap (λ t. writes_of t past) (sym (rows r is_row).thread) ∙ sym (same (after.row r).thread) in
    record {
      configs = h.configs;
      configured = sessions.configured;
      kept = sessions.kept;
      rows = λ r is_row.
          let P : List Write → Type 0 = λ ws. RowAtRest events h.configs ws (after.row r) in
          subst P (writes r is_row) ((rows r is_row).rest (writes_of (before.row r).thread past) (h.rows r is_row));
      slots = λ r place is_row slot is.
          let P : List Write → Type 0 = λ ws. SlotAtRest events (h.configs place) ws slot in
          subst P (writes r is_row) (slots r place is_row slot is);
    }
