-- What the Begin of a write makes, and a Show.
use Rattle.std.proofs.Common.{◌≡◌, ℕ, zero, suc, ◌+◌, ◌<◌, Bool, true, false, inl, inr, List, [], ◌∷◌, ◌++◌, length, Some, None, refl, ap, sym, ◌∙◌, subst, arith, if◌then◌else◌}
use Rattle.std.specs.Prelude.{◌&&◌, ◌||◌, not, is_some, is_none, slice_get, slice_index_or, nat_le, ◌==◌, ◌^◌}
use Rattle.std.specs.Int.{bit_at}
use Rattle.std.specs.List.{AllByRecursion}
use Rattle.std.proofs.lemmas.Bool.{eq-eqb, ne_eqb, leb-true, leb-false, and_from, and_parts, and_left, and_right, or_left, not-false, cases_eq, false≢true}
use Rattle.std.proofs.lemmas.List.{length_push}
use Rattle.std.proofs.lemmas.Nat.Bits.{bit_at_above}
use Rattle.std.specs.Option.{option_map_or}
use Rattle.std.proofs.lemmas.Map.Keys.{any_passes_from_place}
use Rattle.ep_defs.specs.declared.limits.TheConstants.{THREADS}
use Rattle.ep_defs.specs.Admits.{session_admits}
use Rattle.ep_defs.specs.Definitions.{definition_at}
use Rattle.ep_defs.specs.declared.event.EventDef.{EventDef}
use Rattle.ep_defs.specs.declared.session.Config.{Config}
use Rattle.ep_defs.specs.declared.session.Write.{Write}
use Rattle.ep_model.specs.declared.step.Step.TheVariants as step
use Rattle.ep_model.specs.History.{Past, config_of, in_write, writes_of, is_open, is_due, admits_write}
use Rattle.ep_model.specs.Lawful.{IsLawful, objections}
use Rattle.ep_model.proofs.Objections.{none_there}
use Rattle.ep_model.proofs.Due.{due_within}
use Rattle.ep_slot.specs.Slot.{SlotState, is_refused}
use Rattle.ep_row.specs.AtRest.{RowAtRest}
use Rattle.ep_row.specs.Bits.{one_if}
use Rattle.ep_row.specs.Row.{RowState, slot_of, mask_of}
use Rattle.ep_row.proofs.Resting.{one_true}
use Rattle.ep_stream.specs.Rows.{IsRow}
use Rattle.ep_rows.specs.Rows.{told_of}
use Rattle.ep_rows.specs.Shows.{ShowsRow, shown_slot}
use Rattle.ep_rows.specs.Writes.{BeginsRow}
use Rattle.ep_tables.specs.declared.tables.Present.{Present}
use Rattle.ep_tables.specs.declared.tables.Tables.{Tables}
use Rattle.ep_tables.specs.Tables.{TablesFollow, PresentFollows, RowFollows, OnFollows, has_slot, number_of}
use Rattle.ep_tables.specs.Made.{MakesBegin, MakesShow}
use Rattle.ep_core_laws.specs.Given.{RowsRest}
use Rattle.ep_tables.proofs.Items.{All-one, get-set_other}
use Rattle.ep_core_laws.proofs.FollowPasts.{show_hand}
use Rattle.ep_core_laws.proofs.Follow.{each_row, own_row, same_seats, sessions_stay, session_at, numbers_distinct, seats_distinct, follows_on}

-- ---- bits

one_is : (b : Bool) → (one_if b == 1) ≡ b
one_is true = refl
one_is false = refl

-- A bit that is set is one of a slot.
pub bit_within : (due slot : ℕ) → due < 2 ^ 64 → bit_at due slot ≡ 1 → slot < 64
bit_within due slot small one =
    elim (nat_le 64 slot) as (λ v. nat_le 64 slot ≡ v → slot < 64) [
      | true ↦ λ is. let none = bit_at_above due 64 slot small (leb-true 64 slot is) in absurd (cc)
      | false ↦ λ is. let less = leb-false 64 slot is in omega (arith, less)
    ] refl

-- ---- a write begins

begin_row : (past : Past) (thread stamp : ℕ) (write : Write) (R S : RowState) → (thread == R.thread) ≡ true → BeginsRow stamp write R S → RowFollows past R → RowFollows (step.Begin thread stamp write ∷ past) S
begin_row past thread stamp write R S own begins h =
    subst (RowFollows (step.Begin thread stamp write ∷ past)) (sym begins.row)
    (record {
      came = h.came;
      count = ap (λ n. n + 1) h.count ∙ sym (length_push (writes_of R.thread past) write) ∙ sym (ap (λ b. length (if b then writes_of R.thread past ++ write ∷ [] else writes_of R.thread past)) own);
      writing = sym (or_left (thread == R.thread) (in_write R.thread past) own);
      gone = h.gone;
    })

begin_other : (past : Past) (thread stamp : ℕ) (write : Write) (R : RowState) → (thread == R.thread) ≡ false → RowFollows past R → RowFollows (step.Begin thread stamp write ∷ past) R
begin_other past thread stamp write R other h =
    record {
      came = h.came;
      count = h.count ∙ sym (ap (λ b. length (if b then writes_of R.thread past ++ write ∷ [] else writes_of R.thread past)) other);
      writing = h.writing ∙ sym (ap (λ b. b || in_write R.thread past) other);
      gone = h.gone;
    }

-- The mask of an event says who gets it.
mask_says : (events : List EventDef) (configs : ℕ → Config) (writes : List Write) (event slot : ℕ) (R : RowState) → is_none (definition_at events event) ≡ false → RowAtRest events configs writes R → slot < 64
    → bit_at (mask_of R event) slot ≡ one_if (is_some (slot_of R slot) && option_map_or (λ def. session_admits (configs slot) def) (definition_at events event) false)
mask_says events configs writes zero slot R known rest less = absurd (false≢true (sym known))
mask_says events configs writes (suc place) slot R known rest less = rest.masks place slot (within events place known) less
  where
    within : {A : Type 0} (xs : List A) (i : ℕ) → is_none (slice_get xs i) ≡ false → i < length xs
    within [] i is = absurd (false≢true (sym is))
    within (x ∷ xs) zero is = omega arith
    within (x ∷ xs) (suc i) is = let less = within xs i is in omega (arith, less)

-- What is due in the write, is due to the sessions that get it.
begin_on : (events : List EventDef) (past : Past) (thread stamp : ℕ) (write : Write) (configs : ℕ → Config) (session slot : ℕ) (R S : RowState) → is_none (definition_at events write.event) ≡ false
    → (thread == R.thread) ≡ true → RowAtRest events configs (writes_of R.thread past) R → config_of session past ≡ Some (configs slot) → slot < 64
    → BeginsRow stamp write R S → OnFollows events past session slot R → OnFollows events (step.Begin thread stamp write ∷ past) session slot S
begin_on events past thread stamp write configs session slot R S known own rest config less begins h =
    subst (OnFollows events (step.Begin thread stamp write ∷ past) session slot) (sym begins.row)
    (record {
      on = h.on;
      owed =
          ap (λ n. n == 1) (mask_says events configs (writes_of R.thread past) write.event slot R known rest less)
          ∙ one_is (is_some (slot_of R slot) && admits_write events (Some (configs slot)) write)
          ∙ ap (λ b. b && admits_write events (Some (configs slot)) write) h.on
          ∙ ap (λ c. is_open session R.thread past && admits_write events c write) (sym config)
          ∙ sym (ap (λ b. if b then is_open session R.thread past && admits_write events (config_of session past) write else is_due events session R.thread past) own);
    })

begin_on_other : (events : List EventDef) (past : Past) (thread stamp : ℕ) (write : Write) (session slot : ℕ) (R : RowState) → (thread == R.thread) ≡ false → OnFollows events past session slot R → OnFollows events (step.Begin thread stamp write ∷ past) session slot R
begin_on_other events past thread stamp write session slot R other h =
    record { on = h.on; owed = h.owed ∙ sym (ap (λ b. if b then is_open session R.thread past && admits_write events (config_of session past) write else is_due events session R.thread past) other) }

both_each : {A : Type 0} (P Q R : A → Type 0) (xs : List A) → ((x : A) → P x → Q x → R x) → AllByRecursion P xs → AllByRecursion Q xs → AllByRecursion R xs
both_each P Q R [] each ps qs = tt
both_each P Q R (x ∷ xs) each ps qs = (each x ps.0 qs.0, both_each P Q R xs each ps.1 qs.1)

pub after_begin : (events : List EventDef) (past : Past) (thread stamp : ℕ) (write : Write) (old new : Tables) → IsLawful events (step.Begin thread stamp write ∷ past) → TablesFollow events past old → RowsRest events past old
    → MakesBegin thread stamp write old new → TablesFollow events (step.Begin thread stamp write ∷ past) new
after_begin events past thread stamp write old new lawful h rest m =
    let row = m.own.row in
    let own = own_row events past old thread row h m.own.own in
    let before = told_of old.rows in
    let after = told_of new.rows in
    let changes = m.own.rows.rows in
    let known = (none_there (objections events past (step.Begin thread stamp write)) lawful.1).1.1.0 in
    follows_on events past (step.Begin thread stamp write) old new lawful h m.own.events m.own.threads m.own.sessions.slots (same_seats old new m.own.sessions) refl refl refl (ap (λ n. n + 1) h.begins_are ∙ sym m.begins) (λ t. refl)
    (λ t gone. record { gone = gone.gone; closed = gone.closed })
    (each_row row (BeginsRow stamp write) before after (λ r R S. S.thread ≡ R.thread) changes (λ begins. ap (λ (R : RowState). R.thread) begins.row) (λ r other. refl))
    (λ r is_row. each_row row (BeginsRow stamp write) before after (λ r R S. IsRow THREADS r → RowFollows past R → RowFollows (step.Begin thread stamp write ∷ past) S) changes
    (λ begins at. begin_row past thread stamp write (before.row row) (after.row row) own.here begins) (λ r other at. begin_other past thread stamp write (before.row r) (own.others r at other)) r is_row (h.rows r is_row))
    (sessions_stay old new (PresentFollows events (step.Begin thread stamp write ∷ past) after) m.own.sessions
    (both_each (PresentFollows events past before) (λ (p : Present). config_of p.number past ≡ Some (rest.configs p.slot)) (PresentFollows events (step.Begin thread stamp write ∷ past) after) old.present.items (λ p f config. record {
      seat = f.seat;
      rows = λ r is_row. each_row row (BeginsRow stamp write) before after (λ r R S. IsRow THREADS r → OnFollows events past p.number p.slot R → OnFollows events (step.Begin thread stamp write ∷ past) p.number p.slot S) changes
          (λ begins at. begin_on events past thread stamp write rest.configs p.number p.slot (before.row row) (after.row row) known own.here (rest.rows row at) config p.within begins)
          (λ r other at. begin_on_other events past thread stamp write p.number p.slot (before.row r) (own.others r at other)) r is_row (f.rows r is_row);
      ever = f.ever;
      count = f.count;
      in_hand = f.in_hand;
    }) h.sessions rest.configured))
    (λ r slot is_row is. h.on_known r slot is_row (sym (each_row row (BeginsRow stamp write) before after (λ r R S. is_some (slot_of S slot) ≡ is_some (slot_of R slot)) changes (λ begins. ap (λ (R : RowState). is_some (slot_of R slot)) begins.row) (λ r other. refl) r) ∙ is))
    (λ r slot. each_row row (BeginsRow stamp write) before after (λ r R S. IsRow THREADS r → bit_at S.due slot ≡ 1 → has_slot slot old.present.items ≡ true) changes
    (λ begins at one.
    let less = bit_within (after.row row).due slot m.due one in
    let mask = mask_says events rest.configs (writes_of (before.row row).thread past) write.event slot (before.row row) known (rest.rows row at) less in
    let gets = one_true _ (sym mask ∙ ap (λ (R : RowState). bit_at R.due slot) (sym begins.row) ∙ one) in
    h.on_known row slot at (and_parts (is_some (slot_of (before.row row) slot)) _ gets).0)
    (λ r other at one. h.due_known r slot at one) r)

-- ---- a write is shown

show_row : (past : Past) (thread session slot : ℕ) (buffer : SlotState) (R S : RowState) → ShowsRow slot buffer R S → RowFollows past R → RowFollows (step.Show thread session ∷ past) S
show_row past thread session slot buffer R S shows h =
    subst (RowFollows (step.Show thread session ∷ past)) (sym shows.others) (record { came = h.came; count = h.count; writing = h.writing; gone = h.gone })

show_bit : (slot s : ℕ) (buffer : SlotState) (R S : RowState) → ShowsRow slot buffer R S → s < 64 → (s ≡ slot → ⊥) → bit_at S.due s ≡ bit_at R.due s
show_bit slot s buffer R S shows less off = shows.due s less ∙ ap (λ b. if b then 0 else bit_at R.due s) (ne_eqb s slot off)

show_slot : (slot s : ℕ) (buffer : SlotState) (R S : RowState) → ShowsRow slot buffer R S → (s ≡ slot → ⊥) → slot_of S s ≡ slot_of R s
show_slot slot s buffer R S shows off = ap (λ slots. slice_index_or slots s None) shows.slots ∙ get-set_other R.slots slot s _ None off

-- The session sees the write.
show_here : (events : List EventDef) (past : Past) (thread session slot : ℕ) (buffer : SlotState) (R S : RowState) → (thread == R.thread) ≡ true → is_open session R.thread past ≡ true → slot < 64
    → ShowsRow slot buffer R S → OnFollows events (step.Show thread session ∷ past) session slot S
show_here events past thread session slot buffer R S own on less shows =
    let same : S.thread ≡ R.thread = ap (λ (R : RowState). R.thread) shows.others in
    let both : ((session == session) && (thread == S.thread)) ≡ true = and_from (session == session) (thread == S.thread) (eq-eqb session session refl) (ap (λ t. thread == t) same ∙ own) in
    record {
      on = ap is_some shows.known.0 ∙ sym (ap (λ t. is_open session t past) same ∙ on);
      owed = ap (λ n. n == 1) (shows.due slot less ∙ ap (λ b. if b then 0 else bit_at R.due slot) (eq-eqb slot slot refl)) ∙ sym (ap (λ b. not b && is_due events session S.thread past) both);
    }

-- Another session does not.
show_else : (events : List EventDef) (past : Past) (thread session slot other at : ℕ) (buffer : SlotState) (R S : RowState) → (session == other) ≡ false → (at ≡ slot → ⊥) → at < 64
    → ShowsRow slot buffer R S → OnFollows events past other at R → OnFollows events (step.Show thread session ∷ past) other at S
show_else events past thread session slot other at buffer R S apart off less shows h =
    let same : S.thread ≡ R.thread = ap (λ (R : RowState). R.thread) shows.others in
    record {
      on = ap is_some (show_slot slot at buffer R S shows off) ∙ h.on ∙ sym (ap (λ t. is_open other t past) same);
      owed = ap (λ n. n == 1) (show_bit slot at buffer R S shows less off) ∙ h.owed ∙ sym (ap (λ t. is_due events other t past) same)
          ∙ sym (ap (λ b. not b && is_due events other S.thread past) (and_left (session == other) (thread == S.thread) apart));
    }

-- Nor is it one of another row.
show_elsewhere : (events : List EventDef) (past : Past) (thread session other at : ℕ) (R : RowState) → (thread == R.thread) ≡ false → OnFollows events past other at R → OnFollows events (step.Show thread session ∷ past) other at R
show_elsewhere events past thread session other at R apart h =
    record { on = h.on; owed = h.owed ∙ sym (ap (λ b. not b && is_due events other R.thread past) (and_right (session == other) (thread == R.thread) apart)) }

pub after_show : (events : List EventDef) (past : Past) (thread session : ℕ) (write : Write) (old new : Tables) → IsLawful events (step.Show thread session ∷ past) → TablesFollow events past old
    → MakesShow thread session write old new → TablesFollow events (step.Show thread session ∷ past) new
after_show events past thread session write old new lawful h m =
    let row = m.row in
    let slot = m.present.slot in
    let own = own_row events past old thread row h m.own in
    let found = session_at events past old session m.place m.present h m.stands in
    let before = told_of old.rows in
    let after = told_of new.rows in
    let buffer = shown_slot (is_refused m.shown) m.rows.buffer (before.row row).stamp write in
    let changes = m.rows.rows in
    let later = step.Show thread session ∷ past in
    let due = not-false (is_due events session thread past) (none_there (objections events past (step.Show thread session)) lawful.1).1.1.1.0 in
    let on : is_open session (before.row row).thread past ≡ true = ap (λ t. is_open session t past) own.thread_is ∙ (due_within events session thread past lawful.0 due).on in
    follows_on events past (step.Show thread session) old new lawful h m.events m.threads m.sessions.slots (same_seats old new m.sessions) refl refl refl (h.begins_are ∙ sym m.begins) (λ t. refl)
    (λ t gone. record { gone = gone.gone; closed = gone.closed })
    (each_row row (ShowsRow slot buffer) before after (λ r R S. S.thread ≡ R.thread) changes (λ shows. ap (λ (R : RowState). R.thread) shows.others) (λ r other. refl))
    (λ r is_row. each_row row (ShowsRow slot buffer) before after (λ r R S. RowFollows past R → RowFollows later S) changes
    (show_row past thread session slot buffer (before.row row) (after.row row)) (λ r other f. record { came = f.came; count = f.count; writing = f.writing; gone = f.gone }) r (h.rows r is_row))
    (sessions_stay old new (PresentFollows events later after) m.sessions
    (All-one number_of (λ (p : Present). p.slot) (PresentFollows events past before) (PresentFollows events later after) old.present.items m.place m.present m.stands.there
    (numbers_distinct events past old h) (seats_distinct events past old h)
    (λ p apart f. record {
      seat = f.seat;
      rows = λ r is_row. each_row row (ShowsRow slot buffer) before after (λ r R S. IsRow THREADS r → OnFollows events past p.number p.slot R → OnFollows events later p.number p.slot S) changes
          (λ shows at. show_else events past thread session slot p.number p.slot buffer (before.row row) (after.row row)
          (ne_eqb session p.number (λ same. false≢true (sym apart.numbers ∙ eq-eqb p.number m.present.number (sym same ∙ sym found.number))))
          (λ same. false≢true (sym apart.slots ∙ eq-eqb p.slot slot same)) p.within shows)
          (λ r other at. show_elsewhere events past thread session p.number p.slot (before.row r) (own.others r at other)) r is_row (f.rows r is_row);
      ever = f.ever;
      count = f.count;
      in_hand = f.in_hand ∙ sym (show_hand p.number thread session past);
    })
    (λ f. record {
      seat = f.seat;
      rows = λ r is_row. each_row row (ShowsRow slot buffer) before after (λ r R S. IsRow THREADS r → OnFollows events past m.present.number slot R → OnFollows events later m.present.number slot S) changes
          (λ shows at _. let P : ℕ → Type 0 = λ n. OnFollows events later n slot (after.row row) in
          subst P (sym found.number) (show_here events past thread session slot buffer (before.row row) (after.row row) own.here on m.present.within shows))
          (λ r other at. show_elsewhere events past thread session m.present.number slot (before.row r) (own.others r at other)) r is_row (f.rows r is_row);
      ever = f.ever;
      count = f.count;
      in_hand = f.in_hand ∙ sym (show_hand m.present.number thread session past);
    })
    h.sessions))
    (λ r s. each_row row (ShowsRow slot buffer) before after (λ r R S. IsRow THREADS r → is_some (slot_of S s) ≡ true → has_slot s old.present.items ≡ true) changes
    (λ shows at is. elim (cases_eq s slot) [
      | inl same ↦ any_passes_from_place (λ (p : Present). p.slot == s) old.present.items m.place m.present m.stands.there (eq-eqb slot s (sym same))
      | inr off ↦ h.on_known row s at (ap is_some (sym (show_slot slot s buffer (before.row row) (after.row row) shows off)) ∙ is)
    ])
    (λ r other at is. h.on_known r s at is) r)
    (λ r s. each_row row (ShowsRow slot buffer) before after (λ r R S. IsRow THREADS r → bit_at S.due s ≡ 1 → has_slot s old.present.items ≡ true) changes
    (λ shows at one. elim (cases_eq s slot) [
      | inl same ↦ any_passes_from_place (λ (p : Present). p.slot == s) old.present.items m.place m.present m.stands.there (eq-eqb slot s (sym same))
      | inr off ↦ h.due_known row s at (sym (show_bit slot s buffer (before.row row) (after.row row) shows (bit_within (after.row row).due s m.due one) off) ∙ one)
    ])
    (λ r other at one. h.due_known r s at one) r)
