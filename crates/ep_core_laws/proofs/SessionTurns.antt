-- A session stands after each step of its own.
use Rattle.std.proofs.Common.{◌≡◌, ℕ, zero, suc, ◌+◌, ◌≤◌, Bool, true, false, inl, inr, List, [], ◌∷◌, ◌++◌, length, map, Option, Some, None, refl, ap, sym, ◌∙◌, subst, arith}
use Rattle.std.specs.Prelude.{◌⊎◌, ◌==◌, min, option_map, if◌then◌else◌}
use Rattle.std.specs.Option.{option_map_or}
use Rattle.std.proofs.lemmas.Bool.{and_right, eq-eqb, ne_eqb}
use Rattle.std.proofs.lemmas.Option.{none-some, same_Some}
use Rattle.std.proofs.Math.Nat.{min-eq_right}
use Rattle.ep_defs.specs.declared.limits.TheConstants.{THREADS}
use Rattle.ep_defs.specs.Definitions.{definition_at}
use Rattle.ep_defs.specs.Entry.{Entry, Event, Point}
use Rattle.ep_defs.specs.declared.event.EventDef.{EventDef}
use Rattle.ep_defs.specs.declared.session.Config.{Config}
use Rattle.ep_defs.specs.declared.session.Marks.{Marks}
use Rattle.ep_defs.specs.declared.session.TraceInfo.{TraceInfo}
use Rattle.pt_io.specs.Memory.{SinkState}
use Rattle.nt_write.specs.Writer.{point_of}
use Rattle.ep_chunk.specs.Record.{Record}
use Rattle.ep_pool.specs.Counts.{PoolCounts}
use Rattle.ep_model.specs.declared.step.Step.{Step}
use Rattle.ep_model.specs.declared.step.Step.TheVariants as step
use Rattle.ep_model.specs.Budget.{Pending}
use Rattle.ep_model.specs.Entries.{entries, pending}
use Rattle.ep_model.specs.Fold.{budget_of}
use Rattle.ep_model.specs.History.{Past, config_of, shows, writes_of}
use Rattle.ep_model.specs.Lawful.{IsLawful}
use Rattle.ep_model.specs.Marks.{marks_on}
use Rattle.ep_slot.specs.Hand.{HandState, hand_of}
use Rattle.ep_slot.specs.Slot.{SlotState, opened, with_steal, marks_of}
use Rattle.ep_stream.specs.Named.{first_named, insert_by, with_number, with_marks, still_open, numbers_of}
use Rattle.ep_stream.specs.Rows.{IsRow, IsSetAt}
use Rattle.ep_stream.specs.Session.{Rest, rest_of, writer_of, hand_on}
use Rattle.ep_stream.specs.Steps.{ToldRows, IsAllOf, given_back}
use Rattle.ep_stream.specs.Sweep.{TellsGive}
use Rattle.ep_stream.specs.Telling.{IsTelling, entries_of}
use Rattle.ep_rows.specs.declared.rows.Rows.{Rows}
use Rattle.ep_rows.specs.Rows.{told_of}
use Rattle.ep_tables.specs.declared.tables.Present.{Present}
use Rattle.ep_tables.specs.declared.tables.Tables.{Tables}
use Rattle.ep_core_laws.specs.Changes.{changes_slot, changes_pool}
use Rattle.ep_core_laws.specs.Kept.{SlotFollows, PoolFollows}
use Rattle.ep_stream_laws.specs.Kept.{RestFollows}
use Rattle.ep_tables.specs.Made.{MakesOpen, MakesSteal, MakesClose, MakesGive, MakesPoint, TellsIn}
use Rattle.ep_tables.specs.Tied.{IsTied}
use Rattle.ep_core_laws.proofs.Follow.{OwnRow, own_row}
use Rattle.ep_core_laws.specs.Stands.{StandBefore}
use Rattle.ep_core_laws.proofs.Through.{SlotStays, PoolStays, telling_as}
use Rattle.ep_core_laws.proofs.Sets.{each_slot, row_thread}
use Rattle.ep_core_laws.proofs.Sessions.{StandsAs, Placed}

-- ---- what stays

-- What the session has on the rows of other threads.
pub other_rows : SlotStays → (events : List EventDef) (info : TraceInfo) (s : Step) (past : Past) (old : Tables) (session thread row slot : ℕ) (was : Present) → StandBefore events info s past old → OwnRow past old thread row
    → ((n : ℕ) → (thread == n) ≡ false → changes_slot session n s ≡ false) → StandsAs events info past (told_of old.rows) session slot was
    → (r : ℕ) → IsRow THREADS r → (r ≡ row → ⊥) → (b : SlotState) → (told_of old.rows).slot r slot ≡ Some b → SlotFollows events (s ∷ past) session b
other_rows slot_stays events info s past old session thread row slot was h own off stands r is_row other b at =
    let Off : ℕ → Type 0 = λ n. (thread == n) ≡ false in
    slot_stays events past session b s h.lawful (off b.thread (subst Off (sym (row_thread old.rows r slot b at)) (own.others r is_row other))) (stands.slots r is_row b at)

same_writer : (events : List EventDef) (info : TraceInfo) (told : List Entry) (was now : Present) → writer_of now.session ≡ writer_of was.session
    → IsTelling (λ (s : SinkState). true) (λ (s : SinkState). s.taken) [] (definition_at events) info told (writer_of was.session)
    → IsTelling (λ (s : SinkState). true) (λ (s : SinkState). s.taken) [] (definition_at events) info told (writer_of now.session)
same_writer events info told was now same telling =
    subst (IsTelling (λ (s : SinkState). true) (λ (s : SinkState). s.taken) [] (definition_at events) info told) (sym same) telling

-- ---- a session is opened on a thread

abbrev pub SlotOpens : Type 0
SlotOpens =
    (events : List EventDef) (past : Past) (session thread : ℕ) (config : Config) → IsLawful events (step.Open session thread ∷ past) → config_of session past ≡ Some config
    → SlotFollows events (step.Open session thread ∷ past) session (opened session thread (length (writes_of thread past)) config.chunks)

abbrev pub RestOpens : Type 0
RestOpens =
    (events : List EventDef) (past : Past) (rest : Rest) (thread : ℕ) → RestFollows past rest → IsLawful events (step.Open rest.seat.id thread ∷ past)
    → RestFollows (step.Open rest.seat.id thread ∷ past) (record rest { named = insert_by (λ n. n.thread) (first_named thread) rest.named })

pub opened_now : SlotStays → PoolStays → SlotOpens → RestOpens → (events : List EventDef) (info : TraceInfo) (past : Past) (session thread : ℕ) (old new : Tables)
    → StandBefore events info (step.Open session thread) past old → (m : MakesOpen session thread old new) → Placed events info past old session m.one.was
    → StandsAs events info (step.Open session thread ∷ past) (told_of new.rows) session m.one.was.slot m.one.now
opened_now slot_stays pool_stays slot_opens rest_opens events info past session thread old new h m here =
    let s = step.Open session thread in
    let was = m.one.was in
    let now = m.one.now in
    let changes = m.one.changes in
    let before = told_of old.rows in
    let after = told_of new.rows in
    let rest : Rest = rest_of was.session in
    let own = own_row events past old thread m.row h.follow m.own in
    let Follows : SlotState → Type 0 = λ b. SlotFollows events (s ∷ past) session b in
    let config : config_of session past ≡ Some rest.config = ap (λ (n : ℕ). config_of n past) (sym here.id) ∙ here.stands.rest.config in
    let index : (before.row m.row).index ≡ length (writes_of thread past) = own.follows.count ∙ ap (λ (t : ℕ). length (writes_of t past)) own.thread_is in
    let first : opened rest.seat.id (before.row m.row).thread (before.row m.row).index rest.config.chunks ≡ opened session thread (length (writes_of thread past)) rest.config.chunks =
    λ i. opened (here.id i) (own.thread_is i) (index i) rest.config.chunks in
    let opens : Follows (opened rest.seat.id (before.row m.row).thread (before.row m.row).index rest.config.chunks) =
    subst Follows (sym first) (slot_opens events past session thread rest.config h.lawful config) in
    let Lawful : ℕ → Type 0 = λ n. IsLawful events (step.Open n thread ∷ past) in
    let named : ℕ → Rest = λ t. record rest { named = insert_by (λ n. n.thread) (first_named t) rest.named } in
    let Rests : ℕ → Type 0 = λ n. RestFollows (step.Open n thread ∷ past) (named thread) in
    let rests = subst Rests here.id (rest_opens events past rest thread here.stands.rest (subst Lawful (sym here.id) h.lawful)) in
    let rest_now : rest_of now.session ≡ named thread = changes.attached.rest ∙ ap named (changes.attached.tested ∙ own.thread_is) in
    record {
      slots = each_slot m.row was.slot (Some (opened rest.seat.id (before.row m.row).thread (before.row m.row).index rest.config.chunks)) before after Follows changes.told.slots
          (λ b is. let same : opened rest.seat.id (before.row m.row).thread (before.row m.row).index rest.config.chunks ≡ b = cc in subst Follows same opens)
          (other_rows slot_stays events info s past old session thread m.row was.slot was h own (λ n off. and_right (session == session) (thread == n) off) here.stands);
      pool = pool_stays past session (after.pool was.slot) s refl (subst (PoolFollows past session) (sym (changes.told.pools was.slot)) here.stands.pool);
      rest = subst (RestFollows (s ∷ past)) (sym rest_now) rests;
      telling = same_writer events info (entries events session past) was now changes.writer here.stands.telling;
    }

-- ---- what is pending is taken

-- The hand of a session on a row is that of its slot.
hand_thread : (rows : Rows) (was : Present) (row : ℕ) (hand : HandState) (buffer : SlotState) → IsTied rows was → hand_on was.session row ≡ Some hand → (told_of rows).slot row was.slot ≡ Some buffer → hand.thread ≡ buffer.thread
hand_thread rows was row hand buffer tied held was_is =
    let expected : ℕ → Option HandState = λ s. option_map hand_of ((told_of rows).slot row s) in
    let both : Some (hand_of buffer) ≡ Some hand = sym (ap (option_map hand_of) was_is) ∙ ap expected (sym tied.slot) ∙ tied.rows_are.hands row ∙ held in
    let same : hand_of buffer ≡ hand = cc in
    sym (ap (λ (x : HandState). x.thread) same)

-- What is taken is what the stream had to tell.
pub taken_entries : (events : List EventDef) (past : Past) (session thread : ℕ) (config : Config) (buffer : SlotState) (records : List Record) → SlotFollows events past session buffer → buffer.thread ≡ thread
    → config_of session past ≡ Some config → records ≡ buffer.records → entries_of events config.stackwalk records ≡ map Event (pending events session thread past)
taken_entries events past session thread config buffer records follows own configured all =
    ap (entries_of events config.stackwalk) all
    ∙ sym (ap (λ (c : Option Config). entries_of events (option_map_or (λ conf. conf.stackwalk) c false) buffer.records) configured)
    ∙ follows.records_are
    ∙ ap (λ (t : ℕ). map Event (pending events session t past)) own

-- The stream has told them.
told_more : (events : List EventDef) (info : TraceInfo) (past : Past) (old : Tables) (session thread : ℕ) (was now : Present) (records : List Record) (more : List Entry) (buffer : SlotState)
    → old.events.items ≡ events → config_of session past ≡ Some (rest_of was.session).config → SlotFollows events past session buffer → buffer.thread ≡ thread → records ≡ buffer.records
    → more ≡ entries events session past ++ map Event (pending events session thread past)
    → IsTelling (λ (s : SinkState). true) (λ (s : SinkState). s.taken) [] (definition_at events) info (entries events session past) (writer_of was.session)
    → TellsIn old.events.items (entries_of old.events.items (rest_of was.session).config.stackwalk records) was now
    → IsTelling (λ (s : SinkState). true) (λ (s : SinkState). s.taken) [] (definition_at events) info more (writer_of now.session)
told_more events info past old session thread was now records more buffer events_are configured follows own all grows telling tells =
    let stacks = (rest_of was.session).config.stackwalk in
    let Tells : List EventDef → Type 0 = λ es. TellsIn es (entries_of es stacks records) was now in
    let front = entries events session past in
    telling_as events info (front ++ entries_of events stacks records) more now
    (ap (λ (es : List Entry). front ++ es) (taken_entries events past session thread (rest_of was.session).config buffer records follows own configured all) ∙ sym grows)
    (subst Tells events_are tells [] info front telling)

abbrev pub SlotSteals : Type 0
SlotSteals = (events : List EventDef) (past : Past) (session : ℕ) (slot : SlotState) → SlotFollows events past session slot → SlotFollows events (step.Steal session slot.thread ∷ past) session (with_steal slot)

abbrev pub RestSteals : Type 0
RestSteals =
    (events : List EventDef) (past : Past) (rest : Rest) (thread last chunks : ℕ) → RestFollows past rest → IsLawful events (step.Steal rest.seat.id thread ∷ past)
    → last ≡ shows rest.seat.id thread past → chunks ≡ ((budget_of rest.seat.id past).pending thread).chunks
    → RestFollows (step.Steal rest.seat.id thread ∷ past) (record rest { named = with_number thread last true rest.named; in_hand = chunks })

abbrev pub EntriesSteal : Type 0
EntriesSteal =
    (events : List EventDef) (session thread : ℕ) (past : Past)
    → entries events session (step.Steal session thread ∷ past) ≡ entries events session past ++ map Event (pending events session thread past)

-- What a session takes of the row of a thread, with its hand, is what the steps so far say.
record TakenOf (events : List EventDef) (past : Past) (old : Tables) (session thread row : ℕ) (rest : Rest) (hand : HandState) (buffer : SlotState) (last chunks : ℕ) : Type 0 where
  own : OwnRow past old thread row
  on : buffer.thread ≡ thread
  hand_is : hand.thread ≡ thread
  follows : SlotFollows events past session buffer
  config : config_of session past ≡ Some rest.config
  last_is : last ≡ shows rest.seat.id thread past
  chunks_are : chunks ≡ ((budget_of rest.seat.id past).pending thread).chunks

taken_of : (events : List EventDef) (info : TraceInfo) (past : Past) (old : Tables) (session thread row : ℕ) (was : Present) (hand : HandState) (buffer : SlotState) (records : List Record) (last chunks : ℕ)
    → OwnRow past old thread row → Placed events info past old session was → hand_on was.session row ≡ Some hand → (told_of old.rows).slot row was.slot ≡ Some buffer → IsAllOf buffer records last chunks
    → TakenOf events past old session thread row (rest_of was.session) hand buffer last chunks
taken_of events info past old session thread row was hand buffer records last chunks own here held was_is all =
    let on : buffer.thread ≡ thread = row_thread old.rows row was.slot buffer was_is ∙ own.thread_is in
    let follows : SlotFollows events past session buffer = here.stands.slots row own.is_row buffer was_is in
    let id = sym here.id in
    record {
      own = own;
      on = on;
      hand_is = hand_thread old.rows was row hand buffer here.tied held was_is ∙ on;
      follows = follows;
      config = ap (λ (n : ℕ). config_of n past) id ∙ here.stands.rest.config;
      last_is = all.last_is ∙ follows.used_are ∙ ap (λ (t : ℕ). shows session t past) on ∙ ap (λ (n : ℕ). shows n thread past) id;
      chunks_are = all.chunks_are ∙ ap (λ (p : Pending). p.chunks) follows.pending_is ∙ ap (λ (t : ℕ). ((budget_of session past).pending t).chunks) on
          ∙ ap (λ (n : ℕ). ((budget_of n past).pending thread).chunks) id;
    }

-- The session after a step that takes all that it has on a row, and leaves this in its slot there.
after_taking : SlotStays → PoolStays → (events : List EventDef) (info : TraceInfo) (s : Step) (past : Past) (session thread row : ℕ) (old new : Tables) (was now : Present) {hand : HandState} (buffer : SlotState) (records : List Record) {last chunks : ℕ} (left : Option SlotState)
    → StandBefore events info s past old → Placed events info past old session was → TakenOf events past old session thread row (rest_of was.session) hand buffer last chunks
    → ((n : ℕ) → (thread == n) ≡ false → changes_slot session n s ≡ false) → changes_pool session s ≡ false
    → IsSetAt row was.slot left (told_of old.rows).slot (told_of new.rows).slot → ((p : ℕ) → (told_of new.rows).pool p ≡ (told_of old.rows).pool p)
    → ((b : SlotState) → left ≡ Some b → SlotFollows events (s ∷ past) session b) → RestFollows (s ∷ past) (rest_of now.session)
    → records ≡ buffer.records → entries events session (s ∷ past) ≡ entries events session past ++ map Event (pending events session thread past)
    → TellsIn old.events.items (entries_of old.events.items (rest_of was.session).config.stackwalk records) was now
    → StandsAs events info (s ∷ past) (told_of new.rows) session was.slot now
after_taking slot_stays pool_stays events info s past session thread row old new was now buffer records left h here taken off same_pool sets pools leaves rests all grows tells =
    record {
      slots = each_slot row was.slot left (told_of old.rows) (told_of new.rows) (λ b. SlotFollows events (s ∷ past) session b) sets leaves
          (other_rows slot_stays events info s past old session thread row was.slot was h taken.own off here.stands);
      pool = pool_stays past session ((told_of new.rows).pool was.slot) s same_pool (subst (PoolFollows past session) (sym (pools was.slot)) here.stands.pool);
      rest = rests;
      telling = told_more events info past old session thread was now records (entries events session (s ∷ past)) buffer h.follow.events_are taken.config taken.follows taken.on all grows here.stands.telling tells;
    }

pub stolen_now : SlotStays → PoolStays → SlotSteals → RestSteals → EntriesSteal → (events : List EventDef) (info : TraceInfo) (past : Past) (session thread : ℕ) (old new : Tables)
    → StandBefore events info (step.Steal session thread) past old → (m : MakesSteal session thread old new) → Placed events info past old session m.one.was
    → StandsAs events info (step.Steal session thread ∷ past) (told_of new.rows) session m.one.was.slot m.one.now
stolen_now slot_stays pool_stays slot_steals rest_steals entries_steal events info past session thread old new h m here =
    let s = step.Steal session thread in
    let was = m.one.was in
    let changes = m.one.changes in
    let told = changes.told in
    let rest : Rest = rest_of was.session in
    let taken = taken_of events info past old session thread m.row was changes.hand told.buffer changes.records changes.last changes.chunks (own_row events past old thread m.row h.follow m.own) here changes.held told.was told.all in
    let Follows : SlotState → Type 0 = λ b. SlotFollows events (s ∷ past) session b in
    let On : ℕ → Type 0 = λ t. SlotFollows events (step.Steal session t ∷ past) session (with_steal told.buffer) in
    let steals : Follows (with_steal told.buffer) = subst On taken.on (slot_steals events past session told.buffer taken.follows) in
    let Lawful : ℕ → Type 0 = λ n. IsLawful events (step.Steal n thread ∷ past) in
    let named : ℕ → Rest = λ t. record rest { named = with_number t changes.last true rest.named; in_hand = changes.chunks } in
    let Rests : ℕ → Type 0 = λ n. RestFollows (step.Steal n thread ∷ past) (named thread) in
    let rests = subst Rests here.id (rest_steals events past rest thread changes.last changes.chunks here.stands.rest (subst Lawful (sym here.id) h.lawful) taken.last_is taken.chunks_are) in
    after_taking slot_stays pool_stays events info s past session thread m.row old new was m.one.now told.buffer changes.records (Some (with_steal told.buffer)) h here taken
    (λ n off. and_right (session == session) (thread == n) off) refl told.slots told.pools (λ b is. subst Follows (same_Some (with_steal told.buffer) b is) steals)
    (subst (RestFollows (s ∷ past)) (sym (changes.rest ∙ ap named taken.hand_is)) rests) told.all.records_are (entries_steal events session thread past) changes.tells

-- ---- a session is closed on a thread

abbrev pub SlotMarks : Type 0
SlotMarks =
    (events : List EventDef) (past : Past) (session : ℕ) (slot : SlotState) → SlotFollows events past session slot
    → marks_of slot (length (writes_of slot.thread past)) ≡ marks_on session slot.thread (step.Close session slot.thread ∷ past)

abbrev pub RestCloses : Type 0
RestCloses =
    (events : List EventDef) (past : Past) (rest : Rest) (thread last chunks : ℕ) (marks : Marks) → RestFollows past rest → IsLawful events (step.Close rest.seat.id thread ∷ past)
    → last ≡ shows rest.seat.id thread past → chunks ≡ ((budget_of rest.seat.id past).pending thread).chunks → marks ≡ marks_on rest.seat.id thread (step.Close rest.seat.id thread ∷ past)
    → RestFollows (step.Close rest.seat.id thread ∷ past) (record rest { named = with_number thread last false rest.named; marks = with_marks marks rest.marks; in_hand = chunks })

abbrev pub EntriesClose : Type 0
EntriesClose =
    (events : List EventDef) (session thread : ℕ) (past : Past)
    → entries events session (step.Close session thread ∷ past) ≡ entries events session past ++ map Event (pending events session thread past)

pub closed_now : SlotStays → PoolStays → SlotMarks → RestCloses → EntriesClose → (events : List EventDef) (info : TraceInfo) (past : Past) (session thread : ℕ) (old new : Tables)
    → StandBefore events info (step.Close session thread) past old → (m : MakesClose session thread old new) → Placed events info past old session m.one.was
    → StandsAs events info (step.Close session thread ∷ past) (told_of new.rows) session m.one.was.slot m.one.now
closed_now slot_stays pool_stays slot_marks rest_closes entries_close events info past session thread old new h m here =
    let s = step.Close session thread in
    let was = m.one.was in
    let changes = m.one.changes in
    let told = changes.told in
    let rest : Rest = rest_of was.session in
    let taken = taken_of events info past old session thread m.row was changes.hand told.buffer changes.records changes.last changes.chunks (own_row events past old thread m.row h.follow m.own) here changes.held told.was told.all in
    let marks : changes.marks ≡ marks_on rest.seat.id thread (step.Close rest.seat.id thread ∷ past) =
    told.marks_are ∙ ap (marks_of told.buffer) (taken.own.follows.count ∙ ap (λ (t : ℕ). length (writes_of t past)) (taken.own.thread_is ∙ sym taken.on))
    ∙ slot_marks events past session told.buffer taken.follows
    ∙ ap (λ (t : ℕ). marks_on session t (step.Close session t ∷ past)) taken.on ∙ ap (λ (n : ℕ). marks_on n thread (step.Close n thread ∷ past)) (sym here.id) in
    let Lawful : ℕ → Type 0 = λ n. IsLawful events (step.Close n thread ∷ past) in
    let named : ℕ → Rest = λ t. record rest { named = with_number t changes.last false rest.named; marks = with_marks changes.marks rest.marks; in_hand = changes.chunks } in
    let Rests : ℕ → Type 0 = λ n. RestFollows (step.Close n thread ∷ past) (named thread) in
    let rests = subst Rests here.id
    (rest_closes events past rest thread changes.last changes.chunks changes.marks here.stands.rest (subst Lawful (sym here.id) h.lawful) taken.last_is taken.chunks_are marks) in
    after_taking slot_stays pool_stays events info s past session thread m.row old new was m.one.now told.buffer changes.records None h here taken
    (λ n off. and_right (session == session) (thread == n) off) refl told.slots told.pools (λ b is. absurd (none-some b is))
    (subst (RestFollows (s ∷ past)) (sym (changes.rest ∙ ap named taken.hand_is)) rests) told.all.records_are (entries_close events session thread past) changes.tells

-- ---- chunks are given back

-- What a give makes of rows that are told.
pub record Given (slot chunks : ℕ) (old new : ToldRows) : Type 0 where
  pub slots : (r s : ℕ) → new.slot r s ≡ old.slot r s
  pub others : (s : ℕ) → (s ≡ slot → ⊥) → new.pool s ≡ old.pool s
  pub pool : (new.pool slot ≡ given_back (old.pool slot) chunks) ⊎ ((chunks ≡ 0) × (new.pool slot ≡ old.pool slot))

pub given : (slot chunks : ℕ) (old new : ToldRows) → TellsGive slot chunks (Some old) (Some new) → Given slot chunks old new
given slot zero old new told =
    let same : new ≡ old = cc in
    record {
      slots = λ r s. ap (λ (t : ToldRows). t.slot r s) same;
      others = λ s other. ap (λ (t : ToldRows). t.pool s) same;
      pool = inr (refl, ap (λ (t : ToldRows). t.pool slot) same);
    }
given slot (suc chunks) old new told =
    let back : Bool → ℕ → PoolCounts = λ b s. if b then given_back (old.pool s) (suc chunks) else old.pool s in
    record {
      slots = told.slots;
      others = λ s other. told.pools s ∙ ap (λ (b : Bool). back b s) (ne_eqb s slot other);
      pool = inl (told.pools slot ∙ ap (λ (b : Bool). back b slot) (eq-eqb slot slot refl));
    }

abbrev pub PoolGives : Type 0
PoolGives = (past : Past) (session : ℕ) (pool : PoolCounts) (in_hand : ℕ) → PoolFollows past session pool → in_hand ≡ (budget_of session past).in_hand → PoolFollows (step.Give session ∷ past) session (given_back pool in_hand)

-- No chunk is given back.
none_back : (past later : Past) (session chunks : ℕ) (pool : PoolCounts) → chunks ≡ 0 → PoolFollows past session pool → PoolFollows later session (given_back pool chunks) → PoolFollows later session pool
none_back past later session chunks pool none before h =
    let within : pool.free + chunks ≤ pool.total = omega (arith, none, before.free_are) in
    let all : min pool.total (pool.free + chunks) ≡ pool.free + chunks = min-eq_right within in
    record {
      total_is = h.total_is;
      free_are = omega (arith, none, all, h.free_are);
    }

pool_given : PoolGives → (past : Past) (session slot chunks : ℕ) (old new : ToldRows) → Given slot chunks old new → chunks ≡ (budget_of session past).in_hand → PoolFollows past session (old.pool slot) → PoolFollows (step.Give session ∷ past) session (new.pool slot)
pool_given pool_gives past session slot chunks old new given hand follows =
    let Pool : PoolCounts → Type 0 = PoolFollows (step.Give session ∷ past) session in
    let back = pool_gives past session (old.pool slot) chunks follows hand in
    elim given.pool [
      | inl is ↦ subst Pool (sym is) back
      | inr none ↦ subst Pool (sym none.1) (none_back past (step.Give session ∷ past) session chunks (old.pool slot) none.0 follows back)
    ]

abbrev pub RestGives : Type 0
RestGives = (past : Past) (rest : Rest) → RestFollows past rest → RestFollows (step.Give rest.seat.id ∷ past) (record rest { in_hand = 0 })

pub given_now : SlotStays → PoolGives → RestGives → (events : List EventDef) (info : TraceInfo) (past : Past) (session : ℕ) (old new : Tables)
    → StandBefore events info (step.Give session) past old → (m : MakesGive session old new) → Placed events info past old session m.was
    → StandsAs events info (step.Give session ∷ past) (told_of new.rows) session m.was.slot m.now
given_now slot_stays pool_gives rest_gives events info past session old new h m here =
    let s = step.Give session in
    let rest : Rest = rest_of m.was.session in
    let back = given m.was.slot rest.in_hand (told_of old.rows) (told_of new.rows) m.changes.told in
    let Rests : ℕ → Type 0 = λ n. RestFollows (step.Give n ∷ past) (record rest { in_hand = 0 }) in
    record {
      slots = λ r is_row b at. slot_stays events past session b s h.lawful refl (here.stands.slots r is_row b (sym (back.slots r m.was.slot) ∙ at));
      pool = pool_given pool_gives past session m.was.slot rest.in_hand (told_of old.rows) (told_of new.rows) back
          (here.stands.rest.in_hand ∙ ap (λ (n : ℕ). (budget_of n past).in_hand) here.id) here.stands.pool;
      rest = subst (RestFollows (s ∷ past)) (sym m.changes.rest) (subst Rests here.id (rest_gives past rest here.stands.rest));
      telling = same_writer events info (entries events session past) m.was m.now m.changes.writer here.stands.telling;
    }

-- ---- a point is told

abbrev pub RestPoints : Type 0
RestPoints = (past : Past) (rest : Rest) (stamp : ℕ) → RestFollows past rest → RestFollows (step.Point rest.seat.id stamp ∷ past) (record rest { named = still_open rest.named })

abbrev pub EntriesPoint : Type 0
EntriesPoint =
    (events : List EventDef) (past : Past) (rest : Rest) (stamp : ℕ) → RestFollows past rest
    → entries events rest.seat.id (step.Point rest.seat.id stamp ∷ past) ≡ entries events rest.seat.id past ++ Point (point_of stamp (numbers_of rest.named)) ∷ []

pub pointed_now : SlotStays → PoolStays → RestPoints → EntriesPoint → (events : List EventDef) (info : TraceInfo) (past : Past) (session stamp : ℕ) (old new : Tables)
    → StandBefore events info (step.Point session stamp) past old → (m : MakesPoint session stamp old new) → Placed events info past old session m.was
    → StandsAs events info (step.Point session stamp ∷ past) (told_of new.rows) session m.was.slot m.now
pointed_now slot_stays pool_stays rest_points entries_point events info past session stamp old new h m here =
    let s = step.Point session stamp in
    let rest : Rest = rest_of m.was.session in
    let before = told_of old.rows in
    let after = told_of new.rows in
    let point : List Entry = Point (point_of stamp (numbers_of rest.named)) ∷ [] in
    let Rests : ℕ → Type 0 = λ n. RestFollows (step.Point n stamp ∷ past) (record rest { named = still_open rest.named }) in
    let Grows : ℕ → Type 0 = λ n. entries events n (step.Point n stamp ∷ past) ≡ entries events n past ++ point in
    let grows = subst Grows here.id (entries_point events past rest stamp here.stands.rest) in
    let Tells : List EventDef → Type 0 = λ es. TellsIn es point m.was m.now in
    let front = entries events session past in
    record {
      slots = λ r is_row b at. slot_stays events past session b s h.lawful refl (here.stands.slots r is_row b (sym (ap (λ (t : ToldRows). t.slot r m.was.slot) m.changes.told) ∙ at));
      pool = pool_stays past session (after.pool m.was.slot) s refl (subst (PoolFollows past session) (sym (ap (λ (t : ToldRows). t.pool m.was.slot) m.changes.told)) here.stands.pool);
      rest = subst (RestFollows (s ∷ past)) (sym m.changes.rest) (subst Rests here.id (rest_points past rest stamp here.stands.rest));
      telling = telling_as events info (front ++ point) (entries events session (s ∷ past)) m.now (sym grows) (subst Tells h.follow.events_are m.changes.tells [] info front here.stands.telling);
    }
