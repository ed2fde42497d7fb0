-- What is taken of rows, one after another.
use Rattle.std.proofs.Common.{◌≡◌, ◌≢◌, ℕ, zero, suc, ◌+◌, ◌<◌, ◌≤◌, Bool, true, false, List, [], ◌∷◌, ◌++◌, Option, None, Some, length, refl, ap, sym, ◌∙◌, subst, arith, append_assoc, ◌⊎◌, inl, inr}
use Rattle.std.specs.Prelude.{◌==◌, if◌then◌else◌, slice_index_or, is_some, Result, Ok, Err, IfOk, OnOk}
use Rattle.std.specs.List.{All}
use Rattle.std.proofs.lemmas.Bool.{eqb-true, eqb-false, ne_eqb}
use Rattle.std.proofs.lemmas.Grind.{flat_map-append}
use Rattle.std.proofs.lemmas.List.{append-nil, map-append}
use Rattle.std.proofs.lemmas.List.Concat.{flat_map-cons}
use Rattle.std.proofs.lemmas.List.Elements.{All-append}
use Rattle.std.proofs.lemmas.List.Sums.{fold-append, sum_by-append}
use Rattle.ep_defs.specs.Definitions.{definition_at}
use Rattle.ep_defs.specs.declared.event.EventDef.{EventDef}
use Rattle.ep_defs.specs.declared.session.Config.{Config}
use Rattle.ep_defs.specs.declared.session.TraceInfo.{TraceInfo}
use Rattle.ep_defs.specs.declared.session.Write.{Write}
use Rattle.ep_defs.specs.Entry.{Entry, Point}
use Rattle.ep_slot.specs.Hand.{HandState}
use Rattle.pt_io.specs.Faults.{HasRisen}
use Rattle.nt_write.specs.declared.fault.Fault.{Fault}
use Rattle.nt_write.specs.declared.fault.Fault.TheVariants.{WriteFault}
use Rattle.nt_write.specs.declared.writer.TraceWriter.{TraceWriter}
use Rattle.nt_write.specs.Writer.{fault_of, sink_of, point_of}
use Rattle.ep_stream.specs.declared.opened.Named.{Named}
use Rattle.ep_stream.specs.declared.session.Session.{Session}
use Rattle.ep_stream.specs.Rows.{TestsRecordsAs, hand_after}
use Rattle.ep_stream.specs.Named.{with_number, numbers_of}
use Rattle.ep_stream.specs.Session.{Rest, AreRowsOf, Batched, SameHands, hand_on, rest_of}
use Rattle.ep_stream.specs.Steps.{ToldRows, TellsStep, GivesBack}
use Rattle.ep_stream.specs.Telling.{IsFaulty, Tells, entries_of}
use Rattle.ep_stream.proofs.Taking.{tells_fault}
use Rattle.ep_stream.proofs.Telling.{ok_is_no_fault, risen_later, on_err, tells_after}
use Rattle.ep_stream.specs.Sweep.{Taking, Taken, TellsGive, TellsTakings, MayFail, rows_of, records_in, open_rows, with_taking, hands_after, named_after, entries_in, point_after}

-- ---- hands

-- Hands that are the same before are so after.
pub hands_same : (f g : ℕ → Option HandState) (takings : List Taking) → ((r : ℕ) → f r ≡ g r) → (r : ℕ) → hands_after f takings r ≡ hands_after g takings r
hands_same f g [] same r = same r
hands_same f g (t ∷ takings) same r =
    hands_same (with_taking f t) (with_taking g t) takings
    (λ q. ap (λ (o : Option HandState). if q == t.row then Some (hand_after t.hand (length t.records) t.last t.chunks) else o) (same q)) r

-- A row of which nothing was taken keeps its hand.
pub hands_stay : (hands : ℕ → Option HandState) (takings : List Taking) (row : ℕ) → All (λ t. t.row < row) takings → hands_after hands takings row ≡ hands row
hands_stay hands [] row below = refl
hands_stay hands (t ∷ takings) row below =
    let first : t.row < row = below 0 t (omega arith) in
    hands_stay (with_taking hands t) takings row (λ k d small. below (suc k) d (omega (arith, small)))
    ∙ ap (λ (v : Bool). if v then Some (hand_after t.hand (length t.records) t.last t.chunks) else hands row) (ne_eqb row t.row (λ (e : row ≡ t.row). omega (arith, first, e)))

-- ---- rows

-- Nothing is taken of a row without a hand, and once of one that has a hand.
pub rows_at : (takings : List Taking) (row : ℕ) (some : Bool) → rows_of takings ≡ (if some then row ∷ [] else []) → All (λ t. t.row ≡ row) takings
rows_at [] row some is k d small = absurd (omega (arith, small))
rows_at (t ∷ takings) row false is k d small = nothing t.row (rows_of takings) is
  where
    nothing : {A : Type 0} (x : ℕ) (xs : List ℕ) → x ∷ xs ≡ [] → A
    nothing x xs e = absurd (clash e)
      where
        clash : x ∷ xs ≡ [] → ⊥
        clash e = cc
rows_at (t ∷ []) row true is zero d small = cc
rows_at (t ∷ []) row true is (suc k) d small = absurd (omega (arith, small))
rows_at (t ∷ u ∷ takings) row true is k d small = absurd (clash is)
  where
    clash : t.row ∷ u.row ∷ rows_of takings ≡ row ∷ [] → ⊥
    clash e = cc

-- The rows of which was taken are those that had a hand, up to one row more.
pub next_rows : (hands mid : ℕ → Option HandState) (first more : List Taking) (place row : ℕ) → row ≡ suc place → rows_of first ≡ open_rows hands place → rows_of more ≡ (if is_some (mid row) then row ∷ [] else []) → mid row ≡ hands row → rows_of (first ++ more) ≡ open_rows hands row
next_rows hands mid first more place row e first_is more_is same =
    let here : rows_of more ≡ (if is_some (hands row) then row ∷ [] else []) = more_is ∙ ap (λ (o : Option HandState). if is_some o then row ∷ [] else []) same in
    let next : rows_of more ≡ (if is_some (hands (suc place)) then suc place ∷ [] else []) = subst (λ (r : ℕ). rows_of more ≡ (if is_some (hands r) then r ∷ [] else [])) e here in
    map-append (λ (t : Taking). t.row) first more
    ∙ ap (λ (rows : List ℕ). rows ++ rows_of more) first_is
    ∙ ap (λ (rows : List ℕ). open_rows hands place ++ rows) next
    ∙ ap (open_rows hands) (sym e)

pub all_within : (first more : List Taking) (place row : ℕ) → row ≡ suc place → All (λ t. t.row ≤ place) first → All (λ t. t.row ≡ row) more → All (λ t. t.row ≤ row) (first ++ more)
all_within first more place row e below here =
    All-append (λ (t : Taking). t.row ≤ row) first more
    (λ k d small. let h = below k d small in omega (arith, h, e))
    (λ k d small. let h = here k d small in omega (arith, h))

pub all_before : (first more : List Taking) (place row : ℕ) → row ≡ suc place → All (λ t. t.row ≤ place) first → All (λ t. t.row ≡ row) more → (k : ℕ) (d : Taking) → k < length more → All (λ t. t.row < (slice_index_or more k d).row) first
all_before first more place row e below here k d small i t within =
    let h = below i t within in
    let r = here k d small in
    omega (arith, h, r, e)

-- The rows up to a number begin those up to a greater one.
pub rows_front : (hands : ℕ → Option HandState) (n count : ℕ) → n ≤ count → (others : List ℕ) × (open_rows hands n ++ others ≡ open_rows hands count)
rows_front hands n zero within = let e : n ≡ 0 = omega (arith, within) in ([], append-nil (open_rows hands n) ∙ ap (open_rows hands) e)
rows_front hands n (suc count) within =
    elim (n == suc count) as (λ v. (n == suc count) ≡ v → (others : List ℕ) × (open_rows hands n ++ others ≡ open_rows hands (suc count))) [
      | true ↦ λ is. ([], append-nil (open_rows hands n) ∙ ap (open_rows hands) (eqb-true n (suc count) is))
      | false ↦ λ is.
          let before = rows_front hands n count (let h = eqb-false n (suc count) is in below n count within h) in
          let last : List ℕ = if is_some (hands (suc count)) then suc count ∷ [] else [] in
          (before.0 ++ last, sym (append_assoc (open_rows hands n) before.0 last) ∙ ap (λ (rows : List ℕ). rows ++ last) before.1)
    ]
    refl
  where
    below : (n count : ℕ) → n ≤ suc count → n ≢ suc count → n ≤ count
    below n count within not = omega (arith, within, not)

-- ---- what was told

-- The steps of rows follow each other.
pub told_more : (slot : ℕ) (first more : List Taking) (old mid new : Option ToldRows) → TellsTakings slot first old mid → TellsTakings slot more mid new → TellsTakings slot (first ++ more) old new
told_more slot [] more old mid new first_is more_is = subst (λ (o : Option ToldRows). TellsTakings slot more o new) first_is more_is
told_more slot (t ∷ first) more old mid new first_is more_is =
    (first_is.0, first_is.1, told_more slot first more first_is.0 mid new first_is.2 more_is)

pub entries_in-append : (events : List EventDef) (stacks : Bool) (first more : List Taking) → entries_in events stacks (first ++ more) ≡ entries_in events stacks first ++ entries_in events stacks more
entries_in-append events stacks first more = flat_map-append (λ (t : Taking). entries_of events stacks t.records) first more

pub records_in-append : (first more : List Taking) → records_in (first ++ more) ≡ records_in first + records_in more
records_in-append first more = sum_by-append (λ (t : Taking). length t.records) first more

-- ---- what was taken

-- What was taken of some rows, and then of others behind them.
pub taken_more : {S : Type 0} (Tested Later : ℕ → ℕ → ℕ → Write → Type 0) (Told ToldMore ToldAll : List Taking → Type 0) (events : List EventDef) (first more : List Taking) (old mid new : Session S) → Taken Tested Told events first old mid → Taken Later ToldMore events more mid new → ((thread from number : ℕ) (write : Write) → Later thread from number write → Tested thread from number write) → ((k : ℕ) (d : Taking) → k < length more → All (λ t. t.row < (slice_index_or more k d).row) first) → ToldAll (first ++ more) → Taken Tested ToldAll events (first ++ more) old new
taken_more Tested Later Told ToldMore ToldAll events first more old mid new a b same above told =
    record {
      were = All-append (λ (t : Taking). hand_on old t.row ≡ Some t.hand) first more a.were
          (λ k d small.
          sym (a.hands (slice_index_or more k d).row ∙ hands_stay (hand_on old) first (slice_index_or more k d).row (above k d small)) ∙ b.were k d small);
      batched = All-append (λ (t : Taking). Batched Tested events t.hand t.records t.last) first more a.batched
          (λ k d small.
          let was = b.batched k d small in
          record { batch = was.batch; tested = λ i r within. same _ _ _ _ (was.tested i r within) });
      told = told;
      hands = λ row.
          b.hands row
          ∙ hands_same (hand_on mid) (hands_after (hand_on old) first) more a.hands row
          ∙ sym (ap (λ (h : ℕ → Option HandState). h row) (fold-append with_taking (hand_on old) first more));
      rest =
          b.rest
          ∙ ap (λ (x : Rest). record x { named = named_after x.named more; in_hand = 0 }) a.rest
          ∙ ap (λ (ns : List Named). record (rest_of old) { named = ns; in_hand = 0 }) (sym (fold-append (λ (ns : List Named) (t : Taking). with_number t.hand.thread t.last true ns) (rest_of old).named first more));
    }

-- Rows are those of a session that has its hands, its seat, its configuration and its chunks in hand.
pub rows_same : {S R : Type 0} (expected : R → ℕ → ℕ → Option HandState) (configured : R → ℕ → ℕ → Option Config) (out : R → ℕ → ℕ) (rows : R) (old new : Session S) → SameHands old new → rest_of new ≡ record (rest_of old) { named = (rest_of new).named } → AreRowsOf expected configured out rows old → AreRowsOf expected configured out rows new
rows_same expected configured out rows old new same rest was =
    let slot : (rest_of new).seat.slot ≡ (rest_of old).seat.slot = ap (λ (r : Rest). r.seat.slot) rest in
    record {
      hands = λ row. ap (λ (s : ℕ). expected rows row s) slot ∙ was.hands row ∙ sym (same row);
      configs = λ row hand is.
          ap (λ (s : ℕ). configured rows row s) slot
          ∙ was.configs row hand (sym (same row) ∙ is)
          ∙ ap (λ (r : Rest). Some r.config) (sym rest);
      chunks = ap (λ (s : ℕ). out rows s) slot ∙ was.chunks ∙ ap (λ (r : Rest). r.in_hand) (sym rest);
    }

-- ---- faults

risen_from : {S : Type 0} (faults : S → ℕ) (old mid new : TraceWriter S) → fault_of mid ≡ fault_of old → faults (sink_of old) ≤ faults (sink_of mid) → (fault_of mid ≡ Some WriteFault) ⊎ HasRisen (faults (sink_of mid)) (faults (sink_of new)) → (fault_of old ≡ Some WriteFault) ⊎ HasRisen (faults (sink_of old)) (faults (sink_of new))
risen_from faults old mid new same later (inl some) = inl (sym same ∙ some)
risen_from faults old mid new same later (inr rose) = inr (risen_later (faults (sink_of old)) (faults (sink_of mid)) (faults (sink_of new)) later rose)

-- A call after others in which nothing failed.
pub faulty_after : {S A : Type 0} (faults : S → ℕ) (old mid new : TraceWriter S) (result : Result A Fault) → fault_of mid ≡ fault_of old → faults (sink_of mid) ≡ faults (sink_of old) → IsFaulty faults mid new result → IsFaulty faults old new result
faulty_after faults old mid new result same wrote f =
    record {
      fails = f.fails;
      sound = f.sound;
      stays = λ fault is. f.stays fault (same ∙ is);
      write_fault = λ is. risen_from faults old mid new same (omega (arith, wrote)) (f.write_fault is);
      wrote = λ not. f.wrote not ∙ wrote;
      later = (let more = f.later in omega (arith, wrote, more));
    }

-- The same where the last call answered a fault.
pub failed_after : {S A : Type 0} (faults : S → ℕ) (old mid new : TraceWriter S) (fault : Fault) → fault_of mid ≡ fault_of old → faults (sink_of mid) ≡ faults (sink_of old) → MayFail {A = A} faults mid new (Err fault) → IsFaulty {A = A} faults old new (Err fault)
failed_after faults old mid new fault same wrote f =
    record {
      fails = f.fails;
      sound = tt;
      stays = λ other is. f.stays other (same ∙ is);
      write_fault = λ is. risen_from faults old mid new same (omega (arith, wrote)) (f.write_fault is);
      wrote = λ not. f.wrote not ∙ wrote;
      later = (let more = f.later in omega (arith, wrote, more));
    }

-- A call of the writer fails where it must.
pub may_fail : {S A : Type 0} (faults : S → ℕ) (old new : TraceWriter S) (result : Result A Fault) → IsFaulty faults old new result → MayFail faults old new result
may_fail {S} {A} faults old new result f =
    record {
      fails = f.fails;
      same = same result (fault_of old) refl f;
      stays = λ fault is. on_err result (f.stays fault is);
      write_fault = f.write_fault;
      wrote = f.wrote;
      later = f.later;
    }
  where
    clash : (a : A) (fault : Fault) → Ok a ≡ Err fault → ⊥
    clash a fault e = cc

    same : (result : Result A Fault) (state : Option Fault) → fault_of old ≡ state → IsFaulty faults old new result → OnOk result (fault_of new ≡ fault_of old)
    same (Ok a) None is f = f.sound ∙ sym is
    same (Ok a) (Some fault) is f = absurd (clash a fault (f.stays fault is))
    same (Err fault) state is f = tt

-- What was taken of the rows up to one, and then of the next.
pub taken_next : {S R : Type 0} (tests_record : R → Config → ℕ → ℕ → ℕ → Write → Type 0) (told : R → Option ToldRows) (events : List EventDef) (first more : List Taking) (place row : ℕ) (old mid new : Session S) (rows now after : R) → row ≡ suc place → All (λ t. t.row ≤ place) first → All (λ t. t.row ≡ row) more → TestsRecordsAs (tests_record rows) (tests_record now) → Taken (tests_record rows (rest_of old).config) (λ ts. TellsTakings (rest_of old).seat.slot ts (told rows) (told now)) events first old mid → Taken (tests_record now (rest_of mid).config) (λ ts. TellsTakings (rest_of mid).seat.slot ts (told now) (told after)) events more mid new → Taken (tests_record rows (rest_of old).config) (λ ts. TellsTakings (rest_of old).seat.slot ts (told rows) (told after)) events (first ++ more) old new
taken_next tests_record told events first more place row old mid new rows now after e below here tests a b =
    let slot_is : (rest_of mid).seat.slot ≡ (rest_of old).seat.slot = ap (λ (r : Rest). r.seat.slot) a.rest in
    let config_is : (rest_of mid).config ≡ (rest_of old).config = ap (λ (r : Rest). r.config) a.rest in
    let told_is : TellsTakings (rest_of old).seat.slot more (told now) (told after) =
    subst (λ (s : ℕ). TellsTakings s more (told now) (told after)) slot_is b.told
    in
    taken_more (tests_record rows (rest_of old).config) (tests_record now (rest_of mid).config)
    (λ ts. TellsTakings (rest_of old).seat.slot ts (told rows) (told now))
    (λ ts. TellsTakings (rest_of mid).seat.slot ts (told now) (told after))
    (λ ts. TellsTakings (rest_of old).seat.slot ts (told rows) (told after))
    events first more old mid new a b
    (λ thread from number write later.
    (tests (rest_of old).config thread from number write).0
    (subst (λ (k : Config). tests_record now k thread from number write) config_is later))
    (all_before first more place row e below here)
    (told_more (rest_of old).seat.slot first more (told rows) (told now) (told after) a.told told_is)

-- What was taken of the rows up to one.
pub record TakenTo {S R : Type 0} (tests_record : R → Config → ℕ → ℕ → ℕ → Write → Type 0) (told : R → Option ToldRows) (events : List EventDef) (takings : List Taking) (place : ℕ) (old new : Session S) (rows now : R) : Type 0 where
  pub rows_are : rows_of takings ≡ open_rows (hand_on old) place
  pub below : All (λ t. t.row ≤ place) takings
  pub taken : Taken (tests_record rows (rest_of old).config) (λ ts. TellsTakings (rest_of old).seat.slot ts (told rows) (told now)) events takings old new

-- The same with the next row.
pub to-next : {S R : Type 0} (tests_record : R → Config → ℕ → ℕ → ℕ → Write → Type 0) (told : R → Option ToldRows) (events : List EventDef) (first more : List Taking) (place : ℕ) (old mid new : Session S) (rows now after : R)
    → TakenTo tests_record told events first place old mid rows now → TestsRecordsAs (tests_record rows) (tests_record now)
    → rows_of more ≡ (if is_some (hand_on mid (place + 1)) then (place + 1) ∷ [] else [])
    → Taken (tests_record now (rest_of mid).config) (λ ts. TellsTakings (rest_of mid).seat.slot ts (told now) (told after)) events more mid new
    → TakenTo tests_record told events (first ++ more) (place + 1) old new rows after
to-next tests_record told events first more place old mid new rows now after to tests more_is taken =
    let row_is : place + 1 ≡ suc place = omega arith in
    let here : All (λ t. t.row ≡ place + 1) more = rows_at more (place + 1) _ more_is in
    let hand_is : hand_on mid (place + 1) ≡ hand_on old (place + 1) =
    to.taken.hands (place + 1)
    ∙ hands_stay (hand_on old) first (place + 1) (λ k d small. let h = to.below k d small in omega (arith, h))
    in
    record {
      rows_are = next_rows (hand_on old) (hand_on mid) first more place (place + 1) row_is to.rows_are more_is hand_is;
      below = all_within first more place (place + 1) row_is to.below here;
      taken = taken_next tests_record told events first more place (place + 1) old mid new rows now after row_is to.below here tests to.taken taken;
    }

-- What was taken of the next row is told behind what was told.
pub tells_next : {S A : Type 0} (tells : S → Bool) (taken : S → List ℕ) (before : List ℕ) (info : TraceInfo) (told : List Entry) (events : List EventDef) (first more : List Taking) (old mid : Session S) (names : List Named) (result : Result A Fault) (writer : TraceWriter S) → rest_of mid ≡ record (rest_of old) { named = names; in_hand = 0 } → Tells tells taken before (definition_at events) info (told ++ entries_in events (rest_of old).config.stackwalk first) (entries_in events (rest_of mid).config.stackwalk more) result writer → Tells tells taken before (definition_at events) info (told ++ entries_in events (rest_of old).config.stackwalk first) (entries_in events (rest_of old).config.stackwalk more) result writer
tells_next tells taken before info told events first more old mid names result writer rest is =
    subst (λ (r : Rest). Tells tells taken before (definition_at events) info (told ++ entries_in events (rest_of old).config.stackwalk first) (entries_in events r.config.stackwalk more) result writer) rest is

-- ---- one row

pub all_one : {A : Type 0} (P : A → Type 0) (x : A) → P x → All P (x ∷ [])
all_one P x p zero d small = p
all_one P x p (suc k) d small = absurd (omega (arith, small))

pub gives_is : (slot chunks : ℕ) (old new : Option ToldRows) → (chunks ≡ 0 → new ≡ old) → (0 < chunks → TellsStep (GivesBack slot chunks) old new) → TellsGive slot chunks old new
gives_is slot zero old new none some = none refl
gives_is slot (suc chunks) old new none some = some (omega arith)

pub if_ok : {A E : Type 0} (result : Result A E) (P Q : A → Type 0) → ((a : A) → P a → Q a) → IfOk result P → IfOk result Q
if_ok (Ok a) P Q f p = f a p
if_ok (Err e) P Q f p = tt

-- The entries of one taking.
pub entries_in-one : (events : List EventDef) (stacks : Bool) (t : Taking) → entries_in events stacks (t ∷ []) ≡ entries_of events stacks t.records
entries_in-one events stacks t = flat_map-cons (λ (x : Taking). entries_of events stacks x.records) t [] ∙ append-nil (entries_of events stacks t.records)

-- ---- the end

-- The point behind all that was taken.
pub point-behind : (count stamp : ℕ) (named names : List Named) (takings : List Taking) → count ≡ records_in takings → named ≡ named_after names takings
    → point_after count stamp named ≡ point_after (records_in takings) stamp (named_after names takings)
point-behind count stamp named names takings count_is named_is =
    ap (λ (n : ℕ). point_after n stamp named) count_is ∙ ap (λ (ns : List Named). point_after (records_in takings) stamp ns) named_is

pub point_some : (taken stamp : ℕ) (names : List Named) → taken ≢ 0 → point_after taken stamp names ≡ Point (point_of stamp (numbers_of names)) ∷ []
point_some zero stamp names not = absurd (not refl)
point_some (suc taken) stamp names not = refl

-- A call of the writer fails where it must, and what follows leaves the writer as it is.
pub may_fail_with : {S A : Type 0} (faults : S → ℕ) (old mid new : TraceWriter S) (result : Result A Fault) → new ≡ mid → IsFaulty faults old mid result → MayFail faults old new result
may_fail_with {S} faults old mid new result same f = subst (λ (w : TraceWriter S). MayFail faults old w result) (sym same) (may_fail faults old mid result f)

-- The same entries are told of the same writer.
pub tells_with : {S A : Type 0} (tells : S → Bool) (taken : S → List ℕ) (before : List ℕ) (defs : ℕ → Option EventDef) (info : TraceInfo) (told entries others : List Entry) (result : Result A Fault) (old new : TraceWriter S) → new ≡ old → others ≡ entries → Tells tells taken before defs info told entries result old → Tells tells taken before defs info told others result new
tells_with {S} tells taken before defs info told entries others result old new same is t =
    subst (λ (w : TraceWriter S). Tells tells taken before defs info told others result w) (sym same)
    (subst (λ (es : List Entry). Tells tells taken before defs info told es result old) (sym is) t)

-- Where all that was taken is told, a fault behind it or at the next row leaves some of it told.
pub tells_behind : {S A : Type 0} (tells : S → Bool) (taken : S → List ℕ) (before : List ℕ) (defs : ℕ → Option EventDef) (info : TraceInfo) (told first more rest : List Entry) (fault : Fault) (writer : TraceWriter S) → Tells {A = A} tells taken before defs info (told ++ first) more (Err fault) writer → Tells {A = A} tells taken before defs info told ((first ++ more) ++ rest) (Err fault) writer
tells_behind {S} {A} tells taken before defs info told first more rest fault writer t =
    subst (λ (es : List Entry). Tells {A = A} tells taken before defs info told es (Err fault) writer) (sym (append_assoc first more rest))
    (tells_after {A = A} tells taken before defs info told first more rest fault writer t)

-- A fault at the last entries leaves some of all told.
pub tells_last : {S A B : Type 0} (tells : S → Bool) (taken : S → List ℕ) (before : List ℕ) (defs : ℕ → Option EventDef) (info : TraceInfo) (told first more : List Entry) (fault : Fault) (writer : TraceWriter S) → Tells {A = A} tells taken before defs info (told ++ first) more (Err fault) writer → Tells {A = B} tells taken before defs info told (first ++ more) (Err fault) writer
tells_last {S} {A} {B} tells taken before defs info told first more fault writer t =
    subst (λ (es : List Entry). Tells {A = B} tells taken before defs info told (first ++ es) (Err fault) writer) (append-nil more)
    (tells_fault {A = A} {B = B} tells taken before defs info told (first ++ (more ++ [])) fault fault writer
    (tells_after {A = A} tells taken before defs info told first more [] fault writer t))

-- ---- other answers

unlike : {A B : Type 0} (a : A) (fault : Fault) → Ok a ≡ Err fault → B
unlike a fault e = absurd (clash e)
  where
    clash : Ok a ≡ Err fault → ⊥
    clash e = cc

-- It does not matter what else a call answers that did not fail.
pub faulty_ok : {S A B : Type 0} (faults : S → ℕ) (old new : TraceWriter S) (a : A) (b : B) → IsFaulty faults old new (Ok a) → IsFaulty faults old new (Ok b)
faulty_ok faults old new a b f =
    record {
      fails = λ fault e. unlike b fault e;
      sound = f.sound;
      stays = λ fault is. unlike a fault (f.stays fault is);
      write_fault = λ e. unlike b WriteFault e;
      wrote = λ not. f.wrote (ok_is_no_fault a WriteFault);
      later = f.later;
    }

pub err_same : {A : Type 0} (result : Result A Fault) (a b : Fault) → result ≡ Err a → result ≡ Err b → a ≡ b
err_same result a b is also = cc

pub faulty_err : {S A B : Type 0} (faults : S → ℕ) (old new : TraceWriter S) (answer : Result A Fault) (result : Result B Fault) (fault : Fault) → answer ≡ Err fault → result ≡ Err fault → IsFaulty faults old new answer → IsFaulty faults old new result
faulty_err faults old new answer result fault was is f =
    record {
      fails = λ other e. f.fails other (was ∙ ap Err (err_same result fault other is e));
      sound = ok_none (fault_of new ≡ None) result is;
      stays = λ other e. is ∙ ap Err (err_same answer fault other was (f.stays other e));
      write_fault = λ e. f.write_fault (was ∙ ap Err (err_same result fault WriteFault is e));
      wrote = λ not. f.wrote (λ e. not (is ∙ ap Err (err_same answer fault WriteFault was e)));
      later = f.later;
    }
  where
    ok_none : {A : Type 0} (X : Type 0) (result : Result A Fault) → result ≡ Err fault → OnOk result X
    ok_none X (Ok a) e = unlike a fault e
    ok_none X (Err other) e = tt
