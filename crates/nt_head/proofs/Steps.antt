-- One field of a header after another.
use Rattle.std.proofs.Common.{◌≡◌, ℕ, ◌+◌, ◌*◌, ◌-◌, ◌%◌, ◌^◌, ◌<◌, ◌≤◌, Bool, true, List, [], ◌∷◌, length, get_or, take, drop, Option, Some, Result, Ok, Err, refl, ap, ◌∙◌, sym, subst, arith}
use Rattle.std.specs.Prelude.{IfErr, IsErrAnd, unwrap_or}
use Rattle.std.specs.Option.{option_map_or}
use Rattle.nt_head.specs.declared.flags.TheConstants.{ACTIVITY, METADATA, RELATED, SEQUENCE, SIZE, SORTED, STACK, THREAD}
use Rattle.nt_head.proofs.Heads.{state-ext}
use Rattle.std.specs.Int.{w8, w32, w64}
use Rattle.std.proofs.lemmas.Bool.{le-ltb, cond-false}
use Rattle.std.proofs.lemmas.List.{length-drop, drop-drop}
use Rattle.nt_head.specs.declared.limits.TheConstants.{ID_BYTES}
use Rattle.nt_head.specs.declared.head.HeadState.{HeadState}
use Rattle.nt_head.specs.declared.take.HeadStop.{HeadStop}
use Rattle.nt_head.specs.declared.take.HeadStop.TheVariants as stop
use Rattle.pt_num.specs.Steps.{◌>>=◌}
use Rattle.pt_num.specs.Fields.{Field, Fault, Short, TooWide, bytes_at, fixed_at, var_at}
use Rattle.nt_head.specs.Head.{HeadFields, Sequence, number_after, state_after}
use Rattle.nt_head.specs.Places.{Reads, ReadsNew, Stops}
use Rattle.nt_head.specs.Reading.{has_flag, if_set, sequence_at, fields_at, head_at}

-- A field that is there is read.
pub new_read : {A : Type 0} (field : List ℕ → Field A) (bytes : List ℕ) (start end : ℕ) (previous value : A) → Reads field bytes start end value → ReadsNew true field bytes start end previous value
new_read field bytes start end previous value reads =
    record {
      said = Some value;
      within = reads.within;
      read = ap (λ (f : Field _). f >>= λ x. Ok (Some x.0, x.1)) reads.read;
      value = refl;
    }

-- A field whose flag is set is read.
pub field_read : {A : Type 0} (field : List ℕ → Field A) (bytes : List ℕ) (start end : ℕ) (previous value : A) (there : Bool) → there ≡ true → Reads field bytes start end value → ReadsNew there field bytes start end previous value
field_read field bytes start end previous value there set reads = rw set (new_read field bytes start end previous value reads)

-- A field whose flag is set stops.
pub field_stops : {A : Type 0} (field : List ℕ → Field A) (bytes : List ℕ) (start : ℕ) (why : HeadStop) (there : Bool) → there ≡ true → Stops field bytes start why → Stops (if_set there field) bytes start why
field_stops field bytes start stop.Short there set stops =
    rw set (ap (λ (f : Field _). f >>= λ x. Ok (Some x.0, x.1)) stops)
field_stops field bytes start (stop.BadVar at) there set stops =
    (stops.0, rw set (ap (λ (f : Field _). f >>= λ x. Ok (Some x.0, x.1)) stops.1))

-- The three fields of the sequence are read.
pub sequence_read : (bytes : List ℕ) (start first second end increment capture processor : ℕ) → Reads (var_at w32) bytes start first increment → Reads (var_at w64) bytes first second capture → Reads (var_at w32) bytes second end processor → if_set true sequence_at (drop start bytes) ≡ Ok (Some (record { increment = increment; capture = capture; processor = processor }), drop end bytes)
sequence_read bytes start first second end increment capture processor a b c = rw (a.read, b.read, c.read) refl

-- The sequence whose flag is set is read.
pub sequence_there : (there : Bool) (bytes : List ℕ) (read : Field (Option Sequence)) → true ≡ there → if_set true sequence_at bytes ≡ read → if_set there sequence_at bytes ≡ read
sequence_there there bytes read set e = subst (λ (t : Bool). if_set t sequence_at bytes ≡ read) set e

-- The fields of the bytes so far, and one that stops.
pub record Carries {A : Type 0} (field : List ℕ → Field A) (bytes : List ℕ) (start : ℕ) : Type 0 where
  pub carry : (fault : Fault) → field (drop start bytes) ≡ Err fault → fields_at bytes ≡ Err fault

-- Where a field stops, the header does.
pub head_stops : {A : Type 0} (field : List ℕ → Field A) (previous : HeadState) (bytes : List ℕ) (start : ℕ) (why : HeadStop) → Carries field bytes start → Stops field bytes start why → Stops (head_at previous) bytes 0 why
head_stops field previous bytes start stop.Short carries stops =
    ap (λ (f : Field HeadFields). f >>= λ fields. Ok (state_after previous fields.0, fields.1)) (carries.carry Short stops)
head_stops field previous bytes start (stop.BadVar at) carries stops =
    (stops.0, ap (λ (f : Field HeadFields). f >>= λ fields. Ok (state_after previous fields.0, fields.1)) (carries.carry (TooWide (drop at bytes)) stops.1))

-- The flag byte is read.
pub record Flags (bytes : List ℕ) (flags : ℕ) : Type 0 where
  pub read : fixed_at w8 bytes ≡ Ok (flags, drop 1 bytes)

-- No flag byte is there.
pub stop_flags : (bytes : List ℕ) (previous : HeadState) → length bytes ≡ 0 → head_at previous bytes ≡ Err Short
unfolding fields_at
stop_flags [] previous none = refl
stop_flags (b ∷ bytes) previous none = absurd (omega arith)

-- What is answered is why the field stopped.
pub stops_answer : {A : Type 0} (result : Result A HeadStop) (why : HeadStop) (P : HeadStop → Type 0) → IsErrAnd result (λ e. e ≡ why) → P why → IfErr result P
stops_answer (Ok value) why P is p = tt
stops_answer (Err e) why P is p = subst P (sym is) p

-- The state that fields say, part by part.
pub state_read : (previous now : HeadState) (fields : HeadFields) → now.metadata ≡ unwrap_or fields.metadata previous.metadata → now.number ≡ number_after now.metadata previous.number fields.sequence → now.capture ≡ option_map_or (λ s. s.capture) fields.sequence previous.capture → now.processor ≡ option_map_or (λ s. s.processor) fields.sequence previous.processor → now.thread ≡ unwrap_or fields.thread previous.thread → now.stack ≡ unwrap_or fields.stack previous.stack → now.stamp ≡ (previous.stamp + fields.stamp_increment) % 2 ^ 64 → now.activity ≡ unwrap_or fields.activity previous.activity → now.related ≡ unwrap_or fields.related previous.related → now.sorted ≡ fields.sorted → now.size ≡ unwrap_or fields.size previous.size → state_after previous fields ≡ now
state_read previous now fields metadata number capture processor thread stack stamp activity related sorted size =
    state-ext (state_after previous fields) now (sym metadata)
    (ap (λ (m : ℕ). number_after m previous.number fields.sequence) (sym metadata) ∙ sym number)
    (sym capture) (sym processor) (sym thread) (sym stack) (sym stamp) (sym activity) (sym related) (sym sorted) (sym size)

-- A header whose fields are read says this.
pub head_read : (previous now : HeadState) (fields : HeadFields) (bytes rest : List ℕ) → fields_at bytes ≡ Ok (fields, rest) → state_after previous fields ≡ now → head_at previous bytes ≡ Ok (now, rest)
head_read previous now fields bytes rest read said =
    ap (λ (f : Field HeadFields). f >>= λ fields. Ok (state_after previous fields.0, fields.1)) read
    ∙ ap (λ (state : HeadState). Ok (state, rest)) said

-- Where the metadata id stops, the header does.
pub carry_metadata : (bytes : List ℕ) (flags : ℕ) → Flags bytes flags → Carries (if_set (has_flag METADATA flags) (var_at w32)) bytes 1
unfolding fields_at
carry_metadata bytes flags e0 = record { carry = λ fault e. rw (e0.read, e) refl }

-- Where the sequence stops, the header does.
pub carry_numbers : (bytes : List ℕ) (flags a1 : ℕ) (m : Option ℕ) → Flags bytes flags → if_set (has_flag METADATA flags) (var_at w32) (drop 1 bytes) ≡ Ok (m, drop a1 bytes) → Carries (if_set (has_flag SEQUENCE flags) sequence_at) bytes a1
unfolding fields_at
carry_numbers bytes flags a1 m e0 e1 = record { carry = λ fault e. rw (e0.read, e1, e) refl }

-- Where the thread stops, the header does.
pub carry_thread : (bytes : List ℕ) (flags a1 a2 : ℕ) (m : Option ℕ) (q : Option Sequence) → Flags bytes flags → if_set (has_flag METADATA flags) (var_at w32) (drop 1 bytes) ≡ Ok (m, drop a1 bytes) → if_set (has_flag SEQUENCE flags) sequence_at (drop a1 bytes) ≡ Ok (q, drop a2 bytes) → Carries (if_set (has_flag THREAD flags) (var_at w64)) bytes a2
unfolding fields_at
carry_thread bytes flags a1 a2 m q e0 e1 e2 = record { carry = λ fault e. rw (e0.read, e1, e2, e) refl }

-- Where the stack stops, the header does.
pub carry_stack : (bytes : List ℕ) (flags a1 a2 a3 : ℕ) (m : Option ℕ) (q : Option Sequence) (t : Option ℕ) → Flags bytes flags → if_set (has_flag METADATA flags) (var_at w32) (drop 1 bytes) ≡ Ok (m, drop a1 bytes) → if_set (has_flag SEQUENCE flags) sequence_at (drop a1 bytes) ≡ Ok (q, drop a2 bytes) → if_set (has_flag THREAD flags) (var_at w64) (drop a2 bytes) ≡ Ok (t, drop a3 bytes) → Carries (if_set (has_flag STACK flags) (var_at w32)) bytes a3
unfolding fields_at
carry_stack bytes flags a1 a2 a3 m q t e0 e1 e2 e3 = record { carry = λ fault e. rw (e0.read, e1, e2, e3, e) refl }

-- Where the stamp stops, the header does.
pub carry_increment : (bytes : List ℕ) (flags a1 a2 a3 a4 : ℕ) (m : Option ℕ) (q : Option Sequence) (t : Option ℕ) (k : Option ℕ) → Flags bytes flags → if_set (has_flag METADATA flags) (var_at w32) (drop 1 bytes) ≡ Ok (m, drop a1 bytes) → if_set (has_flag SEQUENCE flags) sequence_at (drop a1 bytes) ≡ Ok (q, drop a2 bytes) → if_set (has_flag THREAD flags) (var_at w64) (drop a2 bytes) ≡ Ok (t, drop a3 bytes) → if_set (has_flag STACK flags) (var_at w32) (drop a3 bytes) ≡ Ok (k, drop a4 bytes) → Carries (var_at w64) bytes a4
unfolding fields_at
carry_increment bytes flags a1 a2 a3 a4 m q t k e0 e1 e2 e3 e4 = record { carry = λ fault e. rw (e0.read, e1, e2, e3, e4, e) refl }

-- Where the activity id stops, the header does.
pub carry_activity : (bytes : List ℕ) (flags a1 a2 a3 a4 a5 : ℕ) (m : Option ℕ) (q : Option Sequence) (t : Option ℕ) (k : Option ℕ) (i : ℕ) → Flags bytes flags → if_set (has_flag METADATA flags) (var_at w32) (drop 1 bytes) ≡ Ok (m, drop a1 bytes) → if_set (has_flag SEQUENCE flags) sequence_at (drop a1 bytes) ≡ Ok (q, drop a2 bytes) → if_set (has_flag THREAD flags) (var_at w64) (drop a2 bytes) ≡ Ok (t, drop a3 bytes) → if_set (has_flag STACK flags) (var_at w32) (drop a3 bytes) ≡ Ok (k, drop a4 bytes) → var_at w64 (drop a4 bytes) ≡ Ok (i, drop a5 bytes) → Carries (if_set (has_flag ACTIVITY flags) (bytes_at ID_BYTES)) bytes a5
unfolding fields_at
carry_activity bytes flags a1 a2 a3 a4 a5 m q t k i e0 e1 e2 e3 e4 e5 = record { carry = λ fault e. rw (e0.read, e1, e2, e3, e4, e5, e) refl }

-- Where the related activity id stops, the header does.
pub carry_related : (bytes : List ℕ) (flags a1 a2 a3 a4 a5 a6 : ℕ) (m : Option ℕ) (q : Option Sequence) (t : Option ℕ) (k : Option ℕ) (i : ℕ) (y : Option (List ℕ)) → Flags bytes flags → if_set (has_flag METADATA flags) (var_at w32) (drop 1 bytes) ≡ Ok (m, drop a1 bytes) → if_set (has_flag SEQUENCE flags) sequence_at (drop a1 bytes) ≡ Ok (q, drop a2 bytes) → if_set (has_flag THREAD flags) (var_at w64) (drop a2 bytes) ≡ Ok (t, drop a3 bytes) → if_set (has_flag STACK flags) (var_at w32) (drop a3 bytes) ≡ Ok (k, drop a4 bytes) → var_at w64 (drop a4 bytes) ≡ Ok (i, drop a5 bytes) → if_set (has_flag ACTIVITY flags) (bytes_at ID_BYTES) (drop a5 bytes) ≡ Ok (y, drop a6 bytes) → Carries (if_set (has_flag RELATED flags) (bytes_at ID_BYTES)) bytes a6
unfolding fields_at
carry_related bytes flags a1 a2 a3 a4 a5 a6 m q t k i y e0 e1 e2 e3 e4 e5 e6 = record { carry = λ fault e. rw (e0.read, e1, e2, e3, e4, e5, e6, e) refl }

-- Where the size stops, the header does.
pub carry_size : (bytes : List ℕ) (flags a1 a2 a3 a4 a5 a6 a7 : ℕ) (m : Option ℕ) (q : Option Sequence) (t : Option ℕ) (k : Option ℕ) (i : ℕ) (y : Option (List ℕ)) (r : Option (List ℕ)) → Flags bytes flags → if_set (has_flag METADATA flags) (var_at w32) (drop 1 bytes) ≡ Ok (m, drop a1 bytes) → if_set (has_flag SEQUENCE flags) sequence_at (drop a1 bytes) ≡ Ok (q, drop a2 bytes) → if_set (has_flag THREAD flags) (var_at w64) (drop a2 bytes) ≡ Ok (t, drop a3 bytes) → if_set (has_flag STACK flags) (var_at w32) (drop a3 bytes) ≡ Ok (k, drop a4 bytes) → var_at w64 (drop a4 bytes) ≡ Ok (i, drop a5 bytes) → if_set (has_flag ACTIVITY flags) (bytes_at ID_BYTES) (drop a5 bytes) ≡ Ok (y, drop a6 bytes) → if_set (has_flag RELATED flags) (bytes_at ID_BYTES) (drop a6 bytes) ≡ Ok (r, drop a7 bytes) → Carries (if_set (has_flag SIZE flags) (var_at w32)) bytes a7
unfolding fields_at
carry_size bytes flags a1 a2 a3 a4 a5 a6 a7 m q t k i y r e0 e1 e2 e3 e4 e5 e6 e7 = record { carry = λ fault e. rw (e0.read, e1, e2, e3, e4, e5, e6, e7, e) refl }

-- All fields are read.
pub fields_made : (bytes b0 b1 b2 b3 b4 b5 b6 b7 b8 : List ℕ) (flags : ℕ) (m : Option ℕ) (q : Option Sequence) (t : Option ℕ) (k : Option ℕ) (i : ℕ) (y : Option (List ℕ)) (r : Option (List ℕ)) (z : Option ℕ) → fixed_at w8 bytes ≡ Ok (flags, b0) → if_set (has_flag METADATA flags) (var_at w32) b0 ≡ Ok (m, b1) → if_set (has_flag SEQUENCE flags) sequence_at b1 ≡ Ok (q, b2) → if_set (has_flag THREAD flags) (var_at w64) b2 ≡ Ok (t, b3) → if_set (has_flag STACK flags) (var_at w32) b3 ≡ Ok (k, b4) → var_at w64 b4 ≡ Ok (i, b5) → if_set (has_flag ACTIVITY flags) (bytes_at ID_BYTES) b5 ≡ Ok (y, b6) → if_set (has_flag RELATED flags) (bytes_at ID_BYTES) b6 ≡ Ok (r, b7) → if_set (has_flag SIZE flags) (var_at w32) b7 ≡ Ok (z, b8) → fields_at bytes ≡ Ok (record { metadata = m; sequence = q; thread = t; stack = k; stamp_increment = i; activity = y; related = r; sorted = has_flag SORTED flags; size = z }, b8)
unfolding fields_at
fields_made bytes b0 b1 b2 b3 b4 b5 b6 b7 b8 flags m q t k i y r z e0 e1 e2 e3 e4 e5 e6 e7 e8 = rw (e0, e1, e2, e3, e4, e5, e6, e7, e8) refl

-- An id is read.
pub id_read : (bytes id : List ℕ) (at : ℕ) → at + 16 ≤ length bytes → id ≡ take (at + 16 - at) (drop at bytes) → Reads (bytes_at ID_BYTES) bytes at (at + 16) id
id_read bytes id at enough is =
    let same : at + 16 - at ≡ 16 = omega arith in
    let long : 16 ≤ length (drop at bytes) = omega (arith, length-drop at bytes, enough) in
    record {
      within = enough;
      read = cond-false _ _ _ (le-ltb (length (drop at bytes)) 16 long) ∙ rw (is, same, drop-drop 16 at bytes) refl;
    }

-- The first byte of some is read.
pub flags_read : (bytes : List ℕ) → 0 < length bytes → Flags bytes (get_or bytes 0 0)
flags_read [] some = absurd (omega arith)
flags_read (b ∷ bytes) some =
    let value : b + 256 * 0 ≡ b = omega arith in
    record { read = cond-false _ _ _ (le-ltb (length (b ∷ bytes)) 1 (omega arith)) ∙ ap (λ (n : ℕ). Ok (n, bytes)) value }
