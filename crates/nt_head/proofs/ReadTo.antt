-- How far a header is read: the fields up to one, all together.
use Rattle.std.proofs.Common.{◌≡◌, ℕ, ◌<◌, Bool, false, eqb, List, length, get_or, drop, Option, Ok, sym, arith}
use Rattle.std.specs.Int.{w32, w64}
use Rattle.std.proofs.lemmas.Bool.{eqb-false, ne_eqb}
use Rattle.nt_head.specs.declared.flags.TheConstants.{ACTIVITY, METADATA, RELATED, SEQUENCE, STACK, THREAD}
use Rattle.nt_head.specs.declared.limits.TheConstants.{ID_BYTES}
use Rattle.pt_num.specs.Fields.{bytes_at, var_at}
use Rattle.nt_head.specs.Head.{Sequence}
use Rattle.nt_head.specs.Reading.{has_flag, if_set, sequence_at}
use Rattle.nt_head.proofs.Steps.{Flags, flags_read}

-- There are bytes, as a test says it.
pub filled : (bytes : List ℕ) → 0 < length bytes → false ≡ eqb (length bytes) 0
filled bytes some = sym (ne_eqb (length bytes) 0 (λ none. omega (arith, none)))

-- The flag byte is read where there are bytes.
pub to_flags : (bytes : List ℕ) → false ≡ eqb (length bytes) 0 → Flags bytes (get_or bytes 0 0)
to_flags bytes filled =
    let none = eqb-false (length bytes) 0 (sym filled) in
    let some : 0 < length bytes = omega (arith, none) in
    flags_read bytes some

-- The flag byte and the fields up to the thread are read.
pub record ReadToThread (bytes : List ℕ) (flags end : ℕ) : Type 0 where
  pub after_metadata : ℕ
  pub after_sequence : ℕ
  pub said_metadata : Option ℕ
  pub said_sequence : Option Sequence
  pub said_thread : Option ℕ
  pub first : Flags bytes flags
  pub metadata : if_set (has_flag METADATA flags) (var_at w32) (drop 1 bytes) ≡ Ok (said_metadata, drop after_metadata bytes)
  pub sequence : if_set (has_flag SEQUENCE flags) sequence_at (drop after_metadata bytes) ≡ Ok (said_sequence, drop after_sequence bytes)
  pub thread : if_set (has_flag THREAD flags) (var_at w64) (drop after_sequence bytes) ≡ Ok (said_thread, drop end bytes)

pub to_thread : {bytes : List ℕ} {a3 : ℕ} (a1 a2 : ℕ) {h1 h2 h3 : Bool} {m : Option ℕ} {q : Option Sequence} {t : Option ℕ} → false ≡ eqb (length bytes) 0 → h1 ≡ has_flag METADATA (get_or bytes 0 0) → if_set h1 (var_at w32) (drop 1 bytes) ≡ Ok (m, drop a1 bytes) → h2 ≡ has_flag SEQUENCE (get_or bytes 0 0) → if_set h2 sequence_at (drop a1 bytes) ≡ Ok (q, drop a2 bytes) → h3 ≡ has_flag THREAD (get_or bytes 0 0) → if_set h3 (var_at w64) (drop a2 bytes) ≡ Ok (t, drop a3 bytes) → ReadToThread bytes (get_or bytes 0 0) a3
to_thread {bytes} {a3} a1 a2 {h1} {h2} {h3} {m} {q} {t} filled f1 e1 f2 e2 f3 e3 =
    record {
      after_metadata = a1;
      after_sequence = a2;
      said_metadata = m;
      said_sequence = q;
      said_thread = t;
      first = to_flags bytes filled;
      metadata = rw f1 at e1;
      sequence = rw f2 at e2;
      thread = rw f3 at e3;
    }

-- The fields from the stack up to the related activity id are read.
pub record ReadToRelated (bytes : List ℕ) (flags start end : ℕ) : Type 0 where
  pub after_stack : ℕ
  pub after_stamp : ℕ
  pub after_activity : ℕ
  pub said_stack : Option ℕ
  pub said_stamp : ℕ
  pub said_activity : Option (List ℕ)
  pub said_related : Option (List ℕ)
  pub stack : if_set (has_flag STACK flags) (var_at w32) (drop start bytes) ≡ Ok (said_stack, drop after_stack bytes)
  pub stamp : var_at w64 (drop after_stack bytes) ≡ Ok (said_stamp, drop after_stamp bytes)
  pub activity : if_set (has_flag ACTIVITY flags) (bytes_at ID_BYTES) (drop after_stamp bytes) ≡ Ok (said_activity, drop after_activity bytes)
  pub related : if_set (has_flag RELATED flags) (bytes_at ID_BYTES) (drop after_activity bytes) ≡ Ok (said_related, drop end bytes)

pub to_related : {bytes : List ℕ} {flags a3 a7 : ℕ} (a4 a5 a6 : ℕ) {h4 h6 h7 : Bool} {k : Option ℕ} {i : ℕ} {y r : Option (List ℕ)} → h4 ≡ has_flag STACK flags → if_set h4 (var_at w32) (drop a3 bytes) ≡ Ok (k, drop a4 bytes) → var_at w64 (drop a4 bytes) ≡ Ok (i, drop a5 bytes) → h6 ≡ has_flag ACTIVITY flags → if_set h6 (bytes_at ID_BYTES) (drop a5 bytes) ≡ Ok (y, drop a6 bytes) → h7 ≡ has_flag RELATED flags → if_set h7 (bytes_at ID_BYTES) (drop a6 bytes) ≡ Ok (r, drop a7 bytes) → ReadToRelated bytes flags a3 a7
to_related {bytes} {flags} {a3} {a7} a4 a5 a6 {h4} {h6} {h7} {k} {i} {y} {r} f4 e4 e5 f6 e6 f7 e7 =
    record {
      after_stack = a4;
      after_stamp = a5;
      after_activity = a6;
      said_stack = k;
      said_stamp = i;
      said_activity = y;
      said_related = r;
      stack = rw f4 at e4;
      stamp = e5;
      activity = rw f6 at e6;
      related = rw f7 at e7;
    }
