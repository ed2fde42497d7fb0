-- Reading a definition, part by part.
use Rattle.std.proofs.Common.{◌≡◌, ℕ, true, false, Ok, List, length, refl}
use Rattle.std.specs.Prelude.{IsErr}
use Rattle.std.specs.Int.{w32, w64, is_in_range}
use Rattle.ep_defs.specs.declared.event.FieldDef.{FieldDef}
use Rattle.ep_defs.specs.declared.event.EventDef.{EventDef}
use Rattle.nt_meta.specs.declared.limits.TheConstants.{LAST_ID}
use Rattle.nt_meta.specs.Reading.{number_at, text_at, fields_at, def_at, meta_at}
use Rattle.nt_meta.proofs.FieldSteps.{fails_first}

pub def_provider : (bytes : List ℕ) → IsErr (text_at bytes) → IsErr (def_at bytes)
unfolding def_at
def_provider bytes h = fails_first _ _ h

pub def_id : (bytes r1 provider : List ℕ) → text_at bytes ≡ Ok (provider, r1) → IsErr (number_at w32 r1) → IsErr (def_at bytes)
unfolding def_at
def_id bytes r1 provider e1 h = rw e1 (fails_first _ _ h)

pub def_name : (bytes r1 r2 provider : List ℕ) (id : ℕ) → text_at bytes ≡ Ok (provider, r1) → number_at w32 r1 ≡ Ok (id, r2) → IsErr (text_at r2) → IsErr (def_at bytes)
unfolding def_at
def_name bytes r1 r2 provider id e1 e2 h = rw (e1, e2) (fails_first _ _ h)

pub def_keywords : (bytes r1 r2 r3 provider name : List ℕ) (id : ℕ) → text_at bytes ≡ Ok (provider, r1) → number_at w32 r1 ≡ Ok (id, r2) → text_at r2 ≡ Ok (name, r3) → IsErr (number_at w64 r3) → IsErr (def_at bytes)
unfolding def_at
def_keywords bytes r1 r2 r3 provider name id e1 e2 e3 h = rw (e1, e2, e3) (fails_first _ _ h)

pub def_version : (bytes r1 r2 r3 r4 provider name : List ℕ) (id keywords : ℕ) → text_at bytes ≡ Ok (provider, r1) → number_at w32 r1 ≡ Ok (id, r2) → text_at r2 ≡ Ok (name, r3) → number_at w64 r3 ≡ Ok (keywords, r4) → IsErr (number_at w32 r4) → IsErr (def_at bytes)
unfolding def_at
def_version bytes r1 r2 r3 r4 provider name id keywords e1 e2 e3 e4 h = rw (e1, e2, e3, e4) (fails_first _ _ h)

pub def_level : (bytes r1 r2 r3 r4 r5 provider name : List ℕ) (id keywords version : ℕ) → text_at bytes ≡ Ok (provider, r1) → number_at w32 r1 ≡ Ok (id, r2) → text_at r2 ≡ Ok (name, r3) → number_at w64 r3 ≡ Ok (keywords, r4) → number_at w32 r4 ≡ Ok (version, r5) → IsErr (number_at w32 r5) → IsErr (def_at bytes)
unfolding def_at
def_level bytes r1 r2 r3 r4 r5 provider name id keywords version e1 e2 e3 e4 e5 h = rw (e1, e2, e3, e4, e5) (fails_first _ _ h)

pub def_count : (bytes r1 r2 r3 r4 r5 r6 provider name : List ℕ) (id keywords version level : ℕ) → text_at bytes ≡ Ok (provider, r1) → number_at w32 r1 ≡ Ok (id, r2) → text_at r2 ≡ Ok (name, r3) → number_at w64 r3 ≡ Ok (keywords, r4) → number_at w32 r4 ≡ Ok (version, r5) → number_at w32 r5 ≡ Ok (level, r6) → IsErr (number_at w32 r6) → IsErr (def_at bytes)
unfolding def_at
def_count bytes r1 r2 r3 r4 r5 r6 provider name id keywords version level e1 e2 e3 e4 e5 e6 h =
    rw (e1, e2, e3, e4, e5, e6) (fails_first _ _ h)

pub def_fields : (bytes r1 r2 r3 r4 r5 r6 r7 provider name : List ℕ) (id keywords version level count : ℕ) → text_at bytes ≡ Ok (provider, r1) → number_at w32 r1 ≡ Ok (id, r2) → text_at r2 ≡ Ok (name, r3) → number_at w64 r3 ≡ Ok (keywords, r4) → number_at w32 r4 ≡ Ok (version, r5) → number_at w32 r5 ≡ Ok (level, r6) → number_at w32 r6 ≡ Ok (count, r7) → IsErr (fields_at (length r7) 0 count r7) → IsErr (def_at bytes)
unfolding def_at
def_fields bytes r1 r2 r3 r4 r5 r6 r7 provider name id keywords version level count e1 e2 e3 e4 e5 e6 e7 h =
    rw (e1, e2, e3, e4, e5, e6, e7) (fails_first _ _ h)

pub def_read : (bytes r1 r2 r3 r4 r5 r6 r7 rest provider name : List ℕ) (id keywords version level count : ℕ) (fields made : List FieldDef) → text_at bytes ≡ Ok (provider, r1) → number_at w32 r1 ≡ Ok (id, r2) → text_at r2 ≡ Ok (name, r3) → number_at w64 r3 ≡ Ok (keywords, r4) → number_at w32 r4 ≡ Ok (version, r5) → number_at w32 r5 ≡ Ok (level, r6) → number_at w32 r6 ≡ Ok (count, r7) → fields_at (length r7) 0 count r7 ≡ Ok (fields, rest) → made ≡ fields
    → def_at bytes ≡ Ok (record { provider = provider; id = id; version = version; level = level; keywords = keywords; name = name; fields = made }, rest)
unfolding def_at
def_read bytes r1 r2 r3 r4 r5 r6 r7 rest provider name id keywords version level count fields made e1 e2 e3 e4 e5 e6 e7 e8 same =
    rw (e1, e2, e3, e4, e5, e6, e7, e8, same) refl

pub meta_id : (bytes : List ℕ) → IsErr (number_at w32 bytes) → IsErr (meta_at bytes)
unfolding meta_at
meta_id bytes h = fails_first _ _ h

pub meta_range : (bytes rest : List ℕ) (id : ℕ) → number_at w32 bytes ≡ Ok (id, rest) → is_in_range 1 LAST_ID id ≡ false → IsErr (meta_at bytes)
unfolding meta_at
meta_range bytes rest id e out = rw (e, out) refl

pub meta_def : (bytes rest : List ℕ) (id : ℕ) → number_at w32 bytes ≡ Ok (id, rest) → is_in_range 1 LAST_ID id ≡ true → IsErr (def_at rest) → IsErr (meta_at bytes)
unfolding meta_at
meta_def bytes rest id e within h = rw (e, within) (fails_first _ _ h)

pub meta_read : (bytes rest end : List ℕ) (id : ℕ) (def : EventDef) → number_at w32 bytes ≡ Ok (id, rest) → is_in_range 1 LAST_ID id ≡ true → def_at rest ≡ Ok (def, end) → meta_at bytes ≡ Ok (id, def)
unfolding meta_at
meta_read bytes rest end id def e within h = rw (e, within, h) refl
