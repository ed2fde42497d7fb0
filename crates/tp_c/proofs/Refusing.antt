-- An event that is not refused can be written.
use Rattle.std.proofs.Common.{◌≡◌, ℕ, zero, suc, ◌-◌, ◌%◌, ◌≤◌, ◌<◌, Bool, true, false, List, length, Option, Some, None, refl, ap, arith}
use Rattle.std.proofs.lemmas.Bool.{leb-true, and_parts, eqb-true}
use Rattle.std.specs.Prelude.{not, is_some, is_none, nat_le, ◌==◌, if◌then◌else◌, slice_get}
use Rattle.ep_defs.specs.declared.event.EventDef.{EventDef}
use Rattle.ep_defs.specs.declared.limits.TheConstants.{FRAME_BYTES, PAYLOAD_BYTES}
use Rattle.ep_defs.specs.Definitions.{definition_at}
use Rattle.nt_write.specs.declared.limits.TheConstants.{STACK_BYTES}
use Rattle.tp_c.specs.declared.recorder.Recorder.{Recorder}
use Rattle.tp_c.specs.declared.refusal.Refusal.{Refusal}
use Rattle.tp_c.specs.declared.refusal.Refusal.TheVariants.{NoDefinition, BadFrames, LongPayload, TooManyStacks}
use Rattle.tp_c.specs.Recording.{call_refused, head_refused, are_frames, has_stack_left}

-- Neither the first reason holds nor another.
neither : (first rest : Option Refusal) → (if is_some first then first else rest) ≡ None → (first ≡ None) × (rest ≡ None)
neither None rest h = (refl, h)
neither (Some refusal) rest h = absurd (some h)
  where
    some : Some refusal ≡ None → ⊥
    some e = cc

-- The test fails, and no other reason holds.
passed : (test : Bool) (refusal : Refusal) (rest : Option Refusal) → (if test then Some refusal else rest) ≡ None → (test ≡ false) × (rest ≡ None)
passed true refusal rest h = absurd (some h)
  where
    some : Some refusal ≡ None → ⊥
    some e = cc
passed false refusal rest h = (refl, h)

-- What is not false is true.
not-not : (b : Bool) → not b ≡ false → b ≡ true
not-not true h = refl
not-not false h = absurd (differ h)
  where
    differ : true ≡ false → ⊥
    differ e = cc

-- What is known of an event of which only the thread may be refused.
pub record IsFit (recorder : Recorder) (event : ℕ) (frames payload : List ℕ) : Type 0 where
  pub taking : call_refused recorder ≡ None
  pub defined : is_none (definition_at recorder.definitions event) ≡ false
  pub short : length frames ≤ STACK_BYTES
  pub whole : length frames % FRAME_BYTES ≡ 0
  pub short_payload : length payload ≤ PAYLOAD_BYTES
  pub stack_left : has_stack_left recorder.framed frames ≡ true

pub fit : (recorder : Recorder) (event : ℕ) (frames payload : List ℕ) → head_refused recorder event frames payload ≡ None → IsFit recorder event frames payload
fit recorder event frames payload h =
    let a = neither (call_refused recorder) _ h in
    let b = passed (is_none (definition_at recorder.definitions event)) NoDefinition _ a.1 in
    let c = passed (not (are_frames frames)) BadFrames _ b.1 in
    let d = passed (not (nat_le (length payload) PAYLOAD_BYTES)) LongPayload _ c.1 in
    let e = passed (not (has_stack_left recorder.framed frames)) TooManyStacks None d.1 in
    let framed = and_parts (nat_le (length frames) STACK_BYTES) (length frames % FRAME_BYTES == 0) (not-not (are_frames frames) c.0) in
    record {
      taking = a.0;
      defined = b.0;
      short = leb-true (length frames) STACK_BYTES framed.0;
      whole = eqb-true (length frames % FRAME_BYTES) 0 framed.1;
      short_payload = leb-true (length payload) PAYLOAD_BYTES (not-not (nat_le (length payload) PAYLOAD_BYTES) d.0);
      stack_left = not-not (has_stack_left recorder.framed frames) e.0;
    }

-- A number from one on is a place and one more.
pub at-number : (definitions : List EventDef) (number : ℕ) → 0 < number → definition_at definitions number ≡ slice_get definitions (number - 1)
at-number definitions zero h = absurd (none h)
  where
    none : 0 < 0 → ⊥
    none h = omega arith
at-number definitions (suc place) h = ap (λ (n : ℕ). slice_get definitions n) (less place)
  where
    less : (n : ℕ) → n ≡ suc n - 1
    less n = omega arith
