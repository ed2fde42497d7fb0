-- What is read of a header, field by field.
use Rattle.std.proofs.Common.{◌≡◌, ℕ, ◌+◌, ◌-◌, ◌<◌, ◌≤◌, Bool, true, false, List, length, take, drop, None, Ok, refl, ap, sym, ◌∙◌}
use Rattle.std.specs.Prelude.{unwrap_or}
use Rattle.std.proofs.Math.Nat.{div-eq_of_lt}
use Rattle.std.specs.Option.{option_map_or}
use Rattle.pt_num.specs.Steps.{◌>>=◌}
use Rattle.pt_num.specs.Fields.{Field, Short, bytes_at}
use Rattle.nt_head.specs.declared.limits.TheConstants.{ID_BYTES}
use Rattle.nt_head.specs.declared.head.HeadState.{HeadState}
use Rattle.nt_head.specs.Head.{HeadFields, number_after, state_after}
use Rattle.nt_head.specs.Reading.{has_flag, if_set}
use Rattle.nt_head.proofs.Steps.{Carries, id_read, new_read, stop_flags}
use Rattle.nt_names.specs.declared.head.Head.{Head}
use Rattle.nt_names.specs.state.Heads.{Cuts, CutsHead, Passes, head_of}

-- ---- what is passed over

pub id_passes : (there : Bool) (bytes : List ℕ) (at : ℕ) → there ≡ true → at + 16 ≤ length bytes → Passes there (bytes_at ID_BYTES) bytes at (at + 16)
id_passes there bytes at set enough =
    let id : List ℕ = take (at + 16 - at) (drop at bytes) in
    let reads = new_read (bytes_at ID_BYTES) bytes at (at + 16) id id (id_read bytes id at enough refl) in
    rw set (record { said = reads.said; within = enough; read = reads.read })

-- ---- the header

-- Where a field is cut, the header is.
pub cut_head : {A : Type 0} (field : List ℕ → Field A) (bytes : List ℕ) (start : ℕ) → Carries field bytes start → Cuts field bytes start → CutsHead bytes
cut_head field bytes start carries cuts = λ before. (
  cuts.0,
  ap (λ (f : Field HeadFields). f >>= λ fields. Ok (state_after before fields.0, fields.1)) (carries.carry cuts.0 cuts.1),
)

pub cut_flags : (bytes : List ℕ) → length bytes ≡ 0 → CutsHead bytes
cut_flags bytes none = λ before. (Short, stop_flags bytes before none)

-- Flags that are worth more than all that are set are not set.
pub flag_unset : (worth flags : ℕ) → 0 < worth → flags < worth → has_flag worth flags ≡ false
flag_unset worth flags some few = rw (div-eq_of_lt few) refl

-- A field that no flag announces is not there.
pub field_unset : {A : Type 0} (worth flags : ℕ) (field : List ℕ → Field A) (bytes : List ℕ) → 0 < worth → flags < worth → if_set (has_flag worth flags) field bytes ≡ Ok (None, bytes)
field_unset worth flags field bytes some few = rw (flag_unset worth flags some few) refl

-- What is kept of the state that fields say.
pub head_kept : (before : HeadState) (fields : HeadFields) (previous now : Head) → head_of before ≡ previous → now.names.metadata ≡ unwrap_or fields.metadata previous.names.metadata → now.names.number ≡ number_after now.names.metadata previous.names.number fields.sequence → now.names.capture ≡ option_map_or (λ s. s.capture) fields.sequence previous.names.capture → now.names.stack ≡ unwrap_or fields.stack previous.names.stack → now.size ≡ unwrap_or fields.size previous.size → head_of (state_after before fields) ≡ now
head_kept before fields previous now same metadata number capture stack size =
    let m : unwrap_or fields.metadata before.metadata ≡ now.names.metadata = ap (λ (h : Head). unwrap_or fields.metadata h.names.metadata) same ∙ sym metadata in
    let n : number_after (unwrap_or fields.metadata before.metadata) before.number fields.sequence ≡ now.names.number =
    ap (λ (m : ℕ). number_after m before.number fields.sequence) m ∙ ap (λ (h : Head). number_after now.names.metadata h.names.number fields.sequence) same ∙ sym number in
    let c : option_map_or (λ s. s.capture) fields.sequence before.capture ≡ now.names.capture = ap (λ (h : Head). option_map_or (λ s. s.capture) fields.sequence h.names.capture) same ∙ sym capture in
    let k : unwrap_or fields.stack before.stack ≡ now.names.stack = ap (λ (h : Head). unwrap_or fields.stack h.names.stack) same ∙ sym stack in
    let z : unwrap_or fields.size before.size ≡ now.size = ap (λ (h : Head). unwrap_or fields.size h.size) same ∙ sym size in
    λ i. record { names = record { metadata = m i; number = n i; capture = c i; stack = k i }; size = z i }
