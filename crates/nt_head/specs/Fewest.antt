-- Which header is written: the one with the fewest fields, each number in its short form (this project's profile).
use Rattle.std.specs.Prelude.{◌≡◌, ℕ, ◌+◌, ◌-◌, ◌%◌, ◌^◌, Bool, ◌&&◌, ◌||◌, not, List, [], ◌∷◌, nat_eq, ◌==◌, Option}
use Rattle.std.specs.Int.{w32, w64}
use Rattle.std.specs.Option.{option_map_or}
use Rattle.std.specs.Bool.{then_some}
use Rattle.std.specs.List.{concat}
use Rattle.std.specs.Cmp.Lexicographic.{pointwise}
use Rattle.nt_head.specs.declared.head.HeadState.{HeadState}
use Rattle.pt_num.specs.Numbers.{short_var}
use Rattle.nt_head.specs.Head.{HeadFields, Sequence, flag_byte}

-- A header under the metadata id 0 can change neither the number nor who captured it.
pub record KeepsSequence (before now : HeadState) : Type 0 where
  pub number : now.number ≡ before.number
  pub capture : now.capture ≡ before.capture
  pub processor : now.processor ≡ before.processor

-- A field is there where its value is new.
abbrev pub if_new : {A : Type 0} → (A → A → Bool) → A → A → Option A
if_new same before now = then_some (not (same before now)) now

-- A number that is not the next one, another capture thread or another processor needs its flag.
abbrev pub has_sequence : HeadState → HeadState → Bool
has_sequence before now =
    (not (now.metadata == 0) && not (now.number == (before.number + 1) % 2 ^ 32))
    || not (now.capture == before.capture)
    || not (now.processor == before.processor)

-- The increment leads from the next number to the new one, modulo 2 ^ 32.
abbrev pub sequence_of : HeadState → HeadState → Sequence
sequence_of before now =
    record {
      increment = (now.number + 2 ^ 32 - (before.number + 1) % 2 ^ 32) % 2 ^ 32;
      capture = now.capture;
      processor = now.processor;
    }

-- The fewest fields that say this after that. The stamp's increment is taken modulo 2 ^ 64.
abbrev pub fewest_fields : HeadState → HeadState → HeadFields
fewest_fields before now =
    record {
      metadata = if_new nat_eq before.metadata now.metadata;
      sequence = then_some (has_sequence before now) (sequence_of before now);
      thread = if_new nat_eq before.thread now.thread;
      stack = if_new nat_eq before.stack now.stack;
      stamp_increment = (now.stamp + 2 ^ 64 - before.stamp) % 2 ^ 64;
      activity = if_new (pointwise nat_eq) before.activity now.activity;
      related = if_new (pointwise nat_eq) before.related now.related;
      sorted = now.sorted;
      size = if_new nat_eq before.size now.size;
    }

-- For private functions: no field that may be absent is new.
abbrev pub keeps_fields : HeadState → HeadState → Bool
keeps_fields before now =
    (before.metadata == now.metadata)
    && not (has_sequence before now)
    && (before.thread == now.thread)
    && (before.stack == now.stack)
    && pointwise nat_eq before.activity now.activity
    && pointwise nat_eq before.related now.related
    && (before.size == now.size)

-- The bytes of a field that may be absent.
abbrev pub if_there : {A : Type 0} → (A → List ℕ) → Option A → List ℕ
if_there bytes_of field = option_map_or bytes_of field []

-- The sequence fields, each in its short form.
abbrev pub sequence_bytes : Sequence → List ℕ
sequence_bytes s = concat (short_var w32 s.increment ∷ short_var w64 s.capture ∷ short_var w32 s.processor ∷ [])

-- The flag byte, and then the fields with each number in its short form.
abbrev pub head_fields_bytes : HeadFields → List ℕ
head_fields_bytes fields =
    concat
    ((flag_byte fields ∷ [])
    ∷ if_there (short_var w32) fields.metadata
    ∷ if_there sequence_bytes fields.sequence
    ∷ if_there (short_var w64) fields.thread
    ∷ if_there (short_var w32) fields.stack
    ∷ short_var w64 fields.stamp_increment
    ∷ if_there (λ id. id) fields.activity
    ∷ if_there (λ id. id) fields.related
    ∷ if_there (short_var w32) fields.size
    ∷ [])

-- The header that is written for the new state after the previous one.
abbrev pub head_bytes : HeadState → HeadState → List ℕ
head_bytes before now = head_fields_bytes (fewest_fields before now)
