-- The compressed header of a blob (the NetTrace format document of PerfView (version 4), "compressed header").
use Rattle.std.specs.Prelude.{◌≡◌, ℕ, ◌+◌, ◌%◌, ◌^◌, ◌<◌, Bool, false, List, [], ◌∷◌, length, replicate, Option, is_some, unwrap_or, ◌==◌, if◌then◌else◌}
use Rattle.std.specs.Int.{w32, w64}
use Rattle.std.specs.Option.{option_map_or}
use Rattle.nt_head.specs.declared.flags.TheConstants.{ACTIVITY, METADATA, RELATED, SEQUENCE, SIZE, SORTED, STACK, THREAD}
use Rattle.nt_head.specs.declared.head.HeadState.{HeadState}
use Rattle.pt_num.specs.Numbers.{IsVar}
use Rattle.pt_num.specs.Pieces.{InTurn, Exactly, IfThere}

-- The three fields of one flag.
pub record Sequence : Type 0 where
  pub increment : ℕ
  pub capture : ℕ
  pub processor : ℕ

-- The fields that a header has. What is not there keeps the value of the blob before.
pub record HeadFields : Type 0 where
  pub metadata : Option ℕ
  pub sequence : Option Sequence
  pub thread : Option ℕ
  pub stack : Option ℕ
  pub stamp_increment : ℕ
  pub activity : Option (List ℕ)
  pub related : Option (List ℕ)
  pub sorted : Bool
  pub size : Option ℕ

-- ---- bytes

-- What a flag adds to the byte of flags.
abbrev pub flag : ℕ → Bool → ℕ
flag worth set = if set then worth else 0

-- One bit for each field that may be absent, and one for the mark that the blob is sorted.
abbrev pub flag_byte : HeadFields → ℕ
flag_byte fields =
    flag METADATA (is_some fields.metadata)
    + flag SEQUENCE (is_some fields.sequence)
    + flag THREAD (is_some fields.thread)
    + flag STACK (is_some fields.stack)
    + flag ACTIVITY (is_some fields.activity)
    + flag RELATED (is_some fields.related)
    + flag SORTED fields.sorted
    + flag SIZE (is_some fields.size)

-- The bytes are these sequence fields.
abbrev pub IsSequence : Sequence → List ℕ → Type 0
IsSequence sequence bytes = InTurn (IsVar w32 sequence.increment ∷ IsVar w64 sequence.capture ∷ IsVar w32 sequence.processor ∷ []) bytes

-- The bytes are an id of 16 bytes.
abbrev pub IsGuid : List ℕ → List ℕ → Type 0
IsGuid id bytes = (bytes ≡ id) × (length id ≡ 16)

-- The flag byte, and then the fields in their order.
abbrev pub AreHeadBytes : HeadFields → List ℕ → Type 0
AreHeadBytes fields bytes =
    InTurn
    (Exactly (flag_byte fields ∷ [])
    ∷ IfThere (IsVar w32) fields.metadata
    ∷ IfThere IsSequence fields.sequence
    ∷ IfThere (IsVar w64) fields.thread
    ∷ IfThere (IsVar w32) fields.stack
    ∷ IsVar w64 fields.stamp_increment
    ∷ IfThere IsGuid fields.activity
    ∷ IfThere IsGuid fields.related
    ∷ IfThere (IsVar w32) fields.size
    ∷ [])
    bytes

-- ---- meaning

-- The parts of 32 bits.
pub record AreIds (s : HeadState) : Type 0 where
  pub metadata : s.metadata < 2 ^ 32
  pub number : s.number < 2 ^ 32
  pub processor : s.processor < 2 ^ 32
  pub stack : s.stack < 2 ^ 32
  pub size : s.size < 2 ^ 32

-- The parts of a state fit their types: 32 and 64 bits, and ids of 16 bytes.
pub record IsState (s : HeadState) : Type 0 where
  pub ids : AreIds s
  pub capture : s.capture < 2 ^ 64
  pub thread : s.thread < 2 ^ 64
  pub stamp : s.stamp < 2 ^ 64
  pub activity : length s.activity ≡ 16
  pub related : length s.related ≡ 16

-- The number of a blob of an event; metadata id 0 uses no number, and what is read there is dropped (this project's
-- profile).
abbrev pub number_after : ℕ → ℕ → Option Sequence → ℕ
number_after metadata before sequence =
    if metadata == 0
    then before
    else (option_map_or (λ s. before + s.increment + 1) sequence (before + 1)) % 2 ^ 32

-- What a blob's header says, after that of the blob before it. The metadata id is settled first.
abbrev pub state_after : HeadState → HeadFields → HeadState
state_after before fields =
    let metadata = unwrap_or fields.metadata before.metadata in
    record {
      metadata = metadata;
      number = number_after metadata before.number fields.sequence;
      capture = option_map_or (λ s. s.capture) fields.sequence before.capture;
      processor = option_map_or (λ s. s.processor) fields.sequence before.processor;
      thread = unwrap_or fields.thread before.thread;
      stack = unwrap_or fields.stack before.stack;
      stamp = (before.stamp + fields.stamp_increment) % 2 ^ 64;
      activity = unwrap_or fields.activity before.activity;
      related = unwrap_or fields.related before.related;
      sorted = fields.sorted;
      size = unwrap_or fields.size before.size;
    }

-- Before the first blob of a block.
abbrev pub zero_state : HeadState
zero_state =
    record {
      metadata = 0;
      number = 0;
      capture = 0;
      processor = 0;
      thread = 0;
      stack = 0;
      stamp = 0;
      activity = replicate 16 0;
      related = replicate 16 0;
      sorted = false;
      size = 0;
    }

-- The bytes are a header that says this, after a blob that said that.
abbrev pub IsHead : HeadState → HeadState → List ℕ → Type 0
IsHead before now bytes = (fields : HeadFields) × AreHeadBytes fields bytes × (now ≡ state_after before fields)
