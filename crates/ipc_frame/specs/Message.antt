-- Messages of the DOTNET_IPC_V1 protocol as bytes, and what the first bytes of a connection are found to be.
use Rattle.std.specs.Prelude.{◌≡◌, ℕ, ◌+◌, ◌-◌, ◌≤◌, Bool, ◌||◌, List, [], ◌∷◌, ◌++◌, length, drop, slice_index, slice_range, Result, Ok, Err, nat_lt, nat_le, nat_eq}
use Rattle.std.specs.List.{concat, starts_with}
use Rattle.std.specs.Int.{w16}
use Rattle.byteorder.specs.Endian.{little_number}
use Rattle.pt_num.specs.Numbers.{fixed}
use Rattle.pt_num.specs.Pieces.{InTurn, Exactly}
use Rattle.pt_num.specs.Steps.{◌>>=◌, check}
use Rattle.ipc_frame.specs.declared.limits.TheConstants.{MAGIC, SIZE_AT, SET_AT, COMMAND_AT, HEADER_BYTES}
use Rattle.ipc_frame.specs.declared.frame.Framed.{Framed}
use Rattle.ipc_frame.specs.declared.frame.Framed.TheVariants as framed

-- A header: the magic, the size of the whole message in two bytes, command set and command, and two reserved bytes,
-- which are written as 0 (the DOTNET_IPC_V1 protocol document of dotnet/diagnostics, "IPC Message Format").
abbrev pub header : ℕ → ℕ → ℕ → List ℕ
header set command size = concat (MAGIC ∷ fixed w16 size ∷ (set ∷ command ∷ []) ∷ fixed w16 0 ∷ [])

-- A message: its header and its body (the same section).
abbrev pub message : ℕ → ℕ → List ℕ → List ℕ
message set command body = header set command (HEADER_BYTES + length body) ++ body

-- The bytes are a message. Its reserved bytes may be any (this project's profile).
abbrev pub IsMessage : ℕ → ℕ → List ℕ → List ℕ → Type 0
IsMessage set command body bytes =
    InTurn
    (Exactly MAGIC
    ∷ Exactly (fixed w16 (HEADER_BYTES + length body))
    ∷ Exactly (set ∷ command ∷ [])
    ∷ (λ reserved. length reserved ≡ 2)
    ∷ Exactly body
    ∷ [])
    bytes

-- What stands in a message.
pub record Message : Type 0 where
  pub set : ℕ
  pub command : ℕ
  pub body : List ℕ

-- Why no message stands at the front of some bytes.
pub data Gap : Type 0 where
  Lacks : (bytes : ℕ) → Gap
  OtherMagic : Gap
  SmallSize : (size : ℕ) → Gap

-- The magic, as far as it is judged: only once all of it is there (this project's profile).
abbrev pub has_magic : List ℕ → Bool
has_magic bytes = nat_lt (length bytes) (length MAGIC) || starts_with nat_eq bytes MAGIC

-- The size that the header says.
abbrev pub size_in : List ℕ → ℕ
size_in bytes = little_number 2 (drop SIZE_AT bytes)

-- The parts of a message at the front of these bytes.
abbrev pub parts_of : List ℕ → Message
parts_of bytes =
    record {
      set = slice_index bytes SET_AT;
      command = slice_index bytes COMMAND_AT;
      body = slice_range bytes HEADER_BYTES (size_in bytes);
    }

-- What the first bytes are found to be, in the order in which they are judged; the first finding is the answer (the
-- order is this project's profile).
abbrev pub found : List ℕ → Result Message Gap
found bytes = do
  known ← check (has_magic bytes) OtherMagic
  sized ← check (nat_le SET_AT (length bytes)) (Lacks (HEADER_BYTES - length bytes))
  large ← check (nat_le HEADER_BYTES (size_in bytes)) (SmallSize (size_in bytes))
  headed ← check (nat_le HEADER_BYTES (length bytes)) (Lacks (HEADER_BYTES - length bytes))
  whole ← check (nat_le (size_in bytes) (length bytes)) (Lacks (size_in bytes - length bytes))
  Ok (parts_of bytes)

-- The answer is what the bytes are found to be, and a message has as many bytes as its size says.
abbrev pub IsFound : List ℕ → Framed → Type 0
IsFound bytes (framed.Message set command body used) =
    (found bytes ≡ Ok (record { set = set; command = command; body = body.now }))
    × (used ≡ size_in bytes)
    × (used ≤ length bytes)
IsFound bytes (framed.Need more) = found bytes ≡ Err (Lacks more)
IsFound bytes framed.BadMagic = found bytes ≡ Err OtherMagic
IsFound bytes (framed.BadSize size) = found bytes ≡ Err (SmallSize size)

-- What holds of the parts of a message, where there is one, and of the number of its bytes.
abbrev pub IfMessage : Framed → (ℕ → ℕ → List ℕ → ℕ → Type 0) → Type 0
IfMessage (framed.Message set command body used) P = P set command body.now used
IfMessage (framed.Need more) P = Unit {0}
IfMessage framed.BadMagic P = Unit {0}
IfMessage (framed.BadSize size) P = Unit {0}

-- A message that was put is found, whatever bytes follow it.
pub record IsReadBack (set command : ℕ) (body : List ℕ) : Type 0 where
  pub back : (after : List ℕ) → found (message set command body ++ after) ≡ Ok (record { set = set; command = command; body = body })
