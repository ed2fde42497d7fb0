-- The advertise message, with which a program that calls a tool says who it is (the DOTNET_IPC_V1 protocol document of
-- dotnet/diagnostics, on reverse connections).
use Rattle.std.specs.Prelude.{ℕ, Bool, ◌&&◌, not, List, [], ◌∷◌, drop, length, slice_range, nat_lt, nat_le, nat_eq, if◌then◌else◌}
use Rattle.std.specs.List.{concat, starts_with}
use Rattle.std.specs.Int.{w16, w64}
use Rattle.byteorder.specs.Endian.{little_number}
use Rattle.ep_defs.specs.declared.session.Facts.{Facts}
use Rattle.pt_num.specs.Numbers.{fixed}
use Rattle.ipc_reverse.specs.declared.limits.TheConstants.{MAGIC, COOKIE_AT, PROCESS_AT, ADVERT_BYTES}
use Rattle.ipc_reverse.specs.declared.message.TakenAdvert.{TakenAdvert}
use Rattle.ipc_reverse.specs.declared.message.TakenAdvert.TheVariants.{Advert, BadAdvert}

-- The message: the magic, the runtime cookie of 16 bytes, the process id, and two reserved bytes, which are written as 0 (the
-- same document).
abbrev pub message_of : (cookie : List ℕ) → (process_id : ℕ) → List ℕ
message_of cookie process_id = concat (MAGIC ∷ cookie ∷ fixed w64 process_id ∷ fixed w16 0 ∷ [])

-- The message of a program, by what it says of itself.
abbrev pub advert_of : Facts → List ℕ
advert_of facts = message_of facts.cookie facts.process_id

-- All bytes of the magic are there, and they are others.
abbrev pub has_other_magic : List ℕ → Bool
has_other_magic bytes = nat_le (length MAGIC) (length bytes) && not (starts_with nat_eq bytes MAGIC)

-- What the first bytes of a program that has called are found to be (that the reserved bytes may be any, and the offsets, are
-- this project's profile).
abbrev pub advert_in : List ℕ → TakenAdvert
advert_in bytes =
    if has_other_magic bytes then BadAdvert 0
    else if nat_lt (length bytes) ADVERT_BYTES then BadAdvert (length bytes)
    else Advert (slice_range bytes COOKIE_AT PROCESS_AT) (little_number 8 (drop PROCESS_AT bytes))
