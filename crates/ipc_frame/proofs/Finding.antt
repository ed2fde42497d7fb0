-- What bytes are found to be, finding by finding.
use Rattle.std.proofs.Common.{◌≡◌, ℕ, ◌-◌, ◌<◌, ◌≤◌, true, false, List, length, Ok, Err, nat_le, refl, arith}
use Rattle.ipc_frame.specs.declared.limits.TheConstants.{SET_AT, HEADER_BYTES}
use Rattle.ipc_frame.specs.Message.{found, has_magic, size_in, parts_of, Lacks, OtherMagic, SmallSize}

pub le_true : (m n : ℕ) → m ≤ n → nat_le m n ≡ true
le_true m n h = grind arith

pub found-whole : (bytes : List ℕ) → has_magic bytes ≡ true → HEADER_BYTES ≤ size_in bytes → HEADER_BYTES ≤ length bytes → size_in bytes ≤ length bytes →
    found bytes ≡ Ok (parts_of bytes)
found-whole bytes e s h c =
    let t : nat_le SET_AT (length bytes) ≡ true = le_true _ _ (omega arith) in
    let u : nat_le HEADER_BYTES (size_in bytes) ≡ true = le_true _ _ (omega arith) in
    let v : nat_le HEADER_BYTES (length bytes) ≡ true = le_true _ _ (omega arith) in
    let f : nat_le (size_in bytes) (length bytes) ≡ true = le_true _ _ (omega arith) in rw (e, t, u, v, f) refl
