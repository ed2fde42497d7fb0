-- The message is read back, whatever follows it; and what a link took of it is its first bytes.
use Rattle.std.proofs.Common.{◌≡◌, ℕ, ◌^◌, ◌<◌, Bool, false, List, [], ◌∷◌, ◌++◌, length, nat_lt, if◌then◌else◌, refl, ap, ap₂, ◌∙◌, arith, append_assoc, length-append, sym, take}
use Rattle.std.specs.Int.{w64}
use Rattle.std.proofs.Math.Bool.{and-false}
use Rattle.std.proofs.lemmas.List.{take_at, drop_at}
use Rattle.byteorder.specs.Endian.{little_number}
use Rattle.byteorder.specs.Numbers.{little_number-reads_back}
use Rattle.pt_num.specs.Numbers.{fixed}
use Rattle.pt_io.specs.Taken.{TookPartOf}
use Rattle.std.proofs.Math.Seq.{take-append_seam}
use Rattle.ipc_reverse.specs.Calls.{IsFirstPart}
use Rattle.ipc_reverse.specs.declared.limits.TheConstants.{MAGIC}
use Rattle.ipc_reverse.specs.declared.message.TakenAdvert.{TakenAdvert}
use Rattle.ipc_reverse.specs.declared.message.TakenAdvert.TheVariants.{Advert}
use Rattle.ipc_reverse.specs.Advert.{message_of, advert_in}

last-of : (a b : Bool) (x y z : TakenAdvert) → a ≡ false → b ≡ false → (if a then x else if b then y else z) ≡ z
last-of a b x y z first second = rw (first, second) refl

-- The parts of a message, the cookie of 16 bytes among them.
parts : (cookie : List ℕ) (process : ℕ) (after : List ℕ) → length cookie ≡ 16 → process < 2 ^ 64
    → advert_in (MAGIC ++ (cookie ++ (fixed w64 process ++ 0 ∷ 0 ∷ after))) ≡ Advert cookie process
unfolding fixed
parts cookie process after size fits =
    let rest : List ℕ = fixed w64 process ++ 0 ∷ 0 ∷ after in
    let long : nat_lt (length (MAGIC ++ (cookie ++ rest))) 34 ≡ false = grind (arith, length-append cookie rest) in
    last-of _ _ _ _ _ (and-false _) long
    ∙ ap₂ (λ c p. Advert c p) (take_at cookie rest 16 size) (ap (little_number 8) (drop_at cookie rest 16 size) ∙ little_number-reads_back 8 process (0 ∷ 0 ∷ after) fits)

pub read_back : (cookie : List ℕ) (process : ℕ) (after : List ℕ) → length cookie ≡ 16 → process < 2 ^ 64
    → advert_in (message_of cookie process ++ after) ≡ Advert cookie process
unfolding fixed
read_back cookie process after size fits =
    ap (λ (bytes : List ℕ). advert_in (MAGIC ++ bytes)) (append_assoc cookie (fixed w64 process ++ 0 ∷ 0 ∷ []) after)
    ∙ parts cookie process after size fits

-- What was taken of the message by a link that had taken nothing.
pub first_part : (taken bytes : List ℕ) → TookPartOf bytes [] taken → IsFirstPart taken bytes
first_part taken bytes (part, (rest, whole), is) =
    let same : taken ≡ part = is in
    same ∙ sym (take-append_seam part rest) ∙ ap₂ (λ n xs. take n xs) (ap length (sym same)) whole
