-- Fields of a reply at their offsets.
use Rattle.std.proofs.Common.{◌≡◌, ℕ, ◌+◌, ◌-◌, ◌*◌, ◌≤◌, false, List, length, take, drop, Result, Ok, Err, nat_lt, refl, ap, sym, ◌∙◌, arith, subst, length-drop}
use Rattle.std.specs.Int.{w64}
use Rattle.std.specs.List.{slice_range}
use Rattle.pt_num.specs.Fields.{Field, fixed_at, bytes_at, text_c_at}
use Rattle.pt_num.proofs.Fronts.{number_within}
use Rattle.std.proofs.lemmas.List.{drop-drop}
use Rattle.ep_defs.specs.Text.{units_in}
use Rattle.ipc_body.specs.declared.reply.Reply.TheVariants as reply
use Rattle.ipc_body.specs.declared.reply.ReplyFault.{ReplyFault}
use Rattle.ipc_body.specs.declared.reply.ReplyFault.TheVariants as fault
use Rattle.ipc_body.specs.Reply.{Replies, placed, text_at, info_at, info_from}

-- The offset after a field.
offset-after : (whole rest : List ℕ) (at used : ℕ) → at ≤ length whole → rest ≡ drop at whole → used ≤ length rest → length whole - length (drop used rest) ≡ at + used
offset-after whole rest at used within there fits = omega (arith, length-drop used rest, length-drop at whole, ap length there)

-- A field that is there stands at its offset.
pub placed-is : {A : Type 0} (whole rest : List ℕ) (at used : ℕ) (field : Field A) (value : A) → at ≤ length whole → rest ≡ drop at whole → used ≤ length rest →
    field ≡ Ok (value, drop used rest) → placed whole at field ≡ Ok (value, at + used)
placed-is {A} whole rest at used field value within there fits e =
    rw (e, offset-after whole rest at used within there fits) refl

-- The field of the bytes from an offset on.
pub at-offset : {A : Type 0} (read : List ℕ → Field A) (whole rest : List ℕ) (at : ℕ) (r : Result (A × ℕ) ℕ) → rest ≡ drop at whole → placed whole at (read rest) ≡ r → placed whole at (read (drop at whole)) ≡ r
at-offset {A} read whole rest at r there e = subst (λ (xs : List ℕ). placed whole at (read xs) ≡ r) there e

-- A text at its offset.
pub text-is : (whole rest text : List ℕ) (at count used : ℕ) → at ≤ length whole → rest ≡ drop at whole → used ≤ length rest → 4 + 2 * count ≤ used →
    text_c_at rest ≡ Ok (units_in (take (2 * count) (drop 4 rest)), drop used rest) →
    text ≡ units_in (take (at + 4 + 2 * count - (at + 4)) (drop (at + 4) whole)) → text_at whole at ≡ Ok (text, at + used)
text-is whole rest text at count used within there fits least e t =
    let k : at + 4 + 2 * count - (at + 4) ≡ 2 * count = omega arith in
    let d : drop 4 rest ≡ drop (at + 4) whole = ap (λ (xs : List ℕ). drop 4 xs) there ∙ drop-drop 4 at whole in
    let same : text ≡ units_in (take (2 * count) (drop 4 rest)) =
    t ∙ ap (λ (m : ℕ). units_in (take m (drop (at + 4) whole))) k ∙ ap (λ (xs : List ℕ). units_in (take (2 * count) xs)) (sym d) in
    let f : text_c_at rest ≡ Ok (text, drop used rest) = e ∙ ap (λ (u : List ℕ). let r : Field (List ℕ) = Ok (u, drop used rest) in r) (sym same) in
    at-offset text_c_at whole rest at (Ok (text, at + used)) there (placed-is whole rest at used (text_c_at rest) text within there fits f)

-- What a process says of itself, up to its texts.
pub record HasFront (whole rest cookie : List ℕ) (process_id : ℕ) : Type 0 where
  pub there : rest ≡ drop 20 whole
  pub number : fixed_at w64 rest ≡ Ok (process_id, drop 8 rest)
  pub long : 44 ≤ length whole
  pub bytes : cookie ≡ slice_range whole 28 44

number-is : (whole rest cookie : List ℕ) (process_id : ℕ) → HasFront whole rest cookie process_id → placed whole 20 (fixed_at w64 (drop 20 whole)) ≡ Ok (process_id, 28)
number-is whole rest cookie process_id f =
    let l : 44 ≤ length whole = f.long in
    at-offset (fixed_at w64) whole rest 20 (Ok (process_id, 28)) f.there (placed-is whole rest 20 8 (fixed_at w64 rest) process_id (omega arith) f.there (number_within w64 rest (drop 8 rest) process_id f.number) f.number)

cookie-is : (whole rest cookie : List ℕ) (process_id : ℕ) → HasFront whole rest cookie process_id → placed whole 28 (bytes_at 16 (drop 28 whole)) ≡ Ok (cookie, 44)
cookie-is whole rest cookie process_id f =
    let l : 44 ≤ length whole = f.long in
    let t : nat_lt (length (drop 28 whole)) 16 ≡ false = let d = length-drop 28 whole in grind arith in
    let b : bytes_at 16 (drop 28 whole) ≡ Ok (cookie, drop 16 (drop 28 whole)) = rw (t, f.bytes) refl in
    placed-is whole (drop 28 whole) 28 16 (bytes_at 16 (drop 28 whole)) cookie (omega arith) refl (omega (arith, length-drop 28 whole)) b

pub info-is : (whole rest cookie command_line system arch : List ℕ) (process_id a1 a2 a3 : ℕ) → HasFront whole rest cookie process_id →
    text_at whole 44 ≡ Ok (command_line, a1) → text_at whole a1 ≡ Ok (system, a2) → text_at whole a2 ≡ Ok (arch, a3) →
    info_at whole ≡ Ok (reply.Info (info_from process_id cookie command_line system arch), a3)
info-is whole rest cookie command_line system arch process_id a1 a2 a3 f c s a =
    let n = number-is whole rest cookie process_id f in let k = cookie-is whole rest cookie process_id f in rw (n, k, c, s, a) refl

pub info-no_line : (whole rest cookie : List ℕ) (process_id at : ℕ) → HasFront whole rest cookie process_id → text_at whole 44 ≡ Err at → info_at whole ≡ Err at
info-no_line whole rest cookie process_id at f c =
    let n = number-is whole rest cookie process_id f in let k = cookie-is whole rest cookie process_id f in rw (n, k, c) refl

pub info-no_system : (whole rest cookie command_line : List ℕ) (process_id a1 at : ℕ) → HasFront whole rest cookie process_id →
    text_at whole 44 ≡ Ok (command_line, a1) → text_at whole a1 ≡ Err at → info_at whole ≡ Err at
info-no_system whole rest cookie command_line process_id a1 at f c s =
    let n = number-is whole rest cookie process_id f in let k = cookie-is whole rest cookie process_id f in rw (n, k, c, s) refl

pub info-no_arch : (whole rest cookie command_line system : List ℕ) (process_id a1 a2 at : ℕ) → HasFront whole rest cookie process_id →
    text_at whole 44 ≡ Ok (command_line, a1) → text_at whole a1 ≡ Ok (system, a2) → text_at whole a2 ≡ Err at → info_at whole ≡ Err at
info-no_arch whole rest cookie command_line system process_id a1 a2 at f c s a =
    let n = number-is whole rest cookie process_id f in let k = cookie-is whole rest cookie process_id f in rw (n, k, c, s, a) refl

-- A fault of one field is that of the whole.
pub replies-through : {A B : Type 0} (wanted : Result A ℕ) (field : Result B ℕ) (f : ReplyFault) → ((at : ℕ) → field ≡ Err at → wanted ≡ Err at) →
    Replies field (Err f) → Replies wanted (Err f)
replies-through wanted field (fault.Bad at) through e = through at e
replies-through wanted field fault.OutOfMemory through e = tt
