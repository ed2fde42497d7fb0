-- How long the parts of a text are together.
use Rattle.std.proofs.Common.{◌≡◌, ◌+◌, ◌^◌, ◌<◌, ◌≤◌, ℕ, suc, Bool, ◌==◌, List, [], ◌∷◌, length, get_or, refl, ap, sym, ◌∙◌, arith, inl, inr}
use Rattle.std.specs.List.{slice_split, onto_first}
use Rattle.ep_plan.specs.Words.{colon, parts_at}
use Rattle.ep_auto.specs.Fields.{field_at}
use Rattle.std.proofs.lemmas.Bool.{cases_Bool}
use Rattle.std.proofs.lemmas.List.Splits.{slice_split-cons_yes, slice_split-cons_no}

-- The bytes of the parts, and one more for each.
pub span : List (List ℕ) → ℕ
span [] = 0
span (part ∷ parts) = length part + 1 + span parts

span-onto : (x : ℕ) (parts : List (List ℕ)) (size : ℕ) → span parts ≡ size + 1 → span (onto_first x parts) ≡ suc size + 1
unfolding span
span-onto x [] size is = absurd (omega (arith, is))
span-onto x (part ∷ parts) size is = omega (arith, is)

-- With one byte more.
one-more : (size count : ℕ) → size ≡ count + 1 → 0 + 1 + size ≡ suc count + 1
one-more size count is = omega (arith, is)

pub span-split : (test : ℕ → Bool) (text : List ℕ) → span (slice_split test text) ≡ length text + 1
unfolding span
span-split test [] = refl
span-split test (x ∷ text) =
    elim (cases_Bool (test x)) [
      | inl good ↦ ap span (slice_split-cons_yes test x text good) ∙ one-more (span (slice_split test text)) (length text) (span-split test text)
      | inr bad ↦ ap span (slice_split-cons_no test x text bad) ∙ span-onto x (slice_split test text) (length text) (span-split test text)
    ]

pub span-more : (column size : ℕ) (part : List ℕ) (parts : List (List ℕ)) → column + span (part ∷ parts) ≡ size → column + length part + 1 + span parts ≡ size
unfolding span
span-more column size part parts is = omega (arith, is)

-- A part that is left leaves room for its bytes, and a comma behind it.
pub part_fits : (column : ℕ) (text part : List ℕ) (left parts : List (List ℕ)) → left ≡ part ∷ parts → column + span left ≡ length text + 2 → length text < 2 ^ 63 → column + length part + 2 < 2 ^ 64
part_fits column text part left parts next places short =
    let more = span-more column (length text + 2) part parts (ap (λ ps. column + span ps) (sym next) ∙ places) in omega (arith, more, short)

two-within : (parts : List (List ℕ)) → 1 ≤ span parts → length (get_or parts 0 []) + length (get_or parts 1 []) + 1 ≤ span parts
unfolding span
two-within [] some = absurd (omega (arith, some))
two-within (one ∷ []) some = omega arith
two-within (one ∷ two ∷ parts) some = omega arith

-- Two fields of a part are no longer than it.
pub two-in-part : (part : List ℕ) → length (field_at 0 part) + length (field_at 1 part) ≤ length part
two-in-part part =
    let all = span-split (λ byte. byte == colon) part in
    let two = two-within (parts_at colon part) (omega (arith, all)) in
    omega (arith, all, two)
