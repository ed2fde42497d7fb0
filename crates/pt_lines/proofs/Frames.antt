-- The addresses of a stack, put one after another.
use Rattle.std.proofs.Common.{◌≡◌, ℕ, ◌<◌, eqb, eqb-true, arith, Bool, true, false, List, [], ◌∷◌, ◌++◌, length, take, drop, refl, sym, ap, ◌∙◌, append_assoc}
use Rattle.std.specs.Prelude.{codes}
use Rattle.pt_lines.specs.Json.{AreFrames, IsStack, address_text, array, commas}
use Rattle.pt_lines.specs.Appends.{Appends}
use Rattle.pt_lines.specs.state.Nest.{after, comma}
use Rattle.std.proofs.lemmas.List.{append-nil}
use Rattle.pt_lines.proofs.Nests.{after-none, after-one}

-- Of the addresses some are put, and these bytes are left.
pub record Framing (width : ℕ) (stack old left : List ℕ) (first : Bool) (out : List ℕ) : Type 0 where
  pub text : List ℕ
  pub put : out ≡ old ++ (codes "[" ++ text)
  pub goes : (rest : List (List ℕ)) → AreFrames width left rest → (all : List (List ℕ)) × AreFrames width stack all × (text ++ after first rest ≡ commas all)

pub framing-more : (width : ℕ) (stack old left : List ℕ) (first : Bool) (out now : List ℕ) → 0 < length left → Framing width stack old left first out
    → now ≡ out ++ comma first ++ address_text (take width left) → Framing width stack old (drop width left) false now
framing-more width stack old left first out now some framing put =
    let here = address_text (take width left) in
    record {
      text = framing.text ++ (comma first ++ here);
      put = put
          ∙ append_assoc out (comma first) here
          ∙ ap (λ (xs : List ℕ). xs ++ (comma first ++ here)) framing.put
          ∙ append_assoc old (codes "[" ++ framing.text) (comma first ++ here)
          ∙ ap (λ (xs : List ℕ). old ++ xs) (append_assoc (codes "[") framing.text (comma first ++ here));
      goes = λ rest are.
          let all = framing.goes (here ∷ rest) (some, refl, are) in (
            all.0,
            all.1,
            append_assoc framing.text (comma first ++ here) (after false rest)
                ∙ ap (λ (xs : List ℕ). framing.text ++ xs) (sym (after-one first here rest))
                ∙ all.2,
          );
    }

pub framing-all : (width : ℕ) (stack old : List ℕ) (first : Bool) (out now : List ℕ) → Framing width stack old [] first out → now ≡ out ++ codes "]" → Appends (IsStack width stack) old now
framing-all width stack old first out now framing put =
    let all = framing.goes [] refl in
    let whole : framing.text ≡ commas all.0 = sym (append-nil framing.text) ∙ ap (λ (xs : List ℕ). framing.text ++ xs) (sym (after-none first)) ∙ all.2 in (
      array all.0,
      (all.0, all.1, refl),
      put
          ∙ ap (λ (xs : List ℕ). xs ++ codes "]") (framing.put ∙ ap (λ (xs : List ℕ). old ++ (codes "[" ++ xs)) whole)
          ∙ append_assoc old (codes "[" ++ commas all.0) (codes "]"),
    )

-- ---- what is left

pub not-empty : (left : List ℕ) → eqb (length left) 0 ≡ false → 0 < length left
not-empty [] e = absurd (cc)
not-empty (x ∷ left) e = omega arith

pub is-empty : (left : List ℕ) → eqb (length left) 0 ≡ true → left ≡ []
is-empty [] e = refl
is-empty (x ∷ left) e = absurd (omega (arith, eqb-true (length (x ∷ left)) 0 e))
