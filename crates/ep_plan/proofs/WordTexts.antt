-- The text of each value is one word: it is not empty and has no space.
use Rattle.std.proofs.Common.{◌≡◌, ℕ, ◌^◌, ◌<◌, true, ◌==◌, nat_lt, List, [], ◌∷◌, length, map, refl, sym, subst, arith, inl, inr}
use Rattle.std.specs.List.{list_all, join_with_byte}
use Rattle.std.proofs.lemmas.Bool.{cases_Bool, and_parts, and_from, cond-true, cond-false, ltb-true}
use Rattle.std.proofs.lemmas.List.{length-append}
use Rattle.hex.specs.Hex.{IsBytes, encode_lower, lower_digits}
use Rattle.hex.proofs.HexLemmas.{length-encode_with}
use Rattle.ep_defs.specs.declared.session.Rule.{Rule}
use Rattle.ep_plan.specs.Words.{colon, comma, space, is_name, is_name_byte, words_of, id_text, payload_text, frames_text, rule_text, hex_text, number_text}
use Rattle.ep_plan.proofs.Separated.{lacks, all_lack, lacks-join, parts_at-join}
use Rattle.ep_plan.proofs.NumberTexts.{hex_text-lacks, number_text-lacks, hex_text-some, number_text-some}
use Rattle.ep_plan.proofs.PrintThenReadWord.{AreBelow, name-lacks, encoded-lacks, hex_texts-lack}

-- One word of a line.
pub record IsWord (text : List ℕ) : Type 0 where
  pub some : 0 < length text
  pub no_space : lacks space text ≡ true

pub IsWord-number_text : (number : ℕ) → number < 2 ^ 64 → IsWord (number_text number)
IsWord-number_text number small = record { some = number_text-some number small; no_space = number_text-lacks space number (omega arith) small }

pub IsWord-name : (name : List ℕ) → is_name name ≡ true → IsWord name
IsWord-name name good = record {
  some = ltb-true 0 (length name) (and_parts (nat_lt 0 (length name)) (list_all is_name_byte name) good).0;
  no_space = name-lacks space name refl good;
}

dash-is-word : IsWord (45 ∷ [])
dash-is-word = record { some = omega arith; no_space = refl }

encoded-is-word : (bytes : List ℕ) → 0 < length bytes → IsBytes bytes → IsWord (encode_lower bytes)
encoded-is-word bytes some small =
    let long = length-encode_with lower_digits bytes in
    record { some = omega (arith, long); no_space = encoded-lacks space bytes refl small }

pub IsWord-id_text : (id : List ℕ) → length id ≡ 16 → IsBytes id → IsWord (id_text id)
unfolding id_text
IsWord-id_text id long small =
    elim (cases_Bool (list_all (λ byte. byte == 0) id)) [
      | inl zero ↦ subst IsWord (sym (cond-true (list_all (λ byte. byte == 0) id) (45 ∷ []) (encode_lower id) zero)) dash-is-word
      | inr other ↦ subst IsWord (sym (cond-false (list_all (λ byte. byte == 0) id) (45 ∷ []) (encode_lower id) other)) (encoded-is-word id (omega arith) small)
    ]

pub IsWord-payload_text : (payload : List ℕ) → IsBytes payload → IsWord (payload_text payload)
unfolding payload_text
IsWord-payload_text [] small = dash-is-word
IsWord-payload_text (byte ∷ bytes) small = encoded-is-word (byte ∷ bytes) (omega arith) small

-- What begins with some text is some text.
some-join : (separator : ℕ) (first : List ℕ) (others : List (List ℕ)) → 0 < length first → 0 < length (join_with_byte separator (first ∷ others))
some-join separator first [] some = some
some-join separator first (second ∷ others) some =
    let long = length-append first (separator ∷ join_with_byte separator (second ∷ others)) in
    omega (arith, long)

pub IsWord-frames_text : (frames : List ℕ) → AreBelow (2 ^ 64) frames → IsWord (frames_text frames)
unfolding frames_text
IsWord-frames_text [] small = dash-is-word
IsWord-frames_text (frame ∷ frames) small = record {
  some = some-join comma (hex_text frame) (map hex_text frames) (hex_text-some frame (small 0));
  no_space = lacks-join space comma (map hex_text (frame ∷ frames)) refl (hex_texts-lack space (frame ∷ frames) (omega arith) small);
}

pub IsWord-rule_text : (rule : Rule) → is_name rule.name ≡ true → rule.keywords < 2 ^ 64 → rule.level < 2 ^ 32 → IsWord (rule_text rule)
unfolding rule_text
IsWord-rule_text rule good keywords_fit level_fits =
    let keywords : List ℕ = hex_text rule.keywords in
    let level : List ℕ = number_text rule.level in
    let lack : all_lack space (rule.name ∷ keywords ∷ level ∷ []) ≡ true =
    and_from (lacks space rule.name) (all_lack space (keywords ∷ level ∷ [])) (name-lacks space rule.name refl good)
    (and_from (lacks space keywords) (all_lack space (level ∷ [])) (hex_text-lacks space rule.keywords (omega arith) keywords_fit)
    (and_from (lacks space level) true (number_text-lacks space rule.level (omega arith) (omega arith)) refl)) in
    record {
      some = some-join colon rule.name (keywords ∷ level ∷ []) (IsWord-name rule.name good).some;
      no_space = lacks-join space colon (rule.name ∷ keywords ∷ level ∷ []) refl lack;
    }

-- Words that are joined by spaces are the words of that line.
pub words_of-join : (first : List ℕ) (others : List (List ℕ)) → all_lack space (first ∷ others) ≡ true → words_of (join_with_byte space (first ∷ others)) ≡ first ∷ others
words_of-join first others all = parts_at-join space first others all
