-- What is written is read back.
use Rattle.std.proofs.Common.{◌≡◌, ℕ, suc, ◌-◌, ◌^◌, ◌<◌, ◌≤◌, true, false, not, ◌==◌, nat_lt, nat_eq, if◌then◌else◌, List, [], ◌∷◌, length, get_or, map, replicate, Option, Some, None, refl, sym, ap, ◌∙◌, arith, inl, inr}
use Rattle.std.specs.List.{list_all, join_with_byte}
use Rattle.std.specs.Cmp.Lexicographic.{pointwise}
use Rattle.std.specs.Char.{digit_value}
use Rattle.std.specs.Result.{result_ok}
use Rattle.std.proofs.lemmas.Bool.{cases_Bool, and_parts, and_from, and_right, cond-true, cond-false, eqb-true, ne_eqb, lt-ltb, not_from_false}
use Rattle.std.proofs.lemmas.List.Sums.{list_all-from_AllPass}
use Rattle.ep_model.proofs.Lists.{all_more}
use Rattle.hex.specs.Hex.{IsBytes, decode_of, decode_sized, encode_lower, encode_with, is_hex_digit}
use Rattle.hex.proofs.HexLemmas.{decode_of-encode_lower, decode_of-ok, decode_sized-encode_lower}
use Rattle.ep_defs.specs.declared.session.Rule.{Rule}
use Rattle.ep_plan.specs.Words.{colon, comma, dash_or, is_name, is_name_byte, all_in, with_first, provider_in, hex_in, number_in, id_in, payload_in, frames_in, rule_in, rule_of, rule_of_parts, id_text, payload_text, frames_text, rule_text, hex_text, number_text, parts_at}
use Rattle.ep_plan.proofs.Separated.{lacks, all_lack, lacks-join, parts_at-join, not-dash}
use Rattle.ep_plan.proofs.NumberTexts.{number_in-number_text, hex_in-hex_text, hex_text-lacks, number_text-lacks}

-- ---- names

pub provider_in-name : (name : List ℕ) → is_name name ≡ true → provider_in name ≡ Some name
unfolding provider_in
provider_in-name name good = cond-true (is_name name) (Some name) None good

name_byte-other : (separator byte : ℕ) → is_name_byte separator ≡ false → is_name_byte byte ≡ true → not (byte == separator) ≡ true
name_byte-other separator byte other good =
    not_from_false (byte == separator) (ne_eqb byte separator (λ same. cc (sym good ∙ ap is_name_byte same ∙ other)))

-- A name has no blank and no colon.
pub name-lacks : (separator : ℕ) (name : List ℕ) → is_name_byte separator ≡ false → is_name name ≡ true → lacks separator name ≡ true
name-lacks separator name other good =
    all_more is_name_byte (λ byte. not (byte == separator)) (λ byte h. name_byte-other separator byte other h) name
    (and_parts (nat_lt 0 (length name)) (list_all is_name_byte name) good).1

-- ---- bytes

-- Two digits are not `-`.
encoded-is-no-dash : (byte : ℕ) (bytes : List ℕ) → pointwise nat_eq (encode_lower (byte ∷ bytes)) (45 ∷ []) ≡ false
unfolding encode_with
encoded-is-no-dash byte bytes = and_right _ false refl

encoded-is-some : (byte : ℕ) (bytes : List ℕ) → nat_lt 0 (length (encode_lower (byte ∷ bytes))) ≡ true
unfolding encode_with
encoded-is-some byte bytes = lt-ltb 0 _ (omega arith)

hex_digit-other : (separator byte : ℕ) → is_hex_digit separator ≡ false → is_hex_digit byte ≡ true → not (byte == separator) ≡ true
hex_digit-other separator byte other good =
    not_from_false (byte == separator) (ne_eqb byte separator (λ same. cc (sym good ∙ ap is_hex_digit same ∙ other)))

-- Bytes are written in hexadecimal digits alone.
pub encoded-lacks : (separator : ℕ) (bytes : List ℕ) → is_hex_digit separator ≡ false → IsBytes bytes → lacks separator (encode_lower bytes) ≡ true
encoded-lacks separator bytes other small =
    let digits = (decode_of-ok (encode_lower bytes) bytes (decode_of-encode_lower bytes small)).1 in
    all_more is_hex_digit (λ byte. not (byte == separator)) (λ byte h. hex_digit-other separator byte other h) (encode_lower bytes)
    (list_all-from_AllPass is_hex_digit (encode_lower bytes) digits)

pub payload_in-payload_text : (payload : List ℕ) → IsBytes payload → payload_in (payload_text payload) ≡ Some payload
unfolding payload_in payload_text
payload_in-payload_text [] small = refl
payload_in-payload_text (byte ∷ bytes) small =
    let text : List ℕ = encode_lower (byte ∷ bytes) in
    cond-false (pointwise nat_eq text (45 ∷ [])) (Some []) (if nat_lt 0 (length text) then result_ok (decode_of text) else None) (encoded-is-no-dash byte bytes)
    ∙ cond-true (nat_lt 0 (length text)) (result_ok (decode_of text)) None (encoded-is-some byte bytes)
    ∙ ap result_ok (decode_of-encode_lower (byte ∷ bytes) small)

zeros : (bytes : List ℕ) → list_all (λ byte. byte == 0) bytes ≡ true → bytes ≡ replicate (length bytes) 0
zeros [] all = refl
zeros (byte ∷ bytes) all =
    let split = and_parts (byte == 0) (list_all (λ b. b == 0) bytes) all in
    ap (λ (b : ℕ). b ∷ bytes) (eqb-true byte 0 split.0) ∙ ap (λ (rest : List ℕ). 0 ∷ rest) (zeros bytes split.1)

encoded-id-is-no-dash : (id : List ℕ) → length id ≡ 16 → pointwise nat_eq (encode_lower id) (45 ∷ []) ≡ false
encoded-id-is-no-dash [] long = absurd (omega arith)
encoded-id-is-no-dash (byte ∷ bytes) long = encoded-is-no-dash byte bytes

pub id_in-id_text : (id : List ℕ) → length id ≡ 16 → IsBytes id → id_in (id_text id) ≡ Some id
unfolding id_in id_text
id_in-id_text id long small =
    let read : List ℕ → Option (List ℕ) = λ text. dash_or (replicate 16 0) (λ digits. result_ok (decode_sized digits 16)) text in
    elim (cases_Bool (list_all (λ byte. byte == 0) id)) [
      | inl zero ↦
          let same : id ≡ replicate 16 0 = zeros id zero ∙ ap (λ (n : ℕ). replicate n 0) long in
          ap read (cond-true (list_all (λ byte. byte == 0) id) (45 ∷ []) (encode_lower id) zero) ∙ ap Some (sym same)
      | inr other ↦
          ap read (cond-false (list_all (λ byte. byte == 0) id) (45 ∷ []) (encode_lower id) other)
          ∙ cond-false (pointwise nat_eq (encode_lower id) (45 ∷ [])) (Some (replicate 16 0)) (result_ok (decode_sized (encode_lower id) 16)) (encoded-id-is-no-dash id long)
          ∙ ap result_ok (decode_sized-encode_lower id 16 long small)
    ]

-- ---- frames

-- Each number is below this bound.
abbrev pub AreBelow : ℕ → List ℕ → Type 0
AreBelow bound numbers = (i : ℕ) → get_or numbers i 0 < bound

pub hex_texts-lack : (separator : ℕ) (frames : List ℕ) → 36 ≤ digit_value separator → AreBelow (2 ^ 64) frames → all_lack separator (map hex_text frames) ≡ true
hex_texts-lack separator [] high small = refl
hex_texts-lack separator (frame ∷ frames) high small =
    and_from (lacks separator (hex_text frame)) (all_lack separator (map hex_text frames))
    (hex_text-lacks separator frame high (small 0)) (hex_texts-lack separator frames high (λ i. small (suc i)))

hex_texts-read : (frames : List ℕ) → AreBelow (2 ^ 64) frames → all_in hex_in (map hex_text frames) ≡ Some frames
hex_texts-read [] small = refl
hex_texts-read (frame ∷ frames) small =
    ap (λ (first : Option ℕ). with_first first (all_in hex_in (map hex_text frames))) (hex_in-hex_text frame (small 0))
    ∙ ap (with_first (Some frame)) (hex_texts-read frames (λ i. small (suc i)))

pub frames_in-frames_text : (frames : List ℕ) → AreBelow (2 ^ 64) frames → frames_in (frames_text frames) ≡ Some frames
unfolding frames_in frames_text
frames_in-frames_text [] small = refl
frames_in-frames_text (frame ∷ frames) small =
    let text : List ℕ = join_with_byte comma (map hex_text (frame ∷ frames)) in
    let no_dash = lacks-join 45 comma (map hex_text (frame ∷ frames)) refl (hex_texts-lack 45 (frame ∷ frames) (omega arith) small) in
    cond-false (pointwise nat_eq text (45 ∷ [])) (Some []) (all_in hex_in (parts_at comma text)) (not-dash text no_dash)
    ∙ ap (all_in hex_in) (parts_at-join comma (hex_text frame) (map hex_text frames) (hex_texts-lack comma (frame ∷ frames) (omega arith) small))
    ∙ hex_texts-read (frame ∷ frames) small

-- ---- rules

pub rule_in-rule_text : (rule : Rule) → is_name rule.name ≡ true → rule.keywords < 2 ^ 64 → rule.level < 2 ^ 32 → rule_in (rule_text rule) ≡ Some rule
unfolding rule_in rule_text
rule_in-rule_text rule good keywords_fit level_fits =
    let keywords : List ℕ = hex_text rule.keywords in
    let level : List ℕ = number_text rule.level in
    let lack : all_lack colon (rule.name ∷ keywords ∷ level ∷ []) ≡ true =
    and_from (lacks colon rule.name) (all_lack colon (keywords ∷ level ∷ [])) (name-lacks colon rule.name refl good)
    (and_from (lacks colon keywords) (all_lack colon (level ∷ [])) (hex_text-lacks colon rule.keywords (omega arith) keywords_fit)
    (and_from (lacks colon level) true (number_text-lacks colon rule.level (omega arith) (omega arith)) refl)) in
    ap rule_of_parts (parts_at-join colon rule.name (keywords ∷ level ∷ []) lack)
    ∙ ap (λ (n : Option (List ℕ)). rule_of n (hex_in keywords) (number_in (2 ^ 32 - 1) level)) (provider_in-name rule.name good)
    ∙ ap (λ (k : Option ℕ). rule_of (Some rule.name) k (number_in (2 ^ 32 - 1) level)) (hex_in-hex_text rule.keywords keywords_fit)
    ∙ ap (rule_of (Some rule.name) (Some rule.keywords)) (number_in-number_text (2 ^ 32 - 1) rule.level (omega arith) (omega arith))
