-- Words that are read where they stand, by a table of digits.
use Rattle.std.proofs.Common.{◌≡◌, ℕ, zero, suc, ◌+◌, ◌-◌, ◌*◌, ◌^◌, ◌<◌, ◌≤◌, Bool, true, false, ◌&&◌, ◌||◌, not, ◌==◌, nat_lt, nat_le, nat_eq, List, [], ◌∷◌, ◌++◌, length, codes, replicate, take, drop, get_or, Option, Some, None, Ok, unwrap_or, inl, inr, Bor, refl, sym, ap, ◌∙◌, subst, arith, if◌then◌else◌}
use Rattle.std.specs.Char.{digit_value, is_digit}
use Rattle.std.specs.Cmp.Lexicographic.{pointwise}
use Rattle.std.specs.Int.{is_in_range}
use Rattle.std.specs.List.{All, AllPass, list_all}
use Rattle.std.specs.Option.{option_copied}
use Rattle.std.specs.Prelude.{Result, Err, IfOk, IfSome, min}
use Rattle.std.specs.Result.{result_ok}
use Rattle.std.specs.declared.alloc.AllocError.{AllocError}
use Rattle.std.specs.Str.Parse.{digits_value}
use Rattle.std.proofs.Math.Nat.{min-le_left, min-le_right, pow-le-pow_right}
use Rattle.std.proofs.Math.Seq.{take-add}
use Rattle.std.proofs.lemmas.Bool.{and_from, and_left, and_parts, cond-true, cases_lt, lt-ltb, le-leb, leb-true, ltb-true, eqb-true, false≢true, false_from_ne_true}
use Rattle.std.proofs.lemmas.Option.{same_Some}
use Rattle.std.proofs.lemmas.Int.Digits.{digits_value_more, digits_value-lt}
use Rattle.std.proofs.lemmas.List.{append_assoc, length-take-le, take_all, take_more, take_rest, take-append-drop, drop_more}
use Rattle.std.proofs.lemmas.List.Elements.{All-append, All-head, All-push}
use Rattle.std.proofs.lemmas.List.Folds.{list_all_more}
use Rattle.std.proofs.lemmas.List.Splits.{slice_split_at, slice_split_none}
use Rattle.std.proofs.lemmas.List.Sums.{AllPass-from_list_all}
use Rattle.hex.specs.Hex.{decode_of, decode_sized, digit_or_error, hex_digit_value, is_hex_digit, pair_value}
use Rattle.hex.proofs.HexLemmas.{decode_of-ok, decode_sized-twice}
use Rattle.ep_plan.specs.declared.limits.TheConstants.{DECIMAL_DIGITS, HEX_DIGITS, ID_DIGITS}
use Rattle.ep_plan.specs.declared.words.ahead.TheConstants.{DIGITS, HIGH_DIGITS}
use Rattle.ep_plan.specs.declared.verb.Verb.{Verb}
use Rattle.ep_plan.specs.Lines.{form_of}
use Rattle.ep_plan.specs.Words.{all_in, at_most, comma, frames_in, hex_in, id_in, number_in, numeral_in, parts_at, parts_behind, payload_in, space, with_first}
use Rattle.ep_plan.specs.declared.cursor.Cursor.{Cursor}
use Rattle.ep_plan.specs.Cursor.{IsNext, IsWordOf, TookWord}
use Rattle.ep_plan.proofs.Numerals.{at_most-below, digits-from_test, numeral_in-true}
use Rattle.ep_plan.proofs.CursorWords.{took-word}
use Rattle.ep_plan.proofs.Separated.{dash_or-other}

-- ---- the table of digits

-- The table's value of each byte, 256 for most, is the byte's value as a digit, or none, which computes.
abbrev is_right : ℕ → Bool
is_right c =
    (not (nat_lt (get_or DIGITS c 0) 16) || ((unwrap_or (hex_digit_value c) 16 == get_or DIGITS c 0) && (digit_value c == get_or DIGITS c 0)))

abbrev all_below : (ℕ → Bool) → ℕ → Bool
all_below test zero = true
all_below test (suc n) = test n && all_below test n

below : (test : ℕ → Bool) (n c : ℕ) → all_below test n ≡ true → c < n → test c ≡ true
below test zero c h lt = absurd (omega arith)
below test (suc n) c h lt =
    let parts = and_parts (test n) (all_below test n) h in
    elim (cases_lt c n) [
      | inl less ↦ below test n c parts.1 less
      | inr top ↦ let e : c ≡ n = omega arith in rw e parts.0
    ]

both_right : (d : ℕ) (o : Option ℕ) (v : ℕ) → d < 16 → (not (nat_lt d 16) || ((unwrap_or o 16 == d) && (v == d))) ≡ true → (o ≡ Some d) × (v ≡ d)
both_right d o v small h =
    let parts = and_parts (unwrap_or o 16 == d) (v == d) (sym (ap (λ b. not b || ((unwrap_or o 16 == d) && (v == d))) (lt-ltb d 16 small)) ∙ h) in
    (some_is o (eqb-true (unwrap_or o 16) d parts.0), eqb-true v d parts.1)
  where
    some_is : (o : Option ℕ) → unwrap_or o 16 ≡ d → o ≡ Some d
    some_is (Some w) e = ap Some e
    some_is None e = absurd (omega (arith, e, small))

pub in_table : (c : ℕ) → c < 256 → get_or DIGITS c 0 < 16 → (hex_digit_value c ≡ Some (get_or DIGITS c 0)) × (digit_value c ≡ get_or DIGITS c 0)
in_table c byte small = both_right (get_or DIGITS c 0) (hex_digit_value c) (digit_value c) small (below is_right 256 c refl byte)

-- It is none from 16 on but 256.
abbrev is_other : ℕ → Bool
is_other c = nat_le (get_or DIGITS c 0) 256 && (not (nat_lt (get_or DIGITS c 0) 256) || nat_lt (get_or DIGITS c 0) 16)

pub digit_most : (c : ℕ) → c < 256 → get_or DIGITS c 0 ≤ 256
digit_most c byte =
    leb-true (get_or DIGITS c 0) 256 (and_parts (nat_le (get_or DIGITS c 0) 256) _ (below is_other 256 c refl byte)).0

pub digit_other : (c : ℕ) → c < 256 → get_or DIGITS c 0 < 256 → get_or DIGITS c 0 < 16
digit_other c byte small =
    let d = get_or DIGITS c 0 in
    let h = (and_parts (nat_le d 256) (not (nat_lt d 256) || nat_lt d 16) (below is_other 256 c refl byte)).1 in
    ltb-true d 16 (sym (ap (λ b. not b || nat_lt d 16) (lt-ltb d 256 small)) ∙ h)

-- The table of first digits has 16 times the value.
abbrev is_high : ℕ → Bool
is_high c =
    nat_le (get_or HIGH_DIGITS c 0) 256
    && (not (nat_lt (get_or HIGH_DIGITS c 0) 256) || (unwrap_or (hex_digit_value c) 16 * 16 == get_or HIGH_DIGITS c 0))

pub high_most : (c : ℕ) → c < 256 → get_or HIGH_DIGITS c 0 ≤ 256
high_most c byte =
    leb-true (get_or HIGH_DIGITS c 0) 256 (and_parts (nat_le (get_or HIGH_DIGITS c 0) 256) _ (below is_high 256 c refl byte)).0

times_16 : (o : Option ℕ) (d : ℕ) → d < 256 → (not (nat_lt d 256) || (unwrap_or o 16 * 16 == d)) ≡ true → (digit : ℕ) × (o ≡ Some digit) × (digit * 16 ≡ d)
times_16 o d small h = of_option o (eqb-true (unwrap_or o 16 * 16) d (sym (ap (λ b. not b || (unwrap_or o 16 * 16 == d)) (lt-ltb d 256 small)) ∙ h))
  where
    of_option : (o : Option ℕ) → unwrap_or o 16 * 16 ≡ d → (digit : ℕ) × (o ≡ Some digit) × (digit * 16 ≡ d)
    of_option (Some digit) e = (digit, refl, e)
    of_option None e = absurd (omega (arith, e, small))

pub in_high_table : (c : ℕ) → c < 256 → get_or HIGH_DIGITS c 0 < 256 → (digit : ℕ) × (hex_digit_value c ≡ Some digit) × (digit * 16 ≡ get_or HIGH_DIGITS c 0)
in_high_table c byte small = times_16 (hex_digit_value c) (get_or HIGH_DIGITS c 0) small (and_parts (nat_le (get_or HIGH_DIGITS c 0) 256) _ (below is_high 256 c refl byte)).1

-- Two digits spell a byte.
pub pair_of : (high low first second i : ℕ) → hex_digit_value high ≡ Some first → hex_digit_value low ≡ Some second → pair_value high low i ≡ Ok (first * 16 + second)
pair_of high low first second i h l =
    let a = ap (digit_or_error high i) h in
    let b = ap (digit_or_error low (i + 1)) l in
    rw (a, b) refl

-- ---- digits at the front of a text

-- One digit more.
pub record OneMore (base : ℕ) (text : List ℕ) (count digit : ℕ) : Type 0 where
  pub digits : list_all (λ digit. is_digit digit base) (take (count + 1) text) ≡ true
  pub value : digits_value base (take (count + 1) text) ≡ digits_value base (take count text) * base + digit
  pub fits : digits_value base (take (count + 1) text) < 2 ^ 64

one_more : (base places : ℕ) (text : List ℕ) (count d : ℕ) → 2 ≤ base → base ^ places ≤ 2 ^ 64 → count < places → count < length text → digit_value (get_or text count 0) ≡ d → d < base
    → list_all (λ digit. is_digit digit base) (take count text) ≡ true → OneMore base text count d
one_more base places text count d low fits few within is small all =
    let c = get_or text count 0 in
    let below : digit_value c < base = omega (arith, is, small) in
    let digits : list_all (λ digit. is_digit digit base) (take (count + 1) text) ≡ true =
    list_all_more (λ digit. is_digit digit base) text count 0 within
    ∙ and_from (list_all (λ digit. is_digit digit base) (take count text)) (is_digit c base) all (lt-ltb (digit_value c) base below) in
    let less = digits_value-lt base (take (count + 1) text) (digits-from_test base (take (count + 1) text) digits) in
    let len : length (take (count + 1) text) ≡ count + 1 = length-take-le (count + 1) text (omega arith) in
    let power : base ^ (count + 1) ≤ base ^ places = pow-le-pow_right (omega arith) (omega arith) in
    let bound : digits_value base (take (count + 1) text) < base ^ (count + 1) = subst (λ n. digits_value base (take (count + 1) text) < base ^ n) len less in
    record {
      digits = digits;
      value = digits_value_more base text count within ∙ ap (λ v. digits_value base (take count text) * base + v) is;
      fits = omega (arith, bound, power, fits);
    }

-- The same of the digit that the table gives, among so many places.
pub next_digit : (base places : ℕ) (text : List ℕ) (count most d v : ℕ) → 2 ≤ base → base ≤ 16 → base ^ places ≤ 2 ^ 64 → most ≡ min (length text) places → count < most
    → (d < 16 → (hex_digit_value (get_or text count 0) ≡ Some d) × (digit_value (get_or text count 0) ≡ d)) → v ≡ d → v < base
    → list_all (λ digit. is_digit digit base) (take count text) ≡ true → OneMore base text count v
next_digit base places text count most d v low high fits is within digit same small all =
    let few : count < places = omega (arith, is, within, min-le_right (length text) places) in
    let there : count < length text = omega (arith, is, within, min-le_left (length text) places) in
    one_more base places text count v low fits few there ((digit (omega (arith, same, small, high))).1 ∙ sym same) small all

-- Digits have none of the bytes that end or part words.
no_other : (base other : ℕ) (xs : List ℕ) → base ≤ 16 → digit_value other ≡ 36 → list_all (λ digit. is_digit digit base) xs ≡ true → All (λ byte. (byte == other) ≡ false) xs
no_other base other xs low is all k d within =
    let below = ltb-true (digit_value (get_or xs k d)) base (AllPass-from_list_all (λ digit. is_digit digit base) xs all k d within) in
    false_from_ne_true (get_or xs k d == other) (λ same. let e = ap digit_value (eqb-true (get_or xs k d) other same) in absurd (omega (arith, below, e, is, low)))

-- They are a word where a space stands behind them, or nothing.
pub digits_word : (base : ℕ) (text : List ℕ) (count : ℕ) → base ≤ 16 → 0 < count → count ≤ length text → list_all (λ digit. is_digit digit base) (take count text) ≡ true
    → (count < length text → get_or text count 0 ≡ space) → IsWordOf text count
digits_word base text count low some within all ends = record { some = some; within = within; whole = no_other base space (take count text) low refl all; ends = ends }

numeral : (base places : ℕ) (text : List ℕ) (count : ℕ) → 0 < count → count ≤ places → count ≤ length text → list_all (λ digit. is_digit digit base) (take count text) ≡ true
    → numeral_in base places (take count text) ≡ Some (digits_value base (take count text))
numeral base places text count some few within all =
    let len : length (take count text) ≡ count = length-take-le count text within in
    let range : is_in_range 1 places (length (take count text)) ≡ true =
    and_from (nat_le 1 (length (take count text))) (nat_le (length (take count text)) places) (le-leb 1 (length (take count text)) (omega (arith, len, some))) (le-leb (length (take count text)) places (omega (arith, len, few))) in
    numeral_in-true base places (take count text) (and_from (is_in_range 1 places (length (take count text))) (list_all (λ digit. is_digit digit base) (take count text)) range all)

-- They spell a decimal number.
pub decimal_ahead : (most : ℕ) (text : List ℕ) (count : ℕ) → 0 < count → count ≤ DECIMAL_DIGITS → count ≤ length text → list_all (λ digit. is_digit digit 10) (take count text) ≡ true
    → digits_value 10 (take count text) ≤ most → number_in most (take count text) ≡ Some (digits_value 10 (take count text))
unfolding number_in
decimal_ahead most text count some few within all small =
    ap (at_most most) (numeral 10 DECIMAL_DIGITS text count some few within all) ∙ at_most-below most (digits_value 10 (take count text)) small

-- ---- a word behind which a line goes on

-- The text is its first word, if nothing is behind it.
pub whole_word : (text : List ℕ) (count : ℕ) → IsWordOf text count → count ≡ length text → parts_at space text ≡ take count text ∷ []
whole_word text count word end =
    let all : take count text ≡ text = take_all count text (omega (arith, end)) in
    ap (parts_at space) (sym all) ∙ slice_split_none (λ byte. byte == space) (take count text) word.whole

-- Else what is behind the space follows.
pub first_word : (text : List ℕ) (count : ℕ) → IsWordOf text count → count < length text → parts_at space text ≡ take count text ∷ parts_at space (drop (count + 1) text)
first_word text count word more =
    let split : text ≡ take count text ++ space ∷ drop (count + 1) text =
    sym (take-append-drop count text) ∙ ap (λ rest. take count text ++ rest) (drop_more text count 0 more ∙ ap (λ byte. byte ∷ drop (count + 1) text) (word.ends more)) in
    ap (parts_at space) split ∙ slice_split_at (λ byte. byte == space) (take count text) space (drop (count + 1) text) word.whole refl

some_bytes : (text : List ℕ) (count : ℕ) → IsWordOf text count → 0 < length (take count text)
some_bytes text count word = let len = length-take-le count text word.within in omega (arith, len, word.some)

pub word_length : (text : List ℕ) (count : ℕ) → IsWordOf text count → length (take count text) ≡ count
word_length text count word = length-take-le count text word.within

-- ---- a text of digits alone

hex_no : (other : ℕ) (text : List ℕ) → is_hex_digit other ≡ false → AllPass is_hex_digit text → All (λ byte. (byte == other) ≡ false) text
hex_no other text isnt all k d within = false_from_ne_true (get_or text k d == other) (λ same. false≢true (sym isnt ∙ ap is_hex_digit (sym (eqb-true (get_or text k d) other same)) ∙ all k d within))

no_dash : (text : List ℕ) → All (λ byte. (byte == 45) ≡ false) text → pointwise nat_eq text (45 ∷ []) ≡ false
no_dash [] all = refl
no_dash (byte ∷ text) all = and_left (byte == 45) (pointwise nat_eq text []) (All-head (λ b. (b == 45) ≡ false) byte text all)

-- Pairs of digits are one word, which spells a payload.
pub digits_parts : (text bytes : List ℕ) → decode_of text ≡ Ok bytes → parts_at space text ≡ text ∷ []
digits_parts text bytes decodes = slice_split_none (λ byte. byte == space) text (hex_no space text refl (decode_of-ok text bytes decodes).1)

pub digits_payload : (text bytes : List ℕ) → 0 < length text → decode_of text ≡ Ok bytes → payload_in text ≡ Some bytes
unfolding payload_in
digits_payload text bytes some decodes =
    let read : List ℕ → Option (List ℕ) = λ digits. if nat_lt 0 (length digits) then result_ok (decode_of digits) else None in
    sym (dash_or-other [] read text (45 ∷ []) refl (sym (no_dash text (hex_no 45 text refl (decode_of-ok text bytes decodes).1))))
    ∙ cond-true (nat_lt 0 (length text)) (result_ok (decode_of text)) None (lt-ltb 0 (length text) some) ∙ ap result_ok decodes

-- 32 of them are one word too, which spells an id.
pub id_word : (text id : List ℕ) → ID_DIGITS ≤ length text → decode_of (take ID_DIGITS text) ≡ Ok id → (ID_DIGITS < length text → get_or text ID_DIGITS 0 ≡ space) → IsWordOf text ID_DIGITS
id_word text id within decodes ends =
    record { some = omega arith; within = within; whole = hex_no space (take ID_DIGITS text) refl (decode_of-ok (take ID_DIGITS text) id decodes).1; ends = ends }

pub digits_id : (digits id : List ℕ) → length digits ≡ ID_DIGITS → decode_of digits ≡ Ok id → id_in digits ≡ Some id
unfolding id_in
digits_id digits id many decodes =
    let read : List ℕ → Option (List ℕ) = λ digits. result_ok (decode_sized digits 16) in
    sym (dash_or-other (replicate 16 0) read digits (45 ∷ []) refl (sym (no_dash digits (hex_no 45 digits refl (decode_of-ok digits id decodes).1))))
    ∙ ap result_ok (decode_sized-twice digits 16 many ∙ decodes)

-- ---- return addresses

-- So many bytes of a text are whole return addresses, each with its comma.
pub record FramesSoFar (text : List ℕ) (begin : ℕ) (frames : List ℕ) : Type 0 where
  pub within : begin ≤ length text
  pub no_space : All (λ byte. (byte == space) ≡ false) (take begin text)
  pub no_dash : All (λ byte. (byte == 45) ≡ false) (take begin text)
  pub parts : List (List ℕ)
  pub split : (more : List ℕ) → parts_at comma (take begin text ++ more) ≡ parts ++ parts_at comma more
  pub read : all_in hex_in parts ≡ Some frames

all_in-push : (parts : List (List ℕ)) (part : List ℕ) (frames : List ℕ) (frame : ℕ) → all_in hex_in parts ≡ Some frames → hex_in part ≡ Some frame → all_in hex_in (parts ++ part ∷ []) ≡ Some (frames ++ frame ∷ [])
all_in-push [] part frames frame all one =
    let none : [] ≡ frames = ap (λ (o : Option (List ℕ)). unwrap_or o []) all in
    ap (λ o. with_first o (Some [])) one ∙ ap (λ fs. Some (fs ++ frame ∷ [])) none
all_in-push (x ∷ parts) part frames frame all one = push (hex_in x) (all_in hex_in parts) refl refl all (λ fs h. all_in-push parts part fs frame h one)
  where
    push : (first : Option ℕ) (rest : Option (List ℕ)) → hex_in x ≡ first → all_in hex_in parts ≡ rest → with_first first rest ≡ Some frames
        → ((fs : List ℕ) → all_in hex_in parts ≡ Some fs → all_in hex_in (parts ++ part ∷ []) ≡ Some (fs ++ frame ∷ []))
        → with_first (hex_in x) (all_in hex_in (parts ++ part ∷ [])) ≡ Some (frames ++ frame ∷ [])
    push (Some f) (Some fs) a b e more =
        let same : f ∷ fs ≡ frames = ap (λ (o : Option (List ℕ)). unwrap_or o []) e in
        let pushed = more fs b in
        rw (a, pushed) (ap (λ gs. Some (gs ++ frame ∷ [])) same)
    push (Some f) None a b e more = cc e
    push None rest a b e more = cc e

-- What is known of the digits of one return address, which begin there.
pub record OneFrame (text : List ℕ) (begin count : ℕ) (frame : ℕ) : Type 0 where
  pub some : 0 < count
  pub few : count ≤ HEX_DIGITS
  pub within : begin + count < length text
  pub digits : list_all (λ digit. is_digit digit 16) (take count (drop begin text)) ≡ true
  pub value : frame ≡ digits_value 16 (take count (drop begin text))

pub one_frame : (text : List ℕ) (begin count frame : ℕ) → 0 < count → count ≤ HEX_DIGITS → begin + count < length text
    → list_all (λ digit. is_digit digit 16) (take count (take (length text - begin) (drop begin text))) ≡ true
    → frame ≡ digits_value 16 (take count (take (length text - begin) (drop begin text))) → OneFrame text begin count frame
one_frame text begin count frame some few within digits value =
    let front = ap (take count) (take_rest text begin) in
    record { some = some; few = few; within = within; digits = ap (list_all (λ digit. is_digit digit 16)) (sym front) ∙ digits; value = value ∙ ap (digits_value 16) front }

rest_within : (xs : List ℕ) (i n : ℕ) → i + n < length xs → n ≤ length (drop i xs)
rest_within xs zero n h = omega (arith, h)
rest_within [] (suc i) n h = absurd (omega (arith, h))
rest_within (x ∷ xs) (suc i) n h = rest_within xs i n (omega (arith, h))

frame_is : (text : List ℕ) (begin count frame : ℕ) → OneFrame text begin count frame → hex_in (take count (drop begin text)) ≡ Some frame
unfolding hex_in
frame_is text begin count frame one = numeral 16 HEX_DIGITS (drop begin text) count one.some one.few (rest_within text begin count one.within) one.digits ∙ ap Some (sym one.value)

-- It ends at a comma.
pub frame_more : (text : List ℕ) (begin count : ℕ) (frames : List ℕ) (frame : ℕ) → FramesSoFar text begin frames → OneFrame text begin count frame → get_or text (begin + count) 0 ≡ comma → FramesSoFar text (begin + count + 1) (frames ++ frame ∷ [])
frame_more text begin count frames frame far one ends =
    let part : List ℕ = take count (drop begin text) in
    let front : take (begin + count) text ≡ take begin text ++ part = take-add begin count text in
    let whole : take (begin + count + 1) text ≡ (take begin text ++ part) ++ comma ∷ [] =
    take_more text (begin + count) 0 one.within ∙ ap (λ xs. xs ++ get_or text (begin + count) 0 ∷ []) front ∙ ap (λ byte. (take begin text ++ part) ++ byte ∷ []) ends in
    let lacks : (other : ℕ) → digit_value other ≡ 36 → (comma == other) ≡ false → All (λ byte. (byte == other) ≡ false) (take begin text) → All (λ byte. (byte == other) ≡ false) (take (begin + count + 1) text) =
    λ other is apart before. subst (All (λ byte. (byte == other) ≡ false)) (sym whole)
    (All-push (λ byte. (byte == other) ≡ false) (take begin text ++ part) comma (All-append (λ byte. (byte == other) ≡ false) (take begin text) part before (no_other 16 other part (omega arith) is one.digits)) apart) in
    record {
      within = omega (arith, one.within);
      no_space = lacks space refl refl far.no_space;
      no_dash = lacks 45 refl refl far.no_dash;
      parts = far.parts ++ part ∷ [];
      split = λ more.
          ap (λ xs. parts_at comma (xs ++ more)) whole
          ∙ ap (parts_at comma) (append_assoc (take begin text ++ part) (comma ∷ []) more ∙ append_assoc (take begin text) part (comma ∷ more))
          ∙ far.split (part ++ comma ∷ more)
          ∙ ap (λ ps. far.parts ++ ps) (slice_split_at (λ byte. byte == comma) part comma more (no_other 16 comma part (omega arith) refl one.digits) refl)
          ∙ sym (append_assoc far.parts (part ∷ []) (parts_at comma more));
      read = all_in-push far.parts part frames frame far.read (frame_is text begin count frame one);
    }

-- It ends at a space: then all of them are the word before it.
pub record FramesAll (text : List ℕ) (count : ℕ) (frames : List ℕ) : Type 0 where
  pub word : IsWordOf text count
  pub read : frames_in (take count text) ≡ Some frames

pub frame_last : (text : List ℕ) (begin count : ℕ) (frames : List ℕ) (frame : ℕ) → FramesSoFar text begin frames → OneFrame text begin count frame → get_or text (begin + count) 0 ≡ space → FramesAll text (begin + count) (frames ++ frame ∷ [])
unfolding frames_in
frame_last text begin count frames frame far one ends =
    let part : List ℕ = take count (drop begin text) in
    let front : take (begin + count) text ≡ take begin text ++ part = take-add begin count text in
    let lacks : (other : ℕ) → digit_value other ≡ 36 → All (λ byte. (byte == other) ≡ false) (take begin text) → All (λ byte. (byte == other) ≡ false) (take (begin + count) text) =
    λ other is before. subst (All (λ byte. (byte == other) ≡ false)) (sym front) (All-append (λ byte. (byte == other) ≡ false) (take begin text) part before (no_other 16 other part (omega arith) is one.digits)) in
    let parts : parts_at comma (take (begin + count) text) ≡ far.parts ++ part ∷ [] =
    ap (parts_at comma) front ∙ far.split part ∙ ap (λ ps. far.parts ++ ps) (slice_split_none (λ byte. byte == comma) part (no_other 16 comma part (omega arith) refl one.digits)) in
    record {
      word = record { some = omega (arith, one.some); within = omega (arith, one.within); whole = lacks space refl far.no_space; ends = λ more. ends };
      read =
          sym (dash_or-other [] (λ (word : List ℕ). all_in hex_in (parts_at comma word)) (take (begin + count) text) (45 ∷ []) refl (sym (no_dash (take (begin + count) text) (lacks 45 refl far.no_dash))))
          ∙ ap (all_in hex_in) parts ∙ all_in-push far.parts part frames frame far.read (frame_is text begin count frame one);
    }

-- ---- what a cursor has taken

pub not_empty : (word : List ℕ) → 0 < length word → (length word == 0) ≡ false
not_empty word some = false_from_ne_true (length word == 0) (λ none. let e = eqb-true (length word) 0 none in absurd (omega (arith, e, some)))

-- The frames of the next word.
pub next_frames : (cursor : Cursor) (text : Bor (List ℕ)) (frames : List ℕ) (result : Result (Option ℕ) AllocError) → cursor.rest ≡ Some text → IfOk result (λ found. IfSome found (IsWordOf text.now))
    → IfOk result (λ found. IfSome found (λ count. frames_in (take count text.now) ≡ Some frames))
    → IfOk result (λ found. IfSome found (λ count. (next : IsNext cursor count) × (frames_in (take count next.text.now) ≡ Some frames)))
next_frames cursor text frames (Ok (Some count)) is word read = (record { text = text; rest = is; word = word }, read)
next_frames cursor text frames (Ok None) is word read = tt
next_frames cursor text frames (Err error) is word read = tt

-- The verb that the next word names.
pub next_verb : (cursor : Cursor) (text : Bor (List ℕ)) (result : Option (Verb × ℕ)) → cursor.rest ≡ Some text → IfSome result (λ found. IsWordOf text.now found.1) → IfSome result (λ found. take found.1 text.now ≡ (form_of found.0).name)
    → IfSome result (λ found. (next : IsNext cursor found.1) × (take found.1 next.text.now ≡ (form_of found.0).name))
next_verb cursor text (Some found) is word name = (record { text = text; rest = is; word = word }, name)
next_verb cursor text None is word name = tt

-- The id of the next word.
pub next_id : (cursor : Cursor) (text : Bor (List ℕ)) (result : Option (List ℕ)) → cursor.rest ≡ Some text → IfSome result (λ id. IsWordOf text.now ID_DIGITS) → IfSome result (λ id. id_in (take ID_DIGITS text.now) ≡ Some id)
    → IfSome result (λ id. (next : IsNext cursor ID_DIGITS) × (id_in (take ID_DIGITS next.text.now) ≡ Some id))
next_id cursor text (Some id) is word read = (record { text = text; rest = is; word = word }, read)
next_id cursor text None is word read = tt

-- What the word `-` spells.
pub dash_id : (word : List ℕ) → word ≡ codes "-" → id_in word ≡ Some (replicate 16 0)
unfolding id_in
dash_id word dash = rw dash refl

pub dash_frames : (word : List ℕ) → word ≡ codes "-" → frames_in word ≡ Some []
unfolding frames_in
dash_frames word dash = rw dash refl

pub dash_payload : (word : List ℕ) → word ≡ codes "-" → payload_in word ≡ Some []
unfolding payload_in
dash_payload word dash = rw dash refl

-- The next word was passed over.
pub passed : (old new : Cursor) (text : Bor (List ℕ)) (count : ℕ) → new.line ≡ old.line → new.past ≡ old.past → old.rest ≡ Some text
    → (IsWordOf text.now count → parts_at space text.now ≡ take count text.now ∷ parts_behind space (option_copied new.rest))
    → (IsWordOf text.now count → IfSome new.rest (λ rest. length (take count text.now) + 1 + length rest.now ≡ length text.now))
    → (next : IsNext old count) → TookWord old new (take count next.text.now)
passed old new text count line past is cut lengths next =
    let same : text ≡ next.text = same_Some text next.text (sym is ∙ next.rest) in
    let Word : Bor (List ℕ) → Type 0 = λ t. IsWordOf t.now count in
    let word : IsWordOf text.now count = subst Word (sym same) next.word in
    let Takes : Bor (List ℕ) → Type 0 = λ t. TookWord old new (take count t.now) in
    subst Takes same (took-word old new text (take count text.now) line past is (cut word) (lengths word) (not_empty (take count text.now) (some_bytes text.now count word)))
