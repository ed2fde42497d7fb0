-- Texts whose parts are separated by a byte: joined, taken apart, read and written part after part.
use Rattle.std.proofs.Common.{◌≡◌, ℕ, true, false, List, [], ◌∷◌, nat_eq, Option, Some, sym, ap, ◌∙◌, Bool, not, ◌==◌, ◌++◌, refl, ◌+◌, ◌-◌, ◌≤◌, cond, nat_lt, length, take, drop, None, arith, unwrap_or, inl, inr, Bor, ◌≢◌, ◌^◌, ◌<◌, map, get_or}
use Rattle.std.specs.Cmp.Lexicographic.{pointwise}
use Rattle.std.proofs.lemmas.Bool.{cond-true, cond-false, and_parts, and_from, and_left, not-true, not_from_false, eq-eqb, cases_Bool, ltb-true, ltb-false}
use Rattle.ep_plan.specs.Words.{dash_or, parts_at, parts_behind, comma, with_first, all_in, colon, provider_in, hex_in, number_in, code_in, rule_in, field_in, rule_of, rule_of_parts, field_of, field_of_parts, hex_text, frames_text, payload_text}
use Rattle.std.specs.List.{list_all, join_with_byte, All, position_or_len, slice_split, onto_first}
use Rattle.std.proofs.lemmas.List.Folds.{list_all-append}
use Rattle.std.proofs.lemmas.List.Sums.{AllPass-from_list_all, fails_before_first}
use Rattle.std.proofs.lemmas.List.Splits.{slice_split_none, slice_split_at, slice_split_first, slice_split-cons_yes, slice_split-cons_no}
use Rattle.std.specs.Option.{option_copied, option_map, option_map_or}
use Rattle.std.proofs.lemmas.List.{take_rest, append-nil, append_assoc, take_more, take_all, map-append}
use Rattle.hex.specs.Hex.{encode_lower}

-- ---- a word that is `-`, and one that is not

pub dash_or-dash : {A : Type 0} (nothing : A) (read : List ℕ → Option A) (word dash : List ℕ) → dash ≡ 45 ∷ [] → true ≡ pointwise nat_eq word dash → Some nothing ≡ dash_or nothing read word
dash_or-dash nothing read word dash is_dash same =
    sym (cond-true (pointwise nat_eq word (45 ∷ [])) (Some nothing) (read word) (ap (λ (d : List ℕ). pointwise nat_eq word d) (sym is_dash) ∙ sym same))

pub dash_or-other : {A : Type 0} (nothing : A) (read : List ℕ → Option A) (word dash : List ℕ) → dash ≡ 45 ∷ [] → false ≡ pointwise nat_eq word dash → read word ≡ dash_or nothing read word
dash_or-other nothing read word dash is_dash other =
    sym (cond-false (pointwise nat_eq word (45 ∷ [])) (Some nothing) (read word) (ap (λ (d : List ℕ). pointwise nat_eq word d) (sym is_dash) ∙ sym other))

-- ---- bytes that a text lacks, and the parts of a text that was joined

-- The text has no byte of this value.
abbrev pub lacks : ℕ → List ℕ → Bool
lacks separator text = list_all (λ byte. not (byte == separator)) text

-- Each of the texts lacks it.
abbrev pub all_lack : ℕ → List (List ℕ) → Bool
all_lack separator texts = list_all (λ text. lacks separator text) texts

pub lacks-append : (separator : ℕ) (front back : List ℕ) → lacks separator front ≡ true → lacks separator back ≡ true → lacks separator (front ++ back) ≡ true
lacks-append separator front back in_front in_back =
    list_all-append (λ byte. not (byte == separator)) front back ∙ and_from (lacks separator front) (lacks separator back) in_front in_back

-- What is joined by another byte lacks what the parts lack.
pub lacks-join : (separator byte : ℕ) (parts : List (List ℕ)) → (byte == separator) ≡ false → all_lack separator parts ≡ true → lacks separator (join_with_byte byte parts) ≡ true
lacks-join separator byte [] other all = refl
lacks-join separator byte (x ∷ []) other all = (and_parts (lacks separator x) true all).0
lacks-join separator byte (x ∷ y ∷ parts) other all =
    let split = and_parts (lacks separator x) (all_lack separator (y ∷ parts)) all in
    let rest = lacks-join separator byte (y ∷ parts) other split.1 in
    lacks-append separator x (byte ∷ join_with_byte byte (y ∷ parts)) split.0
    (and_from (not (byte == separator)) (lacks separator (join_with_byte byte (y ∷ parts))) (not_from_false (byte == separator) other) rest)

none-in : (separator : ℕ) (text : List ℕ) → lacks separator text ≡ true → All (λ byte. (byte == separator) ≡ false) text
none-in separator text all = λ k d within. not-true _ (AllPass-from_list_all (λ byte. not (byte == separator)) text all k d within)

-- Parts that lack the separator are the parts of the text that joins them by it.
pub parts_at-join : (separator : ℕ) (first : List ℕ) (others : List (List ℕ)) → all_lack separator (first ∷ others) ≡ true → parts_at separator (join_with_byte separator (first ∷ others)) ≡ first ∷ others
parts_at-join separator first [] all =
    slice_split_none (λ byte. byte == separator) first (none-in separator first (and_parts (lacks separator first) true all).0)
parts_at-join separator first (second ∷ others) all =
    let test : ℕ → Bool = λ byte. byte == separator in
    let split = and_parts (lacks separator first) (all_lack separator (second ∷ others)) all in
    slice_split_at test first separator (join_with_byte separator (second ∷ others)) (none-in separator first split.0) (eq-eqb separator separator refl)
    ∙ ap (λ (parts : List (List ℕ)). first ∷ parts) (parts_at-join separator second others split.1)

-- A text without a dash is not `-`.
pub not-dash : (word : List ℕ) → lacks 45 word ≡ true → pointwise nat_eq word (45 ∷ []) ≡ false
not-dash [] all = refl
not-dash (x ∷ word) all = and_left (x == 45) (pointwise nat_eq word []) (not-true (x == 45) (and_parts (not (x == 45)) (lacks 45 word) all).0)

-- ---- where the first part of a text ends

-- The place of the first separator, where there is one.
abbrev pub separator_in : ℕ → List ℕ → Option ℕ
separator_in separator text =
    cond (nat_lt (position_or_len (λ byte. byte == separator) text) (length text)) (Some (position_or_len (λ byte. byte == separator) text)) None

some-place : (b : Bool) (place end : ℕ) → cond b (Some place) None ≡ Some end → (b ≡ true) × (place ≡ end)
some-place true place end h = (refl, ap (λ (o : Option ℕ). unwrap_or o 0) h)
some-place false place end h = cc h

no-place : (b : Bool) (place : ℕ) → cond b (Some place) None ≡ None → b ≡ false
no-place true place h = cc h
no-place false place h = refl

-- A separator ends the first part.
pub parts-some : (separator : ℕ) (text : List ℕ) (end : ℕ) → separator_in separator text ≡ Some end
    → parts_at separator text ≡ take end text ∷ parts_at separator (take (length text - (end + 1)) (drop (end + 1) text))
parts-some separator text end h =
    let test : ℕ → Bool = λ byte. byte == separator in
    let found = some-place (nat_lt (position_or_len test text) (length text)) (position_or_len test text) end h in
    slice_split_first test text 0 (ltb-true (position_or_len test text) (length text) found.0)
    ∙ ap (λ (place : ℕ). take place text ∷ slice_split test (drop (place + 1) text)) found.1
    ∙ ap (λ (rest : List ℕ). take end text ∷ slice_split test rest) (sym (take_rest text (end + 1)))

-- Without a separator the text is its one part.
pub parts-none : (separator : ℕ) (text : List ℕ) → separator_in separator text ≡ None → parts_at separator text ≡ text ∷ []
parts-none separator text h =
    let test : ℕ → Bool = λ byte. byte == separator in
    let none : length text ≤ position_or_len test text =
    ltb-false (position_or_len test text) (length text) (no-place (nat_lt (position_or_len test text) (length text)) (position_or_len test text) h) in
    slice_split_none test text (λ k d within. fails_before_first test text k d (omega arith))

-- What stands after a separator is the further parts.
pub parts-further : (separator : ℕ) (text first : List ℕ) (behind : Option (Bor (List ℕ))) (rest : Bor (List ℕ)) → parts_at separator text ≡ first ∷ parts_behind separator (option_copied behind)
    → behind ≡ Some rest → parts_at separator text ≡ first ∷ parts_at separator rest.now
parts-further separator text first behind rest parts some = parts ∙ ap (λ (b : Option (Bor (List ℕ))). first ∷ parts_behind separator (option_copied b)) some

onto_first-cons : (x : ℕ) (parts : List (List ℕ)) → (p : List ℕ) × (ps : List (List ℕ)) × (onto_first x parts ≡ p ∷ ps)
onto_first-cons x [] = (x ∷ [], [], refl)
onto_first-cons x (part ∷ parts) = (x ∷ part, parts, refl)

-- A text has a part at least.
pub parts-cons : (separator : ℕ) (text : List ℕ) → (p : List ℕ) × (ps : List (List ℕ)) × (parts_at separator text ≡ p ∷ ps)
parts-cons separator [] = ([], [], refl)
parts-cons separator (x ∷ text) =
    let test : ℕ → Bool = λ byte. byte == separator in
    elim (cases_Bool (x == separator)) [
      | inl good ↦ ([], slice_split test text, slice_split-cons_yes test x text good)
      | inr bad ↦
          let first = onto_first-cons x (slice_split test text) in
          (first.0, first.1, slice_split-cons_no test x text bad ∙ first.2)
    ]

-- ---- reading the parts of a text in turn

-- What was read so far, and what the further parts spell.
abbrev pub read_and_rest : {A : Type 0} → (List ℕ → Option A) → List A → Option (Bor (List ℕ)) → Option (List A)
read_and_rest read items rest = option_map (λ more. items ++ more) (all_in read (parts_behind comma (option_copied rest)))

-- How much is still to be read.
abbrev pub size_of : Option (Bor (List ℕ)) → ℕ
size_of rest = option_map_or (λ (text : Bor (List ℕ)). length text.now + 1) rest 0

pub read_and_rest-all : {A : Type 0} (read : List ℕ → Option A) (items : List A) (rest : Option (Bor (List ℕ))) → rest ≡ None → read_and_rest read items rest ≡ Some items
read_and_rest-all read items rest none = ap (read_and_rest read items) none ∙ ap Some (append-nil items)

-- The parts of a text spell what the first and the further ones spell.
all_in-parts : {A : Type 0} (read : List ℕ → Option A) (text part : List ℕ) (behind : Option (Bor (List ℕ))) → parts_at comma text ≡ part ∷ parts_behind comma (option_copied behind)
    → all_in read (parts_at comma text) ≡ with_first (read part) (all_in read (parts_behind comma (option_copied behind)))
all_in-parts read text part behind parts = ap (all_in read) parts

further : {A : Type 0} (items : List A) (x : A) (o : Option (List A)) → option_map (λ more. items ++ more) (with_first (Some x) o) ≡ option_map (λ more. (items ++ x ∷ []) ++ more) o
further items x None = refl
further items x (Some more) = ap Some (sym (append_assoc items (x ∷ []) more))

-- A part that spells nothing ends the reading.
pub read_and_rest-bad : {A : Type 0} (read : List ℕ → Option A) (items : List A) (rest behind : Option (Bor (List ℕ))) (text : Bor (List ℕ)) (part : List ℕ) → rest ≡ Some text
    → parts_at comma text.now ≡ part ∷ parts_behind comma (option_copied behind) → read part ≡ None → read_and_rest read items rest ≡ None
read_and_rest-bad {A} read items rest behind text part some parts spells =
    let tail = all_in read (parts_behind comma (option_copied behind)) in
    ap (read_and_rest read items) some ∙ ap (λ (o : Option (List A)). option_map (λ more. items ++ more) o) (all_in-parts read text.now part behind parts)
    ∙ ap (λ (o : Option A). option_map (λ more. items ++ more) (with_first o tail)) spells

-- ---- words of several parts, of which one spells nothing

pub rule_of-keywords : (name : Option (List ℕ)) (level : Option ℕ) → rule_of name None level ≡ None
rule_of-keywords None level = refl
rule_of-keywords (Some name) level = refl

pub rule_of-level : (name : Option (List ℕ)) (keywords : Option ℕ) → rule_of name keywords None ≡ None
rule_of-level None keywords = refl
rule_of-level (Some name) None = refl
rule_of-level (Some name) (Some keywords) = refl

pub field_of-code : (name : Option (List ℕ)) → field_of name None ≡ None
field_of-code None = refl
field_of-code (Some name) = refl

-- Another count of parts spells no rule.
pub rule_of-other : (parts : List (List ℕ)) → length parts ≢ 3 → rule_of_parts parts ≡ None
rule_of-other [] other = refl
rule_of-other (a ∷ []) other = refl
rule_of-other (a ∷ b ∷ []) other = refl
rule_of-other (a ∷ b ∷ c ∷ []) other = absurd (other refl)
rule_of-other (a ∷ b ∷ c ∷ d ∷ parts) other = refl

-- Another count of parts spells no field.
pub field_of-other : (parts : List (List ℕ)) → length parts ≢ 2 → field_of_parts parts ≡ None
field_of-other [] other = refl
field_of-other (a ∷ []) other = refl
field_of-other (a ∷ b ∷ []) other = absurd (other refl)
field_of-other (a ∷ b ∷ c ∷ parts) other = refl

-- What three parts spell as a rule.
pub rule-is : (word name keywords level : List ℕ) (n : Option (List ℕ)) (k l : Option ℕ) → parts_at colon word ≡ name ∷ keywords ∷ level ∷ [] → provider_in name ≡ n → hex_in keywords ≡ k → number_in (2 ^ 32 - 1) level ≡ l → rule_in word ≡ rule_of n k l
unfolding rule_in
rule-is word name keywords level n k l parts first second third = rw (parts, first, second, third) refl

-- What two parts spell as a field.
pub field-is : (part name code : List ℕ) (n : Option (List ℕ)) (c : Option ℕ) → parts_at colon part ≡ name ∷ code ∷ [] → provider_in name ≡ n → code_in code ≡ c → field_in part ≡ field_of n c
unfolding field_in
field-is part name code n c parts first second = rw (parts, first, second) refl

-- ---- texts of several parts, part after part

-- A part more stands after a separator.
pub join-push : (c : ℕ) (x : List ℕ) (xs : List (List ℕ)) (y : List ℕ) → join_with_byte c (x ∷ (xs ++ y ∷ [])) ≡ join_with_byte c (x ∷ xs) ++ c ∷ y
join-push c x [] y = refl
join-push c x (z ∷ zs) y =
    ap (λ (rest : List ℕ). x ++ c ∷ rest) (join-push c z zs y) ∙ sym (append_assoc x (c ∷ join_with_byte c (z ∷ zs)) (c ∷ y))

-- The frames that were written, of which the first stands apart.
abbrev pub frames_so_far : List ℕ → List ℕ → ℕ → List ℕ
frames_so_far frames others count = join_with_byte comma (map hex_text (get_or frames 0 0 ∷ take count others))

pub frames_so_far-more : (frames others : List ℕ) (count : ℕ) → count < length others → frames_so_far frames others (count + 1) ≡ frames_so_far frames others count ++ comma ∷ hex_text (get_or others count 0)
frames_so_far-more frames others count within =
    let first : List ℕ = hex_text (get_or frames 0 0) in
    ap (λ (xs : List ℕ). join_with_byte comma (first ∷ map hex_text xs)) (take_more others count 0 within)
    ∙ ap (λ (xs : List (List ℕ)). join_with_byte comma (first ∷ xs)) (map-append hex_text (take count others) (get_or others count 0 ∷ []))
    ∙ join-push comma first (map hex_text (take count others)) (hex_text (get_or others count 0))

pub frames_so_far-all : (frames others : List ℕ) (first count : ℕ) → frames ≡ first ∷ others → length others ≤ count → frames_so_far frames others count ≡ frames_text frames
unfolding frames_text
frames_so_far-all frames others first count split all =
    ap (λ (xs : List ℕ). join_with_byte comma (map hex_text (get_or frames 0 0 ∷ xs))) (take_all count others all)
    ∙ ap (λ (xs : List ℕ). join_with_byte comma (map hex_text (get_or xs 0 0 ∷ others))) split
    ∙ ap frames_text (sym split)

pub frames_text-none : (frames : List ℕ) → length frames ≡ 0 → frames_text frames ≡ 45 ∷ []
unfolding frames_text
frames_text-none [] none = refl
frames_text-none (frame ∷ frames) none = absurd (omega arith)

pub payload_text-none : (payload : List ℕ) → length payload ≡ 0 → payload_text payload ≡ 45 ∷ []
unfolding payload_text
payload_text-none [] none = refl
payload_text-none (byte ∷ bytes) none = absurd (omega arith)

pub payload_text-some : (payload : List ℕ) → (length payload ≡ 0 → ⊥) → payload_text payload ≡ encode_lower payload
unfolding payload_text
payload_text-some [] some = absurd (some refl)
payload_text-some (byte ∷ bytes) some = refl
