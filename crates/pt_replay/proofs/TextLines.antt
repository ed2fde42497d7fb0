-- The lines of a text.
use Rattle.std.proofs.Common.{◌≡◌, ℕ, ◌+◌, ◌-◌, ◌<◌, ◌≤◌, Some, drop, sym, length-append, Bool, true, false, not, List, [], ◌∷◌, ◌++◌, length, take, get_or, refl, ap, ◌∙◌, arith, length-take}
use Rattle.std.specs.Prelude.{IsTrue, ◌==◌, ◌≢◌}
use Rattle.std.proofs.lemmas.Bool.{and_parts, not-true, eqb-true}
use Rattle.std.proofs.lemmas.List.{get_or-take, get_or_default, take_more, take_rest, take-append-drop}
use Rattle.std.proofs.lemmas.List.Sums.{list_all-from_AllPass}
use Rattle.memchr.specs.Find.{IsFirstByte, Nowhere, Passes, is_byte}
use Rattle.pt_replay.specs.Text.{lines_of, with_byte}
use Rattle.pt_replay.specs.Reading.{is_line}

-- A line is split off at its line feed.
pub lines_of-feed : (line rest : List ℕ) → IsTrue (is_line line) → lines_of (line ++ 10 ∷ rest) ≡ line ∷ lines_of rest
lines_of-feed [] rest h = refl
lines_of-feed (b ∷ line) rest h =
    let other : (b == 10) ≡ false = not-true (b == 10) (and_parts (not (b == 10)) (is_line line) h).0 in
    rw (other, lines_of-feed line rest (and_parts (not (b == 10)) (is_line line) h).1) refl

-- The lines of bytes that begin with a part of a line begin with it.
pub record Begins (part : List ℕ) (lines : List (List ℕ)) : Type 0 where
  pub rest : List ℕ
  pub later : List (List ℕ)
  pub are : lines ≡ (part ++ rest) ∷ later

begins-one : (b : ℕ) (lines : List (List ℕ)) → Begins (b ∷ []) (with_byte b lines)
begins-one b [] = record { rest = []; later = []; are = refl }
begins-one b (line ∷ lines) = record { rest = line; later = lines; are = refl }

pub lines_of-begins : (b : ℕ) (part rest : List ℕ) → IsTrue (is_line (b ∷ part)) → Begins (b ∷ part) (lines_of (b ∷ part ++ rest))
lines_of-begins b [] rest h =
    let other : (b == 10) ≡ false = not-true (b == 10) (and_parts (not (b == 10)) true h).0 in
    rw other (begins-one b (lines_of rest))
lines_of-begins b (c ∷ part) rest h =
    let other : (b == 10) ≡ false = not-true (b == 10) (and_parts (not (b == 10)) (is_line (c ∷ part)) h).0 in
    let more = lines_of-begins c part rest (and_parts (not (b == 10)) (is_line (c ∷ part)) h).1 in
    rw other (record { rest = more.rest; later = more.later; are = ap (λ lines. with_byte b lines) more.are })

-- A last line needs no line feed.
lines_of-last : (b : ℕ) (line : List ℕ) → IsTrue (is_line (b ∷ line)) → lines_of (b ∷ line) ≡ (b ∷ line) ∷ []
lines_of-last b [] h =
    let other : (b == 10) ≡ false = not-true (b == 10) (and_parts (not (b == 10)) true h).0 in
    rw other refl
lines_of-last b (c ∷ line) h =
    let other : (b == 10) ≡ false = not-true (b == 10) (and_parts (not (b == 10)) (is_line (c ∷ line)) h).0 in
    let rest = lines_of-last c line (and_parts (not (b == 10)) (is_line (c ∷ line)) h).1 in
    rw (other, rest) refl

pub lines_of-one : (line : List ℕ) → IsTrue (is_line line) → line ≢ [] → lines_of line ≡ line ∷ []
lines_of-one [] h some = absurd (some refl)
lines_of-one (b ∷ line) h some = lines_of-last b line h

-- Before the first line feed there is none.
none-found : (b : Bool) → ¬ (b ≡ true) → not b ≡ true
none-found true found = absurd (found refl)
none-found false found = refl

pub line-before : (text : List ℕ) (k : ℕ) → k ≤ length text → Nowhere (Passes (is_byte 10) text) 0 k → IsTrue (is_line (take k text))
line-before text k within none =
    list_all-from_AllPass (λ byte. not (byte == 10)) (take k text)
    (λ j d below.
    let short : j < k = omega (arith, length-take k text) in
    let same : get_or (take k text) j d ≡ get_or text j 0 = get_or-take k text j d short ∙ get_or_default text j d 0 (omega arith) in
    ap (λ b. not (b == 10)) same ∙ none-found (get_or text j 0 == 10) (none j (omega arith) short))

-- What stands before the first line feed, the line feed and what stands behind it are the whole.
pub rest-behind : (rest : List ℕ) (end : ℕ) → IsFirstByte (is_byte 10) rest (Some end) → (take end rest ++ 10 ∷ []) ++ take (length rest - (end + 1)) (drop (end + 1) rest) ≡ rest
rest-behind rest end found =
    let feed : get_or rest end 0 ≡ 10 = eqb-true (get_or rest end 0) 10 found.1 in
    let first : take end rest ++ 10 ∷ [] ≡ take (end + 1) rest =
    sym (take_more rest end 0 found.0.high ∙ ap (λ (b : ℕ). take end rest ++ b ∷ []) feed) in
    ap (λ (t : List ℕ). t ++ take (length rest - (end + 1)) (drop (end + 1) rest)) first
    ∙ ap (λ (r : List ℕ). take (end + 1) rest ++ r) (take_rest rest (end + 1))
    ∙ take-append-drop (end + 1) rest

pub counted-behind : (rest : List ℕ) (end : ℕ) → IsFirstByte (is_byte 10) rest (Some end) → (before after most : ℕ) → before + length rest ≤ most → after ≤ before + length (take end rest) + 1
    → after + length (take (length rest - (end + 1)) (drop (end + 1) rest)) ≤ most
counted-behind rest end found before after most within counted =
    let first : List ℕ = take end rest in
    let behind : List ℕ = take (length rest - (end + 1)) (drop (end + 1) rest) in
    let sizes : length first + 1 + length behind ≡ length rest =
    sym (length-append (first ++ 10 ∷ []) behind ∙ ap (λ n. n + length behind) (length-append first (10 ∷ []))) ∙ ap length (rest-behind rest end found) in
    omega (arith, sizes, within, counted)
