-- The words of rules that were read one after another.
use Rattle.std.proofs.Common.{◌≡◌, ◌≢◌, ◌⊎◌, inl, inr, ℕ, suc, ◌+◌, ◌-◌, ◌<◌, ◌≤◌, List, [], ◌∷◌, ◌++◌, length, Option, Some, None, option_map, refl, sym, ap, ◌∙◌, arith, length-append, append_assoc}
use Rattle.ep_defs.specs.declared.session.Rule.{Rule as RuleValue}
use Rattle.ep_defs.specs.declared.limits.TheConstants.{RULES}
use Rattle.ep_plan.specs.declared.cursor.Cursor.{Cursor}
use Rattle.ep_plan.specs.Lines.{more_than_one, Rule, Bad, first_bad}
use Rattle.ep_plan.specs.Words.{rule_in, all_in, with_first}
use Rattle.ep_plan.specs.Cursor.{left, column_of, bad_left, Took}
use Rattle.ep_plan.proofs.CursorWords.{is-end}

-- What the words left spell, behind the rules so far.
abbrev pub behind : List RuleValue → List (List ℕ) → Option (List RuleValue)
behind rules words = option_map (λ more. rules ++ more) (all_in rule_in words)

pub behind-none : (o : Option (List RuleValue)) → o ≡ option_map (λ more. [] ++ more) o
behind-none None = refl
behind-none (Some rules) = refl

-- One more rule.
pub behind-first : (rules : List RuleValue) (rule : RuleValue) (o : Option (List RuleValue)) → option_map (λ more. rules ++ more) (with_first (Some rule) o) ≡ option_map (λ more. (rules ++ rule ∷ []) ++ more) o
behind-first rules rule None = refl
behind-first rules rule (Some more) = ap Some (sym (append_assoc rules (rule ∷ []) more))

-- A rule was taken from the words.
pub behind-next : (start : Option (List RuleValue)) (words rest : List (List ℕ)) (before after : List RuleValue) (word : List ℕ) (rule : RuleValue) → words ≡ word ∷ rest → rule_in word ≡ Some rule → after ≡ before ++ rule ∷ [] → start ≡ behind before words → start ≡ behind after rest
behind-next start words rest before after word rule cut spelled more h =
    let read : Option RuleValue → Option (List RuleValue) = λ first. option_map (λ more. before ++ more) (with_first first (all_in rule_in rest)) in
    let as_words : behind before words ≡ behind before (word ∷ rest) = ap (behind before) cut in
    let as_rule : behind before (word ∷ rest) ≡ read (Some rule) = ap read spelled in
    let longer : List RuleValue → Option (List RuleValue) = λ rules. behind rules rest in
    h ∙ as_words ∙ as_rule ∙ behind-first before rule (all_in rule_in rest) ∙ ap longer (sym more)

-- ---- what is wrong

further : (past column more : ℕ) (words : List (List ℕ)) → words ≢ [] → first_bad past column [] (suc more) words ≡ first_bad past column (Rule ∷ []) more words
unfolding first_bad
further past column more [] some = absurd (some refl)
further past column more (word ∷ words) some = refl

-- One of the rules that may follow is the next word.
pub further-rule : (cursor : Cursor) (more : ℕ) → left cursor ≢ [] → bad_left cursor [] (suc more) ≡ bad_left cursor (Rule ∷ []) more
unfolding bad_left
further-rule cursor more some = further cursor.past (column_of cursor) more (left cursor) some

-- As many more may follow as 1,000 leaves room for.
pub room-next : (start : Option Bad) (words next : Cursor) (before after : List RuleValue) (word : List ℕ) (rule : RuleValue) → Took Rule words next word → after ≡ before ++ rule ∷ [] → length before < RULES → start ≡ bad_left words [] (RULES - length before) → start ≡ bad_left next [] (RULES - length after)
room-next start words next before after word rule took more few h =
    let some : left words ≢ [] = λ none. cc in
    let room : RULES - length before ≡ suc (more_than_one - length before) = omega arith in
    let longer : length after ≡ length before + 1 = ap length more ∙ length-append before (rule ∷ []) in
    let less : more_than_one - length before ≡ RULES - length after = omega arith in
    h ∙ ap (bad_left words []) room ∙ further-rule words (more_than_one - length before) some ∙ took.bad [] (more_than_one - length before) ∙ ap (bad_left next []) less

-- A word left over stands behind 1,000 rules.
pub room-none : (start : Option Bad) (words : Cursor) (rules : List RuleValue) (bad : Bad) → (RULES ≤ length rules) ⊎ (left words ≡ []) → start ≡ bad_left words [] (RULES - length rules) → bad_left words [] 0 ≡ Some bad → start ≡ Some bad
room-none start words rules bad (inl full) h found =
    let room : RULES - length rules ≡ 0 = omega arith in
    h ∙ ap (bad_left words []) room ∙ found
room-none start words rules bad (inr none) h found =
    let good = is-end words none 0 in
    cc
