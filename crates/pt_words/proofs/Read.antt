-- What the command of three positions, of which the last takes all words that are left, makes of words that are no options.
use Rattle.std.proofs.Common.{◌≡◌, ◌∙◌, ◌≤◌, ◌||◌, ℕ, true, false, List, [], ◌∷◌, length, map, Option, Some, None, is_some, option_map, refl, sym, subst, ap, ap₂, codes, nat_eq, nat_lt, le-ltb, suc, arith}
use Rattle.std.proofs.lemmas.Bool.{ne_eqb}
use Rattle.std.specs.List.{list_any, fold}
use Rattle.clap.specs.Lexer.{usize_max}
use Rattle.clap.specs.Walk.{Text, Rule, Row, Walk, walked, finished, settled, used, first_of, all_of, rows_of}
use Rattle.clap.specs.Simple.{App, Shape, built, entered, matches_of}
use Rattle.clap.specs.Faults.{walk_fault, entered_fault, settle_fault, use_fault, values_fault, defaults_fault, check_fault, fault_of, is_simple_and_free}
use Rattle.clap.specs.Kinds.{Kinds, or_else, range_kinds}
use Rattle.clap.specs.Matches.{found_of, first_value, matched_of, raw_values}
use Rattle.clap.specs.declared.error.kind.ErrorKind.TheVariants as kind
use Rattle.clap.specs.declared.parser.matches.ArgMatches.{ArgMatches}
use Rattle.clap.proofs.OnLiterals.{clap_on_literals}
use Rattle.clap.proofs.WalkLemmas.{first_value-rows, raw_values-rows}
use Rattle.pt_words.specs.Words.{is_option, has_option, SeveralTexts, several_in, several_from}
use Rattle.pt_words.specs.Commands.{several_app}
use Rattle.pt_words.specs.Matches.{IsRead}
use Rattle.pt_words.proofs.Walks.{one_rule, two_rule, rest_rule, shape_with, start, after_one, after_two, after_rest, walked-one, walked-two, walked-rest, taken-one, taken-two, taken-rest, faults-on, no-first, no-later, walked-all, taken-all}

-- The faults of a whole parse, by those of the walk and where it ends.
abbrev pub faults : App → Kinds → Walk → Kinds
faults app walking end =
    or_else walking
    (or_else (entered_fault app end.stopped)
    (or_else (settle_fault app.top.rules app.top.args_override_self end.held)
    (or_else (defaults_fault (settled app.top.rules end.held).rows app.top.rules)
    (check_fault app.top (finished app.top.rules end.held) (is_some (entered app end.stopped))))))

abbrev several_rules : List Rule
several_rules = one_rule ∷ two_rule ∷ rest_rule ∷ []

abbrev several_shape : Shape
several_shape = shape_with several_rules

-- ---- three words or more

several-first : (one : Text) (more : List Text) → is_option one ≡ false → walk_fault several_shape [] start (one ∷ more) ≡ walk_fault several_shape [] (after_one one) more
several-first one more plain = faults-on several_shape start (after_one one) one more (taken-one (two_rule ∷ rest_rule ∷ []) one plain) (walked-one (two_rule ∷ rest_rule ∷ []) one plain)

several-both : (one two : Text) (more : List Text) → is_option one ≡ false → is_option two ≡ false
    → walk_fault several_shape [] start (one ∷ two ∷ more) ≡ walk_fault several_shape [] (after_two one two) more
several-both one two more first second =
    several-first one (two ∷ more) first
    ∙ faults-on several_shape (after_one one) (after_two one two) two more (taken-two (rest_rule ∷ []) one two second) (walked-two (rest_rule ∷ []) one two second)

several-pair : (one two : Text) (more : List Text) → is_option one ≡ false → is_option two ≡ false
    → fold (walked several_rules []) start (one ∷ two ∷ more) ≡ fold (walked several_rules []) (after_two one two) more
several-pair one two more first second =
    ap (λ w. fold (walked several_rules []) (walked several_rules [] w two) more) (walked-one (two_rule ∷ rest_rule ∷ []) one first)
    ∙ ap (λ w. fold (walked several_rules []) w more) (walked-two (rest_rule ∷ []) one two second)

several-walk : (one two three : Text) (more : List Text) → has_option (one ∷ two ∷ three ∷ more) ≡ false
    → fold (walked several_rules []) start (one ∷ two ∷ three ∷ more) ≡ after_rest one two (three ∷ more)
several-walk one two three more other =
    let first : is_option one ≡ false = no-first (is_option one) (has_option (two ∷ three ∷ more)) other in
    let later : has_option (two ∷ three ∷ more) ≡ false = no-later (is_option one) (has_option (two ∷ three ∷ more)) other in
    let second : is_option two ≡ false = no-first (is_option two) (has_option (three ∷ more)) later in
    let last : has_option (three ∷ more) ≡ false = no-later (is_option two) (has_option (three ∷ more)) later in
    several-pair one two (three ∷ more) first second
    ∙ ap (λ w. fold (walked several_rules []) w more) (walked-rest one two three (no-first (is_option three) (has_option more) last))
    ∙ walked-all one two (three ∷ []) more (no-later (is_option three) (has_option more) last)

several-all : (one two three : Text) (more : List Text) → has_option (one ∷ two ∷ three ∷ more) ≡ false
    → walk_fault several_shape [] start (one ∷ two ∷ three ∷ more) ≡ []
several-all one two three more other =
    let first : is_option one ≡ false = no-first (is_option one) (has_option (two ∷ three ∷ more)) other in
    let later : has_option (two ∷ three ∷ more) ≡ false = no-later (is_option one) (has_option (two ∷ three ∷ more)) other in
    let second : is_option two ≡ false = no-first (is_option two) (has_option (three ∷ more)) later in
    let last : has_option (three ∷ more) ≡ false = no-later (is_option two) (has_option (three ∷ more)) later in
    let third : is_option three ≡ false = no-first (is_option three) (has_option more) last in
    several-both one two (three ∷ more) first second
    ∙ faults-on several_shape (after_two one two) (after_rest one two (three ∷ [])) three more (taken-rest one two three third) (walked-rest one two three third)
    ∙ taken-all one two (three ∷ []) more (no-later (is_option three) (has_option more) last)

-- Texts of any form pass.
texts-pass : (texts : List Text) → values_fault rest_rule texts ≡ []
texts-pass [] = refl
texts-pass (text ∷ texts) = texts-pass texts

-- One text or more are not too many.
range-fits : (n : ℕ) → suc n ≤ usize_max → range_kinds 1 usize_max (suc n) ≡ []
range-fits n few =
    let some : nat_eq (suc n) 0 ≡ false = ne_eqb (suc n) 0 (λ none. absurd (omega arith)) in
    let early : nat_lt (suc n) 1 ≡ false = le-ltb (suc n) 1 (omega arith) in
    let late : nat_lt usize_max (suc n) ≡ false = le-ltb usize_max (suc n) few in
    rw (some, early, late) refl

use-passes : (three : Text) (more : List Text) (rows : List Row) → suc (length more) ≤ usize_max → use_fault false rest_rule (three ∷ more) rows ≡ []
use-passes three more rows few = ap₂ or_else (range-fits (length more) few) (texts-pass (three ∷ more))

-- The faults of a whole parse that ends with these texts, by those of the use of the last position.
abbrev several_end : Text → Text → List Text → Kinds → Kinds
several_end one two rest using =
    or_else using
    (or_else (defaults_fault (settled several_rules (after_rest one two rest).held).rows several_rules)
    (check_fault several_shape (finished several_rules (after_rest one two rest).held) false))

several-end : (one two three : Text) (more : List Text) → several_end one two (three ∷ more) [] ≡ []
unfolding clap_on_literals
several-end one two three more = refl

several-taken : (one two three : Text) (more : List Text) → has_option (one ∷ two ∷ three ∷ more) ≡ false → suc (length more) ≤ usize_max → fault_of several_app (one ∷ two ∷ three ∷ more) ≡ []
several-taken one two three more other few =
    ap₂ (faults (built several_app)) (several-all one two three more other) (several-walk one two three more other)
    ∙ ap (several_end one two (three ∷ more)) (use-passes three more (used two_rule (two ∷ []) (used one_rule (one ∷ []) [])) few)
    ∙ several-end one two three more

several-none : fault_of several_app [] ≡ [] → ⊥
unfolding clap_on_literals
several-none taken = cc

several-one : (one : Text) → is_option one ≡ false → fault_of several_app (one ∷ []) ≡ [] → ⊥
unfolding clap_on_literals
several-one one first taken =
    let missing : kind.MissingRequiredArgument ∷ [] ≡ fault_of several_app (one ∷ []) =
    sym (ap₂ (faults (built several_app)) (several-first one [] first) (walked-one (two_rule ∷ rest_rule ∷ []) one first)) in
    let bad : kind.MissingRequiredArgument ∷ [] ≡ [] = missing ∙ taken in
    cc

several-two : (one two : Text) → is_option one ≡ false → is_option two ≡ false → fault_of several_app (one ∷ two ∷ []) ≡ [] → ⊥
unfolding clap_on_literals
several-two one two first second taken =
    let missing : kind.MissingRequiredArgument ∷ [] ≡ fault_of several_app (one ∷ two ∷ []) =
    sym (ap₂ (faults (built several_app)) (several-both one two [] first second) (several-pair one two [] first second)) in
    let bad : kind.MissingRequiredArgument ∷ [] ≡ [] = missing ∙ taken in
    cc

several-simple : is_simple_and_free several_app ≡ true
unfolding clap_on_literals
several-simple = refl

-- What a parse tells of all three.
abbrev pub three_in : List Row → Option SeveralTexts
three_in rows = several_from (first_of (codes "one") rows) (first_of (codes "two") rows) (all_of (codes "rest") rows)

several-found : (one two three : Text) (more : List Text) → has_option (one ∷ two ∷ three ∷ more) ≡ false
    → three_in (matches_of several_app (one ∷ two ∷ three ∷ more)) ≡ Some (record { one = one; two = two; rest = three ∷ more })
unfolding clap_on_literals
several-found one two three more other = ap (λ (w : Walk). three_in (finished several_rules w.held)) (several-walk one two three more other)

several-is : (one two three : Text) (more : List Text) → has_option (one ∷ two ∷ three ∷ more) ≡ false
    → Some (record { one = one; two = two; rest = three ∷ more }) ≡ several_in (one ∷ two ∷ three ∷ more)
several-is one two three more other = rw other refl

several-read : (words : List Text) → has_option words ≡ false → fault_of several_app words ≡ [] → three_in (matches_of several_app words) ≡ several_in words
several-read [] other taken = absurd (several-none taken)
several-read (one ∷ []) other taken = absurd (several-one one (no-first (is_option one) false other) taken)
several-read (one ∷ two ∷ []) other taken =
    let first : is_option one ≡ false = no-first (is_option one) (has_option (two ∷ [])) other in
    let second : is_option two ≡ false = no-first (is_option two) false (no-later (is_option one) (has_option (two ∷ [])) other) in
    absurd (several-two one two first second taken)
several-read (one ∷ two ∷ three ∷ more) other taken = several-found one two three more other ∙ several-is one two three more other

several-refused : (words : List Text) → has_option words ≡ false → length words ≤ usize_max → (fault_of several_app words ≡ [] → ⊥) → None ≡ several_in words
several-refused [] other few refused = refl
several-refused (one ∷ []) other few refused = refl
several-refused (one ∷ two ∷ []) other few refused = refl
several-refused (one ∷ two ∷ three ∷ more) other few refused = absurd (refused (several-taken one two three more other (omega arith)))

pub several-some : (app : App) (words : List Text) (m : ArgMatches) → app ≡ several_app → has_option words ≡ false
    → (is_simple_and_free app ≡ true → IsRead app words (Some m))
    → several_from (first_value (found_of m) (codes "one")) (first_value (found_of m) (codes "two")) (option_map raw_values (matched_of (found_of m) (codes "rest"))) ≡ several_in words
several-some app words m is other read =
    let parsed : IsRead several_app words (Some m) = subst (λ a. IsRead a words (Some m)) is (read (ap is_simple_and_free is ∙ several-simple)) in
    ap (λ a. several_from a (first_value (found_of m) (codes "two")) (option_map raw_values (matched_of (found_of m) (codes "rest")))) (first_value-rows (found_of m) (codes "one"))
    ∙ ap₂ (several_from (first_of (codes "one") (rows_of (found_of m)))) (first_value-rows (found_of m) (codes "two")) (raw_values-rows (found_of m) (codes "rest"))
    ∙ ap three_in parsed.1 ∙ several-read words other parsed.0

pub several-no : (app : App) (words : List Text) → app ≡ several_app → has_option words ≡ false → length words ≤ usize_max
    → (is_simple_and_free app ≡ true → IsRead app words None) → None ≡ several_in words
several-no app words is other few read =
    several-refused words other few (subst (λ a. IsRead a words None) is (read (ap is_simple_and_free is ∙ several-simple)))

pub several-option : (words : List Text) → has_option words ≡ true → None ≡ several_in words
several-option [] other = refl
several-option (one ∷ []) other = refl
several-option (one ∷ two ∷ []) other = refl
several-option (one ∷ two ∷ three ∷ more) other = rw other refl

-- The test over words is that over their texts.
pub has-option_map : {X : Type 0} (text : X → Text) (words : List X) → list_any (λ word. is_option (text word)) words ≡ has_option (map text words)
has-option_map text [] = refl
has-option_map text (word ∷ more) = ap (λ b. is_option (text word) || b) (has-option_map text more)
