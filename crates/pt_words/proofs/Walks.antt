-- How the walk goes over words that are no options: the first goes to the first position, and so on.
use Rattle.std.proofs.Common.{◌≡◌, ◌∙◌, ◌||◌, Bool, true, false, List, [], ◌∷◌, ◌++◌, Some, None, refl, sym, ap, ap₂, append_assoc, codes}
use Rattle.std.specs.List.{fold}
use Rattle.std.proofs.lemmas.List.{append-nil}
use Rattle.clap.specs.Walk.{Text, Rule, Walk, idle, positional, walk_from, walked, nothing_held, used}
use Rattle.clap.specs.Simple.{Shape, new_shape, filled, with_index}
use Rattle.clap.specs.Faults.{turn_fault, walk_fault}
use Rattle.clap.specs.Kinds.{or_else}
use Rattle.clap.specs.declared.error.kind.ErrorKind.{ErrorKind}
use Rattle.clap.proofs.OnLiterals.{clap_on_literals}
use Rattle.pt_words.specs.Words.{is_option, has_option}
use Rattle.pt_words.specs.Commands.{position_rule, several_rule}

abbrev pub one_rule : Rule
one_rule = with_index 1 (filled (position_rule (codes "one")))

abbrev pub two_rule : Rule
two_rule = with_index 2 (filled (position_rule (codes "two")))

abbrev pub rest_rule : Rule
rest_rule = with_index 3 (filled several_rule)

-- The command as it is built, with these rules.
abbrev pub shape_with : List Rule → Shape
shape_with rules =
    record (new_shape (codes "words")) {
      rules = rules;
      no_binary_name = true;
      disable_help_flag = true;
      disable_version_flag = true;
      disable_help_subcommand = true;
      is_built = true;
    }

-- ---- where the walk stands

abbrev pub start : Walk
start = walk_from nothing_held

abbrev pub after_one : Text → Walk
after_one one = record {
  held = record { rows = []; pending = Some (codes "one", one ∷ []); skip = 0 };
  waiting = idle;
  position = 2;
  is_trailing = false;
  stopped = None;
}

abbrev pub after_two : Text → Text → Walk
after_two one two = record {
  held = record { rows = used one_rule (one ∷ []) []; pending = Some (codes "two", two ∷ []); skip = 0 };
  waiting = idle;
  position = 3;
  is_trailing = false;
  stopped = None;
}

abbrev pub after_rest : Text → Text → List Text → Walk
after_rest one two rest = record {
  held = record { rows = used two_rule (two ∷ []) (used one_rule (one ∷ []) []); pending = Some (codes "rest", rest); skip = 0 };
  waiting = positional;
  position = 3;
  is_trailing = false;
  stopped = None;
}

-- ---- one word

pub walked-one : (rules : List Rule) (one : Text) → is_option one ≡ false → walked (one_rule ∷ rules) [] start one ≡ after_one one
unfolding clap_on_literals
walked-one rules [] other = refl
walked-one rules (x ∷ xs) other = rw (other, other) refl

pub walked-two : (rules : List Rule) (one two : Text) → is_option two ≡ false → walked (one_rule ∷ two_rule ∷ rules) [] (after_one one) two ≡ after_two one two
unfolding clap_on_literals
walked-two rules one [] other = refl
walked-two rules one (x ∷ xs) other = rw (other, other) refl

pub walked-rest : (one two word : Text) → is_option word ≡ false → walked (one_rule ∷ two_rule ∷ rest_rule ∷ []) [] (after_two one two) word ≡ after_rest one two (word ∷ [])
unfolding clap_on_literals
walked-rest one two [] other = refl
walked-rest one two (x ∷ xs) other = rw (other, other) refl

pub walked-more : (one two : Text) (rest : List Text) (word : Text) → is_option word ≡ false → walked (one_rule ∷ two_rule ∷ rest_rule ∷ []) [] (after_rest one two rest) word ≡ after_rest one two (rest ++ word ∷ [])
unfolding clap_on_literals
walked-more one two rest [] other = refl
walked-more one two rest (x ∷ xs) other = rw (other, other) refl

-- ---- whether it is taken

pub taken-one : (rules : List Rule) (one : Text) → is_option one ≡ false → turn_fault (shape_with (one_rule ∷ rules)) [] start one ≡ []
unfolding clap_on_literals
taken-one rules [] other = refl
taken-one rules (x ∷ xs) other = rw (other, other) refl

pub taken-two : (rules : List Rule) (one two : Text) → is_option two ≡ false → turn_fault (shape_with (one_rule ∷ two_rule ∷ rules)) [] (after_one one) two ≡ []
unfolding clap_on_literals
taken-two rules one [] other = refl
taken-two rules one (x ∷ xs) other = rw (other, other) refl

pub taken-rest : (one two word : Text) → is_option word ≡ false → turn_fault (shape_with (one_rule ∷ two_rule ∷ rest_rule ∷ [])) [] (after_two one two) word ≡ []
unfolding clap_on_literals
taken-rest one two [] other = refl
taken-rest one two (x ∷ xs) other = rw (other, other) refl

pub taken-more : (one two : Text) (rest : List Text) (word : Text) → is_option word ≡ false → turn_fault (shape_with (one_rule ∷ two_rule ∷ rest_rule ∷ [])) [] (after_rest one two rest) word ≡ []
unfolding clap_on_literals
taken-more one two rest [] other = refl
taken-more one two rest (x ∷ xs) other = rw (other, other) refl

-- ---- all words

-- A word that is taken leaves the rest.
pub faults-on : (s : Shape) (w after : Walk) (word : Text) (more : List Text) → turn_fault s [] w word ≡ [] → walked s.rules [] w word ≡ after
    → walk_fault s [] w (word ∷ more) ≡ walk_fault s [] after more
unfolding walk_fault
faults-on s w after word more taken next = ap₂ (λ kinds v. or_else kinds (walk_fault s [] v more)) taken next

-- A word that is refused ends it.
pub faults-here : {k : ErrorKind} (s : Shape) (w : Walk) (word : Text) (more : List Text) → turn_fault s [] w word ≡ k ∷ []
    → walk_fault s [] w (word ∷ more) ≡ k ∷ []
unfolding walk_fault
faults-here {k} s w word more refused = ap (λ kinds. or_else kinds (walk_fault s [] (walked s.rules [] w word) more)) refused

pub no-first : (a b : Bool) → (a || b) ≡ false → a ≡ false
no-first false b other = refl
no-first true b other = other

pub no-later : (a b : Bool) → (a || b) ≡ false → b ≡ false
no-later false b other = other
no-later true false other = refl
no-later true true other = other

-- All words after the second are texts of the third position.
pub walked-all : (one two : Text) (rest more : List Text) → has_option more ≡ false
    → fold (walked (one_rule ∷ two_rule ∷ rest_rule ∷ []) []) (after_rest one two rest) more ≡ after_rest one two (rest ++ more)
walked-all one two rest [] other = ap (after_rest one two) (sym (append-nil rest))
walked-all one two rest (word ∷ more) other =
    ap (λ w. fold (walked (one_rule ∷ two_rule ∷ rest_rule ∷ []) []) w more) (walked-more one two rest word (no-first (is_option word) (has_option more) other))
    ∙ walked-all one two (rest ++ word ∷ []) more (no-later (is_option word) (has_option more) other)
    ∙ ap (after_rest one two) (append_assoc rest (word ∷ []) more)

pub taken-all : (one two : Text) (rest more : List Text) → has_option more ≡ false
    → walk_fault (shape_with (one_rule ∷ two_rule ∷ rest_rule ∷ [])) [] (after_rest one two rest) more ≡ []
unfolding walk_fault
taken-all one two rest [] other = refl
taken-all one two rest (word ∷ more) other =
    let first : is_option word ≡ false = no-first (is_option word) (has_option more) other in
    faults-on (shape_with (one_rule ∷ two_rule ∷ rest_rule ∷ [])) (after_rest one two rest) (after_rest one two (rest ++ word ∷ [])) word more (taken-more one two rest word first) (walked-more one two rest word first)
    ∙ taken-all one two (rest ++ word ∷ []) more (no-later (is_option word) (has_option more) other)
