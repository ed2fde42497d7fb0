-- What the commands of one position and of two make of words that are no options.
use Rattle.std.proofs.Common.{◌≡◌, ◌∙◌, ◌||◌, cond, Bool, true, false, List, [], ◌∷◌, Option, Some, None, option_map, refl, ap, codes}
use Rattle.std.proofs.Math.Bool.{and-true}
use Rattle.std.specs.List.{list_any}
use Rattle.std.specs.Option.{option_and_then, option_zip}
use Rattle.clap.specs.Walk.{Text}
use Rattle.clap.specs.Simple.{App}
use Rattle.clap.specs.Faults.{is_simple_and_free}
use Rattle.clap.specs.Matches.{found_of, first_value}
use Rattle.clap.specs.declared.parser.matches.ArgMatches.{ArgMatches}
use Rattle.clap.proofs.OnLiterals.{clap_on_literals}
use Rattle.pt_words.specs.Words.{is_option, has_option, one_in, two_in}
use Rattle.pt_words.specs.Options.{has_foreign, told_in, with_position}
use Rattle.pt_words.specs.Commands.{one_app, two_app}
use Rattle.pt_words.specs.Matches.{IsRead}
use Rattle.pt_words.proofs.Arguments.{Command, IsCommand, is-position}
use Rattle.pt_words.proofs.Commanded.{Texts, each, texts_told, texts_in, IsBuilt, parse-some, parse-none}
use Rattle.pt_words.proofs.OptionsTold.{told-plain}
use Rattle.pt_words.proofs.Walks.{no-first, no-later}

-- Where there are no options, no word that begins with no `-` is foreign, and each is a position.
none-foreign : (words : List Text) → has_option words ≡ false → has_foreign [] words ≡ false
none-foreign words other = (λ i. list_any (λ word. and-true (is_option word) i) words) ∙ other

all-told : (words : List Text) → has_option words ≡ false → told_in [] words ≡ Some (record { positions = words; options = [] })
all-told [] other = refl
all-told (word ∷ words) other =
    told-plain [] tt word words (no-first (is_option word) (has_option words) other)
    ∙ ap (option_map (with_position word)) (all-told words (no-later (is_option word) (has_option words) other))

-- ---- one word

abbrev one : Command
one = record { positions = codes "one" ∷ []; options = [] }

one-is : IsCommand one
one-is = record { options = tt; positions = (is-position one 1 (codes "one") [] refl refl refl tt, refl) }

one-built : IsBuilt one one_app
unfolding clap_on_literals
one-built = record { same = refl; no_name = refl; simple = refl }

abbrev one_of : List Text → Option Text
one_of (text ∷ []) = Some text
one_of texts = None

abbrev one_said : Option Texts → Option Text
one_said texts = option_and_then (λ both. one_of both.0) texts

one-by : (text : Option Text) → text ≡ one_said (option_map (λ texts. (texts, [])) (each (text ∷ [])))
one-by None = refl
one-by (Some text) = refl

one-told : (words : List Text) → has_option words ≡ false → one_said (texts_told one (Some (record { positions = words; options = [] }))) ≡ one_in words
one-told [] other = refl
one-told (a ∷ []) other = rw (no-first (is_option a) false other) refl
one-told (a ∷ b ∷ more) other = refl

one-texts : (words : List Text) → has_option words ≡ false → one_said (texts_in one words) ≡ one_in words
one-texts words other = ap (λ told. one_said (texts_told one told)) (all-told words other) ∙ one-told words other

-- The matches tell the text.
pub one-some : (app : App) (words : List Text) (m : ArgMatches) → app ≡ one_app → has_option words ≡ false
    → (is_simple_and_free app ≡ true → IsRead app words (Some m)) → first_value (found_of m) (codes "one") ≡ one_in words
one-some app words m is other read =
    one-by (first_value (found_of m) (codes "one")) ∙ ap one_said (parse-some one one-is one_app one-built app words m is (none-foreign words other) read) ∙ one-texts words other

pub one-no : (app : App) (words : List Text) → app ≡ one_app → has_option words ≡ false
    → (is_simple_and_free app ≡ true → IsRead app words None) → None ≡ one_in words
one-no app words is other read = ap one_said (parse-none one one-is one_app one-built app words is (none-foreign words other) read) ∙ one-texts words other

pub one-option : (words : List Text) → has_option words ≡ true → None ≡ one_in words
one-option [] other = refl
one-option (one ∷ []) other = go (is_option one) other
  where
    go : (b : Bool) → (b || false) ≡ true → None ≡ cond b None (Some one)
    go true e = refl
    go false e = cc
one-option (one ∷ two ∷ more) other = refl

-- ---- two words

abbrev two : Command
two = record { positions = codes "one" ∷ codes "two" ∷ []; options = [] }

two-is : IsCommand two
two-is =
    record {
      options = tt;
      positions = (is-position two 1 (codes "one") (codes "two" ∷ []) refl refl refl (refl, tt), (is-position two 2 (codes "two") [] refl refl refl tt, refl));
    }

two-built : IsBuilt two two_app
unfolding clap_on_literals
two-built = record { same = refl; no_name = refl; simple = refl }

abbrev two_of : List Text → Option (Text × Text)
two_of (a ∷ b ∷ []) = Some (a, b)
two_of texts = None

abbrev two_said : Option Texts → Option (Text × Text)
two_said texts = option_and_then (λ both. two_of both.0) texts

two-by : (a b : Option Text) → option_zip a b ≡ two_said (option_map (λ texts. (texts, [])) (each (a ∷ b ∷ [])))
two-by None b = refl
two-by (Some a) None = refl
two-by (Some a) (Some b) = refl

two-told : (words : List Text) → has_option words ≡ false → two_said (texts_told two (Some (record { positions = words; options = [] }))) ≡ two_in words
two-told [] other = refl
two-told (a ∷ []) other = refl
two-told (a ∷ b ∷ []) other = rw other refl
two-told (a ∷ b ∷ c ∷ more) other = refl

two-texts : (words : List Text) → has_option words ≡ false → two_said (texts_in two words) ≡ two_in words
two-texts words other = ap (λ told. two_said (texts_told two told)) (all-told words other) ∙ two-told words other

-- The matches tell both texts.
pub two-some : (app : App) (words : List Text) (m : ArgMatches) → app ≡ two_app → has_option words ≡ false
    → (is_simple_and_free app ≡ true → IsRead app words (Some m))
    → option_zip (first_value (found_of m) (codes "one")) (first_value (found_of m) (codes "two")) ≡ two_in words
two-some app words m is other read =
    two-by (first_value (found_of m) (codes "one")) (first_value (found_of m) (codes "two"))
    ∙ ap two_said (parse-some two two-is two_app two-built app words m is (none-foreign words other) read) ∙ two-texts words other

pub two-no : (app : App) (words : List Text) → app ≡ two_app → has_option words ≡ false
    → (is_simple_and_free app ≡ true → IsRead app words None) → None ≡ two_in words
two-no app words is other read = ap two_said (parse-none two two-is two_app two-built app words is (none-foreign words other) read) ∙ two-texts words other

pub two-option : (words : List Text) → has_option words ≡ true → None ≡ two_in words
two-option [] other = refl
two-option (one ∷ []) other = refl
two-option (one ∷ two ∷ []) other = rw other refl
two-option (one ∷ two ∷ three ∷ more) other = refl
