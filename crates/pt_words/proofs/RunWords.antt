-- What the command of two positions and six options makes of words.
use Rattle.std.proofs.Common.{◌≡◌, ◌∙◌, true, false, List, [], ◌∷◌, Option, Some, None, option_map, refl, sym, ap, codes}
use Rattle.std.specs.Option.{option_and_then}
use Rattle.clap.specs.Walk.{Text}
use Rattle.clap.specs.Simple.{App}
use Rattle.clap.specs.Faults.{is_simple_and_free}
use Rattle.clap.specs.Matches.{found_of, first_value}
use Rattle.clap.specs.declared.parser.matches.ArgMatches.{ArgMatches}
use Rattle.clap.proofs.OnLiterals.{clap_on_literals}
use Rattle.pt_words.specs.Options.{has_foreign, Told, told_in, texts_of}
use Rattle.pt_words.specs.Trace.{at_most_one}
use Rattle.pt_words.specs.Run.{RunTexts, run_options, run_of, run_in, said}
use Rattle.pt_words.specs.RunTexts.{run_from, texts_from}
use Rattle.pt_words.specs.Commands.{run_app}
use Rattle.pt_words.specs.Matches.{IsRead}
use Rattle.pt_words.proofs.Arguments.{Command, IsCommand, is-option, is-position}
use Rattle.pt_words.proofs.Commanded.{Texts, each, both, exactly, texts_told, texts_by, twice, IsBuilt, parse-some, parse-none}
use Rattle.pt_words.proofs.OptionsTold.{foreign-told}

abbrev run : Command
run =
    record {
      positions = codes "one" ∷ codes "two" ∷ [];
      options = codes "seed" ∷ codes "wait" ∷ codes "streamers" ∷ codes "lives" ∷ codes "reverse" ∷ codes "calls" ∷ [];
    }

run-is : IsCommand run
run-is =
    record {
      options = (
        is-option run (codes "seed") refl refl refl (refl, (refl, tt)) refl (λ text. refl) (λ text. refl),
        (
          is-option run (codes "wait") refl refl refl (refl, (refl, tt)) refl (λ text. refl) (λ text. refl),
          (
            is-option run (codes "streamers") refl refl refl (refl, (refl, tt)) refl (λ text. refl) (λ text. refl),
            (
              is-option run (codes "lives") refl refl refl (refl, (refl, tt)) refl (λ text. refl) (λ text. refl),
              (
                is-option run (codes "reverse") refl refl refl (refl, (refl, tt)) refl (λ text. refl) (λ text. refl),
                (
                  is-option run (codes "calls") refl refl refl (refl, (refl, tt)) refl (λ text. refl) (λ text. refl),
                  tt,
                ),
              ),
            ),
          ),
        ),
      );
      positions = (is-position run 1 (codes "one") (codes "two" ∷ []) refl refl refl (refl, tt), (is-position run 2 (codes "two") [] refl refl refl tt, refl));
    }

-- ---- the texts of a run

abbrev run_by : List Text → List (Option Text) → Option RunTexts
run_by (threads ∷ writes ∷ []) (seed ∷ wait ∷ streamers ∷ lives ∷ reverse ∷ calls ∷ []) = texts_from (Some threads) (Some writes) seed wait streamers lives reverse calls
run_by positions texts = None

abbrev run_texts : Option Texts → Option RunTexts
run_texts texts = option_and_then (λ both. run_by both.0 both.1) texts

from-run : (a b s w k l r m : Option Text) → texts_from a b s w k l r m ≡ run_texts (option_map (λ texts. (texts, s ∷ w ∷ k ∷ l ∷ r ∷ m ∷ [])) (each (a ∷ b ∷ [])))
from-run None b s w k l r m = refl
from-run (Some a) None s w k l r m = refl
from-run (Some a) (Some b) s w k l r m = refl

found-run : (found : Text → Option Text) → run_from found ≡ run_texts (texts_by run found)
found-run found =
    from-run (found (codes "one")) (found (codes "two")) (found (codes "seed")) (found (codes "wait")) (found (codes "streamers")) (found (codes "lives"))
    (found (codes "reverse")) (found (codes "calls"))

abbrev said_by : List Text → List (Option (Option Text)) → Option RunTexts
said_by positions options = run_texts (both (option_map (λ more. more) (exactly run.positions positions)) (each options))

said-run : (s w k l r m : Option (Option Text)) (positions : List Text) → run_of s w k l r m positions ≡ said_by positions (s ∷ w ∷ k ∷ l ∷ r ∷ m ∷ [])
said-run None w k l r m positions = twice (λ both. run_by both.0 both.1) _ (None ∷ w ∷ k ∷ l ∷ r ∷ m ∷ []) refl
said-run (Some s) None k l r m positions = twice (λ both. run_by both.0 both.1) _ (Some s ∷ None ∷ k ∷ l ∷ r ∷ m ∷ []) refl
said-run (Some s) (Some w) None l r m positions = twice (λ both. run_by both.0 both.1) _ (Some s ∷ Some w ∷ None ∷ l ∷ r ∷ m ∷ []) refl
said-run (Some s) (Some w) (Some k) None r m positions = twice (λ both. run_by both.0 both.1) _ (Some s ∷ Some w ∷ Some k ∷ None ∷ r ∷ m ∷ []) refl
said-run (Some s) (Some w) (Some k) (Some l) None m positions = twice (λ both. run_by both.0 both.1) _ (Some s ∷ Some w ∷ Some k ∷ Some l ∷ None ∷ m ∷ []) refl
said-run (Some s) (Some w) (Some k) (Some l) (Some r) None positions = twice (λ both. run_by both.0 both.1) _ (Some s ∷ Some w ∷ Some k ∷ Some l ∷ Some r ∷ None ∷ []) refl
said-run (Some s) (Some w) (Some k) (Some l) (Some r) (Some m) [] = refl
said-run (Some s) (Some w) (Some k) (Some l) (Some r) (Some m) (a ∷ []) = refl
said-run (Some s) (Some w) (Some k) (Some l) (Some r) (Some m) (a ∷ b ∷ []) = refl
said-run (Some s) (Some w) (Some k) (Some l) (Some r) (Some m) (a ∷ b ∷ c ∷ more) = refl

run-told : (told : Option Told) → option_and_then said told ≡ run_texts (texts_told run told)
run-told None = refl
run-told (Some told) =
    said-run (at_most_one (texts_of (codes "--seed") told)) (at_most_one (texts_of (codes "--wait") told)) (at_most_one (texts_of (codes "--streamers") told))
    (at_most_one (texts_of (codes "--lives") told)) (at_most_one (texts_of (codes "--reverse") told)) (at_most_one (texts_of (codes "--calls") told)) told.positions

-- ---- what the parse tells

run-built : IsBuilt run run_app
unfolding clap_on_literals
run-built = record { same = refl; no_name = refl; simple = refl }

-- The matches tell the texts.
pub run-some : (app : App) (words : List Text) (m : ArgMatches) → app ≡ run_app → has_foreign run_options words ≡ false → (is_simple_and_free app ≡ true → IsRead app words (Some m))
    → run_from (first_value (found_of m)) ≡ run_in words
run-some app words m is known read =
    found-run (first_value (found_of m)) ∙ ap run_texts (parse-some run run-is run_app run-built app words m is known read) ∙ sym (run-told (told_in run_options words))

pub run-no : (app : App) (words : List Text) → app ≡ run_app → has_foreign run_options words ≡ false → (is_simple_and_free app ≡ true → IsRead app words None) → None ≡ run_in words
run-no app words is known read = ap run_texts (parse-none run run-is run_app run-built app words is known read) ∙ sym (run-told (told_in run_options words))

pub run-foreign : (words : List Text) → has_foreign run_options words ≡ true → None ≡ run_in words
run-foreign words foreign = sym (ap (option_and_then said) (foreign-told run_options words foreign))
