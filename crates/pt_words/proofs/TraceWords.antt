-- What the command of three positions and two options makes of words.
use Rattle.std.proofs.Common.{◌≡◌, ◌∙◌, ◌&&◌, ◌||◌, cond, Bool, true, false, not, List, [], ◌∷◌, Option, Some, None, option_map, refl, sym, ap, ap₂, codes}
use Rattle.std.specs.List.{list_any}
use Rattle.std.specs.Option.{option_and_then}
use Rattle.clap.specs.Walk.{Text}
use Rattle.clap.specs.Simple.{App}
use Rattle.clap.specs.Faults.{is_simple_and_free}
use Rattle.clap.specs.Matches.{found_of, first_value}
use Rattle.clap.specs.declared.parser.matches.ArgMatches.{ArgMatches}
use Rattle.clap.proofs.OnLiterals.{clap_on_literals}
use Rattle.pt_words.specs.Words.{is_option}
use Rattle.pt_words.specs.Options.{texts_of, one_by, first_by, told_in}
use Rattle.pt_words.specs.Options as any
use Rattle.pt_words.specs.Trace.{seed_option, megabytes_option, is_alone, is_attached, is_known, is_foreign, has_foreign, Told, with_position, with_seed, with_megabytes, attached_text, one_word, TraceTexts, at_most_one, trace_of, trace_in, said}
use Rattle.pt_words.specs.Trace as of
use Rattle.pt_words.specs.TraceTexts.{texts_from, trace_from}
use Rattle.pt_words.specs.Commands.{trace_app}
use Rattle.pt_words.specs.Matches.{IsRead}
use Rattle.pt_words.proofs.Arguments.{Command, IsCommand, is-option, is-position}
use Rattle.pt_words.proofs.Commanded.{Texts, each, both, exactly, texts_told, texts_in, texts_by, twice, IsBuilt, parse-some, parse-none}
use Rattle.pt_words.proofs.OptionsTold.{foreign-told}

abbrev trace : Command
trace = record { positions = codes "one" ∷ codes "two" ∷ codes "three" ∷ []; options = codes "seed" ∷ codes "mb" ∷ [] }

trace-is : IsCommand trace
trace-is =
    record {
      options = (
        is-option trace (codes "seed") refl refl refl (refl, (refl, (refl, tt))) refl (λ text. refl) (λ text. refl),
        (
          is-option trace (codes "mb") refl refl refl (refl, (refl, (refl, tt))) refl (λ text. refl) (λ text. refl),
          tt,
        ),
      );
      positions = (
        is-position trace 1 (codes "one") (codes "two" ∷ codes "three" ∷ []) refl refl refl (refl, (refl, tt)),
        (
          is-position trace 2 (codes "two") (codes "three" ∷ []) refl refl refl (refl, tt),
          (
            is-position trace 3 (codes "three") [] refl refl refl tt,
            refl,
          ),
        ),
      );
    }

-- ---- what words tell, as what they tell of any options

abbrev options : List Text
options = seed_option ∷ megabytes_option ∷ []

abbrev short : any.Told → Told
short told = record { positions = told.positions; seeds = texts_of seed_option told; megabytes = texts_of megabytes_option told }

none-either : {A B : Type 0} (f : A → B) (b : Bool) (told : Option A) → cond b None (option_map f told) ≡ option_map f (cond b None told)
none-either f true told = refl
none-either f false told = refl

seed-short : (text : Text) (told : Option any.Told) → option_map (with_seed text) (option_map short told) ≡ option_map short (option_map (any.with_option seed_option text) told)
seed-short text None = refl
seed-short text (Some told) = refl

megabytes-short : (text : Text) (told : Option any.Told) → option_map (with_megabytes text) (option_map short told) ≡ option_map short (option_map (any.with_option megabytes_option text) told)
megabytes-short text None = refl
megabytes-short text (Some told) = refl

position-short : (text : Text) (told : Option any.Told) → option_map (with_position text) (option_map short told) ≡ option_map short (option_map (any.with_position text) told)
position-short text None = refl
position-short text (Some told) = refl

-- The first of both options that it is.
abbrev of_two : Bool → Bool → Option Text
of_two is_seed is_megabytes = cond is_seed (Some seed_option) (cond is_megabytes (Some megabytes_option) None)

one-short : (a b : Bool) (word : Text) (told : Option any.Told)
    → cond a (option_map (with_seed (attached_text seed_option word)) (option_map short told))
    (cond b (option_map (with_megabytes (attached_text megabytes_option word)) (option_map short told))
    (cond (is_option word) None (option_map (with_position word) (option_map short told))))
    ≡ option_map short (one_by (of_two a b) word told)
one-short true b word told = seed-short (attached_text seed_option word) told
one-short false true word told = megabytes-short (attached_text megabytes_option word) told
one-short false false word told = ap (cond (is_option word) None) (position-short word told) ∙ none-either short (is_option word) (option_map (any.with_position word) told)

one-word-short : (word : Text) (told : Option any.Told) → one_word word (option_map short told) ≡ option_map short (any.one_word options word told)
one-word-short word told = one-short (is_attached seed_option word) (is_attached megabytes_option word) word told

first-short : (a b : Bool) (word text : Text) (behind rest : Option any.Told)
    → cond a (cond (is_option text) None (option_map (with_seed text) (option_map short behind)))
    (cond b (cond (is_option text) None (option_map (with_megabytes text) (option_map short behind))) (one_word word (option_map short rest)))
    ≡ option_map short (first_by options (of_two a b) word text behind rest)
first-short true b word text behind rest =
    ap (cond (is_option text) None) (seed-short text behind) ∙ none-either short (is_option text) (option_map (any.with_option seed_option text) behind)
first-short false true word text behind rest =
    ap (cond (is_option text) None) (megabytes-short text behind) ∙ none-either short (is_option text) (option_map (any.with_option megabytes_option text) behind)
first-short false false word text behind rest = one-word-short word rest

told-short : (words : List Text) → of.told_in words ≡ option_map short (told_in options words)
told-short [] = refl
told-short (word ∷ []) = one-word-short word (Some any.nothing)
told-short (word ∷ text ∷ words) =
    ap₂
    (λ behind rest. cond (is_alone seed_option word) (cond (is_option text) None (option_map (with_seed text) behind))
    (cond (is_alone megabytes_option word) (cond (is_option text) None (option_map (with_megabytes text) behind)) (one_word word rest)))
    (told-short words) (told-short (text ∷ words))
    ∙ first-short (is_alone seed_option word) (is_alone megabytes_option word) word text (told_in options words) (told_in options (text ∷ words))

not-either : (a b : Bool) → (not a && not b) ≡ not (a || (b || false))
not-either true b = refl
not-either false true = refl
not-either false false = refl

foreign-same : (words : List Text) → any.has_foreign options words ≡ has_foreign words
foreign-same words =
    let same : (word : Text) → is_foreign word ≡ any.is_foreign options word =
    λ word. ap (λ b. is_option word && b) (not-either (is_known seed_option word) (is_known megabytes_option word)) in
    sym (λ i. list_any (λ word. same word i) words)

-- ---- the texts of a trace

abbrev trace_by : List Text → List (Option Text) → Option TraceTexts
trace_by (threads ∷ writes ∷ text ∷ []) (seed ∷ megabytes ∷ []) = texts_from (Some threads) (Some writes) (Some text) seed megabytes
trace_by positions texts = None

abbrev trace_texts : Option Texts → Option TraceTexts
trace_texts texts = option_and_then (λ both. trace_by both.0 both.1) texts

from-trace : (a b c s m : Option Text) → texts_from a b c s m ≡ trace_texts (option_map (λ texts. (texts, s ∷ m ∷ [])) (each (a ∷ b ∷ c ∷ [])))
from-trace None b c s m = refl
from-trace (Some a) None c s m = refl
from-trace (Some a) (Some b) None s m = refl
from-trace (Some a) (Some b) (Some c) s m = refl

found-trace : (found : Text → Option Text) → trace_from found ≡ trace_texts (texts_by trace found)
found-trace found = from-trace (found (codes "one")) (found (codes "two")) (found (codes "three")) (found (codes "seed")) (found (codes "mb"))

abbrev said_by : List Text → List (Option (Option Text)) → Option TraceTexts
said_by positions options = trace_texts (both (option_map (λ more. more) (exactly trace.positions positions)) (each options))

said-trace : (s m : Option (Option Text)) (positions : List Text) → trace_of s m positions ≡ said_by positions (s ∷ m ∷ [])
said-trace None m positions = twice (λ both. trace_by both.0 both.1) _ (None ∷ m ∷ []) refl
said-trace (Some s) None positions = twice (λ both. trace_by both.0 both.1) _ (Some s ∷ None ∷ []) refl
said-trace (Some s) (Some m) [] = refl
said-trace (Some s) (Some m) (a ∷ []) = refl
said-trace (Some s) (Some m) (a ∷ b ∷ []) = refl
said-trace (Some s) (Some m) (a ∷ b ∷ c ∷ []) = refl
said-trace (Some s) (Some m) (a ∷ b ∷ c ∷ d ∷ more) = refl

trace-told : (told : Option any.Told) → option_and_then said (option_map short told) ≡ trace_texts (texts_told trace told)
trace-told None = refl
trace-told (Some told) = said-trace (at_most_one (texts_of seed_option told)) (at_most_one (texts_of megabytes_option told)) told.positions

trace-said : (words : List Text) → trace_in words ≡ trace_texts (texts_in trace words)
trace-said words = ap (option_and_then said) (told-short words) ∙ trace-told (told_in options words)

-- ---- what the parse tells

trace-built : IsBuilt trace trace_app
unfolding clap_on_literals
trace-built = record { same = refl; no_name = refl; simple = refl }

-- The matches tell the texts.
pub trace-some : (app : App) (words : List Text) (m : ArgMatches) → app ≡ trace_app → has_foreign words ≡ false → (is_simple_and_free app ≡ true → IsRead app words (Some m))
    → trace_from (first_value (found_of m)) ≡ trace_in words
trace-some app words m is known read =
    found-trace (first_value (found_of m)) ∙ ap trace_texts (parse-some trace trace-is trace_app trace-built app words m is (foreign-same words ∙ known) read) ∙ sym (trace-said words)

pub trace-no : (app : App) (words : List Text) → app ≡ trace_app → has_foreign words ≡ false → (is_simple_and_free app ≡ true → IsRead app words None) → None ≡ trace_in words
trace-no app words is known read = ap trace_texts (parse-none trace trace-is trace_app trace-built app words is (foreign-same words ∙ known) read) ∙ sym (trace-said words)

-- A word that begins with `-` and is no option of the command.
pub trace-foreign : (words : List Text) → has_foreign words ≡ true → None ≡ trace_in words
trace-foreign words foreign = sym (ap (option_and_then said) (told-short words ∙ ap (option_map short) (foreign-told options words (foreign-same words ∙ foreign))))
