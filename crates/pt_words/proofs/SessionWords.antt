-- What the command of the option `--session` makes of words.
use Rattle.std.proofs.Common.{◌≡◌, ◌∙◌, ◌&&◌, ◌||◌, cond, Bool, true, false, not, List, [], ◌∷◌, Option, Some, None, option_map, refl, sym, ap, codes}
use Rattle.std.specs.List.{list_any}
use Rattle.std.specs.Option.{option_and_then}
use Rattle.clap.specs.Walk.{Text}
use Rattle.clap.specs.Simple.{App}
use Rattle.clap.specs.Faults.{is_simple_and_free}
use Rattle.clap.specs.Matches.{found_of, first_value}
use Rattle.clap.specs.declared.parser.matches.ArgMatches.{ArgMatches}
use Rattle.clap.proofs.OnLiterals.{clap_on_literals}
use Rattle.pt_words.specs.Words.{is_option}
use Rattle.pt_words.specs.Options.{Told, nothing, with_position, with_option, one_by, first_by, told_in, attached_text}
use Rattle.pt_words.specs.Options as any
use Rattle.pt_words.specs.Session.{is_alone, is_attached, is_foreign, has_foreign, session_in}
use Rattle.pt_words.specs.Commands.{session_app}
use Rattle.pt_words.specs.Matches.{IsRead}
use Rattle.pt_words.proofs.Arguments.{Command, IsCommand, is-option}
use Rattle.pt_words.proofs.Commanded.{Texts, texts_told, IsBuilt, parse-some, parse-none}
use Rattle.pt_words.proofs.OptionsTold.{foreign-told}

abbrev session : Command
session = record { positions = []; options = codes "session" ∷ [] }

session-is : IsCommand session
session-is = record { options = (is-option session (codes "session") refl refl refl tt refl (λ text. refl) (λ text. refl), tt); positions = refl }

-- ---- what words tell, as what they tell of any options

abbrev option : Text
option = codes "--session"

abbrev options : List Text
options = option ∷ []

abbrev only_one : List (Option Text) → Option (Option Text)
only_one (text ∷ []) = Some text
only_one texts = None

-- The text of the option, if the words take it.
abbrev said : Option Told → Option (Option Text)
said told = option_and_then (λ texts. only_one texts.1) (texts_told session told)

position-over : (word : Text) (told : Option Told) → said (option_map (with_position word) told) ≡ None
position-over word None = refl
position-over word (Some told) = refl

-- A word that needs no other has a text of the option or is over.
one-over : (word : Text) (told : Option Told) (b : Bool) → said (cond b None (option_map (with_position word) told)) ≡ None
one-over word told true = refl
one-over word told false = position-over word told

option-twice : (first second : Text) (told : Option Told) → said (option_map (with_option option first) (option_map (with_option option second) told)) ≡ None
option-twice first second None = refl
option-twice first second (Some told) = go told.positions
  where
    go : (positions : List Text) → said (Some (record { positions = positions; options = (option, first) ∷ (option, second) ∷ told.options })) ≡ None
    go [] = refl
    go (position ∷ positions) = refl

position-behind : (text word : Text) (told : Option Told) (b : Bool) → said (option_map (with_option option text) (cond b None (option_map (with_position word) told))) ≡ None
position-behind text word told true = refl
position-behind text word None false = refl
position-behind text word (Some told) false = refl

-- A text of the option is over before one word more.
one-behind : (text word : Text) (told : Option Told) (b : Bool) → said (option_map (with_option option text) (one_by (cond b (Some option) None) word told)) ≡ None
one-behind text word told true = option-twice text (attached_text word option) told
one-behind text word told false = position-behind text word told (is_option word)

text-behind : (text next : Text) (told : Option Told) (b : Bool) → said (option_map (with_option option text) (cond b None (option_map (with_option option next) told))) ≡ None
text-behind text next told true = refl
text-behind text next told false = option-twice text next told

more-behind : (text word : Text) (words : List Text) → said (option_map (with_option option text) (told_in options (word ∷ words))) ≡ None
more-behind text word [] = one-behind text word (Some nothing) (any.is_attached word option)
more-behind text word (next ∷ words) = go (any.is_alone word option)
  where
    go : (b : Bool)
        → said (option_map (with_option option text) (first_by options (cond b (Some option) None) word next (told_in options words) (told_in options (next ∷ words)))) ≡ None
    go true = text-behind text next (told_in options words) (is_option next)
    go false = one-behind text word (told_in options (next ∷ words)) (any.is_attached word option)

-- A first word that needs no other takes none behind it.
first-over : (word next : Text) (words : List Text) (b : Bool) → said (one_by (cond b (Some option) None) word (told_in options (next ∷ words))) ≡ None
first-over word next words true = more-behind (attached_text word option) next words
first-over word next words false = one-over word (told_in options (next ∷ words)) (is_option word)

one-text : (text : Text) (b : Bool) → cond (not b) (Some (Some text)) None ≡ said (cond b None (option_map (with_option option text) (Some nothing)))
one-text text true = refl
one-text text false = refl

more-text : (text next : Text) (words : List Text) (b : Bool) → None ≡ said (cond b None (option_map (with_option option text) (told_in options (next ∷ words))))
more-text text next words true = refl
more-text text next words false = sym (more-behind text next words)

session-told : (words : List Text) → session_in words ≡ said (told_in options words)
session-told [] = refl
session-told (word ∷ []) = go (is_attached word)
  where
    go : (b : Bool) → cond b (Some (Some (attached_text word option))) None ≡ said (one_by (cond b (Some option) None) word (Some nothing))
    go true = refl
    go false = sym (one-over word (Some nothing) (is_option word))
session-told (word ∷ text ∷ []) = go (is_alone word)
  where
    go : (b : Bool) → cond (b && not (is_option text)) (Some (Some text)) None
        ≡ said (first_by options (cond b (Some option) None) word text (Some nothing) (told_in options (text ∷ [])))
    go true = one-text text (is_option text)
    go false = sym (first-over word text [] (any.is_attached word option))
session-told (word ∷ text ∷ next ∷ words) = go (is_alone word)
  where
    go : (b : Bool) → None ≡ said (first_by options (cond b (Some option) None) word text (told_in options (next ∷ words)) (told_in options (text ∷ next ∷ words)))
    go true = more-text text next words (is_option text)
    go false = sym (first-over word text (next ∷ words) (any.is_attached word option))

not-either : (a b : Bool) → (not a && not b) ≡ not ((a || b) || false)
not-either true b = refl
not-either false true = refl
not-either false false = refl

foreign-same : (words : List Text) → any.has_foreign (option ∷ []) words ≡ has_foreign words
foreign-same words =
    let same : (word : Text) → is_foreign word ≡ any.is_foreign options word = λ word. ap (λ b. is_option word && b) (not-either (is_alone word) (is_attached word)) in
    sym (λ i. list_any (λ word. same word i) words)

-- ---- what the parse tells

session-built : IsBuilt session session_app
unfolding clap_on_literals
session-built = record { same = refl; no_name = refl; simple = refl }

-- The matches tell the text.
pub session-some : (app : App) (words : List Text) (m : ArgMatches) → app ≡ session_app → has_foreign words ≡ false
    → (is_simple_and_free app ≡ true → IsRead app words (Some m)) → Some (first_value (found_of m) (codes "session")) ≡ session_in words
session-some app words m is known read =
    ap (option_and_then (λ (texts : Texts). only_one texts.1)) (parse-some session session-is session_app session-built app words m is (foreign-same words ∙ known) read)
    ∙ sym (session-told words)

pub session-no : (app : App) (words : List Text) → app ≡ session_app → has_foreign words ≡ false
    → (is_simple_and_free app ≡ true → IsRead app words None) → None ≡ session_in words
session-no app words is known read =
    ap (option_and_then (λ (texts : Texts). only_one texts.1)) (parse-none session session-is session_app session-built app words is (foreign-same words ∙ known) read)
    ∙ sym (session-told words)

-- A word begins with `-` and is not the option.
pub session-foreign : (words : List Text) → has_foreign words ≡ true → None ≡ session_in words
session-foreign words foreign = sym (session-told words ∙ ap said (foreign-told options words (foreign-same words ∙ foreign)))
