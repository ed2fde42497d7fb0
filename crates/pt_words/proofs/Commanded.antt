-- What a command of positions and options makes of words.
use Rattle.std.proofs.Common.{◌≡◌, ◌∙◌, ◌+◌, ◌⊎◌, inl, inr, ◌&&◌, ◌||◌, cond, Bool, true, false, not, ℕ, List, [], ◌∷◌, ◌++◌, drop, filter, length, map, Option, Some, None, is_some, option_map, refl, sym, subst, ap, ap₂, append_assoc, true≢false}
use Rattle.std.proofs.lemmas.List.{append-nil}
use Rattle.std.proofs.lemmas.Slice.Eq.{bytes_eq-Decides}
use Rattle.std.proofs.Math.Bool.{or-true}
use Rattle.std.specs.List.{list_any}
use Rattle.std.specs.Option.{option_and_then}
use Rattle.std.specs.Str.{bytes_eq}
use Rattle.clap.specs.Walk.{Text, Row, Held, Waiting, idle, option, nothing_held, finished, first_of, has_row, rows_after}
use Rattle.clap.specs.Simple.{App, built, argument_words, matches_of, names_of}
use Rattle.clap.specs.Faults.{walk_fault, turn_fault, settle_fault, use_fault, defaults_fault, built_fault, fault_of, is_simple_and_free}
use Rattle.clap.specs.Takes.{is_given}
use Rattle.clap.specs.Kinds.{Kinds, or_else, check_kinds}
use Rattle.clap.specs.Matches.{found_of, first_value}
use Rattle.clap.specs.declared.error.kind.ErrorKind.{ErrorKind}
use Rattle.clap.specs.declared.error.kind.ErrorKind.TheVariants as kind
use Rattle.clap.specs.declared.parser.matches.ArgMatches.{ArgMatches}
use Rattle.clap.proofs.WalkLemmas.{first_value-rows}
use Rattle.pt_words.specs.Words.{is_option}
use Rattle.pt_words.specs.Options.{is_alone, is_attached, is_known, is_foreign, has_foreign, Told, nothing, one_by, one_word, first_by, told_in, texts_of}
use Rattle.pt_words.specs.Options.{with_option as option_told, with_position as position_told}
use Rattle.pt_words.specs.Trace.{at_most_one}
use Rattle.pt_words.specs.Matches.{IsRead}
use Rattle.pt_words.proofs.Walks.{start, no-first, no-later}
use Rattle.pt_words.proofs.Answering.{Reading, Answers, ended, is-taken, is-refused, step, here}
use Rattle.pt_words.proofs.Arguments.{Command, rules, rules_from, shape, alone, attached, dashed, option_ruled, Apart, IsOption, AreOptionsOf, ArePositions, IsCommand}
use Rattle.pt_words.proofs.Found.{Given, put, Looks, has-text, given-text, first-text, HaveNoDefaults, no-defaults, no-default-faults}
use Rattle.pt_words.proofs.OptionsTold.{AreOptions, alone-is, attached-is, told-plain}
use Rattle.pt_words.proofs.Standing.{Free, Filled, Past, before, with_option, with_position, Stands, before-stands, taken-option, behind-option, behind-position, first-use, second-use, pending-use}
use Rattle.pt_words.proofs.Turns.{rows_of, standing, at, behind, taken_in, waiting_with, waiting_on}
use Rattle.pt_words.proofs.Turns as turn

-- ---- what words tell

-- The texts of the positions, and of each option, if it is there.
abbrev pub Texts : Type 0
Texts = List Text × List (Option Text)

-- All of them, if each is there.
abbrev pub each : {A : Type 0} → List (Option A) → Option (List A)
each [] = Some []
each (None ∷ os) = None
each (Some a ∷ os) = option_map (λ rest. a ∷ rest) (each os)

abbrev pub both : {A B : Type 0} → Option A → Option B → Option (A × B)
both None b = None
both (Some a) None = None
both (Some a) (Some b) = Some (a, b)

-- As many texts as these names.
abbrev pub exactly : List Text → List Text → Option (List Text)
exactly [] [] = Some []
exactly [] (text ∷ texts) = None
exactly (name ∷ names) [] = None
exactly (name ∷ names) (text ∷ texts) = option_map (λ more. text ∷ more) (exactly names texts)

abbrev listed : Option Text → List Text
listed None = []
listed (Some text) = text ∷ []

abbrev once : Given → Told → Text → Option (Option Text)
once s told name = at_most_one (listed (s name) ++ texts_of (alone name) told)

-- What the words say, with the positions and the options that stand before them.
abbrev said : Command → Past → Told → Option Texts
said c past told = both (option_map (λ more. past.texts ++ more) (exactly past.left told.positions)) (each (map (once past.given told) c.options))

abbrev answer : Command → Past → Option Told → Option Texts
answer c past told = option_and_then (said c past) told

-- What all words say.
abbrev pub texts_told : Command → Option Told → Option Texts
texts_told c told = answer c (before c) told

abbrev pub texts_in : Command → List Text → Option Texts
texts_in c words = texts_told c (told_in (dashed c) words)

-- What the texts say that were found of each name.
abbrev pub texts_by : Command → (Text → Option Text) → Option Texts
texts_by c found = option_map (λ texts. (texts, map found c.options)) (each (map found c.positions))

abbrev tells : Command → List Row → Option Texts
tells c rows = texts_by c (λ name. first_of name rows)

abbrev reading : Command → Reading Texts
reading c = record { app = record { top = shape c; subs = [] }; shape = shape c; tells = tells c }

-- ---- no more words

options-plain : (names : List Text) → HaveNoDefaults (map option_ruled names)
options-plain [] = tt
options-plain (name ∷ names) = (refl, options-plain names)

rules-plain : (place : ℕ) (positions names : List Text) → HaveNoDefaults (rules_from place positions names)
rules-plain place [] names = options-plain names
rules-plain place (name ∷ positions) names = (refl, rules-plain (place + 1) positions names)

-- A position without a text is missed.
abbrev missed : Command → List Row → Kinds
missed c rows = check_kinds false false (list_any (λ a. a.required && not (is_given a.id rows)) (rules c))

abbrev end_fault : Command → Held → Kinds → Kinds
end_fault c h pending = or_else pending (or_else (defaults_fault (rows_of c h) (rules c)) (missed c (finished (rules c) h)))

ends-by : (c : Command) (h : Held) (waiting : Waiting) (place : ℕ) → ended (reading c) (standing h waiting place) [] ≡ end_fault c h (settle_fault (rules c) false h)
unfolding walk_fault
ends-by c h waiting place = refl

-- It fails where what is pending does.
ends-failed : (c : Command) (h : Held) (waiting : Waiting) (place : ℕ) (k : ErrorKind) → settle_fault (rules c) false h ≡ k ∷ [] → ended (reading c) (standing h waiting place) [] ≡ k ∷ []
ends-failed c h waiting place k fails = ends-by c h waiting place ∙ ap (end_fault c h) fails

no-option-missed : (names : List Text) (rows : List Row) → list_any (λ a. a.required && not (is_given a.id rows)) (map option_ruled names) ≡ false
no-option-missed [] rows = refl
no-option-missed (name ∷ names) rows = no-option-missed names rows

abbrev lacks : Given → Text → Bool
lacks s name = not (is_some (s name))

missed-by : (place : ℕ) (positions names : List Text) (rows : List Row) (s : Given) → Looks rows s
    → list_any (λ a. a.required && not (is_given a.id rows)) (rules_from place positions names) ≡ list_any (lacks s) positions
missed-by place [] names rows s looks = no-option-missed names rows
missed-by place (name ∷ positions) names rows s looks =
    ap₂ (λ b rest. not b || rest) (given-text rows s looks name) (missed-by (place + 1) positions names rows s looks)

ends : (c : Command) (h : Held) (past : Past) → Stands c h past
    → ended (reading c) (at h past.place) [] ≡ check_kinds false false (list_any (lacks past.given) (past.taken ++ past.left))
ends c h past stands =
    let plain = rules-plain 1 c.positions c.options in
    ends-by c h idle past.place ∙ ap (end_fault c h) stands.passes
    ∙ ap (λ f. or_else f (missed c (finished (rules c) h))) (no-default-faults (rules c) (rows_of c h) plain)
    ∙ ap (missed c) (no-defaults (rules c) (rows_of c h) plain)
    ∙ ap (check_kinds false false) (missed-by 1 c.positions c.options (rows_of c h) past.given stands.looks ∙ ap (list_any (lacks past.given)) (sym stands.whole))

none-lacks : (names texts : List Text) (s : Given) → Filled names texts s → list_any (lacks s) (names ++ []) ≡ false
none-lacks [] texts s filled = refl
none-lacks (name ∷ names) [] s filled = absurd filled
none-lacks (name ∷ names) (text ∷ texts) s filled = ap₂ (λ o b. not (is_some o) || b) filled.0 (none-lacks names texts s filled.1)

one-lacks : (names : List Text) (name : Text) (more : List Text) (s : Given) → s name ≡ None → list_any (lacks s) (names ++ name ∷ more) ≡ true
one-lacks [] name more s free = ap (λ o. not (is_some o) || list_any (lacks s) more) free
one-lacks (other ∷ names) name more s free = ap (λ b. lacks s other || b) (one-lacks names name more s free) ∙ or-true (lacks s other)

each-filled : (names texts : List Text) (s : Given) → Filled names texts s → each (map s (names ++ [])) ≡ Some texts
each-filled [] [] s filled = refl
each-filled [] (text ∷ texts) s filled = absurd filled
each-filled (name ∷ names) [] s filled = absurd filled
each-filled (name ∷ names) (text ∷ texts) s filled = ap (λ o. each (o ∷ map s (names ++ []))) filled.0 ∙ ap (option_map (λ rest. text ∷ rest)) (each-filled names texts s filled.1)

one-of : (o : Option Text) → at_most_one (listed o ++ []) ≡ Some o
one-of None = refl
one-of (Some text) = refl

each-once : (names : List Text) (s : Given) → each (map (once s nothing) names) ≡ Some (map s names)
each-once [] s = refl
each-once (name ∷ names) s = ap (λ o. each (o ∷ map (once s nothing) names)) (one-of (s name)) ∙ ap (option_map (λ rest. s name ∷ rest)) (each-once names s)

said-all : (c : Command) (past : Past) → past.left ≡ [] → said c past nothing ≡ Some (past.texts, map past.given c.options)
said-all c past over =
    ap₂ both (ap (λ left. option_map (λ more. past.texts ++ more) (exactly left [])) over ∙ ap Some (append-nil past.texts)) (each-once c.options past.given)

said-less : (c : Command) (past : Past) (name : Text) (left : List Text) → past.left ≡ name ∷ left → said c past nothing ≡ None
said-less c past name left next = ap (λ names. both (option_map (λ more. past.texts ++ more) (exactly names [])) (each (map (once past.given nothing) c.options))) next

tells-all : (c : Command) (h : Held) (past : Past) → past.left ≡ [] → Stands c h past → tells c (finished (rules c) h) ≡ Some (past.texts, map past.given c.options)
tells-all c h past over stands =
    let found = first-text (rows_of c h) past.given stands.looks in
    ap (tells c) (no-defaults (rules c) (rows_of c h) (rules-plain 1 c.positions c.options))
    ∙ (λ i. texts_by c (λ name. found name i))
    ∙ ap (λ names. option_map (λ texts. (texts, map past.given c.options)) (each (map past.given names))) (sym stands.whole ∙ ap (λ left. past.taken ++ left) over)
    ∙ ap (option_map (λ texts. (texts, map past.given c.options))) (each-filled past.taken past.texts past.given stands.filled)

-- ---- one more word in front of others

-- The texts of an option behind one more of another, or of the same.
abbrev texts_with : Text → Text → Told → Text → Bool → List Text
texts_with name text told other same =
    map (λ given. given.1)
    (cond same ((alone name, text) ∷ filter (λ given. bytes_eq given.0 (alone other)) told.options)
    (filter (λ given. bytes_eq given.0 (alone other)) told.options))

once-more : (name text : Text) (s : Given) (told : Told) → s name ≡ None → (other : Text) (b : Bool) → bytes_eq name other ≡ b
    → at_most_one (listed (s other) ++ texts_with name text told other b) ≡ at_most_one (listed (cond b (Some text) (s other)) ++ texts_of (alone other) told)
once-more name text s told free other true same =
    ap (λ o. at_most_one (listed o ++ text ∷ texts_of (alone other) told)) (ap s (sym ((bytes_eq-Decides name other).0 same)) ∙ free)
once-more name text s told free other false differ = refl

-- A first use of an option.
answer-option : (c : Command) (name text : Text) (past : Past) (told : Option Told) → past.given name ≡ None
    → answer c past (option_map (option_told (alone name) text) told) ≡ answer c (with_option name text past) told
answer-option c name text past None free = refl
answer-option c name text past (Some told) free =
    let texts : (other : Text) → once past.given (option_told (alone name) text told) other ≡ once (put name text past.given) told other =
    λ other. once-more name text past.given told free other (bytes_eq name other) refl in
    λ i. both (option_map (λ more. past.texts ++ more) (exactly past.left told.positions)) (each (map (λ other. texts other i) c.options))

both-none : {A B : Type 0} (a : Option A) (b : Option B) → b ≡ None → both a b ≡ None
both-none None b none = refl
both-none (Some a) b none = ap (both (Some a)) none

-- Nothing is said where an option stands twice.
pub twice : {A : Type 0} (say : Texts → Option A) (positions : Option (List Text)) (options : List (Option (Option Text))) → each options ≡ None
    → None ≡ option_and_then say (both positions (each options))
twice say positions options none = sym (ap (option_and_then say) (both-none positions (each options) none))

each-later : {A : Type 0} (o : Option A) (os : List (Option A)) → each os ≡ None → each (o ∷ os) ≡ None
each-later None os none = refl
each-later (Some a) os none = ap (option_map (λ rest. a ∷ rest)) none

each-none : (told : Text → Option (Option Text)) (names : List Text) (name : Text) → list_any (λ other. bytes_eq other name) names ≡ true → told name ≡ None → each (map told names) ≡ None
each-none told [] name there none = cc
each-none told (other ∷ names) name there none = go (bytes_eq other name) refl there (λ later. each-none told names name later none)
  where
    go : (b : Bool) → bytes_eq other name ≡ b → (b || list_any (λ o. bytes_eq o name) names) ≡ true
        → (list_any (λ o. bytes_eq o name) names ≡ true → each (map told names) ≡ None) → each (map told (other ∷ names)) ≡ None
    go true same there later = ap (λ o. each (o ∷ map told names)) (ap told ((bytes_eq-Decides other name).0 same) ∙ none)
    go false differ there later = each-later (told other) (map told names) (later there)

-- A second use.
answer-again : (c : Command) (name text : Text) (past : Past) (x : Text) (told : Option Told) → IsOption c name → past.given name ≡ Some x
    → None ≡ answer c past (option_map (option_told (alone name) text) told)
answer-again c name text past x None is again = refl
answer-again c name text past x (Some told) is again =
    let twice : once past.given (option_told (alone name) text told) name ≡ None =
    ap₂ (λ o b. at_most_one (listed o ++ texts_with name text told name b)) again ((bytes_eq-Decides name name).1 refl) in
    sym
    (both-none (option_map (λ more. past.texts ++ more) (exactly past.left told.positions)) (each (map (once past.given (option_told (alone name) text told)) c.options))
    (each-none (once past.given (option_told (alone name) text told)) c.options name is.is_there twice))

-- A position leaves the options.
other-way : (a b : Text) → bytes_eq a b ≡ false → (t : Bool) → bytes_eq b a ≡ t → t ≡ false
other-way a b differ true same = absurd (true≢false (sym ((bytes_eq-Decides a b).1 (sym ((bytes_eq-Decides b a).0 same))) ∙ differ))
other-way a b differ false same = refl

options-kept : (c : Command) (names : List Text) → AreOptionsOf c names → (name text : Text) (s : Given) (told : Told) → ((other : Text) → IsOption c other → bytes_eq other name ≡ false)
    → map (once s told) names ≡ map (once (put name text s) told) names
options-kept c [] are name text s told apart = refl
options-kept c (other ∷ names) are name text s told apart =
    ap₂ (λ b rest. at_most_one (listed (cond b (Some text) (s other)) ++ texts_of (alone other) told) ∷ rest)
    (sym (other-way other name (apart other are.0) (bytes_eq name other) refl)) (options-kept c names are.1 name text s told apart)

exactly-more : (texts : List Text) (text : Text) (more : Option (List Text))
    → option_map (λ rest. texts ++ rest) (option_map (λ rest. text ∷ rest) more) ≡ option_map (λ rest. (texts ++ text ∷ []) ++ rest) more
exactly-more texts text None = refl
exactly-more texts text (Some rest) = ap Some (sym (append_assoc texts (text ∷ []) rest))

answer-position : (c : Command) → IsCommand c → (h : Held) (name : Text) (left : List Text) (text : Text) (past : Past) (told : Option Told) → past.left ≡ name ∷ left → Stands c h past
    → answer c past (option_map (position_told text) told) ≡ answer c (with_position name left text past) told
answer-position c is h name left text past None next stands = refl
answer-position c is h name left text past (Some told) next stands =
    ap₂ both
    (ap (λ names. option_map (λ rest. past.texts ++ rest) (exactly names (text ∷ told.positions))) next ∙ exactly-more past.texts text (exactly left told.positions))
    (ap each (options-kept c c.options is.options name text past.given told (λ other an. (subst (Apart other) next (stands.apart other an)).0)))

answer-over : (c : Command) (text : Text) (past : Past) (told : Option Told) → past.left ≡ [] → None ≡ answer c past (option_map (position_told text) told)
answer-over c text past None over = refl
answer-over c text past (Some told) over =
    sym (ap (λ names. both (option_map (λ more. past.texts ++ more) (exactly names (text ∷ told.positions))) (each (map (once past.given told) c.options))) over)

-- ---- the kinds of words

-- A word is an option alone, or with its text, or begins with no `-`.
abbrev Kind : Command → Text → Type 0
Kind c word =
    ((name : Text) × IsOption c name × (word ≡ alone name)) ⊎ ((name : Text) × (text : Text) × IsOption c name × (word ≡ attached name text)) ⊎ (is_option word ≡ false)

kind-known : (c : Command) (names : List Text) → AreOptionsOf c names → (word : Text) → is_known (map alone names) word ≡ true → Kind c word
kind-known c [] are word known = cc
kind-known c (name ∷ names) are word known = go (is_alone word (alone name)) (is_attached word (alone name)) refl refl known (kind-known c names are.1 word)
  where
    go : (a b : Bool) → is_alone word (alone name) ≡ a → is_attached word (alone name) ≡ b → ((a || b) || is_known (map alone names) word) ≡ true
        → (is_known (map alone names) word ≡ true → Kind c word) → Kind c word
    go true b is with_text known later = inl (name, are.0, alone-is word (alone name) is)
    go false true is with_text known later = inr (inl (name, drop (length (alone name ++ 61 ∷ [])) word, are.0, attached-is word (alone name) with_text))
    go false false is with_text known later = later known

kind-of : (c : Command) → IsCommand c → (word : Text) → is_foreign (dashed c) word ≡ false → Kind c word
kind-of c is word known = go (is_option word) (is_known (dashed c) word) refl refl known
  where
    go : (a b : Bool) → is_option word ≡ a → is_known (dashed c) word ≡ b → (a && not b) ≡ false → Kind c word
    go false b dash named known = inr (inr dash)
    go true true dash named known = kind-known c c.options is.options word named
    go true false dash named known = cc

-- ---- what a first word tells

abbrev told : Command → List Text → Option Told
told c words = told_in (dashed c) words

are-options : (names : List Text) → AreOptions (map alone names)
are-options [] = tt
are-options (name ∷ names) = (refl, are-options names)

plain-told : (c : Command) (word : Text) (rest : List Text) → is_option word ≡ false → told c (word ∷ rest) ≡ option_map (position_told word) (told c rest)
plain-told c word rest plain = told-plain (dashed c) (are-options c.options) word rest plain

one-attached : (c : Command) (name : Text) → IsOption c name → (text : Text) (behind : Option Told)
    → one_word (dashed c) (attached name text) behind ≡ option_map (option_told (alone name) text) behind
one-attached c name is text behind =
    ap (λ s. one_by s.is_attached (attached name text) behind) (is.attached_is text) ∙ ap (λ t. option_map (option_told (alone name) t) behind) (is.text_is text)

told-attached : (c : Command) (name : Text) → IsOption c name → (text : Text) (rest : List Text)
    → told c (attached name text ∷ rest) ≡ option_map (option_told (alone name) text) (told c rest)
told-attached c name is text [] = one-attached c name is text (Some nothing)
told-attached c name is text (word ∷ words) =
    ap (λ s. first_by (dashed c) s.is_alone (attached name text) word (told c words) (told c (word ∷ words))) (is.attached_is text)
    ∙ one-attached c name is text (told c (word ∷ words))

told-bare : (c : Command) (name : Text) → IsOption c name → None ≡ told c (alone name ∷ [])
told-bare c name is = sym (ap (λ s. one_by s.is_attached (alone name) (Some nothing)) is.alone_is)

told-alone : (c : Command) (name : Text) → IsOption c name → (text : Text) (words : List Text) (b : Bool) → is_option text ≡ b
    → told c (alone name ∷ text ∷ words) ≡ cond b None (option_map (option_told (alone name) text) (told c words))
told-alone c name is text words b dash =
    ap (λ s. first_by (dashed c) s.is_alone (alone name) text (told c words) (told c (text ∷ words))) is.alone_is
    ∙ ap (λ b'. cond b' None (option_map (option_told (alone name) text) (told c words))) dash

-- ---- a walk that fails once what is pending is used

plain-fails : (c : Command) (place : ℕ) (left : List Text) → ArePositions c place left → (h : Held) (word : Text) (k : ErrorKind) → is_option word ≡ false → settle_fault (rules c) false h ≡ k ∷ []
    → (kind : ErrorKind) × (turn_fault (shape c) [] (at h place) word ≡ kind ∷ [])
plain-fails c place [] over h word k plain fails = (kind.UnknownArgument, turn.over-turn c place over h word plain)
plain-fails c place (name ∷ left) places h word k plain fails = (k, turn.position-turn c place name left places.0 h word plain ∙ fails)

doomed : (c : Command) → IsCommand c → (h : Held) (place : ℕ) (left : List Text) → ArePositions c place left → (k : ErrorKind) → settle_fault (rules c) false h ≡ k ∷ []
    → (words : List Text) → has_foreign (dashed c) words ≡ false → Answers (reading c) (at h place) words None
doomed c is h place left places k fails [] known =
    is-refused (reading c) (at h place) [] k (ends-failed c h idle place k fails)
doomed c is h place left places k fails (word ∷ more) known =
    let w = at h place in
    elim (kind-of c is word (no-first (is_foreign (dashed c) word) (has_foreign (dashed c) more) known)) [
      | inl an ↦ here (reading c) w word more k (ap (turn_fault (shape c) [] w) an.2 ∙ turn.alone-turn c an.0 an.1 h place ∙ ap (λ f. or_else f []) fails)
      | inr (inl an) ↦
          here (reading c) w word more k
          (ap (turn_fault (shape c) [] w) an.3 ∙ turn.attached-turn c an.0 an.2 an.1 h place
          ∙ ap (λ f. or_else (or_else f (use_fault false (option_ruled an.0) (an.1 ∷ []) (rows_of c h))) []) fails)
      | inr (inr plain) ↦ here (reading c) w word more (plain-fails c place left places h word k plain fails).0 (plain-fails c place left places h word k plain fails).1
    ]

-- ---- all words

abbrev Holds : Command → List Text → Type 0
Holds c words = (h : Held) (past : Past) → Stands c h past → has_foreign (dashed c) words ≡ false → Answers (reading c) (at h past.place) words (answer c past (told c words))

no-words-by : (c : Command) (h : Held) (past : Past) → Stands c h past → (left : List Text) → past.left ≡ left → Answers (reading c) (at h past.place) [] (said c past nothing)
no-words-by c h past stands [] over =
    subst (Answers (reading c) (at h past.place) []) (sym (said-all c past over))
    (is-taken (reading c) (at h past.place) [] (Some (past.texts, map past.given c.options))
    (ends c h past stands
    ∙ ap (check_kinds false false) (ap (λ left. list_any (lacks past.given) (past.taken ++ left)) over ∙ none-lacks past.taken past.texts past.given stands.filled))
    (tells-all c h past over stands))
no-words-by c h past stands (name ∷ left) next =
    let free : Free (name ∷ left) past.given = subst (λ names. Free names past.given) next stands.free in
    subst (Answers (reading c) (at h past.place) []) (sym (said-less c past name left next))
    (is-refused (reading c) (at h past.place) [] kind.MissingRequiredArgument
    (ends c h past stands
    ∙ ap (check_kinds false false) (ap (λ left. list_any (lacks past.given) (past.taken ++ left)) next ∙ one-lacks past.taken name left past.given free.0)))

no-words : (c : Command) → Holds c []
no-words c h past stands known = no-words-by c h past stands past.left refl

plain-by : (c : Command) → IsCommand c → (word : Text) (rest : List Text) → is_option word ≡ false → Holds c rest → (h : Held) (past : Past) → Stands c h past
    → has_foreign (dashed c) rest ≡ false → (left : List Text) → past.left ≡ left → Answers (reading c) (at h past.place) (word ∷ rest) (answer c past (told c (word ∷ rest)))
plain-by c is word rest plain holds h past stands known [] over =
    let places : ArePositions c past.place [] = subst (ArePositions c past.place) over stands.places in
    subst (Answers (reading c) (at h past.place) (word ∷ rest)) (answer-over c word past (told c rest) over ∙ sym (ap (answer c past) (plain-told c word rest plain)))
    (here (reading c) (at h past.place) word rest kind.UnknownArgument (turn.over-turn c past.place places h word plain))
plain-by c is word rest plain holds h past stands known (name ∷ left) next =
    let places : ArePositions c past.place (name ∷ left) = subst (ArePositions c past.place) next stands.places in
    subst (Answers (reading c) (at h past.place) (word ∷ rest)) (sym (ap (answer c past) (plain-told c word rest plain) ∙ answer-position c is h name left word past (told c rest) next stands))
    (step (reading c) (at h past.place) (at (behind c name word h) (past.place + 1)) word rest (answer c (with_position name left word past) (told c rest))
    (turn.position-turn c past.place name left places.0 h word plain ∙ stands.passes) (turn.position-walked c past.place name left places.0 h word plain)
    (holds (behind c name word h) (with_position name left word past) (behind-position c h name left word past next stands) known))

plain-step : (c : Command) → IsCommand c → (word : Text) (rest : List Text) → is_option word ≡ false → Holds c rest → Holds c (word ∷ rest)
plain-step c is word rest plain holds h past stands known =
    plain-by c is word rest plain holds h past stands (no-later (is_foreign (dashed c) word) (has_foreign (dashed c) rest) known) past.left refl

-- Whether an option is there.
option-row : (c : Command) (h : Held) (past : Past) (name : Text) (o : Option Text) → Stands c h past → past.given name ≡ o → has_row name (rows_of c h) ≡ is_some o
option-row c h past name o stands is = has-text (rows_of c h) past.given stands.looks name ∙ ap is_some is

-- An option with its text, the first or a second.
attached-by : (c : Command) (name text : Text) → IsOption c name → (rest : List Text) → Holds c rest → (h : Held) (past : Past) → Stands c h past → has_foreign (dashed c) rest ≡ false
    → (o : Option Text) → past.given name ≡ o → Answers (reading c) (at h past.place) (attached name text ∷ rest) (answer c past (told c (attached name text ∷ rest)))
attached-by c name text is rest holds h past stands known None free =
    subst (Answers (reading c) (at h past.place) (attached name text ∷ rest)) (sym (ap (answer c past) (told-attached c name is text rest) ∙ answer-option c name text past (told c rest) free))
    (step (reading c) (at h past.place) (at (taken_in c name text h) past.place) (attached name text) rest (answer c (with_option name text past) (told c rest))
    (turn.attached-turn c name is text h past.place
    ∙ ap₂ (λ f u. or_else (or_else f u) []) stands.passes (first-use name text (rows_of c h) (option-row c h past name None stands free)))
    (turn.attached-walked c name is text h past.place)
    (holds (taken_in c name text h) (with_option name text past) (taken-option c h name text past is free stands) known))
attached-by c name text is rest holds h past stands known (Some x) again =
    subst (Answers (reading c) (at h past.place) (attached name text ∷ rest)) (answer-again c name text past x (told c rest) is again ∙ sym (ap (answer c past) (told-attached c name is text rest)))
    (here (reading c) (at h past.place) (attached name text) rest kind.ArgumentConflict
    (turn.attached-turn c name is text h past.place
    ∙ ap₂ (λ f u. or_else (or_else f u) []) stands.passes (second-use name text (rows_of c h) (option-row c h past name (Some x) stands again))))

attached-step : (c : Command) (name text : Text) → IsOption c name → (rest : List Text) → Holds c rest → Holds c (attached name text ∷ rest)
attached-step c name text is rest holds h past stands known =
    attached-by c name text is rest holds h past stands (no-later (is_foreign (dashed c) (attached name text)) (has_foreign (dashed c) rest) known) (past.given name) refl

-- The text of an option alone, the first or a second.
text-by : (c : Command) → IsCommand c → (name text : Text) → IsOption c name → (words : List Text) → Holds c words → (h : Held) (past : Past) → Stands c h past → has_foreign (dashed c) words ≡ false
    → (o : Option Text) → past.given name ≡ o → Answers (reading c) (at (behind c name text h) past.place) words (answer c past (option_map (option_told (alone name) text) (told c words)))
text-by c all name text is words holds h past stands known None free =
    subst (Answers (reading c) (at (behind c name text h) past.place) words) (sym (answer-option c name text past (told c words) free))
    (holds (behind c name text h) (with_option name text past) (behind-option c h name text past is free stands) known)
text-by c all name text is words holds h past stands known (Some x) again =
    subst (Answers (reading c) (at (behind c name text h) past.place) words) (answer-again c name text past x (told c words) is again)
    (doomed c all (behind c name text h) past.place past.left stands.places kind.ArgumentConflict
    (pending-use c name text h (option_ruled name) is.by_id ∙ second-use name text (rows_of c h) (option-row c h past name (Some x) stands again)) words known)

alone-passes : (c : Command) (name : Text) → IsOption c name → (h : Held) (past : Past) → Stands c h past → turn_fault (shape c) [] (at h past.place) (alone name) ≡ []
alone-passes c name is h past stands = turn.alone-turn c name is h past.place ∙ ap (λ f. or_else f []) stands.passes

alone-step : (c : Command) → IsCommand c → (name text : Text) → IsOption c name → (words : List Text) → Holds c words → Holds c (alone name ∷ text ∷ words)
alone-step c all name text is words holds h past stands known =
    let w = waiting_on c name h past.place in
    let rest = no-later (is_foreign (dashed c) (alone name)) (has_foreign (dashed c) (text ∷ words)) known in
    step (reading c) (at h past.place) w (alone name) (text ∷ words) (answer c past (told c (alone name ∷ text ∷ words))) (alone-passes c name is h past stands)
    (turn.alone-walked c name is h past.place)
    (elim (kind-of c all text (no-first (is_foreign (dashed c) text) (has_foreign (dashed c) words) rest)) [
      | inl an ↦
          subst (Answers (reading c) w (text ∷ words)) (sym (ap (answer c past) (told-alone c name is text words true (ap is_option an.2))))
          (here (reading c) w text words kind.InvalidValue (ap (turn_fault (shape c) [] w) an.2 ∙ turn.alone-waiting c name an.0 is an.1 h past.place))
      | inr (inl an) ↦
          subst (Answers (reading c) w (text ∷ words)) (sym (ap (answer c past) (told-alone c name is text words true (ap is_option an.3))))
          (here (reading c) w text words kind.InvalidValue (ap (turn_fault (shape c) [] w) an.3 ∙ turn.attached-waiting c name an.0 is an.2 an.1 h past.place))
      | inr (inr plain) ↦
          subst (Answers (reading c) w (text ∷ words)) (sym (ap (answer c past) (told-alone c name is text words false plain)))
          (step (reading c) w (at (behind c name text h) past.place) text words (answer c past (option_map (option_told (alone name) text) (told c words)))
          (turn.text-turn c name h past.place text plain) (turn.text-walked c name is h past.place text plain)
          (text-by c all name text is words holds h past stands (no-later (is_foreign (dashed c) text) (has_foreign (dashed c) words) rest) (past.given name) refl))
    ])

bare-step : (c : Command) (name : Text) → IsOption c name → Holds c (alone name ∷ [])
bare-step c name is h past stands known =
    let w = waiting_on c name h past.place in
    step (reading c) (at h past.place) w (alone name) [] (answer c past (told c (alone name ∷ []))) (alone-passes c name is h past stands) (turn.alone-walked c name is h past.place)
    (subst (Answers (reading c) w []) (ap (answer c past) (told-bare c name is)) (is-refused (reading c) w [] kind.InvalidValue (ends-failed c (waiting_with c name h) (option name) past.place kind.InvalidValue (turn.waiting-fails c name is h))))

holds : (c : Command) → IsCommand c → (words : List Text) → Holds c words
holds c all [] = no-words c
holds c all (word ∷ []) = λ h past stands known. elim (kind-of c all word (no-first (is_foreign (dashed c) word) false known)) [
  | inl an ↦ subst (λ (given : Text). Holds c (given ∷ [])) (sym an.2) (bare-step c an.0 an.1) h past stands known
  | inr (inl an) ↦ subst (λ (given : Text). Holds c (given ∷ [])) (sym an.3) (attached-step c an.0 an.1 an.2 [] (no-words c)) h past stands known
  | inr (inr plain) ↦ plain-step c all word [] plain (no-words c) h past stands known
]
holds c all (word ∷ text ∷ words) = λ h past stands known. elim (kind-of c all word (no-first (is_foreign (dashed c) word) (has_foreign (dashed c) (text ∷ words)) known)) [
  | inl an ↦ subst (λ (given : Text). Holds c (given ∷ text ∷ words)) (sym an.2) (alone-step c all an.0 text an.1 words (holds c all words)) h past stands known
  | inr (inl an) ↦ subst (λ (given : Text). Holds c (given ∷ text ∷ words)) (sym an.3) (attached-step c an.0 an.1 an.2 (text ∷ words) (holds c all (text ∷ words))) h past stands known
  | inr (inr plain) ↦ plain-step c all word (text ∷ words) plain (holds c all (text ∷ words)) h past stands known
]

-- ---- what the parse tells

-- The command as `clap` builds it is this one.
pub record IsBuilt (c : Command) (app : App) : Type 0 where
  pub same : built app ≡ (reading c).app
  pub no_name : app.top.no_binary_name ≡ true
  pub simple : is_simple_and_free app ≡ true

answers : (c : Command) → IsCommand c → (words : List Text) → has_foreign (dashed c) words ≡ false → Answers (reading c) start words (texts_in c words)
answers c all words known = holds c all words nothing_held (before c) (before-stands c all) known

same-words : (c : Command) (app : App) → IsBuilt c app → (words : List Text) → argument_words app words ≡ words
same-words c app is words = ap (λ b. cond b words (drop 1 words)) is.no_name

same-fault : (c : Command) (app : App) → IsBuilt c app → (words : List Text) → fault_of app words ≡ ended (reading c) start words
same-fault c app is words = ap₂ (λ a more. built_fault a nothing_held more) is.same (same-words c app is words)

same-rows : (c : Command) (app : App) → IsBuilt c app → (words : List Text) → matches_of app words ≡ rows_after (rules c) [] words
same-rows c app is words = ap₂ (λ (a : App) more. rows_after a.top.rules (names_of a) more) is.same (same-words c app is words)

read-of : (c : Command) (app made : App) (words : List Text) (m : Option ArgMatches) → IsBuilt c app → made ≡ app → (is_simple_and_free made ≡ true → IsRead made words m) → IsRead app words m
read-of c app made words m is one read = subst (λ a. IsRead a words m) one (read (ap is_simple_and_free one ∙ is.simple))

-- The matches of words none of which is foreign tell the texts.
pub parse-some : (c : Command) → IsCommand c → (app : App) → IsBuilt c app → (made : App) (words : List Text) (m : ArgMatches) → made ≡ app → has_foreign (dashed c) words ≡ false
    → (is_simple_and_free made ≡ true → IsRead made words (Some m)) → texts_by c (first_value (found_of m)) ≡ texts_in c words
parse-some c all app is made words m one known read =
    let parsed = read-of c app made words (Some m) is one read in
    let rows : (name : Text) → first_value (found_of m) name ≡ first_of name (rows_after (rules c) [] words) =
    λ name. first_value-rows (found_of m) name ∙ ap (first_of name) (parsed.1 ∙ same-rows c app is words) in
    (λ i. texts_by c (λ name. rows name i)) ∙ (answers c all words known).taken (sym (same-fault c app is words) ∙ parsed.0)

pub parse-none : (c : Command) → IsCommand c → (app : App) → IsBuilt c app → (made : App) (words : List Text) → made ≡ app → has_foreign (dashed c) words ≡ false
    → (is_simple_and_free made ≡ true → IsRead made words None) → None ≡ texts_in c words
parse-none c all app is made words one known read =
    (answers c all words known).refused (λ none. read-of c app made words None is one read (same-fault c app is words ∙ none))
