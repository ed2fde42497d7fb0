-- What words tell, whatever the options are.
use Rattle.std.proofs.Common.{◌≡◌, ◌∙◌, ◌&&◌, ◌||◌, cond, Bool, true, false, not, List, [], ◌∷◌, ◌++◌, drop, length, Option, Some, None, option_map, find, refl, sym, ap}
use Rattle.std.proofs.lemmas.Bool.Decides.{Decides-eqb}
use Rattle.std.proofs.lemmas.Slice.Eq.{bytes_eq-Decides, starts_is}
use Rattle.std.specs.List.{list_any}
use Rattle.clap.specs.Walk.{Text}
use Rattle.pt_words.specs.Words.{is_option}
use Rattle.pt_words.specs.Options.{is_alone, is_attached, is_known, is_foreign, has_foreign, Told, nothing, with_position, with_option, one_by, one_word, first_by, told_in}
use Rattle.pt_words.proofs.Walks.{no-first, no-later}

-- ---- a word that begins with no `-`

-- Each option begins with `-`.
abbrev pub AreOptions : List Text → Type 0
AreOptions [] = Unit {0}
AreOptions (option ∷ options) = (is_option option ≡ true) × AreOptions options

pub alone-is : (word option : Text) → is_alone word option ≡ true → word ≡ option
alone-is word option is = (bytes_eq-Decides word option).0 is

pub attached-is : (word option : Text) → is_attached word option ≡ true → word ≡ (option ++ 61 ∷ []) ++ drop (length (option ++ 61 ∷ [])) word
attached-is word option is = (starts_is Decides-eqb word (option ++ 61 ∷ []) (is_attached word option) refl).0 is

dash-more : (option more : Text) → is_option option ≡ true → is_option (option ++ more) ≡ true
dash-more [] more dash = cc
dash-more (byte ∷ option) more dash = dash

-- It is nothing that begins with one.
unlike : (word other : Text) (b : Bool) → is_option other ≡ true → is_option word ≡ false → (b ≡ true → word ≡ other) → b ≡ false
unlike word other false dash plain same = refl
unlike word other true dash plain same =
    let bad : true ≡ false = sym dash ∙ sym (ap is_option (same refl)) ∙ plain in
    absurd (let no : ⊥ = cc in no)

no-alone : (options : List Text) → AreOptions options → (word : Text) → is_option word ≡ false → find (is_alone word) options ≡ None
no-alone [] are word plain = refl
no-alone (option ∷ options) are word plain =
    ap (λ b. cond b (Some option) (find (is_alone word) options)) (unlike word option (is_alone word option) are.0 plain (alone-is word option))
    ∙ no-alone options are.1 word plain

no-attached : (options : List Text) → AreOptions options → (word : Text) → is_option word ≡ false → find (is_attached word) options ≡ None
no-attached [] are word plain = refl
no-attached (option ∷ options) are word plain =
    let more = drop (length (option ++ 61 ∷ [])) word in
    let dash : is_option ((option ++ 61 ∷ []) ++ more) ≡ true = dash-more (option ++ 61 ∷ []) more (dash-more option (61 ∷ []) are.0) in
    ap (λ b. cond b (Some option) (find (is_attached word) options)) (unlike word ((option ++ 61 ∷ []) ++ more) (is_attached word option) dash plain (attached-is word option))
    ∙ no-attached options are.1 word plain

-- It is a position.
one-plain : (options : List Text) → AreOptions options → (word : Text) (told : Option Told) → is_option word ≡ false → one_word options word told ≡ option_map (with_position word) told
one-plain options are word told plain =
    ap (λ o. one_by o word told) (no-attached options are word plain) ∙ ap (λ b. cond b None (option_map (with_position word) told)) plain

pub told-plain : (options : List Text) → AreOptions options → (word : Text) (rest : List Text) → is_option word ≡ false
    → told_in options (word ∷ rest) ≡ option_map (with_position word) (told_in options rest)
told-plain options are word [] plain = one-plain options are word (Some nothing) plain
told-plain options are word (text ∷ words) plain =
    ap (λ o. first_by options o word text (told_in options words) (told_in options (text ∷ words))) (no-alone options are word plain)
    ∙ one-plain options are word (told_in options (text ∷ words)) plain

-- ---- a word that begins with `-` and is none of the options

none-by : (p q : Text → Bool) (options : List Text) → list_any (λ option. p option || q option) options ≡ false → (find p options ≡ None) × (find q options ≡ None)
none-by p q [] lacks = (refl, refl)
none-by p q (option ∷ options) lacks =
    let first : (p option || q option) ≡ false = no-first (p option || q option) (list_any (λ other. p other || q other) options) lacks in
    let rest = none-by p q options (no-later (p option || q option) (list_any (λ other. p other || q other) options) lacks) in (
      ap (λ b. cond b (Some option) (find p options)) (no-first (p option) (q option) first) ∙ rest.0,
      ap (λ b. cond b (Some option) (find q options)) (no-later (p option) (q option) first) ∙ rest.1,
    )

foreign-by : (a b : Bool) → (a && not b) ≡ true → (a ≡ true) × (b ≡ false)
foreign-by true false is = (refl, refl)
foreign-by true true is = cc
foreign-by false b is = cc

foreign-is : (options : List Text) (word : Text) → is_foreign options word ≡ true
    → (is_option word ≡ true) × (find (is_alone word) options ≡ None) × (find (is_attached word) options ≡ None)
foreign-is options word is =
    let both = foreign-by (is_option word) (is_known options word) is in
    let none = none-by (is_alone word) (is_attached word) options both.1 in
    (both.0, none.0, none.1)

-- It tells nothing.
one-foreign : (options : List Text) (word : Text) (told : Option Told) → is_foreign options word ≡ true → one_word options word told ≡ None
one-foreign options word told is =
    let f = foreign-is options word is in
    ap (λ o. one_by o word told) f.2 ∙ ap (λ b. cond b None (option_map (with_position word) told)) f.0

-- Nothing is told where the words behind tell nothing.
one-nothing : (o : Option Text) (word : Text) → one_by o word None ≡ None
one-nothing (Some option) word = refl
one-nothing None word = either-way (is_option word)
  where
    either-way : (b : Bool) → cond b None (option_map (with_position word) None) ≡ None
    either-way true = refl
    either-way false = refl

behind-nothing : (options : List Text) (option text : Text) (words : List Text) → has_foreign options (text ∷ words) ≡ true → (has_foreign options words ≡ true → told_in options words ≡ None)
    → (b : Bool) → is_option text ≡ b → cond (is_option text) None (option_map (with_option option text) (told_in options words)) ≡ None
behind-nothing options option text words is later true dash = ap (λ b. cond b None (option_map (with_option option text) (told_in options words))) dash
behind-nothing options option text words is later false plain =
    let more : has_foreign options words ≡ true = sym (ap (λ b. (b && not (is_known options text)) || has_foreign options words) plain) ∙ is in
    ap (λ b. cond b None (option_map (with_option option text) (told_in options words))) plain ∙ ap (option_map (with_option option text)) (later more)

first-nothing : (options : List Text) (o : Option Text) (word text : Text) (words : List Text) → has_foreign options (text ∷ words) ≡ true → (has_foreign options words ≡ true → told_in options words ≡ None)
    → told_in options (text ∷ words) ≡ None → first_by options o word text (told_in options words) (told_in options (text ∷ words)) ≡ None
first-nothing options (Some option) word text words is later nothing_told = behind-nothing options option text words is later (is_option text) refl
first-nothing options None word text words is later nothing_told =
    ap (one_word options word) nothing_told ∙ one-nothing (find (is_attached word) options) word

foreign-more : (options : List Text) (word text : Text) (words : List Text) → (has_foreign options words ≡ true → told_in options words ≡ None)
    → (has_foreign options (text ∷ words) ≡ true → told_in options (text ∷ words) ≡ None)
    → (b : Bool) → is_foreign options word ≡ b → (b || has_foreign options (text ∷ words)) ≡ true → told_in options (word ∷ text ∷ words) ≡ None
foreign-more options word text words later next true first is =
    ap (λ o. first_by options o word text (told_in options words) (told_in options (text ∷ words))) (foreign-is options word first).1
    ∙ one-foreign options word (told_in options (text ∷ words)) first
foreign-more options word text words later next false first is =
    first-nothing options (find (is_alone word) options) word text words is later (next is)

or-false : (b : Bool) → (b || false) ≡ true → b ≡ true
or-false true is = refl
or-false false is = cc

pub foreign-told : (options words : List Text) → has_foreign options words ≡ true → told_in options words ≡ None
foreign-told options [] is = cc
foreign-told options (word ∷ []) is = one-foreign options word (Some nothing) (or-false (is_foreign options word) is)
foreign-told options (word ∷ text ∷ words) is =
    foreign-more options word text words (foreign-told options words) (foreign-told options (text ∷ words)) (is_foreign options word) refl is
