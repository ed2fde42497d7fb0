-- What a walk has found of each argument, whatever the order in which they were used.
use Rattle.std.proofs.Common.{◌≡◌, ◌∙◌, ◌||◌, cond, Bool, true, false, List, [], ◌∷◌, ◌++◌, Option, Some, None, is_some, option_map, find, refl, sym, ap, ap₂}
use Rattle.std.specs.List.{fold, slice_get}
use Rattle.std.specs.Option.{option_or, option_map_or, option_and_then}
use Rattle.std.specs.Str.{bytes_eq}
use Rattle.std.proofs.lemmas.List.{append-nil}
use Rattle.std.proofs.lemmas.List.Folds.{find-append}
use Rattle.std.proofs.lemmas.Slice.Eq.{bytes_eq-Decides}
use Rattle.std.proofs.Math.Bool.{or-true}
use Rattle.clap.specs.Walk.{Text, Rule, Row, reading_by, at_row, more_values, with_values, without, has_row, with_default, default_rows, is_empty, first_of}
use Rattle.clap.specs.Faults.{default_fault, defaults_fault, given_default_fault}
use Rattle.clap.specs.Takes.{is_given}
use Rattle.clap.specs.Kinds.{or_else}
use Rattle.clap.specs.Facts.{explicit_source}
use Rattle.clap.specs.declared.parser.matches.ValueSource.TheVariants.{CommandLine}
use Rattle.pt_words.proofs.Walks.{no-first, no-later}
use Rattle.pt_words.proofs.Arguments.{option_ruled}

-- ---- the rows

-- What is found of an argument.
abbrev look : Text → List Row → Option Row
look name rows = find (λ r. bytes_eq r.id name) rows

-- One use of an argument, with its text.
abbrev pub use_of : Text → Text → Row
use_of name text = record { id = name; values = text ∷ []; count = None; source = Some CommandLine; reading = reading_by (option_ruled name) }

-- The texts that were given, by their arguments' names.
abbrev pub Given : Type 0
Given = Text → Option Text

abbrev pub put : Text → Text → Given → Given
put name text s other = cond (bytes_eq name other) (Some text) (s other)

-- The rows have these texts.
abbrev pub Looks : List Row → Given → Type 0
Looks rows s = (name : Text) → look name rows ≡ option_map (use_of name) (s name)

has-look-by : (r : Row) (here later : Bool) (o : Option Row) → later ≡ is_some o → (here || later) ≡ is_some (cond here (Some r) o)
has-look-by r true later o is = refl
has-look-by r false later o is = is

has-look : (name : Text) (rows : List Row) → has_row name rows ≡ is_some (look name rows)
has-look name [] = refl
has-look name (r ∷ rows) = has-look-by r (bytes_eq r.id name) (has_row name rows) (look name rows) (has-look name rows)

has-use : (name : Text) (text : Option Text) → is_some (option_map (use_of name) text) ≡ is_some text
has-use name None = refl
has-use name (Some text) = refl

pub has-text : (rows : List Row) (s : Given) → Looks rows s → (name : Text) → has_row name rows ≡ is_some (s name)
has-text rows s looks name = has-look name rows ∙ ap is_some (looks name) ∙ has-use name (s name)

given-use : (name : Text) (text : Option Text) → option_map_or (λ r. explicit_source r.source) (option_map (use_of name) text) false ≡ is_some text
given-use name None = refl
given-use name (Some text) = refl

pub given-text : (rows : List Row) (s : Given) → Looks rows s → (name : Text) → is_given name rows ≡ is_some (s name)
given-text rows s looks name = ap (λ o. option_map_or (λ r. explicit_source r.source) o false) (looks name) ∙ given-use name (s name)

first-use : (name : Text) (text : Option Text) → option_and_then (λ r. slice_get r.values 0) (option_map (use_of name) text) ≡ text
first-use name None = refl
first-use name (Some text) = refl

pub first-text : (rows : List Row) (s : Given) → Looks rows s → (name : Text) → first_of name rows ≡ s name
first-text rows s looks name = ap (λ o. option_and_then (λ r. slice_get r.values 0) o) (looks name) ∙ first-use name (s name)

-- ---- one more use

at_row-new : (name : Text) (change : Row → List Row) (missing rows : List Row) → has_row name rows ≡ false → at_row name change missing rows ≡ rows ++ missing
at_row-new name change missing [] fresh = refl
at_row-new name change missing (r ∷ rows) fresh =
    ap (λ b. cond b (change r ++ rows) (r ∷ at_row name change missing rows)) (no-first (bytes_eq r.id name) (has_row name rows) fresh)
    ∙ ap (λ rest. r ∷ rest) (at_row-new name change missing rows (no-later (bytes_eq r.id name) (has_row name rows) fresh))

-- A first use stands behind the others.
new-use : (name text : Text) (rows : List Row) → has_row name rows ≡ false
    → with_values name (reading_by (option_ruled name)) CommandLine (text ∷ []) (without name rows) ≡ rows ++ use_of name text ∷ []
new-use name text rows fresh =
    ap (with_values name (reading_by (option_ruled name)) CommandLine (text ∷ [])) (at_row-new name (λ _. []) [] rows fresh ∙ append-nil rows)
    ∙ at_row-new name (more_values CommandLine (text ∷ [])) (use_of name text ∷ []) rows fresh

or-none : (o : Option Row) → option_or o None ≡ o
or-none None = refl
or-none (Some r) = refl

add-look : (rows : List Row) (name text other : Text) (s : Given) → s name ≡ None → look other rows ≡ option_map (use_of other) (s other)
    → (b : Bool) → bytes_eq name other ≡ b → look other (rows ++ use_of name text ∷ []) ≡ option_map (use_of other) (cond b (Some text) (s other))
add-look rows name text other s free is true same =
    let one : name ≡ other = (bytes_eq-Decides name other).0 same in
    find-append (λ r. bytes_eq r.id other) rows (use_of name text ∷ [])
    ∙ ap₂ (λ o b. option_or o (cond b (Some (use_of name text)) None)) (is ∙ ap (option_map (use_of other)) (ap s (sym one) ∙ free)) same
    ∙ ap (λ n. Some (use_of n text)) one
add-look rows name text other s free is false differ =
    find-append (λ r. bytes_eq r.id other) rows (use_of name text ∷ []) ∙ ap₂ (λ o b. option_or o (cond b (Some (use_of name text)) None)) is differ
    ∙ or-none (option_map (use_of other) (s other))

pub add-use : (rows : List Row) (name text : Text) (s : Given) → s name ≡ None → Looks rows s
    → Looks (with_values name (reading_by (option_ruled name)) CommandLine (text ∷ []) (without name rows)) (put name text s)
add-use rows name text s free looks other =
    ap (look other) (new-use name text rows (has-text rows s looks name ∙ ap is_some free))
    ∙ add-look rows name text other s free (looks other) (bytes_eq name other) refl

-- ---- arguments without defaults

abbrev pub HaveNoDefaults : List Rule → Type 0
HaveNoDefaults [] = Unit {0}
HaveNoDefaults (rule ∷ rules) = (rule.defaults ≡ []) × HaveNoDefaults rules

either-way : (b : Bool) (rows : List Row) → cond b rows rows ≡ rows
either-way true rows = refl
either-way false rows = refl

no-default : (rule : Rule) (rows : List Row) → rule.defaults ≡ [] → with_default rows rule ≡ rows
no-default rule rows none =
    ap (λ values. cond (has_row rule.id rows) rows (default_rows rule.id (reading_by rule) values rows)) none ∙ either-way (has_row rule.id rows) rows

no-default-fault : (rule : Rule) (rows : List Row) → rule.defaults ≡ [] → default_fault rows rule ≡ []
no-default-fault rule rows none =
    ap (λ values. cond (has_row rule.id rows || is_empty values) [] (given_default_fault rule values)) none
    ∙ ap (λ b. cond b [] (given_default_fault rule [])) (or-true (has_row rule.id rows))

pub no-defaults : (rules : List Rule) (rows : List Row) → HaveNoDefaults rules → fold with_default rows rules ≡ rows
no-defaults [] rows plain = refl
no-defaults (rule ∷ rules) rows plain = ap (λ r. fold with_default r rules) (no-default rule rows plain.0) ∙ no-defaults rules rows plain.1

pub no-default-faults : (rules : List Rule) (rows : List Row) → HaveNoDefaults rules → defaults_fault rows rules ≡ []
unfolding defaults_fault
no-default-faults [] rows plain = refl
no-default-faults (rule ∷ rules) rows plain =
    ap₂ or_else (no-default-fault rule rows plain.0) (ap (λ r. defaults_fault r rules) (no-default rule rows plain.0)) ∙ no-default-faults rules rows plain.1
