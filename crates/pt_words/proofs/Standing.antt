-- Where a walk over the words of a command stands: which texts it has, and which positions are to come.
use Rattle.std.proofs.Common.{◌≡◌, ◌∙◌, ◌+◌, cond, ℕ, Bool, true, false, List, [], ◌∷◌, ◌++◌, Some, None, is_some, refl, sym, subst, ap, append_assoc}
use Rattle.std.proofs.lemmas.Option.{none-some}
use Rattle.std.proofs.lemmas.Slice.Eq.{bytes_eq-Decides}
use Rattle.std.specs.Option.{option_map_or}
use Rattle.std.specs.Str.{bytes_eq}
use Rattle.clap.specs.Walk.{Text, Rule, Row, Held, nothing_held, has_row, used, used_by_id, arg_by_id}
use Rattle.clap.specs.Faults.{settle_fault, use_fault}
use Rattle.clap.specs.declared.error.kind.ErrorKind.TheVariants as kind
use Rattle.pt_words.proofs.Arguments.{Command, rules, position_ruled, option_ruled, Apart, IsOption, ArePositions, IsCommand}
use Rattle.pt_words.proofs.Found.{Given, put, Looks, has-text, add-use}
use Rattle.pt_words.proofs.Turns.{rows_of, behind, taken_in}

-- ---- a use of an argument, the first or a second

pub first-use : (name text : Text) (rows : List Row) → has_row name rows ≡ false → use_fault false (option_ruled name) (text ∷ []) rows ≡ []
first-use name text rows fresh = rw fresh refl

pub second-use : (name text : Text) (rows : List Row) → has_row name rows ≡ true → use_fault false (option_ruled name) (text ∷ []) rows ≡ kind.ArgumentConflict ∷ []
second-use name text rows there = rw there refl

pub pending-use : (c : Command) (name text : Text) (h : Held) (rule : Rule) → arg_by_id (rules c) name ≡ Some rule
    → settle_fault (rules c) false (behind c name text h) ≡ use_fault false rule (text ∷ []) (rows_of c h)
pending-use c name text h rule found = ap (λ o. option_map_or (λ r. use_fault false r (text ∷ []) (rows_of c h)) o []) found

pending-rows : (c : Command) (name text : Text) (h : Held) (rule : Rule) → arg_by_id (rules c) name ≡ Some rule
    → rows_of c (behind c name text h) ≡ used rule (text ∷ []) (rows_of c h)
pending-rows c name text h rule found = ap (λ o. used_by_id o (text ∷ []) (rows_of c h)) found

-- ---- the texts of some arguments

-- None is there yet.
abbrev pub Free : List Text → Given → Type 0
Free [] s = Unit {0}
Free (name ∷ names) s = (s name ≡ None) × Free names s

-- These are the texts.
abbrev pub Filled : List Text → List Text → Given → Type 0
Filled [] [] s = Unit {0}
Filled [] (text ∷ texts) s = ⊥
Filled (name ∷ names) [] s = ⊥
Filled (name ∷ names) (text ∷ texts) s = (s name ≡ Some text) × Filled names texts s

free-put : (names : List Text) (name text : Text) (s : Given) → Apart name names → Free names s → Free names (put name text s)
free-put [] name text s apart free = tt
free-put (other ∷ names) name text s apart free = (ap (λ b. cond b (Some text) (s other)) apart.0 ∙ free.0, free-put names name text s apart.1 free.1)

put-same : (name text : Text) (s : Given) → put name text s name ≡ Some text
put-same name text s = ap (λ b. cond b (Some text) (s name)) ((bytes_eq-Decides name name).1 refl)

put-other : (name text other word : Text) (s : Given) → s name ≡ None → s other ≡ Some word → (b : Bool) → bytes_eq name other ≡ b → cond b (Some text) (s other) ≡ Some word
put-other name text other word s free is true same = absurd (none-some word (sym free ∙ ap s ((bytes_eq-Decides name other).0 same) ∙ is))
put-other name text other word s free is false differ = is

filled-put : (names texts : List Text) (name text : Text) (s : Given) → s name ≡ None → Filled names texts s → Filled names texts (put name text s)
filled-put [] [] name text s free filled = tt
filled-put [] (word ∷ texts) name text s free filled = absurd filled
filled-put (other ∷ names) [] name text s free filled = absurd filled
filled-put (other ∷ names) (word ∷ texts) name text s free filled =
    (put-other name text other word s free filled.0 (bytes_eq name other) refl, filled-put names texts name text s free filled.1)

filled-more : (names texts : List Text) (name text : Text) (s : Given) → Filled names texts s → s name ≡ Some text → Filled (names ++ name ∷ []) (texts ++ text ∷ []) s
filled-more [] [] name text s filled is = (is, tt)
filled-more [] (word ∷ texts) name text s filled is = absurd filled
filled-more (other ∷ names) [] name text s filled is = absurd filled
filled-more (other ∷ names) (word ∷ texts) name text s filled is = (filled.0, filled-more names texts name text s filled.1 is)

-- ---- the state of a walk

-- The next position's place, the positions so far and their texts, those to come, and all texts by their names.
pub record Past : Type 0 where
  pub place : ℕ
  pub taken : List Text
  pub texts : List Text
  pub left : List Text
  pub given : Given

abbrev pub before : Command → Past
before c = record { place = 1; taken = []; texts = []; left = c.positions; given = λ name. None }

abbrev pub with_option : Text → Text → Past → Past
with_option name text past = record past { given = put name text past.given }

abbrev pub with_position : Text → List Text → Text → Past → Past
with_position name left text past =
    record {
      place = past.place + 1;
      taken = past.taken ++ name ∷ [];
      texts = past.texts ++ text ∷ [];
      left = left;
      given = put name text past.given;
    }

-- What is pending passes, and this was found.
pub record Stands (c : Command) (h : Held) (past : Past) : Type 0 where
  pub passes : settle_fault (rules c) false h ≡ []
  pub looks : Looks (rows_of c h) past.given
  pub filled : Filled past.taken past.texts past.given
  pub free : Free past.left past.given
  pub places : ArePositions c past.place past.left
  pub apart : (name : Text) → IsOption c name → Apart name past.left
  pub whole : past.taken ++ past.left ≡ c.positions

none-free : (names : List Text) → Free names (λ name. None)
none-free [] = tt
none-free (name ∷ names) = (refl, none-free names)

pub before-stands : (c : Command) → IsCommand c → Stands c nothing_held (before c)
before-stands c is =
    record {
      passes = refl;
      looks = λ name. refl;
      filled = tt;
      free = none-free c.positions;
      places = is.positions;
      apart = λ name an. an.apart;
      whole = refl;
    }

-- With an option's text in its own word.
pub taken-option : (c : Command) (h : Held) (name text : Text) (past : Past) → IsOption c name → past.given name ≡ None → Stands c h past
    → Stands c (taken_in c name text h) (with_option name text past)
taken-option c h name text past is free stands =
    record {
      passes = refl;
      looks = add-use (rows_of c h) name text past.given free stands.looks;
      filled = filled-put past.taken past.texts name text past.given free stands.filled;
      free = free-put past.left name text past.given (stands.apart name is) stands.free;
      places = stands.places;
      apart = stands.apart;
      whole = stands.whole;
    }

-- With its text in the next word.
pub behind-option : (c : Command) (h : Held) (name text : Text) (past : Past) → IsOption c name → past.given name ≡ None → Stands c h past
    → Stands c (behind c name text h) (with_option name text past)
behind-option c h name text past is free stands =
    let taken = taken-option c h name text past is free stands in
    record {
      passes = pending-use c name text h (option_ruled name) is.by_id ∙ first-use name text (rows_of c h) (has-text (rows_of c h) past.given stands.looks name ∙ ap is_some free);
      looks = subst (λ rows. Looks rows (put name text past.given)) (sym (pending-rows c name text h (option_ruled name) is.by_id)) taken.looks;
      filled = taken.filled;
      free = taken.free;
      places = taken.places;
      apart = taken.apart;
      whole = taken.whole;
    }

position-use : (place : ℕ) (name text : Text) (rows : List Row) → has_row name rows ≡ false → use_fault false (position_ruled place name) (text ∷ []) rows ≡ []
position-use place name text rows fresh = rw fresh refl

-- With the text of the next position.
pub behind-position : (c : Command) (h : Held) (name : Text) (left : List Text) (text : Text) (past : Past) → past.left ≡ name ∷ left → Stands c h past
    → Stands c (behind c name text h) (with_position name left text past)
behind-position c h name left text past next stands =
    let places : ArePositions c past.place (name ∷ left) = subst (ArePositions c past.place) next stands.places in
    let rule = position_ruled past.place name in
    let free : Free (name ∷ left) past.given = subst (λ names. Free names past.given) next stands.free in
    let looks = add-use (rows_of c h) name text past.given free.0 stands.looks in
    record {
      passes = pending-use c name text h rule places.0.by_id ∙ position-use past.place name text (rows_of c h) (has-text (rows_of c h) past.given stands.looks name ∙ ap is_some free.0);
      looks = subst (λ rows. Looks rows (put name text past.given)) (sym (pending-rows c name text h rule places.0.by_id)) looks;
      filled =
          filled-more past.taken past.texts name text (put name text past.given) (filled-put past.taken past.texts name text past.given free.0 stands.filled)
          (put-same name text past.given);
      free = free-put left name text past.given places.0.apart free.1;
      places = places.1;
      apart = λ other is. (subst (Apart other) next (stands.apart other is)).1;
      whole = append_assoc past.taken (name ∷ []) left ∙ ap (λ names. past.taken ++ names) (sym next) ∙ stands.whole;
    }
