-- A command of positions and options: its rules, and what is computed of each of its names.
use Rattle.std.proofs.Common.{◌≡◌, ◌+◌, ℕ, Bool, true, false, List, [], ◌∷◌, ◌++◌, map, min, Option, Some, None, find}
use Rattle.std.specs.List.{list_any}
use Rattle.std.specs.Str.{bytes_eq}
use Rattle.clap.specs.Lexer.{usize_max, long_of}
use Rattle.clap.specs.Walk.{Text, Rule, arg_by_id, arg_by_index, arg_by_long}
use Rattle.clap.specs.Simple.{Shape, filled, with_index}
use Rattle.pt_words.specs.Commands.{position_rule, option_rule}
use Rattle.pt_words.specs.Options.{is_alone, is_attached, attached_text}
use Rattle.pt_words.proofs.Walks.{shape_with}

-- The names of the positions, in their order, and of the options.
pub record Command : Type 0 where
  pub positions : List Text
  pub options : List Text

-- ---- the rules

abbrev pub position_ruled : ℕ → Text → Rule
position_ruled place name = with_index place (filled (position_rule name))

abbrev pub option_ruled : Text → Rule
option_ruled name = filled (option_rule name)

abbrev pub rules_from : ℕ → List Text → List Text → List Rule
rules_from place [] options = map option_ruled options
rules_from place (name ∷ positions) options = position_ruled place name ∷ rules_from (place + 1) positions options

abbrev pub rules : Command → List Rule
rules c = rules_from 1 c.positions c.options

abbrev pub shape : Command → Shape
shape c = shape_with (rules c)

-- ---- the words of an option

-- The option alone.
abbrev pub alone : Text → Text
alone name = 45 ∷ 45 ∷ name

-- The option with its text.
abbrev pub attached : Text → Text → Text
attached name text = (alone name ++ 61 ∷ []) ++ text

-- The options as words.
abbrev pub dashed : Command → List Text
dashed c = map alone c.options

-- ---- what is computed of each name

-- Each of these names is another than this.
abbrev pub Apart : Text → List Text → Type 0
Apart name [] = Unit {0}
Apart name (other ∷ others) = (bytes_eq name other ≡ false) × Apart name others

-- What a word is.
pub record Seen : Type 0 where
  pub long : Option (Text × Option Text)
  pub is_bare : Bool
  pub is_alone : Option Text
  pub is_attached : Option Text

abbrev pub seen : Command → Text → Seen
seen c word =
    record {
      long = long_of word;
      is_bare = bytes_eq word (45 ∷ 45 ∷ []);
      is_alone = find (is_alone word) (dashed c);
      is_attached = find (is_attached word) (dashed c);
    }

-- The rules have an option of this name, and its words are read as such.
pub record IsOption (c : Command) (name : Text) : Type 0 where
  pub by_id : arg_by_id (rules c) name ≡ Some (option_ruled name)
  pub by_long : arg_by_long (rules c) name ≡ Some (option_ruled name)
  pub is_there : list_any (λ other. bytes_eq other name) c.options ≡ true
  pub apart : Apart name c.positions
  pub alone_is : seen c (alone name) ≡ record { long = Some (name, None); is_bare = false; is_alone = Some (alone name); is_attached = None }
  pub attached_is : (text : Text) → seen c (attached name text) ≡ record { long = Some (name, Some text); is_bare = false; is_alone = None; is_attached = Some (alone name) }
  pub text_is : (text : Text) → attached_text (attached name text) (alone name) ≡ text

-- The same of all that is computed.
pub is-option : (c : Command) (name : Text) → arg_by_id (rules c) name ≡ Some (option_ruled name) → arg_by_long (rules c) name ≡ Some (option_ruled name)
    → list_any (λ other. bytes_eq other name) c.options ≡ true → Apart name c.positions
    → seen c (alone name) ≡ record { long = Some (name, None); is_bare = false; is_alone = Some (alone name); is_attached = None }
    → ((text : Text) → seen c (attached name text) ≡ record { long = Some (name, Some text); is_bare = false; is_alone = None; is_attached = Some (alone name) })
    → ((text : Text) → attached_text (attached name text) (alone name) ≡ text) → IsOption c name
is-option c name a b d e f g h = record { by_id = a; by_long = b; is_there = d; apart = e; alone_is = f; attached_is = g; text_is = h }

abbrev pub AreOptionsOf : Command → List Text → Type 0
AreOptionsOf c [] = Unit {0}
AreOptionsOf c (name ∷ names) = IsOption c name × AreOptionsOf c names

-- The rules have a position of this name at this place, before these.
pub record IsPosition (c : Command) (place : ℕ) (name : Text) (later : List Text) : Type 0 where
  pub by_id : arg_by_id (rules c) name ≡ Some (position_ruled place name)
  pub by_index : arg_by_index (rules c) place ≡ Some (position_ruled place name)
  pub next : min (place + 1) usize_max ≡ place + 1
  pub apart : Apart name later

pub is-position : (c : Command) (place : ℕ) (name : Text) (later : List Text) → arg_by_id (rules c) name ≡ Some (position_ruled place name)
    → arg_by_index (rules c) place ≡ Some (position_ruled place name) → min (place + 1) usize_max ≡ place + 1 → Apart name later → IsPosition c place name later
is-position c place name later a b d e = record { by_id = a; by_index = b; next = d; apart = e }

-- The same of all from a place on, behind which there is none.
abbrev pub ArePositions : Command → ℕ → List Text → Type 0
ArePositions c place [] = arg_by_index (rules c) place ≡ None
ArePositions c place (name ∷ names) = IsPosition c place name names × ArePositions c (place + 1) names

-- All that is computed of a command.
pub record IsCommand (c : Command) : Type 0 where
  pub options : AreOptionsOf c c.options
  pub positions : ArePositions c 1 c.positions
