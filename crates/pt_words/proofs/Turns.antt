-- How the walk goes over the words of a command of positions and options: what each kind of word makes of each place where it can stand.
use Rattle.std.proofs.Common.{◌≡◌, ◌∙◌, ◌+◌, cond, Bool, false, ℕ, List, [], ◌∷◌, Option, Some, None, refl, ap, ap₂, nat_lt}
use Rattle.std.proofs.Math.Bool.{and-false}
use Rattle.std.proofs.lemmas.Slice.Eq.{bytes_eq-Decides}
use Rattle.std.specs.Option.{option_map_or}
use Rattle.std.specs.Str.{bytes_eq}
use Rattle.clap.specs.Lexer.{long_of}
use Rattle.clap.specs.Walk.{Text, Rule, Row, Held, Waiting, Walk, idle, option, positional, trailing, walked, used, settled, is_pending, pushed, after_flag, after_step, long_met, long_or_other, option_word, to_positional, arg_by_id, arg_by_index}
use Rattle.clap.specs.Faults.{turn_fault, settle_fault, use_fault, positional_fault, long_fault, flag_word_fault, step_fault}
use Rattle.clap.specs.Kinds.{Kinds, or_else}
use Rattle.clap.specs.declared.error.kind.ErrorKind.TheVariants as kind
use Rattle.pt_words.specs.Words.{is_option}
use Rattle.pt_words.proofs.Walks.{shape_with}
use Rattle.pt_words.proofs.Arguments.{Command, rules, shape, alone, attached, option_ruled, position_ruled, IsOption, IsPosition}

-- ---- where the walk stands

-- The rows once what is pending is used.
abbrev pub rows_of : Command → Held → List Row
rows_of c h = (settled (rules c) h).rows

abbrev pub standing : Held → Waiting → ℕ → Walk
standing h waiting position = record { held = h; waiting = waiting; position = position; is_trailing = false; stopped = None }

-- Where a position or an option may come next.
abbrev pub at : Held → ℕ → Walk
at h position = standing h idle position

-- Behind an argument's text.
abbrev pub behind : Command → Text → Text → Held → Held
behind c name text h = record { rows = rows_of c h; pending = Some (name, text ∷ []); skip = h.skip }

-- Behind an option with its text in its own word.
abbrev pub taken_in : Command → Text → Text → Held → Held
taken_in c name text h = record { rows = used (option_ruled name) (text ∷ []) (rows_of c h); pending = None; skip = h.skip }

-- Behind an option alone.
abbrev pub waiting_with : Command → Text → Held → Held
waiting_with c name h = record { rows = rows_of c h; pending = Some (name, []); skip = h.skip }

abbrev pub waiting_on : Command → Text → Held → ℕ → Walk
waiting_on c name h position = standing (waiting_with c name h) (option name) position

-- ---- a word that begins with `--` and names an option

abbrev turn_by : List Rule → Waiting → Held → ℕ → Text → Bool → Option (Text × Option Text) → Kinds
turn_by rs waiting h position word is_bare long =
    let met = cond is_bare (h, trailing position) (long_or_other rs waiting word long h) in
    or_else (cond is_bare [] (flag_word_fault rs false long word h)) (step_fault (shape_with rs) position met.0 met.1)

turn-is : (rs : List Rule) (waiting : Waiting) (h : Held) (position : ℕ) (word : Text)
    → turn_fault (shape_with rs) [] (standing h waiting position) word ≡ turn_by rs waiting h position word (bytes_eq word (45 ∷ 45 ∷ [])) (long_of word)
turn-is rs idle h position word = refl
turn-is rs (option name) h position word = refl
turn-is rs positional h position word = refl

abbrev walk_by : List Rule → Waiting → Held → ℕ → Text → Bool → Option (Text × Option Text) → Walk
walk_by rs waiting h position word is_bare long =
    let met = cond is_bare (h, trailing position) (long_or_other rs waiting word long h) in
    after_step rs word (standing h waiting position) met.0 met.1

walk-is : (rs : List Rule) (waiting : Waiting) (h : Held) (position : ℕ) (word : Text)
    → walked rs [] (standing h waiting position) word ≡ walk_by rs waiting h position word (bytes_eq word (45 ∷ 45 ∷ [])) (long_of word)
unfolding walked
walk-is rs idle h position word = refl
walk-is rs (option name) h position word = refl
walk-is rs positional h position word = refl

-- The same, by the option that the rules have.
abbrev turn_with : List Rule → Waiting → Held → ℕ → Text → Option Text → Option Rule → Kinds
turn_with rs waiting h position word text found =
    let met = after_flag rs waiting word (long_met rs found text h).0 (long_met rs found text h).1 in
    or_else (long_fault rs false found text h) (step_fault (shape_with rs) position met.0 met.1)

abbrev walk_with : List Rule → Waiting → Held → ℕ → Text → Option Text → Option Rule → Walk
walk_with rs waiting h position word text found =
    let met = after_flag rs waiting word (long_met rs found text h).0 (long_met rs found text h).1 in
    after_step rs word (standing h waiting position) met.0 met.1

alone-turned : (c : Command) (name : Text) → IsOption c name → (waiting : Waiting) (h : Held) (position : ℕ)
    → turn_fault (shape c) [] (standing h waiting position) (alone name) ≡ or_else (settle_fault (rules c) false h) []
alone-turned c name is waiting h position =
    turn-is (rules c) waiting h position (alone name)
    ∙ ap (λ s. turn_by (rules c) waiting h position (alone name) s.is_bare s.long) is.alone_is
    ∙ ap (turn_with (rules c) waiting h position (alone name) None) is.by_long

attached-turned : (c : Command) (name : Text) → IsOption c name → (text : Text) (waiting : Waiting) (h : Held) (position : ℕ)
    → turn_fault (shape c) [] (standing h waiting position) (attached name text)
    ≡ or_else (or_else (settle_fault (rules c) false h) (use_fault false (option_ruled name) (text ∷ []) (rows_of c h))) []
attached-turned c name is text waiting h position =
    turn-is (rules c) waiting h position (attached name text)
    ∙ ap (λ s. turn_by (rules c) waiting h position (attached name text) s.is_bare s.long) (is.attached_is text)
    ∙ ap (turn_with (rules c) waiting h position (attached name text) (Some text)) is.by_long

-- ---- an option where anything may come

pub alone-turn : (c : Command) (name : Text) → IsOption c name → (h : Held) (position : ℕ) → turn_fault (shape c) [] (at h position) (alone name) ≡ or_else (settle_fault (rules c) false h) []
alone-turn c name is h position = alone-turned c name is idle h position

pub alone-walked : (c : Command) (name : Text) → IsOption c name → (h : Held) (position : ℕ) → walked (rules c) [] (at h position) (alone name) ≡ waiting_on c name h position
alone-walked c name is h position =
    walk-is (rules c) idle h position (alone name)
    ∙ ap (λ s. walk_by (rules c) idle h position (alone name) s.is_bare s.long) is.alone_is
    ∙ ap (walk_with (rules c) idle h position (alone name) None) is.by_long

pub attached-turn : (c : Command) (name : Text) → IsOption c name → (text : Text) (h : Held) (position : ℕ)
    → turn_fault (shape c) [] (at h position) (attached name text)
    ≡ or_else (or_else (settle_fault (rules c) false h) (use_fault false (option_ruled name) (text ∷ []) (rows_of c h))) []
attached-turn c name is text h position = attached-turned c name is text idle h position

pub attached-walked : (c : Command) (name : Text) → IsOption c name → (text : Text) (h : Held) (position : ℕ)
    → walked (rules c) [] (at h position) (attached name text) ≡ at (taken_in c name text h) position
attached-walked c name is text h position =
    walk-is (rules c) idle h position (attached name text)
    ∙ ap (λ s. walk_by (rules c) idle h position (attached name text) s.is_bare s.long) (is.attached_is text)
    ∙ ap (walk_with (rules c) idle h position (attached name text) (Some text)) is.by_long

-- ---- behind an option alone

pub text-turn : (c : Command) (name : Text) (h : Held) (position : ℕ) (word : Text) → is_option word ≡ false → turn_fault (shape c) [] (waiting_on c name h position) word ≡ []
text-turn c name h position [] plain = refl
text-turn c name h position (x ∷ xs) plain = rw (plain, plain) refl

abbrev text_with : Command → Text → Held → ℕ → Text → Option Rule → Walk
text_with c name h position word found =
    let met = option_word found name word (waiting_with c name h) in
    standing met.0 met.1 position

text-walked-by : (c : Command) (name : Text) (h : Held) (position : ℕ) (word : Text) → is_option word ≡ false
    → walked (rules c) [] (waiting_on c name h position) word ≡ text_with c name h position word (arg_by_id (rules c) name)
unfolding walked
text-walked-by c name h position [] plain = refl
text-walked-by c name h position (x ∷ xs) plain = rw (plain, plain) refl

pub text-walked : (c : Command) (name : Text) → IsOption c name → (h : Held) (position : ℕ) (word : Text) → is_option word ≡ false
    → walked (rules c) [] (waiting_on c name h position) word ≡ at (behind c name word h) position
text-walked c name is h position word plain =
    text-walked-by c name h position word plain ∙ ap (text_with c name h position word) is.by_id
    ∙ ap (λ b. standing (behind c name word h) (cond (nat_lt (cond b 1 0) 1) (option name) idle) position) ((bytes_eq-Decides name name).1 refl)

-- No option may come there.
pub waiting-fails : (c : Command) (name : Text) → IsOption c name → (h : Held) → settle_fault (rules c) false (waiting_with c name h) ≡ kind.InvalidValue ∷ []
waiting-fails c name is h = ap (λ found. option_map_or (λ rule. use_fault false rule [] (rows_of c h)) found []) is.by_id

pub alone-waiting : (c : Command) (name other : Text) → IsOption c name → IsOption c other → (h : Held) (position : ℕ)
    → turn_fault (shape c) [] (waiting_on c name h position) (alone other) ≡ kind.InvalidValue ∷ []
alone-waiting c name other is there h position =
    alone-turned c other there (option name) (waiting_with c name h) position ∙ ap (λ f. or_else f []) (waiting-fails c name is h)

pub attached-waiting : (c : Command) (name other : Text) → IsOption c name → IsOption c other → (text : Text) (h : Held) (position : ℕ)
    → turn_fault (shape c) [] (waiting_on c name h position) (attached other text) ≡ kind.InvalidValue ∷ []
attached-waiting c name other is there text h position =
    attached-turned c other there text (option name) (waiting_with c name h) position
    ∙ ap (λ f. or_else (or_else f (use_fault false (option_ruled other) (text ∷ []) (rows_of c (waiting_with c name h)))) []) (waiting-fails c name is h)

-- ---- a position

plain-turn : (c : Command) (h : Held) (position : ℕ) (word : Text) → is_option word ≡ false
    → turn_fault (shape c) [] (at h position) word
    ≡ option_map_or (λ rule. positional_fault (rules c) false rule h) (arg_by_index (rules c) position) (kind.UnknownArgument ∷ [])
plain-turn c h position [] plain = refl
plain-turn c h position (x ∷ xs) plain = rw (plain, plain) refl

pub position-turn : (c : Command) (place : ℕ) (name : Text) (later : List Text) → IsPosition c place name later → (h : Held) (word : Text) → is_option word ≡ false
    → turn_fault (shape c) [] (at h place) word ≡ settle_fault (rules c) false h
position-turn c place name later is h word plain =
    plain-turn c h place word plain
    ∙ ap (λ found. option_map_or (λ rule. positional_fault (rules c) false rule h) found (kind.UnknownArgument ∷ [])) is.by_index
    ∙ ap (λ b. cond b [] (settle_fault (rules c) false h)) (and-false (is_pending (position_ruled place name) h.pending))

pub over-turn : (c : Command) (place : ℕ) → arg_by_index (rules c) place ≡ None → (h : Held) (word : Text) → is_option word ≡ false
    → turn_fault (shape c) [] (at h place) word ≡ kind.UnknownArgument ∷ []
over-turn c place none h word plain =
    plain-turn c h place word plain ∙ ap (λ found. option_map_or (λ rule. positional_fault (rules c) false rule h) found (kind.UnknownArgument ∷ [])) none

plain-walked : (c : Command) (h : Held) (position : ℕ) (word : Text) → is_option word ≡ false
    → walked (rules c) [] (at h position) word ≡ to_positional (rules c) (arg_by_index (rules c) position) word (at h position) h
unfolding walked
plain-walked c h position [] plain = refl
plain-walked c h position (x ∷ xs) plain = rw (plain, plain) refl

-- What a position holds, whether it is pending or not, and where the walk goes on.
position_held : Command → Text → Text → Held → Bool → ℕ → Walk
position_held c name word h is_pending place = at (pushed name word (cond is_pending h (settled (rules c) h))) place

pub position-walked : (c : Command) (place : ℕ) (name : Text) (later : List Text) → IsPosition c place name later → (h : Held) (word : Text) → is_option word ≡ false
    → walked (rules c) [] (at h place) word ≡ at (behind c name word h) (place + 1)
unfolding position_held
position-walked c place name later is h word plain =
    plain-walked c h place word plain ∙ ap (λ found. to_positional (rules c) found word (at h place) h) is.by_index
    ∙ ap₂ (position_held c name word h) (and-false (is_pending (position_ruled place name) h.pending)) is.next
