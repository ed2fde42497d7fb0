-- The line that is written for a step.
use Rattle.std.specs.Prelude.{ℕ, Bool, true, false, ◌&&◌, List, [], ◌∷◌, length, map, codes, nat_le, if◌then◌else◌}
use Rattle.std.specs.List.{list_all, join_with_byte, flat_map}
use Rattle.std.specs.Int.{is_in_range, from_bool}
use Rattle.ep_defs.specs.declared.limits.TheConstants.{RULES}
use Rattle.ep_defs.specs.declared.session.Config.{Config}
use Rattle.ep_defs.specs.declared.session.Rule.{Rule}
use Rattle.ep_model.specs.declared.step.Step.{Step}
use Rattle.ep_model.specs.declared.step.Step.TheVariants as step
use Rattle.ep_plan.specs.declared.limits.TheConstants.{LINE_BYTES}
use Rattle.ep_plan.specs.Words.{space, is_name, number_text, id_text, frames_text, payload_text, rule_text}

-- Words after others, each after a space.
abbrev pub spaced : List (List ℕ) → List ℕ
spaced words = flat_map (λ word. space ∷ word) words

-- The words of a line with these numbers.
abbrev pub number_words : List ℕ → List ℕ → List (List ℕ)
number_words name numbers = name ∷ map number_text numbers

-- A flag is written as 0 or 1.
abbrev pub flag_text : Bool → List ℕ
flag_text flag = number_text (from_bool flag)

-- The words of an Accept's line: the shortest that says which flags the session has.
abbrev pub accept_words : ℕ → Config → List (List ℕ)
accept_words session config =
    if config.rundown
    then codes "accept4" ∷ number_text session ∷ number_text config.chunks ∷ flag_text config.stackwalk ∷ flag_text true ∷ map rule_text config.rules
    else if config.stackwalk
    then codes "accept" ∷ number_text session ∷ number_text config.chunks ∷ map rule_text config.rules
    else codes "accept3" ∷ number_text session ∷ number_text config.chunks ∷ flag_text false ∷ map rule_text config.rules

-- The words of a step's line.
abbrev pub step_words : Step → List (List ℕ)
step_words (step.Accept session config) = accept_words session config
step_words (step.Enter thread) = number_words (codes "enter") (thread ∷ [])
step_words (step.Leave thread) = number_words (codes "leave") (thread ∷ [])
step_words (step.Open session thread) = number_words (codes "open") (session ∷ thread ∷ [])
step_words (step.Begin thread stamp write) =
    codes "begin" ∷ number_text thread ∷ number_text stamp ∷ number_text write.event
    ∷ id_text write.activity ∷ id_text write.related ∷ frames_text write.frames ∷ payload_text write.payload ∷ []
step_words (step.Show thread session) = number_words (codes "show") (thread ∷ session ∷ [])
step_words (step.End thread) = number_words (codes "end") (thread ∷ [])
step_words (step.Steal session thread) = number_words (codes "steal") (session ∷ thread ∷ [])
step_words (step.Give session) = number_words (codes "give") (session ∷ [])
step_words (step.Point session stamp) = number_words (codes "point") (session ∷ stamp ∷ [])
step_words (step.Close session thread) = number_words (codes "close") (session ∷ thread ∷ [])
step_words (step.Finish session stamp) = number_words (codes "finish") (session ∷ stamp ∷ [])

-- A step's line, without its line feed.
abbrev pub step_text : Step → List ℕ
step_text made = join_with_byte space (step_words made)

-- A line has as many rules as a session may have, one at least, and can hold their names.
abbrev pub has_rules : List Rule → Bool
has_rules rules = is_in_range 1 RULES (length rules) && list_all (λ rule. is_name rule.name) rules

-- The text has a word for each part of the step.
abbrev pub has_parts : Step → Bool
has_parts (step.Accept session config) = has_rules config.rules
has_parts _ = true

-- A line can hold the step.
unfoldable pub can_print : Step → Bool
can_print made = has_parts made && nat_le (length (step_text made)) LINE_BYTES
