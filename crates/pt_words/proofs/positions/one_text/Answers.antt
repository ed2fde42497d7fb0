-- By what the walk over the words finds.
use Rattle.std.proofs.Common.{◌≡◌, List, ℕ, Some, None, map, sym, ◌∙◌, subst, true, false}
use Rattle.std.specs.String.{string_bytes}
use Rattle.clap.specs.Simple.{app_of}
use Rattle.clap.specs.Faults.{is_simple_and_free}
use Rattle.pt_words.specs.Words.{has_option}
use Rattle.pt_words.specs.Matches.{IsRead}
use Rattle.pt_words.proofs.PositionWords.{one-some, one-no, one-option}
use Rattle.pt_words.proofs.Read.{has-option_map}
use Rattle.pt_words.proofs.positions.one_text.Goals as goal

pub returns-then-has_option : goal.returns-then-has_option
returns-then-has_option c = one-option (map string_bytes c.args.words.now) (sym (has-option_map string_bytes c.args.words.now) ∙ sym c.has_option.ensures.found ∙ c.if-has_option.true)

pub returns-in-Some : goal.returns-in-Some
returns-in-Some c =
    let command = c.in_ok-one_position.field-0 in
    let words : List (List ℕ) = map string_bytes c.args.words.now in
    let plain : has_option words ≡ false = sym (has-option_map string_bytes c.args.words.now) ∙ sym c.has_option.ensures.found ∙ c.if-has_option.false in
    let read : is_simple_and_free (app_of command) ≡ true → IsRead (app_of command) words (Some c.in-Some.matches) =
    λ simple. subst (IsRead (app_of command) words) c.in-Some.is (c.in_ok-matches.ensures simple) in
    c.get_str.ensures ∙ one-some (app_of command) words c.in-Some.matches c.in_ok-one_position.ensures plain read

pub returns-in-None : goal.returns-in-None
returns-in-None c =
    let command = c.in_ok-one_position.field-0 in
    let words : List (List ℕ) = map string_bytes c.args.words.now in
    let plain : has_option words ≡ false = sym (has-option_map string_bytes c.args.words.now) ∙ sym c.has_option.ensures.found ∙ c.if-has_option.false in
    let read : is_simple_and_free (app_of command) ≡ true → IsRead (app_of command) words None =
    λ simple. subst (IsRead (app_of command) words) c.in-None.is (c.in_ok-matches.ensures simple) in
    one-no (app_of command) words c.in_ok-one_position.ensures plain read
