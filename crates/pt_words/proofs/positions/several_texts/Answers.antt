-- By what the walk over the words finds.
use Rattle.std.proofs.Common.{◌≡◌, ◌≤◌, List, ℕ, length, Some, None, map, sym, ◌∙◌, subst, true, false, arith}
use Rattle.std.proofs.lemmas.List.{length-map}
use Rattle.std.proofs.lemmas.Result.{IfOk-weaker}
use Rattle.clap.specs.Lexer.{usize_max}
use Rattle.std.specs.String.{string_bytes}
use Rattle.clap.specs.Simple.{app_of}
use Rattle.clap.specs.Faults.{is_simple_and_free}
use Rattle.pt_words.specs.Words.{has_option}
use Rattle.pt_words.specs.Matches.{IsRead}
use Rattle.pt_words.proofs.Read.{several-some, several-no, several-option, has-option_map}
use Rattle.pt_words.proofs.positions.several_texts.Goals as goal

pub returns-then-has_option : goal.returns-then-has_option
returns-then-has_option c = several-option (map string_bytes c.args.words.now) (sym (has-option_map string_bytes c.args.words.now) ∙ sym c.has_option.ensures.found ∙ c.if-has_option.true)

pub returns-in-Some : goal.returns-in-Some
returns-in-Some c =
    let command = c.in_ok-several_positions.field-0 in
    let words : List (List ℕ) = map string_bytes c.args.words.now in
    let plain : has_option words ≡ false = sym (has-option_map string_bytes c.args.words.now) ∙ sym c.has_option.ensures.found ∙ c.if-has_option.false in
    let read : is_simple_and_free (app_of command) ≡ true → IsRead (app_of command) words (Some c.in-Some.matches) =
    λ simple. subst (IsRead (app_of command) words) c.in-Some.is (c.in_ok-matches.ensures simple) in
    let found = several-some (app_of command) words c.in-Some.matches c.in_ok-several_positions.ensures plain read in
    IfOk-weaker c.several_of.result _ _ (λ texts is. is ∙ found) c.several_of.ensures

pub returns-in-None : goal.returns-in-None
returns-in-None c =
    let command = c.in_ok-several_positions.field-0 in
    let words : List (List ℕ) = map string_bytes c.args.words.now in
    let plain : has_option words ≡ false = sym (has-option_map string_bytes c.args.words.now) ∙ sym c.has_option.ensures.found ∙ c.if-has_option.false in
    let few : length words ≤ usize_max = omega (arith, length-map c.args.words.now string_bytes, c.has_option.ensures.few) in
    let read : is_simple_and_free (app_of command) ≡ true → IsRead (app_of command) words None =
    λ simple. subst (IsRead (app_of command) words) c.in-None.is (c.in_ok-matches.ensures simple) in
    several-no (app_of command) words c.in_ok-several_positions.ensures plain few read
