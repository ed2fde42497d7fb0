-- By what the walk over the words finds.
use Rattle.std.proofs.Common.{◌≡◌, List, ℕ, Bor, Option, Some, None, map, option_map, refl, sym, ap, ap₂, ◌∙◌, subst, true, false}
use Rattle.std.specs.Option.{option_zip}
use Rattle.std.specs.String.{string_bytes}
use Rattle.clap.specs.Simple.{app_of}
use Rattle.clap.specs.Faults.{is_simple_and_free}
use Rattle.pt_words.specs.Words.{has_option, pair_of}
use Rattle.pt_words.specs.Matches.{IsRead}
use Rattle.pt_words.proofs.PositionWords.{two-some, two-no, two-option}
use Rattle.pt_words.proofs.Read.{has-option_map}
use Rattle.pt_words.proofs.positions.two_texts.Goals as goal

zip-texts : (a b : Option (Bor (List ℕ))) → option_map pair_of (option_zip a b) ≡ option_zip (option_map (λ t. t.now) a) (option_map (λ t. t.now) b)
zip-texts None b = refl
zip-texts (Some a) None = refl
zip-texts (Some a) (Some b) = refl

pub returns-then-has_option : goal.returns-then-has_option
returns-then-has_option c = two-option (map string_bytes c.args.words.now) (sym (has-option_map string_bytes c.args.words.now) ∙ sym c.has_option.ensures.found ∙ c.if-has_option.true)

pub returns-in-Some : goal.returns-in-Some
returns-in-Some c =
    let command = c.in_ok-two_positions.field-0 in
    let words : List (List ℕ) = map string_bytes c.args.words.now in
    let plain : has_option words ≡ false = sym (has-option_map string_bytes c.args.words.now) ∙ sym c.has_option.ensures.found ∙ c.if-has_option.false in
    let read : is_simple_and_free (app_of command) ≡ true → IsRead (app_of command) words (Some c.in-Some.matches) =
    λ simple. subst (IsRead (app_of command) words) c.in-Some.is (c.in_ok-matches.ensures simple) in
    ap (option_map pair_of) c.zip.ensures ∙ zip-texts c.get_str.result c.get_str-in-Some.result
    ∙ ap₂ option_zip c.get_str.ensures c.get_str-in-Some.ensures
    ∙ two-some (app_of command) words c.in-Some.matches c.in_ok-two_positions.ensures plain read

pub returns-in-None : goal.returns-in-None
returns-in-None c =
    let command = c.in_ok-two_positions.field-0 in
    let words : List (List ℕ) = map string_bytes c.args.words.now in
    let plain : has_option words ≡ false = sym (has-option_map string_bytes c.args.words.now) ∙ sym c.has_option.ensures.found ∙ c.if-has_option.false in
    let read : is_simple_and_free (app_of command) ≡ true → IsRead (app_of command) words None =
    λ simple. subst (IsRead (app_of command) words) c.in-None.is (c.in_ok-matches.ensures simple) in
    two-no (app_of command) words c.in_ok-two_positions.ensures plain read
