-- By what the walk over the words finds.
use Rattle.std.proofs.Common.{◌≡◌, List, ℕ, Some, None, map, sym, ◌∙◌, subst, true, false}
use Rattle.std.specs.String.{string_bytes}
use Rattle.clap.proofs.WalkLemmas.{list_any-map}
use Rattle.clap.specs.Simple.{app_of}
use Rattle.clap.specs.Faults.{is_simple_and_free}
use Rattle.pt_words.specs.Options.{has_foreign, is_foreign}
use Rattle.pt_words.specs.Run.{run_options}
use Rattle.pt_words.specs.Matches.{IsRead}
use Rattle.pt_words.proofs.RunWords.{run-some, run-no, run-foreign}
use Rattle.pt_words.proofs.run.run_texts.Goals as goal

pub returns-then-has_foreign : goal.returns-then-has_foreign
returns-then-has_foreign c = run-foreign (map string_bytes c.args.words.now) (sym (list_any-map (is_foreign run_options) string_bytes c.args.words.now) ∙ sym c.has_foreign.ensures ∙ c.if-has_foreign.true)

pub returns-in-Some : goal.returns-in-Some
returns-in-Some c =
    let command = c.in_ok-run_words.field-0 in
    let words : List (List ℕ) = map string_bytes c.args.words.now in
    let known : has_foreign run_options words ≡ false = sym (list_any-map (is_foreign run_options) string_bytes c.args.words.now) ∙ sym c.has_foreign.ensures ∙ c.if-has_foreign.false in
    let read : is_simple_and_free (app_of command) ≡ true → IsRead (app_of command) words (Some c.in-Some.matches) =
    λ simple. subst (IsRead (app_of command) words) c.in-Some.is (c.in_ok-matches.ensures simple) in
    c.texts_of.ensures ∙ run-some (app_of command) words c.in-Some.matches c.in_ok-run_words.ensures known read

pub returns-in-None : goal.returns-in-None
returns-in-None c =
    let command = c.in_ok-run_words.field-0 in
    let words : List (List ℕ) = map string_bytes c.args.words.now in
    let known : has_foreign run_options words ≡ false = sym (list_any-map (is_foreign run_options) string_bytes c.args.words.now) ∙ sym c.has_foreign.ensures ∙ c.if-has_foreign.false in
    let read : is_simple_and_free (app_of command) ≡ true → IsRead (app_of command) words None =
    λ simple. subst (IsRead (app_of command) words) c.in-None.is (c.in_ok-matches.ensures simple) in
    run-no (app_of command) words c.in_ok-run_words.ensures known read
