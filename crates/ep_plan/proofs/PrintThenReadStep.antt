-- The line that is written for a step is read as that step.
use Rattle.std.proofs.Common.{◌≡◌, ◌==◌, inl, inr, option_map, ℕ, zero, suc, ◌+◌, ◌-◌, ◌^◌, ◌<◌, ◌≤◌, Bool, true, false, nat_le, List, [], ◌∷◌, length, map, codes, Some, None, IsTrue, refl, sym, ap, ◌∙◌, subst, arith}
use Rattle.std.specs.List.{list_all, join_with_byte}
use Rattle.std.specs.Int.{is_in_range}
use Rattle.std.proofs.lemmas.Bool.{and_parts, and_from, cases_lt, cases_Bool}
use Rattle.std.proofs.lemmas.Bool.Decides.{nat_tests}
use Rattle.std.specs.Prelude.{All, slice_index}
use Rattle.std.proofs.lemmas.List.{get_or_past}
use Rattle.std.proofs.lemmas.List.Elements.{All-head, All-tail}
use Rattle.ep_defs.specs.declared.event.EventDef.{EventDef}
use Rattle.ep_defs.specs.declared.session.Config.{Config}
use Rattle.ep_defs.specs.declared.session.Rule.{Rule as RuleValue}
use Rattle.ep_defs.specs.declared.session.Write.{Write}
use Rattle.ep_defs.specs.Event.{is_same_text}
use Rattle.ep_defs.specs.Ranges.{ConfigFits, RuleFits, WriteFits, AreBytes}
use Rattle.ep_model.specs.Ranges.{StepFits}
use Rattle.ep_model.specs.declared.step.Step.{Step}
use Rattle.ep_defs.specs.declared.limits.TheConstants.{RULES}
use Rattle.hex.specs.Hex.{IsBytes}
use Rattle.ep_plan.specs.declared.limits.TheConstants.{LINE_BYTES}
use Rattle.ep_plan.specs.declared.verb.Verb.{Verb}
use Rattle.ep_plan.specs.Words.{space, words_of, is_name, rule_in, all_in, with_first, number_text, id_text, frames_text, payload_text, rule_text}
use Rattle.ep_plan.specs.Lines.{more_than_one, Part, Number, Flag, Stamp, Id, Frames, Payload, Rule, form_of, verb_in, unless, number_of, flag_of, stamp_of, write_of, first_bad, fault_of, spelling_fault, form_bad, step_bad, is_blank, Spells, Means, IsLine}
use Rattle.ep_plan.specs.Printing.{flag_text, step_words, step_text, can_print, has_rules, has_parts}
use Rattle.ep_plan.proofs.Separated.{lacks, all_lack}
use Rattle.ep_plan.proofs.NumberTexts.{number_in-number_text}
use Rattle.ep_plan.proofs.PrintThenReadWord.{id_in-id_text, payload_in-payload_text, frames_in-frames_text, rule_in-rule_text}
use Rattle.ep_plan.proofs.WordTexts.{IsWord, IsWord-number_text, IsWord-id_text, IsWord-payload_text, IsWord-frames_text, IsWord-rule_text, words_of-join}
use Rattle.ep_plan.proofs.Forms.{write-is}
use Rattle.ep_plan.proofs.Printed.{accept-words, accept3-words, accept4-words}
use Rattle.ep_plan.proofs.WholeLines.{worded, step-first}
use Rattle.ep_model.specs.declared.step.Step.TheVariants as step
use Rattle.ep_plan.specs.declared.line.Line.TheVariants as line
use Rattle.ep_plan.specs.declared.verb.Verb.TheVariants as verb
use Rattle.ep_plan.specs.declared.line.LineKind.TheVariants as kind

-- ---- words that are good

-- Each word is good as its part.
abbrev AreGood : List Part → ℕ → List (List ℕ) → Type 0
AreGood [] more [] = Unit {0}
AreGood [] zero (word ∷ words) = ⊥
AreGood [] (suc more) (word ∷ words) = (fault_of Rule word ≡ None) × AreGood [] more words
AreGood (part ∷ parts) more [] = ⊥
AreGood (part ∷ parts) more (word ∷ words) = (fault_of part word ≡ None) × AreGood parts more words

none-bad : (past column : ℕ) (parts : List Part) (more : ℕ) (words : List (List ℕ)) → AreGood parts more words → first_bad past column parts more words ≡ None
unfolding first_bad
none-bad past column [] more [] h = refl
none-bad past column [] zero (word ∷ words) h = absurd h
none-bad past column [] (suc more) (word ∷ words) h = rw h.0 (none-bad past (column + length word + 1) [] more words h.1)
none-bad past column (part ∷ parts) more [] h = absurd h
none-bad past column (part ∷ parts) more (word ∷ words) h = rw h.0 (none-bad past (column + length word + 1) parts more words h.1)

-- A word that spells something is good.
good-as : (part : Part) (word : List ℕ) → IsWord word → spelling_fault part word ≡ None → fault_of part word ≡ None
unfolding fault_of
good-as part [] is h = let some = is.some in absurd (omega arith)
good-as part (byte ∷ word) is h = h

-- ---- a line of words

line-of : (events : List EventDef) (stepped : Bool) (made : Step) (first : List ℕ) (words : List (List ℕ)) (verb : Verb) → IsTrue (can_print made) → step_words made ≡ first ∷ words → all_lack space (first ∷ words) ≡ true → is_blank (step_text made) ≡ false → is_same_text first (codes "event") ≡ false → verb_in first ≡ Some verb → AreGood (form_of verb).parts (form_of verb).more_rules words → Spells (first ∷ words) made → IsLine events stepped (step_text made) (line.Step made)
unfolding can_print Means step_bad
line-of events stepped made first words verb can is lack other name named good spells =
    let text = step_text made in
    let short = (and_parts (has_parts made) (nat_le (length text) LINE_BYTES) can).1 in
    let few : length text ≤ LINE_BYTES = grind (arith, nat_tests) in
    let cut : words_of text ≡ first ∷ words = ap (λ ws. words_of (join_with_byte space ws)) is ∙ words_of-join first words lack in
    let spell : List (List ℕ) → Type 0 = λ ws. Spells ws made in
    record {
      good = worded events stepped text (first ∷ words) few other cut
          ∙ step-first events stepped (length text + 1) first words name
          ∙ ap (λ v. form_bad (length text + 1) (length first + 2) words (option_map form_of v)) named
          ∙ none-bad (length text + 1) (length first + 2) (form_of verb).parts (form_of verb).more_rules words good;
      meaning = (other, subst spell (sym cut) spells);
    }

-- ---- numbers

reads : (number : ℕ) → number < 2 ^ 32 → number_of (number_text number) ≡ Some number
reads number small = number_in-number_text (2 ^ 32 - 1) number (omega arith) (omega arith)

is-word : (number : ℕ) → number < 2 ^ 32 → IsWord (number_text number)
is-word number small = IsWord-number_text number (omega arith)

good-number : (number : ℕ) → number < 2 ^ 32 → fault_of Number (number_text number) ≡ None
good-number number small = good-as Number (number_text number) (is-word number small) (ap (λ o. unless o kind.Number) (reads number small))

reads-stamp : (stamp : ℕ) → stamp < 2 ^ 64 → stamp_of (number_text stamp) ≡ Some stamp
reads-stamp stamp small = number_in-number_text (2 ^ 64 - 1) stamp (omega arith) small

good-stamp : (stamp : ℕ) → stamp < 2 ^ 64 → fault_of Stamp (number_text stamp) ≡ None
good-stamp stamp small = good-as Stamp (number_text stamp) (IsWord-number_text stamp small) (ap (λ o. unless o kind.Number) (reads-stamp stamp small))

lack-one : (a : List ℕ) → IsWord a → all_lack space (a ∷ []) ≡ true
lack-one a is = and_from (lacks space a) true is.no_space refl

lack-more : (a : List ℕ) (words : List (List ℕ)) → IsWord a → all_lack space words ≡ true → all_lack space (a ∷ words) ≡ true
lack-more a words is rest = and_from (lacks space a) (all_lack space words) is.no_space rest

-- A line of two numbers.
lack-two : (a b : List ℕ) → IsWord a → IsWord b → all_lack space (a ∷ b ∷ []) ≡ true
lack-two a b is also = lack-more a (b ∷ []) is (lack-one b also)

-- ---- rules

rule-good : (rule : RuleValue) → is_name rule.name ≡ true → RuleFits rule → fault_of Rule (rule_text rule) ≡ None
rule-good rule name fits = good-as Rule (rule_text rule) (IsWord-rule_text rule name fits.keywords fits.level) (ap (λ o. unless o kind.Fields) (rule_in-rule_text rule name fits.keywords fits.level))

rules-good : (rules : List RuleValue) (more : ℕ) → length rules ≤ more → list_all (λ rule. is_name rule.name) rules ≡ true → All RuleFits rules → AreGood [] more (map rule_text rules)
rules-good [] more few names fits = tt
rules-good (rule ∷ rules) zero few names fits = absurd (omega arith)
rules-good (rule ∷ rules) (suc more) few names fits =
    let parts = and_parts (is_name rule.name) (list_all (λ rule. is_name rule.name) rules) names in
    (rule-good rule parts.0 (All-head RuleFits rule rules fits), rules-good rules more (omega arith) parts.1 (All-tail RuleFits rule rules fits))

rules-lack : (rules : List RuleValue) → list_all (λ rule. is_name rule.name) rules ≡ true → All RuleFits rules → all_lack space (map rule_text rules) ≡ true
rules-lack [] names fits = refl
rules-lack (rule ∷ rules) names fits =
    let parts = and_parts (is_name rule.name) (list_all (λ rule. is_name rule.name) rules) names in
    lack-more (rule_text rule) (map rule_text rules) (IsWord-rule_text rule parts.0 (All-head RuleFits rule rules fits).keywords (All-head RuleFits rule rules fits).level) (rules-lack rules parts.1 (All-tail RuleFits rule rules fits))

rules-read : (rules : List RuleValue) → list_all (λ rule. is_name rule.name) rules ≡ true → All RuleFits rules → all_in rule_in (map rule_text rules) ≡ Some rules
rules-read [] names fits = refl
rules-read (rule ∷ rules) names fits =
    let parts = and_parts (is_name rule.name) (list_all (λ rule. is_name rule.name) rules) names in
    let rest = rules-read rules parts.1 (All-tail RuleFits rule rules fits) in
    ap (λ first. with_first first (all_in rule_in (map rule_text rules))) (rule_in-rule_text rule parts.0 (All-head RuleFits rule rules fits).keywords (All-head RuleFits rule rules fits).level) ∙ ap (with_first (Some rule)) rest

-- 1 to 1,000 rules.
accept-good : (rules : List RuleValue) → is_in_range 1 RULES (length rules) ≡ true → list_all (λ rule. is_name rule.name) rules ≡ true → All RuleFits rules → AreGood (Rule ∷ []) more_than_one (map rule_text rules)
accept-good [] count names fits = cc
accept-good (rule ∷ rules) count names fits =
    let parts = and_parts (is_name rule.name) (list_all (λ rule. is_name rule.name) rules) names in
    let few : length (rule ∷ rules) ≤ RULES = grind (arith, nat_tests) in
    (rule-good rule parts.0 (All-head RuleFits rule rules fits), rules-good rules more_than_one (omega arith) parts.1 (All-tail RuleFits rule rules fits))

-- ---- writes

-- What is below a number at each place is so at those past the end too, where 0 stands.
each-below : (n : ℕ) (xs : List ℕ) → 0 < n → All (λ x. x < n) xs → (i : ℕ) → slice_index xs i < n
each-below n xs some all i = elim (cases_lt i (length xs)) [
  | inl within ↦ all i 0 within
  | inr past ↦ subst (λ (m : ℕ). m < n) (sym (get_or_past xs i 0 past)) some
]

bytes-below : (bytes : List ℕ) → AreBytes bytes → IsBytes bytes
bytes-below bytes fit = each-below (2 ^ 8) bytes (omega arith) fit

write-lack : (write : Write) → WriteFits write → all_lack space (number_text write.event ∷ id_text write.activity ∷ id_text write.related ∷ frames_text write.frames ∷ payload_text write.payload ∷ []) ≡ true
write-lack write fits =
    let a = bytes-below write.activity fits.activity.bytes in
    let r = bytes-below write.related fits.related.bytes in
    let f = each-below (2 ^ 64) write.frames (omega arith) fits.frames in
    let p = bytes-below write.payload fits.payload in
    lack-more (number_text write.event) (id_text write.activity ∷ id_text write.related ∷ frames_text write.frames ∷ payload_text write.payload ∷ []) (is-word write.event fits.event)
    (lack-more (id_text write.activity) (id_text write.related ∷ frames_text write.frames ∷ payload_text write.payload ∷ []) (IsWord-id_text write.activity fits.activity.long a)
    (lack-more (id_text write.related) (frames_text write.frames ∷ payload_text write.payload ∷ []) (IsWord-id_text write.related fits.related.long r)
    (lack-two (frames_text write.frames) (payload_text write.payload) (IsWord-frames_text write.frames f) (IsWord-payload_text write.payload p))))

write-good : (write : Write) → WriteFits write → AreGood (Number ∷ Id ∷ Id ∷ Frames ∷ Payload ∷ []) 0 (number_text write.event ∷ id_text write.activity ∷ id_text write.related ∷ frames_text write.frames ∷ payload_text write.payload ∷ [])
write-good write fits =
    let a = bytes-below write.activity fits.activity.bytes in
    let r = bytes-below write.related fits.related.bytes in
    let f = each-below (2 ^ 64) write.frames (omega arith) fits.frames in
    let p = bytes-below write.payload fits.payload in (
      good-number write.event fits.event,
      (
        good-as Id (id_text write.activity) (IsWord-id_text write.activity fits.activity.long a) (ap (λ o. unless o kind.Hex) (id_in-id_text write.activity fits.activity.long a)),
        (
          good-as Id (id_text write.related) (IsWord-id_text write.related fits.related.long r) (ap (λ o. unless o kind.Hex) (id_in-id_text write.related fits.related.long r)),
          (
            good-as Frames (frames_text write.frames) (IsWord-frames_text write.frames f) (ap (λ o. unless o kind.Hex) (frames_in-frames_text write.frames f)),
            (good-as Payload (payload_text write.payload) (IsWord-payload_text write.payload p) (ap (λ o. unless o kind.Hex) (payload_in-payload_text write.payload p)), tt),
          ),
        ),
      ),
    )

write-read : (write : Write) → WriteFits write → write_of (number_text write.event ∷ id_text write.activity ∷ id_text write.related ∷ frames_text write.frames ∷ payload_text write.payload ∷ []) ≡ Some write
write-read write fits =
    let a = bytes-below write.activity fits.activity.bytes in
    let r = bytes-below write.related fits.related.bytes in
    let f = each-below (2 ^ 64) write.frames (omega arith) fits.frames in
    let p = bytes-below write.payload fits.payload in
    write-is _ (number_text write.event) (id_text write.activity) (id_text write.related) (frames_text write.frames) (payload_text write.payload) write refl
    (reads write.event fits.event) (id_in-id_text write.activity fits.activity.long a) (id_in-id_text write.related fits.related.long r) (frames_in-frames_text write.frames f) (payload_in-payload_text write.payload p)

-- ---- steps

reads-flag : (flag : Bool) → flag_of (flag_text flag) ≡ Some flag
reads-flag true = ap (option_map (λ n. n == 1)) (number_in-number_text 1 1 (omega arith) (omega arith))
reads-flag false = ap (option_map (λ n. n == 1)) (number_in-number_text 1 0 (omega arith) (omega arith))

flag-word : (flag : Bool) → IsWord (flag_text flag)
flag-word true = is-word 1 (omega arith)
flag-word false = is-word 0 (omega arith)

good-flag : (flag : Bool) → fault_of Flag (flag_text flag) ≡ None
good-flag flag = good-as Flag (flag_text flag) (flag-word flag) (ap (λ o. unless o kind.Number) (reads-flag flag))

-- The rules of an Accept, which end its line.
record AreRules (rules : List RuleValue) : Type 0 where
  count : is_in_range 1 RULES (length rules) ≡ true
  names : list_all (λ rule. is_name rule.name) rules ≡ true
  fits : All RuleFits rules

rules-are : (config : Config) → has_rules config.rules ≡ true → ConfigFits config → AreRules config.rules
rules-are config has fits =
    let rules = and_parts (is_in_range 1 RULES (length config.rules)) (list_all (λ rule. is_name rule.name) config.rules) has in
    record { count = rules.0; names = rules.1; fits = fits.rules }

-- The line of an Accept with these flags after its numbers.
accept-line : (events : List EventDef) (stepped : Bool) (session : ℕ) (config : Config) (first : List ℕ) (words : List (List ℕ)) (verb : Verb) → IsTrue (can_print (step.Accept session config)) → step_words (step.Accept session config) ≡ first ∷ number_text session ∷ number_text config.chunks ∷ words → session < 2 ^ 32 → ConfigFits config → all_lack space words ≡ true → all_lack space (first ∷ []) ≡ true → is_blank (join_with_byte space (first ∷ number_text session ∷ number_text config.chunks ∷ words)) ≡ false → is_same_text first (codes "event") ≡ false → verb_in first ≡ Some verb → AreGood (form_of verb).parts (form_of verb).more_rules (number_text session ∷ number_text config.chunks ∷ words) → Spells (first ∷ number_text session ∷ number_text config.chunks ∷ words) (step.Accept session config) → IsLine events stepped (step_text (step.Accept session config)) (line.Step (step.Accept session config))
accept-line events stepped session config first words verb can is small fits lack first_lacks other name named good spells =
    let rest = lack-more (number_text session) (number_text config.chunks ∷ words) (is-word session small) (lack-more (number_text config.chunks) words (is-word config.chunks fits.chunks) lack) in
    line-of events stepped (step.Accept session config) first (number_text session ∷ number_text config.chunks ∷ words) verb can is
    (and_from (lacks space first) (all_lack space (number_text session ∷ number_text config.chunks ∷ words)) (and_parts (lacks space first) true first_lacks).0 rest)
    (ap (λ ws. is_blank (join_with_byte space ws)) is ∙ other) name named good spells

accept4-again : (events : List EventDef) (stepped : Bool) (session : ℕ) (config : Config) → session < 2 ^ 32 → ConfigFits config → IsTrue (can_print (step.Accept session config)) → AreRules config.rules → config.rundown ≡ true → IsLine events stepped (step_text (step.Accept session config)) (line.Step (step.Accept session config))
unfolding Spells
accept4-again events stepped session config small fits can rules ends =
    let words = map rule_text config.rules in
    accept-line events stepped session config (codes "accept4") (flag_text config.stackwalk ∷ flag_text true ∷ words) verb.Accept4 can (accept4-words session config ends) small fits
    (lack-more (flag_text config.stackwalk) (flag_text true ∷ words) (flag-word config.stackwalk) (lack-more (flag_text true) words (flag-word true) (rules-lack config.rules rules.names rules.fits)))
    refl refl refl refl
    (good-number session small, (good-number config.chunks fits.chunks, (good-flag config.stackwalk, (good-flag true, accept-good config.rules rules.count rules.names rules.fits))))
    (number_text session, number_text config.chunks, words, inr (inr (flag_text config.stackwalk, flag_text true, refl, reads-flag config.stackwalk, reads-flag true ∙ ap Some (sym ends))), reads session small, reads config.chunks fits.chunks, rules-read config.rules rules.names rules.fits)

accept-again : (events : List EventDef) (stepped : Bool) (session : ℕ) (config : Config) → session < 2 ^ 32 → ConfigFits config → IsTrue (can_print (step.Accept session config)) → AreRules config.rules → config.rundown ≡ false → config.stackwalk ≡ true → IsLine events stepped (step_text (step.Accept session config)) (line.Step (step.Accept session config))
unfolding Spells
accept-again events stepped session config small fits can rules none walks =
    let words = map rule_text config.rules in
    accept-line events stepped session config (codes "accept") words verb.Accept can (accept-words session config none walks) small fits
    (rules-lack config.rules rules.names rules.fits)
    refl refl refl refl
    (good-number session small, (good-number config.chunks fits.chunks, accept-good config.rules rules.count rules.names rules.fits))
    (number_text session, number_text config.chunks, words, inl (refl, walks, none), reads session small, reads config.chunks fits.chunks, rules-read config.rules rules.names rules.fits)

accept3-again : (events : List EventDef) (stepped : Bool) (session : ℕ) (config : Config) → session < 2 ^ 32 → ConfigFits config → IsTrue (can_print (step.Accept session config)) → AreRules config.rules → config.rundown ≡ false → config.stackwalk ≡ false → IsLine events stepped (step_text (step.Accept session config)) (line.Step (step.Accept session config))
unfolding Spells
accept3-again events stepped session config small fits can rules none walks =
    let words = map rule_text config.rules in
    accept-line events stepped session config (codes "accept3") (flag_text false ∷ words) verb.Accept3 can (accept3-words session config none walks) small fits
    (lack-more (flag_text false) words (flag-word false) (rules-lack config.rules rules.names rules.fits))
    refl refl refl refl
    (good-number session small, (good-number config.chunks fits.chunks, (good-flag false, accept-good config.rules rules.count rules.names rules.fits)))
    (number_text session, number_text config.chunks, words, inr (inl (flag_text false, refl, reads-flag false ∙ ap Some (sym walks), none)), reads session small, reads config.chunks fits.chunks, rules-read config.rules rules.names rules.fits)

-- The line of an Accept, by its flags.
any-accept : (events : List EventDef) (stepped : Bool) (session : ℕ) (config : Config) → session < 2 ^ 32 → ConfigFits config → IsTrue (can_print (step.Accept session config)) → AreRules config.rules → IsLine events stepped (step_text (step.Accept session config)) (line.Step (step.Accept session config))
any-accept events stepped session config small fits can rules = elim (cases_Bool config.rundown) [
  | inl ends ↦ accept4-again events stepped session config small fits can rules ends
  | inr none ↦
      elim (cases_Bool config.stackwalk) [
        | inl walks ↦ accept-again events stepped session config small fits can rules none walks
        | inr walks ↦ accept3-again events stepped session config small fits can rules none walks
      ]
]

pub read-again : (events : List EventDef) (stepped : Bool) (made : Step) → StepFits made → IsTrue (can_print made) → IsLine events stepped (step_text made) (line.Step made)
unfolding Spells can_print
read-again events stepped (step.Accept session config) fits can =
    let parts = and_parts (has_parts (step.Accept session config)) (nat_le (length (step_text (step.Accept session config))) LINE_BYTES) can in
    any-accept events stepped session config fits.0 fits.1 can (rules-are config parts.0 fits.1)
read-again events stepped (step.Enter thread) fits can =
    line-of events stepped (step.Enter thread) (codes "enter") (number_text thread ∷ []) verb.Enter can refl
    (lack-one _ (is-word thread fits)) refl refl refl
    (good-number thread fits, tt)
    (number_text thread, refl, reads thread fits)
read-again events stepped (step.Leave thread) fits can =
    line-of events stepped (step.Leave thread) (codes "leave") (number_text thread ∷ []) verb.Leave can refl
    (lack-one _ (is-word thread fits)) refl refl refl
    (good-number thread fits, tt)
    (number_text thread, refl, reads thread fits)
read-again events stepped (step.Open session thread) fits can =
    line-of events stepped (step.Open session thread) (codes "open") (number_text session ∷ number_text thread ∷ []) verb.Open can refl
    (lack-two _ _ (is-word session fits.0) (is-word thread fits.1)) refl refl refl
    (good-number session fits.0, (good-number thread fits.1, tt))
    (number_text session, number_text thread, refl, reads session fits.0, reads thread fits.1)
read-again events stepped (step.Begin thread stamp write) fits can =
    let rest = number_text write.event ∷ id_text write.activity ∷ id_text write.related ∷ frames_text write.frames ∷ payload_text write.payload ∷ [] in
    line-of events stepped (step.Begin thread stamp write) (codes "begin") (number_text thread ∷ number_text stamp ∷ rest) verb.Begin can refl
    (lack-more (number_text thread) (number_text stamp ∷ rest) (is-word thread fits.0) (lack-more (number_text stamp) rest (IsWord-number_text stamp fits.1) (write-lack write fits.2)))
    refl refl refl
    (good-number thread fits.0, (good-stamp stamp fits.1, write-good write fits.2))
    (number_text thread, number_text stamp, rest, refl, reads thread fits.0, reads-stamp stamp fits.1, write-read write fits.2)
read-again events stepped (step.Show thread session) fits can =
    line-of events stepped (step.Show thread session) (codes "show") (number_text thread ∷ number_text session ∷ []) verb.Show can refl
    (lack-two _ _ (is-word thread fits.0) (is-word session fits.1)) refl refl refl
    (good-number thread fits.0, (good-number session fits.1, tt))
    (number_text thread, number_text session, refl, reads thread fits.0, reads session fits.1)
read-again events stepped (step.End thread) fits can =
    line-of events stepped (step.End thread) (codes "end") (number_text thread ∷ []) verb.End can refl
    (lack-one _ (is-word thread fits)) refl refl refl
    (good-number thread fits, tt)
    (number_text thread, refl, reads thread fits)
read-again events stepped (step.Steal session thread) fits can =
    line-of events stepped (step.Steal session thread) (codes "steal") (number_text session ∷ number_text thread ∷ []) verb.Steal can refl
    (lack-two _ _ (is-word session fits.0) (is-word thread fits.1)) refl refl refl
    (good-number session fits.0, (good-number thread fits.1, tt))
    (number_text session, number_text thread, refl, reads session fits.0, reads thread fits.1)
read-again events stepped (step.Give session) fits can =
    line-of events stepped (step.Give session) (codes "give") (number_text session ∷ []) verb.Give can refl
    (lack-one _ (is-word session fits)) refl refl refl
    (good-number session fits, tt)
    (number_text session, refl, reads session fits)
read-again events stepped (step.Point session stamp) fits can =
    line-of events stepped (step.Point session stamp) (codes "point") (number_text session ∷ number_text stamp ∷ []) verb.Point can refl
    (lack-two _ _ (is-word session fits.0) (IsWord-number_text stamp fits.1)) refl refl refl
    (good-number session fits.0, (good-stamp stamp fits.1, tt))
    (number_text session, number_text stamp, refl, reads session fits.0, reads-stamp stamp fits.1)
read-again events stepped (step.Close session thread) fits can =
    line-of events stepped (step.Close session thread) (codes "close") (number_text session ∷ number_text thread ∷ []) verb.Close can refl
    (lack-two _ _ (is-word session fits.0) (is-word thread fits.1)) refl refl refl
    (good-number session fits.0, (good-number thread fits.1, tt))
    (number_text session, number_text thread, refl, reads session fits.0, reads thread fits.1)
read-again events stepped (step.Finish session stamp) fits can =
    line-of events stepped (step.Finish session stamp) (codes "finish") (number_text session ∷ number_text stamp ∷ []) verb.Finish can refl
    (lack-two _ _ (is-word session fits.0) (IsWord-number_text stamp fits.1)) refl refl refl
    (good-number session fits.0, (good-stamp stamp fits.1, tt))
    (number_text session, number_text stamp, refl, reads session fits.0, reads-stamp stamp fits.1)

pub can-parts : (made : Step) → IsTrue (can_print made) → IsTrue (has_parts made)
unfolding can_print
can-parts made can = (and_parts (has_parts made) (nat_le (length (step_text made)) LINE_BYTES) can).0
