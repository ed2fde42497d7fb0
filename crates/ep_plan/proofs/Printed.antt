-- The words of a line that is written.
use Rattle.std.proofs.Common.{◌≡◌, ℕ, ◌+◌, ◌<◌, true, false, codes, List, [], ◌∷◌, ◌++◌, length, map, take, get_or, refl, sym, ap, ◌∙◌, append_assoc, Result, Ok, Err, OnOk}
use Rattle.std.specs.List.{join_with_byte}
use Rattle.std.proofs.lemmas.List.{append-nil, take_more, map-append}
use Rattle.ep_defs.specs.declared.session.Config.{Config}
use Rattle.ep_defs.specs.declared.session.Rule.{Rule}
use Rattle.ep_plan.specs.Words.{space, number_text, rule_text}
use Rattle.ep_plan.specs.Printing.{spaced, number_words, flag_text, step_words}
use Rattle.ep_plan.proofs.Separated.{join-push}
use Rattle.ep_model.specs.declared.step.Step.TheVariants as step

-- ---- words after others

pub spaced-append : (xs ys : List (List ℕ)) → spaced (xs ++ ys) ≡ spaced xs ++ spaced ys
spaced-append [] ys = refl
spaced-append (x ∷ xs) ys = ap (λ rest. (space ∷ x) ++ rest) (spaced-append xs ys) ∙ sym (append_assoc (space ∷ x) (spaced xs) (spaced ys))

pub no-words : (start : List ℕ) → start ≡ start ++ spaced []
no-words start = sym (append-nil start)

-- The words of a line are the first one and those after it.
join-spaced : (first : List ℕ) (words : List (List ℕ)) → join_with_byte space (first ∷ words) ≡ first ++ spaced words
join-spaced first [] = sym (append-nil first)
join-spaced first (word ∷ words) = ap (λ rest. first ++ space ∷ rest) (join-spaced word words)

pub join-more : (first : List ℕ) (xs ys : List (List ℕ)) → join_with_byte space (first ∷ (xs ++ ys)) ≡ join_with_byte space (first ∷ xs) ++ spaced ys
join-more first xs ys =
    let behind : List ℕ → List ℕ = λ text. text ++ spaced ys in
    join-spaced first (xs ++ ys) ∙ ap (λ rest. first ++ rest) (spaced-append xs ys) ∙ sym (append_assoc first (spaced xs) (spaced ys)) ∙ ap behind (sym (join-spaced first xs))

-- Words were written after a line.
pub line-more : (start line next first : List ℕ) (xs ys : List (List ℕ)) → line ≡ start ++ join_with_byte space (first ∷ xs) → next ≡ line ++ spaced ys → next ≡ start ++ join_with_byte space (first ∷ (xs ++ ys))
line-more start line next first xs ys h more =
    let behind : List ℕ → List ℕ = λ text. text ++ spaced ys in
    let whole : List ℕ → List ℕ = λ text. start ++ text in
    more ∙ ap behind h ∙ append_assoc start (join_with_byte space (first ∷ xs)) (spaced ys) ∙ ap whole (sym (join-more first xs ys))

-- ---- numbers

number-push : (name : List ℕ) (numbers : List ℕ) (count : ℕ) → count < length numbers → join_with_byte space (number_words name (take (count + 1) numbers)) ≡ join_with_byte space (number_words name (take count numbers)) ++ space ∷ number_text (get_or numbers count 0)
number-push name numbers count within =
    let more : map number_text (take (count + 1) numbers) ≡ map number_text (take count numbers) ++ number_text (get_or numbers count 0) ∷ [] =
    ap (map number_text) (take_more numbers count 0 within) ∙ map-append number_text (take count numbers) (get_or numbers count 0 ∷ []) in
    ap (λ words. join_with_byte space (name ∷ words)) more ∙ join-push space name (map number_text (take count numbers)) (number_text (get_or numbers count 0))

pub number-more : (start line spaced next name : List ℕ) (numbers : List ℕ) (count : ℕ) → count < length numbers → line ≡ start ++ join_with_byte space (number_words name (take count numbers)) → spaced ≡ line ++ space ∷ [] → next ≡ spaced ++ number_text (get_or numbers count 0) → next ≡ start ++ join_with_byte space (number_words name (take (count + 1) numbers))
number-more start line spaced next name numbers count within h gap more =
    let text = number_text (get_or numbers count 0) in
    let words = join_with_byte space (number_words name (take count numbers)) in
    let behind : List ℕ → List ℕ = λ before. before ++ text in
    let between : List ℕ → List ℕ = λ before. before ++ space ∷ [] in
    let whole : List ℕ → List ℕ = λ after. start ++ after in
    more ∙ ap behind (gap ∙ ap between h) ∙ append_assoc (start ++ words) (space ∷ []) text ∙ append_assoc start words (space ∷ text) ∙ ap whole (sym (number-push name numbers count within))

-- ---- rules

-- One more rule was written.
pub rule-more : (start line next : List ℕ) (rules : List Rule) (count : ℕ) (rule : Rule) → count < length rules → rule ≡ get_or rules count rule → line ≡ start ++ spaced (map rule_text (take count rules)) → next ≡ line ++ space ∷ rule_text rule → next ≡ start ++ spaced (map rule_text (take (count + 1) rules))
rule-more start line next rules count rule within is h more =
    let before = map rule_text (take count rules) in
    let text = rule_text rule in
    let first : Rule → List Rule = λ r. take count rules ++ r ∷ [] in
    let words : map rule_text (take (count + 1) rules) ≡ before ++ text ∷ [] =
    ap (map rule_text) (take_more rules count rule within ∙ ap first (sym is)) ∙ map-append rule_text (take count rules) (rule ∷ []) in
    let longer : spaced (map rule_text (take (count + 1) rules)) ≡ spaced before ++ space ∷ text =
    ap spaced words ∙ spaced-append before (text ∷ []) ∙ ap (λ rest. spaced before ++ rest) (append-nil (space ∷ text)) in
    let behind : List ℕ → List ℕ = λ before. before ++ space ∷ text in
    let whole : List ℕ → List ℕ = λ after. start ++ after in
    more ∙ ap behind h ∙ append_assoc start (spaced before) (space ∷ text) ∙ ap whole (sym longer)

-- Words were written after a line, where there was memory.
pub ok-line : {T E : Type 0} (r : Result T E) (start line next first : List ℕ) (xs ys : List (List ℕ)) → line ≡ start ++ join_with_byte space (first ∷ xs) → OnOk r (next ≡ line ++ spaced ys) → OnOk r (next ≡ start ++ join_with_byte space (first ∷ (xs ++ ys)))
ok-line (Ok x) start line next first xs ys h more = line-more start line next first xs ys h more
ok-line (Err e) start line next first xs ys h more = tt

-- ---- accept lines

pub accept-words : (session : ℕ) (config : Config) → config.rundown ≡ false → config.stackwalk ≡ true → step_words (step.Accept session config) ≡ codes "accept" ∷ number_text session ∷ number_text config.chunks ∷ map rule_text config.rules
accept-words session config none walks = rw (none, walks) refl

pub accept3-words : (session : ℕ) (config : Config) → config.rundown ≡ false → config.stackwalk ≡ false → step_words (step.Accept session config) ≡ codes "accept3" ∷ number_text session ∷ number_text config.chunks ∷ number_text 0 ∷ map rule_text config.rules
accept3-words session config none walks = rw (none, walks) refl

pub accept4-words : (session : ℕ) (config : Config) → config.rundown ≡ true → step_words (step.Accept session config) ≡ codes "accept4" ∷ number_text session ∷ number_text config.chunks ∷ flag_text config.stackwalk ∷ number_text 1 ∷ map rule_text config.rules
accept4-words session config ends = rw ends refl
