-- What the words after the first one are, and what they spell.
use Rattle.std.proofs.Common.{◌≡◌, if◌then◌else◌, option_map, ℕ, ◌+◌, Bool, true, false, List, [], ◌∷◌, length, find, Option, Some, None, Result, Ok, Err, OnOk, IfOk, subst, refl, sym, ap, ◌∙◌}
use Rattle.std.specs.Result.{MatchResult, IsOkAnd}
use Rattle.ep_defs.proofs.Sameness.{text-means}
use Rattle.ep_model.specs.declared.step.Step.{Step}
use Rattle.ep_plan.specs.declared.line.LineFault.{LineFault}
use Rattle.ep_plan.specs.declared.line.LineFault.TheVariants.{Bad as BadLine}
use Rattle.ep_plan.specs.declared.line.LineKind.{LineKind}
use Rattle.ep_plan.specs.declared.line.LineKind.TheVariants as kind
use Rattle.ep_defs.specs.declared.event.EventDef.{EventDef}
use Rattle.ep_defs.specs.declared.session.Write.{Write}
use Rattle.ep_defs.specs.Event.{is_same_text}
use Rattle.ep_plan.specs.declared.cursor.Cursor.{Cursor}
use Rattle.ep_plan.specs.declared.verb.Verb.{Verb}
use Rattle.ep_plan.specs.Lines.{Bad, bad_at, form_of, verbs, verb_in, form_bad, step_bad, number_of, write_of, definition_of, Spells}
use Rattle.ep_plan.specs.Words.{id_in, frames_in, payload_in, hex_in, provider_in, event_name_in, fields_in}
use Rattle.ep_plan.specs.Cursor.{left, bad_form, BeginsAt}

-- What a search finds passes the test.
found : {A : Type 0} (test : A → Bool) (xs : List A) (x : A) → find test xs ≡ Some x → test x ≡ true
found test [] x h = cc
found test (y ∷ xs) x h = by_test (test y) refl h (found test xs x)
  where
    by_test : (b : Bool) → test y ≡ b → (if b then Some y else find test xs) ≡ Some x → (find test xs ≡ Some x → test x ≡ true) → test x ≡ true
    by_test true passed e later =
        let same : y ≡ x = cc in
        ap test (sym same) ∙ passed
    by_test false failed e later = later e

-- The first word is the name of the verb that it was found to be.
pub verb-name : (first : List ℕ) (verb : Verb) → verb_in first ≡ Some verb → first ≡ (form_of verb).name
verb-name first verb named = text-means first (form_of verb).name (found (λ v. is_same_text first (form_of v).name) verbs verb named)

-- A line whose first word names a verb has the verb's form.
pub verb-form : (words : Cursor) (first : List ℕ) (verb : Verb) → verb_in first ≡ Some verb → BeginsAt (length first + 2) words → step_bad words.past first (left words) ≡ bad_form words (form_of verb)
unfolding step_bad
verb-form words first verb named begins =
    let after : Option Verb → Option Bad = λ v. form_bad words.past (length first + 2) (left words) (option_map form_of v) in
    ap after named ∙ begins (form_of verb).parts (form_of verb).more_rules

-- A line whose first word names no verb.
pub no-verb : (past : ℕ) (first : List ℕ) (words : List (List ℕ)) → verb_in first ≡ None → step_bad past first words ≡ Some (bad_at 1 kind.Word)
unfolding step_bad
no-verb past first words none = ap (λ v. form_bad past (length first + 2) words (option_map form_of v)) none

-- The first word is this name.
pub named : (first slice name : List ℕ) → true ≡ is_same_text first slice → slice ≡ name → first ≡ name
named first slice name h same = text-means first slice (sym h) ∙ same

-- The first word is another one.
pub unnamed : (first slice name : List ℕ) → false ≡ is_same_text first slice → slice ≡ name → is_same_text first name ≡ false
unnamed first slice name h same = ap (is_same_text first) (sym same) ∙ sym h

-- A line that is good in its form.
pub good-through : {T : Type 0} (r : Result T LineFault) (a b : Option Bad) → a ≡ b → OnOk r (b ≡ None) → OnOk r (a ≡ None)
good-through (Ok x) a b h good = h ∙ good
good-through (Err e) a b h good = tt

-- The words of a write.
pub write-is : (words : List (List ℕ)) (e a r f p : List ℕ) (write : Write) → words ≡ e ∷ a ∷ r ∷ f ∷ p ∷ [] → number_of e ≡ Some write.event → id_in a ≡ Some write.activity → id_in r ≡ Some write.related → frames_in f ≡ Some write.frames → payload_in p ≡ Some write.payload → write_of words ≡ Some write
unfolding write_of
write-is words e a r f p write cut event activity related frames payload = rw (cut, event, activity, related, frames, payload) refl

-- The words of a definition.
pub definition-is : (words : List (List ℕ)) (p i v l k n f : List ℕ) (def : EventDef) → words ≡ p ∷ i ∷ v ∷ l ∷ k ∷ n ∷ f ∷ [] → provider_in p ≡ Some def.provider → number_of i ≡ Some def.id → number_of v ≡ Some def.version → number_of l ≡ Some def.level → hex_in k ≡ Some def.keywords → event_name_in n ≡ Some def.name → fields_in f ≡ Some def.fields → definition_of words ≡ Some def
unfolding definition_of
definition-is words p i v l k n f def cut provider id version level keywords name fields = rw (cut, provider, id, version, level, keywords, name, fields) refl

-- A fault at the first word of a line.
pub no-word : {T : Type 0} (words : Cursor) (first : List ℕ) (fault : LineFault) → fault ≡ BadLine words.line 1 kind.Word → step_bad words.past first (left words) ≡ Some (bad_at 1 kind.Word) → (at column : ℕ) (why : LineKind) → ◌≡◌ {A = Result T LineFault} (Err fault) (Err (BadLine at column why)) → (at ≡ words.line) × (step_bad words.past first (left words) ≡ Some (bad_at column why))
no-word words first fault told bad at column why e =
    let same : ◌≡◌ {A = LineFault} (BadLine words.line 1 kind.Word) (BadLine at column why) = cc in
    let line : at ≡ words.line = cc in
    let answer : bad_at 1 kind.Word ≡ bad_at column why = cc in
    (line, bad ∙ ap Some answer)

-- A step that was made of what was read is what the words spell.
pub made-of : {A : Type 0} {F : A → Step → Type 0} {Q : A → Type 0} (r : Result A LineFault) (m : Result Step LineFault) (verb its : Verb) (words : List (List ℕ)) (make : A → Step)
    → verb ≡ its → MatchResult r (λ x. IsOkAnd m (F x)) (λ e. m ≡ Err e) → ((x : A) (made : Step) → F x made → made ≡ make x) → IfOk r Q → ((x : A) → Q x → Spells ((form_of its).name ∷ words) (make x))
    → IfOk m (λ made. Spells ((form_of verb).name ∷ words) made)
made-of (Ok x) (Ok made) verb its words make same by is read spells =
    let whole : Verb → Step → Type 0 = λ v s. Spells ((form_of v).name ∷ words) s in
    subst (λ v. whole v made) (sym same) (subst (whole its) (sym (is x made by)) (spells x read))
made-of (Ok x) (Err e) verb its words make same by is read spells = tt
made-of (Err e) (Ok made) verb its words make same by is read spells = cc
made-of (Err e) (Err f) verb its words make same by is read spells = tt
