-- What is wrong with a whole line.
use Rattle.std.proofs.Common.{◌≡◌, ◌≢◌, ◌<◌, ◌≤◌, ◌+◌, ℕ, Bool, true, false, nat_lt, if◌then◌else◌, List, [], ◌∷◌, length, ◌==◌, codes, Option, Some, None, refl, sym, ap, ◌∙◌, subst, arith}
use Rattle.std.specs.Bool.{OnTrue, then_some}
use Rattle.std.specs.List.{onto_first}
use Rattle.std.specs.Prelude.{IfSome}
use Rattle.std.proofs.lemmas.Bool.{true≢false}
use Rattle.std.proofs.lemmas.Bool.Decides.{nat_tests}
use Rattle.std.proofs.lemmas.List.Splits.{slice_split-cons_yes, slice_split-cons_no}
use Rattle.ep_defs.specs.declared.event.EventDef.{EventDef}
use Rattle.ep_defs.specs.Event.{is_same_text}
use Rattle.ep_model.specs.declared.step.Step.{Step}
use Rattle.ep_plan.specs.declared.limits.TheConstants.{LINE_BYTES}
use Rattle.ep_plan.specs.declared.cursor.Cursor.{Cursor}
use Rattle.ep_plan.specs.declared.verb.Verb.{Verb}
use Rattle.ep_plan.specs.declared.verb.Verb.TheVariants as verb
use Rattle.ep_plan.specs.Lines.{Bad, bad_at, form_of, verb_in, is_blank, bad_of, words_bad, event_bad, step_bad, Spells, Means, IsLine}
use Rattle.ep_plan.specs.Words.{space, words_of}
use Rattle.ep_plan.specs.Cursor.{left, column_of, bad_form, has_word, BeginsAt, TookWord}
use Rattle.ep_plan.proofs.Forms.{no-verb, verb-form}
use Rattle.ep_plan.proofs.CursorWords.{parts-some}
use Rattle.ep_plan.proofs.Separated.{parts-cons}
use Rattle.ep_plan.specs.declared.line.LineKind.TheVariants as kind
use Rattle.ep_plan.specs.declared.line.Line.TheVariants as line

pub long : (events : List EventDef) (stepped : Bool) (text : List ℕ) → LINE_BYTES < length text → bad_of events stepped text ≡ Some (bad_at 1 kind.Long)
unfolding bad_of
long events stepped text many =
    let h : nat_lt LINE_BYTES (length text) ≡ true = grind (arith, nat_tests) in
    ap (λ b. if b then Some (bad_at 1 kind.Long) else (if is_blank text then None else words_bad events stepped (length text + 1) (words_of text))) h

-- A line that is not too long.
short : (events : List EventDef) (stepped : Bool) (text : List ℕ) (blank : Bool) → length text ≤ LINE_BYTES → is_blank text ≡ blank → bad_of events stepped text ≡ (if blank then None else words_bad events stepped (length text + 1) (words_of text))
unfolding bad_of
short events stepped text blank few is =
    let h : nat_lt LINE_BYTES (length text) ≡ false = grind (arith, nat_tests) in
    let rest : Bool → Option Bad = λ b. if b then None else words_bad events stepped (length text + 1) (words_of text) in
    ap (λ b. if b then Some (bad_at 1 kind.Long) else rest (is_blank text)) h ∙ ap rest is

pub blank-line : (events : List EventDef) (stepped : Bool) (text : List ℕ) → length text ≤ LINE_BYTES → is_blank text ≡ true → IsLine events stepped text line.Blank
unfolding Means
blank-line events stepped text few blank = record { good = short events stepped text true few blank; meaning = blank }

-- A line with words is as bad as they are.
pub worded : (events : List EventDef) (stepped : Bool) (text : List ℕ) (words : List (List ℕ)) → length text ≤ LINE_BYTES → is_blank text ≡ false → words_of text ≡ words → bad_of events stepped text ≡ words_bad events stepped (length text + 1) words
worded events stepped text words few other cut = short events stepped text false few other ∙ ap (words_bad events stepped (length text + 1)) cut

pub event-first : (events : List EventDef) (stepped : Bool) (past : ℕ) (first : List ℕ) (words : List (List ℕ)) → first ≡ codes "event" → words_bad events stepped past (first ∷ words) ≡ event_bad events stepped past words
unfolding words_bad
event-first events stepped past first words h = ap (λ b. if b then event_bad events stepped past words else step_bad past first words) (ap (λ name. is_same_text name (codes "event")) h)

pub step-first : (events : List EventDef) (stepped : Bool) (past : ℕ) (first : List ℕ) (words : List (List ℕ)) → is_same_text first (codes "event") ≡ false → words_bad events stepped past (first ∷ words) ≡ step_bad past first words
unfolding words_bad
step-first events stepped past first words h = ap (λ b. if b then event_bad events stepped past words else step_bad past first words) h

-- The first word is empty.
no-first : (events : List EventDef) (stepped : Bool) (past : ℕ) (words : List (List ℕ)) → words ≢ [] → has_word words ≡ false → words_bad events stepped past words ≡ Some (bad_at 1 kind.Word)
no-first events stepped past [] some h = absurd (some refl)
no-first events stepped past ([] ∷ words) some h = step-first events stepped past [] words refl ∙ no-verb past [] words refl
no-first events stepped past ((byte ∷ word) ∷ words) some h = cc

pub empty-first : (events : List EventDef) (stepped : Bool) (text : List ℕ) → length text ≤ LINE_BYTES → is_blank text ≡ false → has_word (words_of text) ≡ false → bad_of events stepped text ≡ Some (bad_at 1 kind.Word)
empty-first events stepped text few other h =
    worded events stepped text (words_of text) few other refl ∙ no-first events stepped (length text + 1) (words_of text) (parts-some space text) h

-- ---- a line that begins with a verb

no-event : (verb : Verb) → is_same_text (form_of verb).name (codes "event") ≡ false
no-event verb.Accept = refl
no-event verb.Accept3 = refl
no-event verb.Accept4 = refl
no-event verb.Enter = refl
no-event verb.Leave = refl
no-event verb.Open = refl
no-event verb.Begin = refl
no-event verb.Show = refl
no-event verb.End = refl
no-event verb.Steal = refl
no-event verb.Give = refl
no-event verb.Point = refl
no-event verb.Close = refl
no-event verb.Finish = refl

names-verb : (verb : Verb) → verb_in (form_of verb).name ≡ Some verb
names-verb verb.Accept = refl
names-verb verb.Accept3 = refl
names-verb verb.Accept4 = refl
names-verb verb.Enter = refl
names-verb verb.Leave = refl
names-verb verb.Open = refl
names-verb verb.Begin = refl
names-verb verb.Show = refl
names-verb verb.End = refl
names-verb verb.Steal = refl
names-verb verb.Give = refl
names-verb verb.Point = refl
names-verb verb.Close = refl
names-verb verb.Finish = refl

-- Its words have to be of the verb's form.
pub verb-first : (events : List EventDef) (stepped : Bool) (text : List ℕ) (old new : Cursor) (verb : Verb) → length text ≤ LINE_BYTES → is_blank text ≡ false → left old ≡ words_of text → column_of old ≡ 1 → old.past ≡ length text + 1
    → TookWord old new (form_of verb).name → bad_of events stepped text ≡ bad_form new (form_of verb)
verb-first events stepped text old new verb few other words column past took =
    let name : List ℕ = (form_of verb).name in
    let cut : words_of text ≡ name ∷ left new = sym words ∙ took.words in
    let place : column_of old + length name + 1 ≡ length name + 2 = omega (arith, column) in
    let begins : BeginsAt (length name + 2) new = subst (λ c. BeginsAt c new) place took.begins in
    let end : length text + 1 ≡ new.past = sym (took.past ∙ past) in
    worded events stepped text (name ∷ left new) few other cut
    ∙ step-first events stepped (length text + 1) name (left new) (no-event verb)
    ∙ ap (λ p. step_bad p name (left new)) end ∙ verb-form new name verb (names-verb verb) begins

-- It is good, and means the step that its words spell, if they are good.
pub verb-line : (events : List EventDef) (stepped : Bool) (text : List ℕ) (old new : Cursor) (verb : Verb) (made : Step) → length text ≤ LINE_BYTES → is_blank text ≡ false → left old ≡ words_of text → column_of old ≡ 1 → old.past ≡ length text + 1
    → TookWord old new (form_of verb).name → bad_form new (form_of verb) ≡ None → Spells ((form_of verb).name ∷ left new) made → IsLine events stepped text (line.Step made)
unfolding Means
verb-line events stepped text old new verb made few other words column past took good spells =
    let cut : words_of text ≡ (form_of verb).name ∷ left new = sym words ∙ took.words in
    record {
      good = verb-first events stepped text old new verb few other words column past took ∙ good;
      meaning = (other, subst (λ ws. Spells ws made) (sym cut) spells);
    }

-- A line whose first word is no comment is none.
pub begins-word : (text name : List ℕ) (words : List (List ℕ)) → words_of text ≡ name ∷ words → is_blank name ≡ false → is_blank text ≡ false
begins-word [] name words cut other =
    let none : [] ≡ name = cc in
    absurd (true≢false (ap is_blank none ∙ other))
begins-word (byte ∷ text) name words cut other = by_test (byte == space) refl
  where
    by_test : (b : Bool) → (byte == space) ≡ b → is_blank (byte ∷ text) ≡ false
    by_test true same_byte =
        let first = sym (slice_split-cons_yes (λ byte. byte == space) byte text same_byte) ∙ cut in
        let none : [] ≡ name = cc in
        absurd (true≢false (ap is_blank none ∙ other))
    by_test false apart =
        let more = parts-cons space text in
        let first = ap (onto_first byte) (sym more.2) ∙ sym (slice_split-cons_no (λ byte. byte == space) byte text apart) ∙ cut in
        let same : byte ∷ more.0 ≡ name = cc in
        ap is_blank same ∙ other

-- What is answered where nothing is left.
pub if-over : {A : Type 0} (P : A → Type 0) (b : Bool) (x : A) (result : Option A) {Over : Type 0} → result ≡ then_some b x → OnTrue b Over → (Over → P x) → IfSome result P
if-over P true x result is over holds = subst (λ r. IfSome r P) (sym is) (holds over)
if-over P false x result is over holds = subst (λ r. IfSome r P) (sym is) tt
