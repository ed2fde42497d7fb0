-- What other sessions do, does not matter to a session.
use Rattle.std.proofs.Common.{◌≡◌, ℕ, ◌+◌, ◌≤◌, Bool, true, false, cond, inl, inr, List, ◌∷◌, ◌++◌, length, map, filter, None, eqb, leb, refl, ap, sym, ◌∙◌, arith, []}
use Rattle.std.specs.Prelude.{not, ◌&&◌, ◌||◌, nat_lt}
use Rattle.std.specs.List.{list_any, range_with_len, AllByRecursion}
use Rattle.std.proofs.lemmas.Bool.{and_parts, or_cases, or_parts, or_left, or_right, not-false, eq-eqb, ne_eqb, leb-false, lt-leb, cases_Bool, cases_eq, false_from_ne_true}
use Rattle.ep_defs.specs.declared.limits.TheConstants.{THREADS}
use Rattle.ep_defs.specs.declared.event.EventDef.{EventDef}
use Rattle.ep_defs.specs.Session.{is_valid_config}
use Rattle.ep_model.specs.declared.step.Step.{Step}
use Rattle.ep_model.specs.declared.step.Step.TheVariants as step
use Rattle.ep_model.specs.History.{Past, config_of, accepted, is_present, present, entered, has_left, was_there, is_there, takes_row, rows, opened, insert_ascending, is_open, in_write, last_begun, is_due, shows}
use Rattle.ep_model.specs.Chunks.{in_hand, turns, is_refused, is_hand_full, refused}
use Rattle.ep_model.specs.Lawful.{IsLawful, objection_to, objections, is_next_session, begins, has_due, is_open_somewhere}
use Rattle.ep_model.specs.Entries.{awaits_point, is_named, entries, pending, told_number, point_entry}
use Rattle.ep_model.specs.Only.{concerns, only}
use Rattle.ep_model.proofs.Lists.{any_kept}
use Rattle.ep_model.proofs.Objections.{none_there}
use Rattle.ep_model.proofs.Sessions.{present_accepted, accept_unreached, was_reached}

-- A step that changes nothing of a value can be left out.
passes_over : {X : Type 0} (value : Past → X) (kept : Bool) (step : Step) (past : Past) → value (step ∷ past) ≡ value past → value (cond kept (step ∷ past) past) ≡ value past
passes_over value true step past same = same
passes_over value false step past same = refl

-- ---- values that a session's own steps give

pub config-only : (session : ℕ) (past : Past) → config_of session (only session past) ≡ config_of session past
config-only session [] = refl
config-only session (step.Accept s config ∷ past) =
    elim (cases_Bool (eqb s session)) [ inl same ↦ rw same (rw same refl) | inr other ↦ rw other (config-only session past) ]
config-only session (other ∷ past) = passes_over (λ p. config_of session p) (concerns session other) other (only session past) refl ∙ config-only session past

present-only : (session : ℕ) (past : Past) → is_present session (only session past) ≡ is_present session past
present-only session [] = refl
present-only session (step.Accept s config ∷ past) =
    elim (cases_Bool (eqb s session)) [ inl same ↦ rw same (rw same refl) | inr other ↦ rw other (present-only session past) ]
present-only session (step.Finish s stamp ∷ past) =
    elim (cases_Bool (eqb s session)) [ inl same ↦ rw same (rw same refl) | inr other ↦ rw other (present-only session past) ]
present-only session (other ∷ past) = passes_over (λ p. is_present session p) (concerns session other) other (only session past) refl ∙ present-only session past

opened-only : (session : ℕ) (past : Past) → opened session (only session past) ≡ opened session past
opened-only session [] = refl
opened-only session (step.Open s t ∷ past) =
    elim (cases_Bool (eqb s session)) [ inl same ↦ rw same (rw same (ap (insert_ascending t) (opened-only session past))) | inr other ↦ rw other (opened-only session past) ]
opened-only session (other ∷ past) = passes_over (λ p. opened session p) (concerns session other) other (only session past) refl ∙ opened-only session past

open-only : (session thread : ℕ) (past : Past) → is_open session thread (only session past) ≡ is_open session thread past
open-only session thread [] = refl
open-only session thread (step.Open s t ∷ past) =
    elim (cases_Bool (eqb s session)) [ inl same ↦ rw same (rw (same, open-only session thread past) refl) | inr other ↦ rw other (open-only session thread past) ]
open-only session thread (step.Close s t ∷ past) =
    elim (cases_Bool (eqb s session)) [ inl same ↦ rw same (rw (same, open-only session thread past) refl) | inr other ↦ rw other (open-only session thread past) ]
open-only session thread (other ∷ past) = passes_over (λ p. is_open session thread p) (concerns session other) other (only session past) refl ∙ open-only session thread past

-- ---- values of a thread's writes

in_write-only : (session thread : ℕ) (past : Past) → in_write thread (only session past) ≡ in_write thread past
in_write-only session thread [] = refl
in_write-only session thread (step.Begin t stamp write ∷ past) = ap (λ b. eqb t thread || b) (in_write-only session thread past)
in_write-only session thread (step.End t ∷ past) = ap (λ b. not (eqb t thread) && b) (in_write-only session thread past)
in_write-only session thread (other ∷ past) = passes_over (λ p. in_write thread p) (concerns session other) other (only session past) refl ∙ in_write-only session thread past

begins-only : (session : ℕ) (past : Past) → begins (only session past) ≡ begins past
begins-only session [] = refl
begins-only session (step.Begin t stamp write ∷ past) = ap (λ n. n + 1) (begins-only session past)
begins-only session (other ∷ past) = passes_over begins (concerns session other) other (only session past) refl ∙ begins-only session past

last-only : (session thread : ℕ) (past : Past) → last_begun thread (only session past) ≡ last_begun thread past
last-only session thread [] = refl
last-only session thread (step.Begin t stamp write ∷ past) = rw (last-only session thread past) refl
last-only session thread (other ∷ past) = passes_over (λ p. last_begun thread p) (concerns session other) other (only session past) refl ∙ last-only session thread past

-- ---- values of a session on a thread

due-only : (events : List EventDef) (session thread : ℕ) (past : Past) → is_due events session thread (only session past) ≡ is_due events session thread past
due-only events session thread [] = refl
due-only events session thread (step.Begin t stamp write ∷ past) = rw (open-only session thread past, config-only session past, due-only events session thread past) refl
due-only events session thread (step.Show t s ∷ past) =
    elim (cases_Bool (eqb s session)) [ inl same ↦ rw same (rw (same, due-only events session thread past) refl) | inr other ↦ rw other (due-only events session thread past) ]
due-only events session thread (other ∷ past) = passes_over (λ p. is_due events session thread p) (concerns session other) other (only session past) refl ∙ due-only events session thread past

shows-only : (session thread : ℕ) (past : Past) → shows session thread (only session past) ≡ shows session thread past
shows-only session thread [] = refl
shows-only session thread (step.Show t s ∷ past) =
    elim (cases_Bool (eqb s session)) [ inl same ↦ rw same (rw (same, shows-only session thread past) refl) | inr other ↦ rw other (shows-only session thread past ∙ omega arith) ]
shows-only session thread (other ∷ past) = passes_over (λ p. shows session thread p) (concerns session other) other (only session past) refl ∙ shows-only session thread past

told-only : (session thread : ℕ) (past : Past) → told_number session thread (only session past) ≡ told_number session thread past
told-only session thread [] = refl
told-only session thread (step.Steal s t ∷ past) =
    elim (cases_Bool (eqb s session)) [ inl same ↦ rw same (rw (same, shows-only session thread past, told-only session thread past) refl) | inr other ↦ rw other (told-only session thread past) ]
told-only session thread (step.Close s t ∷ past) =
    elim (cases_Bool (eqb s session)) [ inl same ↦ rw same (rw (same, shows-only session thread past, told-only session thread past) refl) | inr other ↦ rw other (told-only session thread past) ]
told-only session thread (other ∷ past) = passes_over (λ p. told_number session thread p) (concerns session other) other (only session past) refl ∙ told-only session thread past

turns-only : (session : ℕ) (past : Past) → turns session (only session past) ≡ turns session past
turns-only session [] = refl
turns-only session (step.Show t s ∷ past) =
    elim (cases_Bool (eqb s session)) [
      | inl same ↦ rw same (rw (same, turns-only session past, config-only session past, last-only session t past) refl)
      | inr other ↦ rw other (turns-only session past)
    ]
turns-only session (step.Steal s t ∷ past) =
    elim (cases_Bool (eqb s session)) [ inl same ↦ rw same (rw (same, turns-only session past) refl) | inr other ↦ rw other (turns-only session past) ]
turns-only session (step.Close s t ∷ past) =
    elim (cases_Bool (eqb s session)) [ inl same ↦ rw same (rw (same, turns-only session past) refl) | inr other ↦ rw other (turns-only session past) ]
turns-only session (step.Give s ∷ past) =
    elim (cases_Bool (eqb s session)) [ inl same ↦ rw same (rw (same, turns-only session past) refl) | inr other ↦ rw other (turns-only session past) ]
turns-only session (other ∷ past) = passes_over (λ p. turns session p) (concerns session other) other (only session past) refl ∙ turns-only session past

is_refused-only : (session thread : ℕ) (past : Past) → is_refused session thread (only session past) ≡ is_refused session thread past
is_refused-only session thread past = rw (turns-only session past, config-only session past, last-only session thread past) refl

hand-only : (session : ℕ) (past : Past) → is_hand_full session (only session past) ≡ is_hand_full session past
hand-only session past = ap (λ made. nat_lt 0 (in_hand made)) (turns-only session past)

pub refused-only : (session thread : ℕ) (past : Past) → refused session thread (only session past) ≡ refused session thread past
refused-only session thread [] = refl
refused-only session thread (step.Show t s ∷ past) =
    elim (cases_Bool (eqb s session)) [
      | inl same ↦ rw same (rw (same, is_refused-only session thread past, shows-only session thread past, refused-only session thread past) refl)
      | inr other ↦ rw other (refused-only session thread past)
    ]
refused-only session thread (other ∷ past) = passes_over (λ p. refused session thread p) (concerns session other) other (only session past) refl ∙ refused-only session thread past

pending-only : (events : List EventDef) (session thread : ℕ) (past : Past) → pending events session thread (only session past) ≡ pending events session thread past
pending-only events session thread [] = refl
pending-only events session thread (step.Show t s ∷ past) =
    elim (cases_Bool (eqb s session)) [
      | inl same ↦ rw same (rw (same, is_refused-only session thread past, config-only session past, shows-only session thread past, last-only session thread past, pending-only events session thread past) refl)
      | inr other ↦ rw other (pending-only events session thread past)
    ]
pending-only events session thread (step.Steal s t ∷ past) =
    elim (cases_Bool (eqb s session)) [ inl same ↦ rw same (rw (same, pending-only events session thread past) refl) | inr other ↦ rw other (pending-only events session thread past) ]
pending-only events session thread (step.Close s t ∷ past) =
    elim (cases_Bool (eqb s session)) [ inl same ↦ rw same (rw (same, pending-only events session thread past) refl) | inr other ↦ rw other (pending-only events session thread past) ]
pending-only events session thread (other ∷ past) = passes_over (λ p. pending events session thread p) (concerns session other) other (only session past) refl ∙ pending-only events session thread past

awaits-only : (session thread : ℕ) (past : Past) → awaits_point session thread (only session past) ≡ awaits_point session thread past
awaits-only session thread [] = refl
awaits-only session thread (step.Close s t ∷ past) =
    elim (cases_Bool (eqb s session)) [ inl same ↦ rw same (rw (same, awaits-only session thread past) refl) | inr other ↦ rw other (awaits-only session thread past) ]
awaits-only session thread (step.Point s stamp ∷ past) =
    elim (cases_Bool (eqb s session)) [ inl same ↦ rw same (rw same refl) | inr other ↦ rw other (awaits-only session thread past) ]
awaits-only session thread (step.Finish s stamp ∷ past) =
    elim (cases_Bool (eqb s session)) [ inl same ↦ rw same (rw same refl) | inr other ↦ rw other (awaits-only session thread past) ]
awaits-only session thread (other ∷ past) = passes_over (λ p. awaits_point session thread p) (concerns session other) other (only session past) refl ∙ awaits-only session thread past

-- ---- threads

entered-only : (session : ℕ) (past : Past) → entered (only session past) ≡ entered past
entered-only session [] = refl
entered-only session (step.Enter t ∷ past) = ap (λ ts. t ∷ ts) (entered-only session past)
entered-only session (other ∷ past) = passes_over entered (concerns session other) other (only session past) refl ∙ entered-only session past

left-only : (session thread : ℕ) (past : Past) → has_left thread (only session past) ≡ has_left thread past
left-only session thread [] = refl
left-only session thread (step.Leave t ∷ past) = ap (λ b. eqb t thread || b) (left-only session thread past)
left-only session thread (other ∷ past) = passes_over (λ p. has_left thread p) (concerns session other) other (only session past) refl ∙ left-only session thread past

was_there-only : (session thread : ℕ) (past : Past) → was_there thread (only session past) ≡ was_there thread past
was_there-only session thread past = rw (entered-only session past) refl

is_there-only : (session thread : ℕ) (past : Past) → is_there thread (only session past) ≡ is_there thread past
is_there-only session thread past = rw (entered-only session past, left-only session thread past) refl

-- ---- entries

map_same : {A B : Type 0} (f g : A → B) → ((x : A) → f x ≡ g x) → (xs : List A) → map f xs ≡ map g xs
map_same f g same [] = refl
map_same f g same (x ∷ xs) = rw (same x, map_same f g same xs) refl

filter_same : (p q : ℕ → Bool) → ((x : ℕ) → p x ≡ q x) → (xs : List ℕ) → filter p xs ≡ filter q xs
filter_same p q same [] = refl
filter_same p q same (x ∷ xs) = rw (same x, filter_same p q same xs) refl

named-only : (session thread : ℕ) (past : Past) → is_named session thread (only session past) ≡ is_named session thread past
named-only session thread past = rw (open-only session thread past, awaits-only session thread past) refl

point-only : (session stamp : ℕ) (past : Past) → point_entry session stamp (only session past) ≡ point_entry session stamp past
point-only session stamp past =
    let named =
    filter_same (λ t. is_named session t (only session past)) (λ t. is_named session t past) (λ t. named-only session t past) (opened session (only session past))
    ∙ ap (λ ts. filter (λ t. is_named session t past) ts) (opened-only session past) in
    let threads =
    map_same (λ (t : ℕ). (t, told_number session t (only session past))) (λ (t : ℕ). (t, told_number session t past))
    (λ t. ap (λ (n : ℕ). (t, n)) (told-only session t past)) (filter (λ t. is_named session t (only session past)) (opened session (only session past)))
    ∙ ap (λ ts. map (λ (t : ℕ). (t, told_number session t past)) ts) named in
    λ i. record { stamp = stamp; threads = threads i }

pub entries-only : (events : List EventDef) (session : ℕ) (past : Past) → entries events session (only session past) ≡ entries events session past
entries-only events session [] = refl
entries-only events session (step.Steal s t ∷ past) =
    elim (cases_Bool (eqb s session)) [ inl same ↦ rw same (rw (same, pending-only events session t past, entries-only events session past) refl) | inr other ↦ rw other (entries-only events session past) ]
entries-only events session (step.Close s t ∷ past) =
    elim (cases_Bool (eqb s session)) [ inl same ↦ rw same (rw (same, pending-only events session t past, entries-only events session past) refl) | inr other ↦ rw other (entries-only events session past) ]
entries-only events session (step.Point s stamp ∷ past) =
    elim (cases_Bool (eqb s session)) [ inl same ↦ rw same (rw (same, point-only session stamp past, entries-only events session past) refl) | inr other ↦ rw other (entries-only events session past) ]
entries-only events session (step.Finish s stamp ∷ past) =
    elim (cases_Bool (eqb s session)) [ inl same ↦ rw same (rw (same, point-only session stamp past, entries-only events session past) refl) | inr other ↦ rw other (entries-only events session past) ]
entries-only events session (other ∷ past) = passes_over (λ p. entries events session p) (concerns session other) other (only session past) refl ∙ entries-only events session past

-- ---- steps that can be made

any_same : {A : Type 0} (p q : A → Bool) → ((x : A) → p x ≡ q x) → (xs : List A) → list_any p xs ≡ list_any q xs
any_same p q same [] = refl
any_same p q same (x ∷ xs) = rw (same x, any_same p q same xs) refl

somewhere-only : (session : ℕ) (past : Past) → is_open_somewhere session (only session past) ≡ is_open_somewhere session past
somewhere-only session past =
    any_same (λ t. is_open session t (only session past)) (λ t. is_open session t past) (λ t. open-only session t past) (opened session (only session past))
    ∙ ap (list_any (λ t. is_open session t past)) (opened-only session past)

-- Before it is accepted, no other session is left.
unreached-only : (session : ℕ) (past : Past) → was_reached session past ≡ false → accepted (only session past) ≡ []
unreached-only session [] h = refl
unreached-only session (step.Accept s config ∷ past) h =
    let parts = or_parts (leb session s) (was_reached session past) h in
    let below = leb-false session s parts.0 in
    rw (ne_eqb s session (λ e. omega arith)) (unreached-only session past parts.1)
unreached-only session (other ∷ past) h = passes_over accepted (concerns session other) other (only session past) refl ∙ unreached-only session past h

accepted-only : (session : ℕ) (past : Past) → AllByRecursion (λ s. s ≡ session) (accepted (only session past))
accepted-only session [] = tt
accepted-only session (step.Accept s config ∷ past) =
    elim (cases_eq s session) [
      | inl same ↦ rw (eq-eqb s session same) (same, accepted-only session past)
      | inr other ↦ rw (ne_eqb s session other) (accepted-only session past)
    ]
accepted-only session (other ∷ past) =
    rw (passes_over accepted (concerns session other) other (only session past) refl) (accepted-only session past)

-- Where some of equal numbers are kept and pass, the number does.
any_equal : (keep test : ℕ → Bool) (n : ℕ) (xs : List ℕ) → AllByRecursion (λ x. x ≡ n) xs → list_any test (filter keep xs) ≡ true → (keep n ≡ true) × (test n ≡ true)
any_equal keep test n [] equal h = cc
any_equal keep test n (x ∷ xs) equal h =
    elim (cases_Bool (keep x)) [
      | inl kept ↦
          elim (or_cases (test x) (list_any test (filter keep xs)) (rw kept at h)) [
            | inl passes ↦ (rw equal.0 at kept, rw equal.0 at passes)
            | inr later ↦ any_equal keep test n xs equal.1 later
          ]
      | inr dropped ↦ any_equal keep test n xs equal.1 (rw dropped at h)
    ]

has_due-only : (events : List EventDef) (session thread : ℕ) (past : Past) → has_due events thread past ≡ false → has_due events thread (only session past) ≡ false
has_due-only events session thread past none =
    false_from_ne_true (has_due events thread (only session past)) (λ some.
    let parts = any_equal (λ s. is_present s (only session past)) (λ s. is_due events s thread (only session past)) session (accepted (only session past)) (accepted-only session past) some in
    let there = sym (present-only session past) ∙ parts.0 in
    let due = sym (due-only events session thread past) ∙ parts.1 in
    let some_before : has_due events thread past ≡ true = any_kept (λ s. is_present s past) (λ s. is_due events s thread past) session (accepted past) there due (present_accepted session past there) in
    cc)

accept-only : (events : List EventDef) (session : ℕ) (config : _) (past : Past) → objection_to events past (step.Accept session config) ≡ None → objection_to events (only session past) (step.Accept session config) ≡ None
accept-only events session config past h =
    let known = none_there (objections events past (step.Accept session config)) h in
    let none = unreached-only session past (accept_unreached events past session config h) in
    let positive = (and_parts (nat_lt 0 session) (not (was_reached session past)) (not-false (is_next_session session past) known.0)).0 in
    let valid = not-false (is_valid_config config) known.1.0 in
    rw (none, positive, valid) refl

end-only : (events : List EventDef) (session thread : ℕ) (past : Past) → objection_to events past (step.End thread) ≡ None → objection_to events (only session past) (step.End thread) ≡ None
end-only events session thread past h =
    let none = (none_there (objections events past (step.End thread)) h).1.1.0 in
    let none_here = has_due-only events session thread past none in
    rw (none_here, is_there-only session thread past, in_write-only session thread past) (rw none at h)

-- A session's own step can be made without the steps of the others.
own-lawful : (events : List EventDef) (session s : ℕ) (past : Past) (step : ℕ → Step) → IsLawful events (only session past) → concerns session (step s) ≡ eqb s session → (objection_to events past (step session) ≡ None → objection_to events (only session past) (step session) ≡ None) → objection_to events past (step s) ≡ None → IsLawful events (only session (step s ∷ past))
own-lawful events session s past step lawful own only_own h =
    elim (cases_eq s session) [
      | inl same ↦
          let here : objection_to events past (step session) ≡ None = rw same at h in
          let there : objection_to events (only session past) (step s) ≡ None = rw same (only_own here) in
          rw (own, eq-eqb s session same) (lawful, there)
      | inr other ↦ rw (own, ne_eqb s session other) lawful
    ]

-- A row that is taken without the steps of the others is taken with them.
row-only : (session thread : ℕ) (past : Past) → takes_row thread (only session past) ≡ true → takes_row thread past ≡ true
row-only session thread past h =
    elim (or_cases (is_there thread (only session past)) (list_any (λ s. is_open s thread (only session past)) (present (only session past))) h) [
      | inl there ↦ or_left (is_there thread past) _ (sym (is_there-only session thread past) ∙ there)
      | inr some ↦
          let parts = any_equal (λ s. is_present s (only session past)) (λ s. is_open s thread (only session past)) session (accepted (only session past)) (accepted-only session past) some in
          let there = sym (present-only session past) ∙ parts.0 in
          let inside = sym (open-only session thread past) ∙ parts.1 in
          or_right (is_there thread past) _ (any_kept (λ s. is_present s past) (λ s. is_open s thread past) session (accepted past) there inside (present_accepted session past there))
    ]

filter_fewer : (p q : ℕ → Bool) → ((x : ℕ) → p x ≡ true → q x ≡ true) → (xs : List ℕ) → length (filter p xs) ≤ length (filter q xs)
filter_fewer p q more [] = omega arith
filter_fewer p q more (x ∷ xs) =
    let rest = filter_fewer p q more xs in
    elim (cases_Bool (p x)) [
      | inl passes ↦ rw (passes, more x passes) (omega arith)
      | inr fails ↦ elim (cases_Bool (q x)) [ inl kept ↦ rw (fails, kept) (omega arith) | inr out ↦ rw (fails, out) rest ]
    ]

rows-only : (session : ℕ) (past : Past) → length (rows (only session past)) ≤ length (rows past)
rows-only session past =
    let taken = λ (t : ℕ). takes_row t past in
    let fewer = filter_fewer (λ t. takes_row t (only session past)) taken (λ t. row-only session t past) (entered (only session past) ++ range_with_len 1 THREADS) in
    let same = ap (λ ts. length (filter taken (ts ++ range_with_len 1 THREADS))) (entered-only session past) in
    omega (arith, fewer, same)

enter-only : (events : List EventDef) (session thread : ℕ) (past : Past) → objection_to events past (step.Enter thread) ≡ None → objection_to events (only session past) (step.Enter thread) ≡ None
enter-only events session thread past h =
    let known = none_there (objections events past (step.Enter thread)) h in
    let fewer = rows-only session past in
    let below = leb-false THREADS (length (rows past)) known.1.0 in
    let room : leb THREADS (length (rows (only session past))) ≡ false = lt-leb THREADS (length (rows (only session past))) (omega arith) in
    rw (room, entered-only session past) (rw known.1.0 at h)

leave-only : (events : List EventDef) (session thread : ℕ) (past : Past) → objection_to events past (step.Leave thread) ≡ None → objection_to events (only session past) (step.Leave thread) ≡ None
leave-only events session thread past h = rw (is_there-only session thread past, in_write-only session thread past) h

pub only-lawful : (events : List EventDef) (session : ℕ) (past : Past) → IsLawful events past → IsLawful events (only session past)
only-lawful events session [] lawful = tt
only-lawful events session (step.Accept s config ∷ past) lawful =
    own-lawful events session s past (λ n. step.Accept n config) (only-lawful events session past lawful.0) refl (accept-only events session config past) lawful.1
only-lawful events session (step.Enter t ∷ past) lawful = (only-lawful events session past lawful.0, enter-only events session t past lawful.1)
only-lawful events session (step.Leave t ∷ past) lawful = (only-lawful events session past lawful.0, leave-only events session t past lawful.1)
only-lawful events session (step.Open s t ∷ past) lawful =
    own-lawful events session s past (λ n. step.Open n t) (only-lawful events session past lawful.0) refl
    (λ h. rw (present-only session past, is_there-only session t past, opened-only session past, in_write-only session t past) h) lawful.1
only-lawful events session (step.Begin t stamp write ∷ past) lawful =
    (only-lawful events session past lawful.0, rw (is_there-only session t past, in_write-only session t past, begins-only session past) lawful.1)
only-lawful events session (step.Show t s ∷ past) lawful =
    own-lawful events session s past (λ n. step.Show t n) (only-lawful events session past lawful.0) refl
    (λ h. rw (is_there-only session t past, present-only session past, in_write-only session t past, due-only events session t past) h) lawful.1
only-lawful events session (step.End t ∷ past) lawful =
    (only-lawful events session past lawful.0, end-only events session t past lawful.1)
only-lawful events session (step.Steal s t ∷ past) lawful =
    own-lawful events session s past (λ n. step.Steal n t) (only-lawful events session past lawful.0) refl
    (λ h. rw (present-only session past, was_there-only session t past, open-only session t past, hand-only session past) h) lawful.1
only-lawful events session (step.Give s ∷ past) lawful =
    own-lawful events session s past (λ n. step.Give n) (only-lawful events session past lawful.0) refl (λ h. rw (present-only session past) h) lawful.1
only-lawful events session (step.Point s stamp ∷ past) lawful =
    own-lawful events session s past (λ n. step.Point n stamp) (only-lawful events session past lawful.0) refl (λ h. rw (present-only session past) h) lawful.1
only-lawful events session (step.Close s t ∷ past) lawful =
    own-lawful events session s past (λ n. step.Close n t) (only-lawful events session past lawful.0) refl
    (λ h. rw (present-only session past, was_there-only session t past, open-only session t past, in_write-only session t past, hand-only session past) h) lawful.1
only-lawful events session (step.Finish s stamp ∷ past) lawful =
    own-lawful events session s past (λ n. step.Finish n stamp) (only-lawful events session past lawful.0) refl
    (λ h. rw (present-only session past, somewhere-only session past, hand-only session past) h) lawful.1
