-- The end of a session, and what comes after it.
use Rattle.std.proofs.Common.{◌≡◌, ℕ, true, false, List, ◌∷◌, map, refl, ap, sym, ◌∙◌, subst}
use Rattle.std.specs.Prelude.{not, ◌==◌}
use Rattle.std.proofs.lemmas.Bool.{eqb-true, eq-eqb, or_left, or_right, false_from_ne_true, true≢false}
use Rattle.ep_defs.specs.declared.event.EventDef.{EventDef}
use Rattle.ep_defs.specs.declared.session.Marks.{Marks}
use Rattle.ep_model.specs.declared.step.Step.{Step}
use Rattle.ep_model.specs.declared.step.Step.TheVariants as step
use Rattle.ep_model.specs.History.{Past, is_finished, opened, is_open}
use Rattle.ep_model.specs.Lawful.{IsLawful, objections, is_open_somewhere}
use Rattle.ep_model.specs.Marks.{marks_on, marks_of}
use Rattle.ep_model.proofs.Objections.{none_there, needs_present}
use Rattle.ep_model.proofs.Sessions.{finished_reached, finished_absent, none_absent, open_present, open_somewhere, was_reached, accept_unreached}
use Rattle.ep_stream.specs.Session.{Rest}
use Rattle.ep_stream_laws.specs.Kept.{RestFollows}
use Rattle.ep_stream_laws.specs.Makers.{is_made_by}
use Rattle.ep_stream_laws.proofs.Lists.{filter-all, map-same}
use Rattle.ep_stream_laws.proofs.Stays.{opened_stays, mark_stays}

-- ---- its last marks

pub last_marks : (events : List EventDef) (past : Past) (rest : Rest) (stamp : ℕ) → RestFollows past rest → IsLawful events (step.Finish rest.seat.id stamp ∷ past) → rest.marks ≡ marks_of rest.seat.id (step.Finish rest.seat.id stamp ∷ past)
last_marks events past rest stamp h lawful =
    let s = rest.seat.id in
    let nowhere : is_open_somewhere s past ≡ false = (none_there (objections events past (step.Finish s stamp)) lawful.1).1.0 in
    let shut : (t : ℕ) → is_open s t past ≡ false = λ t. false_from_ne_true (is_open s t past) (λ on. true≢false (sym (open_somewhere s t past on) ∙ nowhere)) in
    h.marks ∙ ap (map (λ t. marks_on s t past)) (filter-all (λ t. not (is_open s t past)) (opened s past) (λ t _. ap not (shut t)))

-- ---- after its end

pub finish_ends : (session stamp : ℕ) (past : Past) → is_finished session (step.Finish session stamp ∷ past) ≡ true
finish_ends session stamp past = or_left (session == session) (is_finished session past) (eq-eqb session session refl)

-- No step that can be made is one of a session that finished.
pub none_made : (events : List EventDef) (session : ℕ) (past : Past) (made : Step) → IsLawful events (made ∷ past) → is_finished session past ≡ true → is_made_by session made ≡ false
none_made events session past (step.Accept s config) lawful h =
    false_from_ne_true (s == session) (λ same. true≢false (
    sym (finished_reached events session past lawful.0 h)
    ∙ subst (λ n. was_reached n past ≡ false) (eqb-true s session same) (accept_unreached events past s config lawful.1)
    ))
none_made events session past (step.Open s t) lawful h = none_absent s session past (finished_absent events session past lawful.0 h) (needs_present events past (step.Open s t) lawful.1)
none_made events session past (step.Steal s t) lawful h = none_absent s session past (finished_absent events session past lawful.0 h) (needs_present events past (step.Steal s t) lawful.1)
none_made events session past (step.Give s) lawful h = none_absent s session past (finished_absent events session past lawful.0 h) (needs_present events past (step.Give s) lawful.1)
none_made events session past (step.Point s stamp) lawful h = none_absent s session past (finished_absent events session past lawful.0 h) (needs_present events past (step.Point s stamp) lawful.1)
none_made events session past (step.Close s t) lawful h = none_absent s session past (finished_absent events session past lawful.0 h) (needs_present events past (step.Close s t) lawful.1)
none_made events session past (step.Finish s stamp) lawful h = none_absent s session past (finished_absent events session past lawful.0 h) (needs_present events past (step.Finish s stamp) lawful.1)
none_made events session past (step.Enter t) lawful h = refl
none_made events session past (step.Leave t) lawful h = refl
none_made events session past (step.Begin t stamp write) lawful h = refl
none_made events session past (step.Show t s) lawful h = refl
none_made events session past (step.End t) lawful h = refl

pub finished_stays : (session : ℕ) (past : Past) (made : Step) → is_finished session past ≡ true → is_finished session (made ∷ past) ≡ true
finished_stays session past (step.Finish s stamp) h = or_right (s == session) (is_finished session past) h
finished_stays session past (step.Accept s config) h = h
finished_stays session past (step.Open s t) h = h
finished_stays session past (step.Enter t) h = h
finished_stays session past (step.Leave t) h = h
finished_stays session past (step.Begin t stamp write) h = h
finished_stays session past (step.Show t s) h = h
finished_stays session past (step.End t) h = h
finished_stays session past (step.Steal s t) h = h
finished_stays session past (step.Give s) h = h
finished_stays session past (step.Point s stamp) h = h
finished_stays session past (step.Close s t) h = h

pub last_marks_stay : (events : List EventDef) (session : ℕ) (past : Past) (made : Step) → IsLawful events (made ∷ past) → is_finished session past ≡ true → marks_of session (made ∷ past) ≡ marks_of session past
last_marks_stay events session past made lawful h =
    let off = none_made events session past made lawful h in
    let mark : ℕ → Marks = λ t. marks_on session t (made ∷ past) in
    let shut : (t : ℕ) → is_open session t past ≡ false =
    λ t. false_from_ne_true (is_open session t past) (λ on. true≢false (sym (open_present events session t past lawful.0 on) ∙ finished_absent events session past lawful.0 h))
    in
    ap (map mark) (opened_stays session made past off)
    ∙ map-same mark (λ t. marks_on session t past) (opened session past) (λ t there. mark_stays events session t made past lawful off there (shut t))
