-- What the steps of others leave as it was.
use Rattle.std.proofs.Common.{◌≡◌, ℕ, ◌+◌, Bool, true, false, List, [], ◌∷◌, ◌++◌, map, length, Option, Some, None, refl, ap, sym, ◌∙◌, if◌then◌else◌, zero-add}
use Rattle.std.specs.Prelude.{◌&&◌, not, filter, is_some, unwrap_or, ◌==◌}
use Rattle.std.proofs.lemmas.Bool.{not-true, false≢true}
use Rattle.ep_defs.specs.declared.event.EventDef.{EventDef}
use Rattle.ep_defs.specs.declared.session.Marks.{Marks}
use Rattle.ep_model.specs.declared.step.Step.{Step}
use Rattle.ep_model.specs.declared.step.Step.TheVariants as step
use Rattle.ep_model.specs.Chunks.{chunks_of, shown_size, is_refused, refused, written}
use Rattle.ep_model.specs.Entries.{entries}
use Rattle.ep_model.specs.Fold.{Budget, budget_of, lacks_chunk, with_record, with_show}
use Rattle.ep_model.specs.History.{Past, config_of, opened, opened_at, closed_at, to_of, is_open, shows, writes_of}
use Rattle.ep_model.specs.Lawful.{IsLawful, was_opened}
use Rattle.ep_model.specs.Marks.{marks_on}
use Rattle.ep_model.proofs.Lists.{off_pair, and_more}
use Rattle.ep_model.proofs.Due.{show_open}
use Rattle.ep_stream.specs.Session.{Rest}
use Rattle.ep_stream_laws.specs.Kept.{names_of, closed_marks, RestFollows}
use Rattle.ep_stream_laws.specs.Makers.{is_made_by, is_told_by}
use Rattle.ep_stream_laws.proofs.Lists.{filter-same, map-same_kept}
use Rattle.ep_stream_laws.proofs.Pasts.{closed_known}

pub config_stays : (session : ℕ) (made : Step) (past : Past) → is_made_by session made ≡ false → config_of session (made ∷ past) ≡ config_of session past
config_stays session (step.Accept s config) past off = rw off refl
config_stays session (step.Open s t) past off = refl
config_stays session (step.Enter t) past off = refl
config_stays session (step.Leave t) past off = refl
config_stays session (step.Begin t stamp write) past off = refl
config_stays session (step.Show t s) past off = refl
config_stays session (step.End t) past off = refl
config_stays session (step.Steal s t) past off = refl
config_stays session (step.Give s) past off = refl
config_stays session (step.Point s stamp) past off = refl
config_stays session (step.Close s t) past off = refl
config_stays session (step.Finish s stamp) past off = refl

pub opened_stays : (session : ℕ) (made : Step) (past : Past) → is_made_by session made ≡ false → opened session (made ∷ past) ≡ opened session past
opened_stays session (step.Accept s config) past off = refl
opened_stays session (step.Open s t) past off = rw off refl
opened_stays session (step.Enter t) past off = refl
opened_stays session (step.Leave t) past off = refl
opened_stays session (step.Begin t stamp write) past off = refl
opened_stays session (step.Show t s) past off = refl
opened_stays session (step.End t) past off = refl
opened_stays session (step.Steal s t) past off = refl
opened_stays session (step.Give s) past off = refl
opened_stays session (step.Point s stamp) past off = refl
opened_stays session (step.Close s t) past off = refl
opened_stays session (step.Finish s stamp) past off = refl

open_stays : (session thread : ℕ) (made : Step) (past : Past) → is_made_by session made ≡ false → is_open session thread (made ∷ past) ≡ is_open session thread past
open_stays session thread (step.Accept s config) past off = refl
open_stays session thread (step.Open s t) past off = rw off refl
open_stays session thread (step.Enter t) past off = refl
open_stays session thread (step.Leave t) past off = refl
open_stays session thread (step.Begin t stamp write) past off = refl
open_stays session thread (step.Show t s) past off = refl
open_stays session thread (step.End t) past off = refl
open_stays session thread (step.Steal s t) past off = refl
open_stays session thread (step.Give s) past off = refl
open_stays session thread (step.Point s stamp) past off = refl
open_stays session thread (step.Close s t) past off = rw off refl
open_stays session thread (step.Finish s stamp) past off = refl

names_stay : (session : ℕ) (made : Step) (past : Past) → is_made_by session made ≡ false → names_of session (made ∷ past) ≡ names_of session past
names_stay session (step.Accept s config) past off = refl
names_stay session (step.Open s t) past off = rw off refl
names_stay session (step.Enter t) past off = refl
names_stay session (step.Leave t) past off = refl
names_stay session (step.Begin t stamp write) past off = refl
names_stay session (step.Show t s) past off = refl
names_stay session (step.End t) past off = refl
names_stay session (step.Steal s t) past off = rw off refl
names_stay session (step.Give s) past off = refl
names_stay session (step.Point s stamp) past off = rw off refl
names_stay session (step.Close s t) past off = rw off refl
names_stay session (step.Finish s stamp) past off = rw off refl

-- ---- chunks in hand

show_hand : (budget : Budget) (chunks thread size : ℕ) → (with_show budget chunks thread size).in_hand ≡ budget.in_hand
show_hand budget chunks thread size =
    elim (lacks_chunk budget chunks thread size) as (λ v. (let after : Budget = if v then budget else with_record budget thread size in after.in_hand) ≡ budget.in_hand)
    [ true ↦ refl | false ↦ refl ]

hand_stays : (session : ℕ) (made : Step) (past : Past) → is_made_by session made ≡ false → (budget_of session (made ∷ past)).in_hand ≡ (budget_of session past).in_hand
hand_stays session (step.Show t s) past off =
    elim (s == session) as (λ v. (let after : Budget = if v then with_show (budget_of session past) (chunks_of session past) t (shown_size t past) else budget_of session past in after.in_hand) ≡ (budget_of session past).in_hand)
    [ true ↦ show_hand (budget_of session past) (chunks_of session past) t (shown_size t past) | false ↦ refl ]
hand_stays session (step.Accept s config) past off = refl
hand_stays session (step.Open s t) past off = refl
hand_stays session (step.Enter t) past off = refl
hand_stays session (step.Leave t) past off = refl
hand_stays session (step.Begin t stamp write) past off = refl
hand_stays session (step.End t) past off = refl
hand_stays session (step.Steal s t) past off = rw off refl
hand_stays session (step.Give s) past off = rw off refl
hand_stays session (step.Point s stamp) past off = refl
hand_stays session (step.Close s t) past off = rw off refl
hand_stays session (step.Finish s stamp) past off = refl

-- ---- marks of threads on which it was closed

known_or : (o : Option ℕ) (m n : ℕ) → is_some o ≡ true → unwrap_or o m ≡ unwrap_or o n
known_or None m n known = absurd (false≢true known)
known_or (Some x) m n known = refl

-- A thread that writes on, and a Show to a session that is open there, leave the marks of one on which it was closed.
pub mark_stays : (events : List EventDef) (session thread : ℕ) (made : Step) (past : Past) → IsLawful events (made ∷ past) → is_made_by session made ≡ false → was_opened session thread past ≡ true → is_open session thread past ≡ false → marks_on session thread (made ∷ past) ≡ marks_on session thread past
mark_stays events session thread (step.Begin t stamp write) past lawful off there shut =
    let mark : ℕ → Marks = λ to. record { thread = thread; from = unwrap_or (opened_at session thread past) 0; to = to; taken = written session thread past; refused = length (refused session thread past) } in
    ap mark (known_or (closed_at session thread past) (length (writes_of thread (step.Begin t stamp write ∷ past))) (length (writes_of thread past)) (closed_known session thread past there shut))
mark_stays events session thread (step.Show t s) past lawful off there shut =
    let away : ((s == session) && (t == thread)) ≡ false = off_pair (λ n m. is_open n m past) s t session thread (show_open events past t s lawful) shut in
    let mark : ℕ → List ℕ → Marks = λ taken numbers. record { thread = thread; from = unwrap_or (opened_at session thread past) 0; to = to_of session thread past; taken = taken; refused = length numbers } in
    let more : Bool → ℕ = λ v. (if v then 1 else 0) + written session thread past in
    let longer : Bool → List ℕ = λ v. if v then refused session thread past ++ (shows session thread past + 1) ∷ [] else refused session thread past in
    let writes : more ((s == session) && (t == thread) && not (is_refused session thread past)) ≡ written session thread past =
    ap more (and_more (s == session) (t == thread) (not (is_refused session thread past)) away) ∙ zero-add (written session thread past)
    in
    let refuses : longer ((s == session) && (t == thread) && is_refused session thread past) ≡ refused session thread past =
    ap longer (and_more (s == session) (t == thread) (is_refused session thread past) away)
    in
    ap (λ n. mark n (longer ((s == session) && (t == thread) && is_refused session thread past))) writes
    ∙ ap (mark (written session thread past)) refuses
mark_stays events session thread (step.Accept s config) past lawful off there shut = refl
mark_stays events session thread (step.Open s t) past lawful off there shut = rw off refl
mark_stays events session thread (step.Enter t) past lawful off there shut = refl
mark_stays events session thread (step.Leave t) past lawful off there shut = refl
mark_stays events session thread (step.End t) past lawful off there shut = refl
mark_stays events session thread (step.Steal s t) past lawful off there shut = refl
mark_stays events session thread (step.Give s) past lawful off there shut = refl
mark_stays events session thread (step.Point s stamp) past lawful off there shut = refl
mark_stays events session thread (step.Close s t) past lawful off there shut = rw off refl
mark_stays events session thread (step.Finish s stamp) past lawful off there shut = refl

marks_stay : (events : List EventDef) (session : ℕ) (made : Step) (past : Past) → IsLawful events (made ∷ past) → is_made_by session made ≡ false → closed_marks session (made ∷ past) ≡ closed_marks session past
marks_stay events session made past lawful off =
    let mark : ℕ → Marks = λ t. marks_on session t (made ∷ past) in
    let keep : ℕ → Bool = λ t. not (is_open session t (made ∷ past)) in
    let kept : ℕ → Bool = λ t. not (is_open session t past) in
    ap (λ ts. map mark (filter keep ts)) (opened_stays session made past off)
    ∙ ap (map mark) (filter-same keep kept (opened session past) (λ t _. ap not (open_stays session t made past off)))
    ∙ map-same_kept mark (λ t. marks_on session t past) kept (opened session past) (λ t there shut. mark_stays events session t made past lawful off there (not-true (is_open session t past) shut))

-- ---- all that is kept

pub rest_follows : (events : List EventDef) (past : Past) (rest : Rest) (made : Step) → RestFollows past rest → IsLawful events (made ∷ past) → is_made_by rest.seat.id made ≡ false → RestFollows (made ∷ past) rest
rest_follows events past rest made h lawful off =
    record {
      config = config_stays rest.seat.id made past off ∙ h.config;
      named = h.named ∙ sym (names_stay rest.seat.id made past off);
      marks = h.marks ∙ sym (marks_stay events rest.seat.id made past lawful off);
      in_hand = h.in_hand ∙ sym (hand_stays rest.seat.id made past off);
    }

-- ---- what was told

pub entries_stay : (events : List EventDef) (session : ℕ) (made : Step) (past : Past) → is_told_by session made ≡ false → entries events session (made ∷ past) ≡ entries events session past
entries_stay events session (step.Accept s config) past off = refl
entries_stay events session (step.Open s t) past off = refl
entries_stay events session (step.Enter t) past off = refl
entries_stay events session (step.Leave t) past off = refl
entries_stay events session (step.Begin t stamp write) past off = refl
entries_stay events session (step.Show t s) past off = refl
entries_stay events session (step.End t) past off = refl
entries_stay events session (step.Steal s t) past off = rw off refl
entries_stay events session (step.Give s) past off = refl
entries_stay events session (step.Point s stamp) past off = rw off refl
entries_stay events session (step.Close s t) past off = rw off refl
entries_stay events session (step.Finish s stamp) past off = rw off refl

-- What a session's stream tells of are its own steps.
pub told_made : (session : ℕ) (made : Step) → is_made_by session made ≡ false → is_told_by session made ≡ false
told_made session (step.Accept s config) off = refl
told_made session (step.Open s t) off = refl
told_made session (step.Enter t) off = refl
told_made session (step.Leave t) off = refl
told_made session (step.Begin t stamp write) off = refl
told_made session (step.Show t s) off = refl
told_made session (step.End t) off = refl
told_made session (step.Steal s t) off = off
told_made session (step.Give s) off = refl
told_made session (step.Point s stamp) off = off
told_made session (step.Close s t) off = off
told_made session (step.Finish s stamp) off = off
