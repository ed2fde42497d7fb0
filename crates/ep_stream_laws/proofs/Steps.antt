-- What a session keeps follows the steps that it makes.
use Rattle.std.proofs.Common.{◌≡◌, ℕ, ◌+◌, Bool, true, false, List, [], ◌∷◌, ◌++◌, map, length, Some, refl, ap, sym, ◌∙◌, subst, arith, if◌then◌else◌}
use Rattle.std.specs.Prelude.{◌&&◌, ◌||◌, not, filter, unwrap_or, nat_eq, nat_lt, ◌==◌}
use Rattle.std.proofs.lemmas.Bool.{eqb-true, eq-eqb, ne_eqb, ltb-false, or_left, not-true, true≢false}
use Rattle.std.proofs.Math.Bool.{and-true, or-false}
use Rattle.ep_model.proofs.Ascending.{IsAscending, opened_ascending}
use Rattle.ep_defs.specs.declared.event.EventDef.{EventDef}
use Rattle.ep_defs.specs.declared.session.Config.{Config}
use Rattle.ep_defs.specs.declared.session.Marks.{Marks}
use Rattle.ep_defs.specs.Entry.{Event, Point}
use Rattle.ep_model.specs.declared.step.Step.TheVariants as step
use Rattle.ep_model.specs.Chunks.{turns, in_hand, is_hand_full, written, refused}
use Rattle.ep_model.specs.Entries.{told_number, awaits_point, is_named, point_entry, entries, pending}
use Rattle.ep_model.specs.Fold.{budget_of}
use Rattle.ep_model.specs.History.{Past, insert_ascending, opened, opened_at, closed_at, to_of, is_open, shows, writes_of}
use Rattle.ep_model.specs.Lawful.{IsLawful, objections}
use Rattle.ep_model.specs.Marks.{marks_on}
use Rattle.ep_model.proofs.Lists.{has}
use Rattle.ep_model.proofs.Objections.{none_there, open_new, close_open}
use Rattle.ep_model.proofs.Sessions.{accept_new, untouched, open_opened}
use Rattle.nt_write.specs.Writer.{point_of}
use Rattle.ep_stream.specs.declared.opened.Named.{Named}
use Rattle.ep_stream.specs.declared.session.Seat.{Seat}
use Rattle.ep_stream.specs.Named.{first_named, insert_by, with_thread, with_number, still_open, numbers_of, with_marks}
use Rattle.ep_stream.specs.Session.{Rest, new_rest, with_opened, with_stolen, with_closed}
use Rattle.ep_stream_laws.specs.Kept.{named_on, names_of, closed_marks, RestFollows, StealFollows, CloseFollows}
use Rattle.ep_stream_laws.proofs.Lists.{ascending-filter, has-apart, filter-insert_kept, filter-insert_dropped, filter-same, filter-both, filter-more, map-same_kept, map-mapped, filter-mapped, map-insert, map-changed}
use Rattle.ep_stream_laws.proofs.Pasts.{none_told}

same_number : (n : ℕ) → nat_eq n n ≡ true
same_number n = eq-eqb n n refl

-- ---- a session is accepted

pub accepted_follows : (events : List EventDef) (past : Past) (seat : Seat) (config : Config) → IsLawful events (step.Accept seat.id config ∷ past) → RestFollows (step.Accept seat.id config ∷ past) (new_rest seat config)
accepted_follows events past seat config lawful =
    let h = untouched events seat.id past lawful.0 (accept_new events past seat.id config lawful.1) in
    record {
      config = rw (same_number seat.id) refl;
      named = sym (ap (λ ts. map (λ t. named_on seat.id t past) (filter (λ t. is_named seat.id t past) ts)) h.nowhere);
      marks = sym (ap (λ ts. map (λ t. marks_on seat.id t past) (filter (λ t. not (is_open seat.id t past)) ts)) h.nowhere);
      in_hand = sym (ap (λ b. b.in_hand) h.nothing);
    }

-- ---- it is opened on a thread

opens_names : (s t : ℕ) (past : Past) → IsAscending (opened s past) → has t (opened s past) ≡ false → told_number s t past ≡ 0 → names_of s (step.Open s t ∷ past) ≡ insert_by (λ n. n.thread) (first_named t) (names_of s past)
opens_names s t past up none told =
    let xs = opened s past in
    let name : ℕ → Named = λ x. record { thread = x; number = told_number s x past; is_open = (t == x) || is_open s x past } in
    let keep : ℕ → Bool = λ x. ((t == x) || is_open s x past) || awaits_point s x past in
    let kept : ℕ → Bool = λ x. is_named s x past in
    let key : Named → ℕ = λ n. n.thread in
    let make : ℕ → Bool → Named = λ number on. record { thread = t; number = number; is_open = on } in
    let first : name t ≡ first_named t = ap (λ n. make n ((t == t) || is_open s t past)) told ∙ ap (make 0) (or_left (t == t) (is_open s t past) (same_number t)) in
    let off : (x : ℕ) → has x xs ≡ true → (t == x) ≡ false = λ x is. has-apart t x xs none is in
    let names : map name (filter keep (insert_ascending t xs)) ≡ insert_by key (first_named t) (names_of s past) =
    ap (map name) (filter-insert_kept keep t xs (or_left ((t == t) || is_open s t past) _ (or_left (t == t) _ (same_number t))) up)
    ∙ map-insert key name t (filter keep xs) (λ x. refl)
    ∙ ap (λ n. insert_by key n (map name (filter keep xs))) first
    ∙ ap (λ ys. insert_by key (first_named t) (map name ys)) (filter-same keep kept xs (λ x is. ap (λ v. (v || is_open s x past) || awaits_point s x past) (off x is)))
    ∙ ap (insert_by key (first_named t)) (map-same_kept name (λ x. named_on s x past) kept xs (λ x is _.
    let named : Bool → Named = λ v. record { thread = x; number = told_number s x past; is_open = v || is_open s x past } in
    ap named (off x is)))
    in
    rw (same_number s) names

opens_marks : (s t : ℕ) (past : Past) → has t (opened s past) ≡ false → closed_marks s (step.Open s t ∷ past) ≡ closed_marks s past
opens_marks s t past none =
    let xs = opened s past in
    let mark : ℕ → Marks = λ x. record { thread = x; from = unwrap_or (if t == x then Some (length (writes_of x past)) else opened_at s x past) 0; to = to_of s x past; taken = written s x past; refused = length (refused s x past) } in
    let keep : ℕ → Bool = λ x. not ((t == x) || is_open s x past) in
    let kept : ℕ → Bool = λ x. not (is_open s x past) in
    let off : (x : ℕ) → has x xs ≡ true → (t == x) ≡ false = λ x is. has-apart t x xs none is in
    let marks : map mark (filter keep (insert_ascending t xs)) ≡ closed_marks s past =
    ap (map mark) (filter-insert_dropped keep t xs (ap not (or_left (t == t) _ (same_number t))))
    ∙ ap (map mark) (filter-same keep kept xs (λ x is. ap (λ v. not (v || is_open s x past)) (off x is)))
    ∙ map-same_kept mark (λ x. marks_on s x past) kept xs (λ x is _.
    let marked : Bool → Marks = λ v. record { thread = x; from = unwrap_or (if v then Some (length (writes_of x past)) else opened_at s x past) 0; to = to_of s x past; taken = written s x past; refused = length (refused s x past) } in
    ap marked (off x is))
    in
    rw (same_number s) marks

pub opened_follows : (events : List EventDef) (past : Past) (rest : Rest) (thread : ℕ) → RestFollows past rest → IsLawful events (step.Open rest.seat.id thread ∷ past) → RestFollows (step.Open rest.seat.id thread ∷ past) (with_opened thread rest)
opened_follows events past rest thread h lawful =
    let s = rest.seat.id in
    let none = open_new events past s thread lawful.1 in
    record {
      config = h.config;
      named = ap (insert_by (λ n. n.thread) (first_named thread)) h.named ∙ sym (opens_names s thread past (opened_ascending events s past lawful.0) none (none_told events s thread past lawful.0 none));
      marks = h.marks ∙ sym (opens_marks s thread past none);
      in_hand = h.in_hand;
    }

-- ---- what a thread has is taken

hand_taken : (n held chunks : ℕ) → nat_lt 0 n ≡ false → n ≡ held → held + chunks ≡ chunks
hand_taken n held chunks empty counted = let none = ltb-false 0 n empty in omega (arith, none, counted)

steal_names : (s t last : ℕ) (past : Past) → IsAscending (opened s past) → last ≡ shows s t past → names_of s (step.Steal s t ∷ past) ≡ with_number t last true (names_of s past)
steal_names s t last past up is =
    let kept : ℕ → Bool = λ x. is_named s x past in
    let name : ℕ → Named = λ x. record { thread = x; number = if t == x then shows s x past else told_number s x past; is_open = is_open s x past } in
    let change : Named → Named = λ n. record n { number = last; is_open = n.is_open && true } in
    let make : ℕ → Bool → Named = λ number on. record { thread = t; number = number; is_open = on } in
    let here : name t ≡ change (named_on s t past) =
    ap (λ v. make (if v then shows s t past else told_number s t past) (is_open s t past)) (same_number t)
    ∙ ap (λ n. make n (is_open s t past)) (sym is) ∙ ap (make last) (sym (and-true (is_open s t past)))
    in
    let names : map name (filter kept (opened s past)) ≡ with_thread change t (names_of s past) =
    map-changed (λ x. named_on s x past) name change t (filter kept (opened s past)) (ascending-filter kept (opened s past) up) (λ x. refl) here (λ x off.
    let named : Bool → Named = λ v. record { thread = x; number = if v then shows s x past else told_number s x past; is_open = is_open s x past } in
    ap named off)
    in
    rw (same_number s) names

pub stolen_follows : (events : List EventDef) (past : Past) (rest : Rest) (thread last chunks : ℕ) → in_hand (turns rest.seat.id past) ≡ (budget_of rest.seat.id past).in_hand
    → StealFollows events past thread last chunks rest (with_stolen thread last chunks rest)
stolen_follows events past rest thread last chunks counted h lawful last_is chunks_are =
    let s = rest.seat.id in
    let empty : is_hand_full s past ≡ false = (none_there (objections events past (step.Steal s thread)) lawful.1).1.1.1.0 in
    let held = hand_taken (in_hand (turns s past)) (budget_of s past).in_hand ((budget_of s past).pending thread).chunks empty counted in
    record {
      config = h.config;
      named = ap (with_number thread last true) h.named ∙ sym (steal_names s thread last past (opened_ascending events s past lawful.0) last_is);
      marks = h.marks;
      in_hand = rw (same_number s) (chunks_are ∙ sym held);
    }

-- ---- it is closed on a thread

close_names : (s t last : ℕ) (past : Past) → IsAscending (opened s past) → is_open s t past ≡ true → last ≡ shows s t past → names_of s (step.Close s t ∷ past) ≡ with_number t last false (names_of s past)
close_names s t last past up on is =
    let xs = opened s past in
    let keep : ℕ → Bool = λ x. (not (t == x) && is_open s x past) || ((t == x) || awaits_point s x past) in
    let kept : ℕ → Bool = λ x. is_named s x past in
    let name : ℕ → Named = λ x. record { thread = x; number = if t == x then shows s x past else told_number s x past; is_open = not (t == x) && is_open s x past } in
    let change : Named → Named = λ n. record n { number = last; is_open = n.is_open && false } in
    let make : ℕ → Bool → Named = λ number on. record { thread = t; number = number; is_open = on } in
    let here : name t ≡ change (named_on s t past) =
    ap (λ v. make (if v then shows s t past else told_number s t past) (not v && is_open s t past)) (same_number t)
    ∙ ap (λ n. make n false) (sym is) ∙ ap (λ v. make last (v && false)) (sym on)
    in
    let at_thread : (x : ℕ) → t ≡ x → is_open s x past ≡ true = λ x same. subst (λ n. is_open s n past ≡ true) same on in
    let same : (x : ℕ) → has x xs ≡ true → keep x ≡ kept x = λ x _.
    elim (t == x) as (λ v. (t == x) ≡ v → ((not v && is_open s x past) || (v || awaits_point s x past)) ≡ kept x) [
      | true ↦ λ at. sym (or_left (is_open s x past) (awaits_point s x past) (at_thread x (eqb-true t x at)))
      | false ↦ λ _. refl
    ] refl
    in
    let names : map name (filter keep xs) ≡ with_thread change t (names_of s past) =
    ap (map name) (filter-same keep kept xs same)
    ∙ map-changed (λ x. named_on s x past) name change t (filter kept xs) (ascending-filter kept xs up) (λ x. refl) here (λ x off.
    let named : Bool → Named = λ v. record { thread = x; number = if v then shows s x past else told_number s x past; is_open = not v && is_open s x past } in
    ap named off)
    in
    rw (same_number s) names

close_marks : (s t : ℕ) (past : Past) (marks : Marks) → IsAscending (opened s past) → is_open s t past ≡ true → marks ≡ marks_on s t (step.Close s t ∷ past) → closed_marks s (step.Close s t ∷ past) ≡ with_marks marks (closed_marks s past)
close_marks s t past marks up on is =
    let xs = opened s past in
    let keep : ℕ → Bool = λ x. not (not (t == x) && is_open s x past) in
    let kept : ℕ → Bool = λ x. not (is_open s x past) in
    let mark : ℕ → Marks = λ x. record { thread = x; from = unwrap_or (opened_at s x past) 0; to = unwrap_or (if t == x then Some (length (writes_of x past)) else closed_at s x past) (length (writes_of x past)); taken = written s x past; refused = length (refused s x past) } in
    let key : Marks → ℕ = λ m. m.thread in
    let this : marks ≡ mark t = rw (same_number s) at is in
    let off : (x : ℕ) → kept x ≡ true → (t == x) ≡ false = λ x shut. ne_eqb t x (λ same. true≢false (sym (subst (λ n. is_open s n past ≡ true) same on) ∙ not-true (is_open s x past) shut)) in
    let all : map mark (filter keep xs) ≡ with_marks marks (closed_marks s past) =
    ap (map mark) (filter-more kept keep t xs up (open_opened s t past on) (ap not on) (ap (λ v. not (not v && is_open s t past)) (same_number t)) (λ x away. ap (λ v. not (not v && is_open s x past)) away))
    ∙ map-insert key mark t (filter kept xs) (λ x. refl)
    ∙ ap (λ m. insert_by key m (map mark (filter kept xs))) (sym this)
    ∙ ap (insert_by key marks) (map-same_kept mark (λ x. marks_on s x past) kept xs (λ x _ shut.
    let marked : Bool → Marks = λ v. record { thread = x; from = unwrap_or (opened_at s x past) 0; to = unwrap_or (if v then Some (length (writes_of x past)) else closed_at s x past) (length (writes_of x past)); taken = written s x past; refused = length (refused s x past) } in
    ap marked (off x shut)))
    in
    rw (same_number s) all

pub closed_follows : (events : List EventDef) (past : Past) (rest : Rest) (thread last chunks : ℕ) (marks : Marks) → in_hand (turns rest.seat.id past) ≡ (budget_of rest.seat.id past).in_hand
    → CloseFollows events past thread last chunks marks rest (with_closed thread last chunks marks rest)
closed_follows events past rest thread last chunks marks counted h lawful last_is chunks_are marks_are =
    let s = rest.seat.id in
    let on = close_open events past s thread lawful.1 in
    let up = opened_ascending events s past lawful.0 in
    let empty : is_hand_full s past ≡ false = (none_there (objections events past (step.Close s thread)) lawful.1).1.1.1.1.0 in
    let held = hand_taken (in_hand (turns s past)) (budget_of s past).in_hand ((budget_of s past).pending thread).chunks empty counted in
    record {
      config = h.config;
      named = ap (with_number thread last false) h.named ∙ sym (close_names s thread last past up on last_is);
      marks = ap (with_marks marks) h.marks ∙ sym (close_marks s thread past marks up on marks_are);
      in_hand = rw (same_number s) (chunks_are ∙ sym held);
    }

-- ---- a point

point_names : (s stamp : ℕ) (past : Past) → names_of s (step.Point s stamp ∷ past) ≡ still_open (names_of s past)
point_names s stamp past =
    let xs = opened s past in
    let keep : ℕ → Bool = λ x. is_open s x past || false in
    let on : ℕ → Bool = λ x. is_open s x past in
    let kept : ℕ → Bool = λ x. is_named s x past in
    let name : ℕ → Named = λ x. named_on s x past in
    let names : map name (filter keep xs) ≡ still_open (names_of s past) =
    ap (map name) (filter-same keep on xs (λ x _. or-false (is_open s x past)))
    ∙ ap (map name) (sym (filter-both on kept xs (λ x is. or_left (is_open s x past) (awaits_point s x past) is)))
    ∙ sym (filter-mapped (λ (n : Named). n.is_open) name (filter kept xs))
    in
    rw (same_number s) names

pub pointed_follows : (past : Past) (rest : Rest) (stamp : ℕ) → RestFollows past rest → RestFollows (step.Point rest.seat.id stamp ∷ past) (record rest { named = still_open rest.named })
pointed_follows past rest stamp h =
    record {
      config = h.config;
      named = ap still_open h.named ∙ sym (point_names rest.seat.id stamp past);
      marks = h.marks;
      in_hand = h.in_hand;
    }

-- What a point says is what the session keeps.
point_told : (past : Past) (rest : Rest) (stamp : ℕ) → RestFollows past rest → point_entry rest.seat.id stamp past ≡ point_of stamp (numbers_of rest.named)
point_told past rest stamp h =
    let s = rest.seat.id in
    ap (point_of stamp) (sym (
    ap numbers_of h.named
    ∙ map-mapped (λ (n : Named). (n.thread, n.number)) (λ x. named_on s x past) (filter (λ x. is_named s x past) (opened s past))
    ))

-- ---- entries

pub stolen_told : (events : List EventDef) (session thread : ℕ) (past : Past) → entries events session (step.Steal session thread ∷ past) ≡ entries events session past ++ map Event (pending events session thread past)
stolen_told events session thread past = rw (same_number session) refl

pub closed_told : (events : List EventDef) (session thread : ℕ) (past : Past) → entries events session (step.Close session thread ∷ past) ≡ entries events session past ++ map Event (pending events session thread past)
closed_told events session thread past = rw (same_number session) refl

pub pointed_told : (events : List EventDef) (past : Past) (rest : Rest) (stamp : ℕ) → RestFollows past rest → entries events rest.seat.id (step.Point rest.seat.id stamp ∷ past) ≡ entries events rest.seat.id past ++ Point (point_of stamp (numbers_of rest.named)) ∷ []
pointed_told events past rest stamp h = rw (same_number rest.seat.id) (ap (λ p. entries events rest.seat.id past ++ Point p ∷ []) (point_told past rest stamp h))

pub finished_told : (events : List EventDef) (past : Past) (rest : Rest) (stamp : ℕ) → RestFollows past rest → entries events rest.seat.id (step.Finish rest.seat.id stamp ∷ past) ≡ entries events rest.seat.id past ++ Point (point_of stamp (numbers_of rest.named)) ∷ []
finished_told events past rest stamp h = rw (same_number rest.seat.id) (ap (λ p. entries events rest.seat.id past ++ Point p ∷ []) (point_told past rest stamp h))
