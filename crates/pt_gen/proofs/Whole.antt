-- The whole schedule can be made: what holds between two rounds, and at the end.
use Rattle.std.proofs.Common.{◌≡◌, ℕ, zero, suc, ◌+◌, ◌<◌, ◌≤◌, ◌%◌, Bool, true, false, cond, List, [], ◌∷◌, ◌++◌, length, take, map, reverse, Option, Some, None, ⊎_elim, refl, sym, ap, subst, ◌∙◌, arith}
use Rattle.std.specs.Prelude.{is_none, nat_le, ◌==◌}
use Rattle.std.specs.List.{flat_map, range_with_len}
use Rattle.std.proofs.lemmas.List.{append-nil, reverse-reverse}
use Rattle.std.proofs.lemmas.Bool.{agree_below_at, and_from, and_right, cases_lt, eq-eqb, ne_eqb, or_from}
use Rattle.std.proofs.Math.Bool.{or-false, not-and_self}
use Rattle.ep_defs.specs.declared.limits.TheConstants.{FRAMES, PAYLOAD_BYTES, SCHEDULE_WRITES}
use Rattle.ep_defs.specs.declared.session.Config.{Config}
use Rattle.ep_defs.specs.declared.session.Write.{Write}
use Rattle.ep_defs.specs.Definitions.{definition_at}
use Rattle.ep_defs.specs.Session.{fits}
use Rattle.ep_model.specs.declared.step.Step.{Step}
use Rattle.ep_model.specs.declared.step.Step.TheVariants as step
use Rattle.ep_model.specs.Chunks.{chunks_of, shown_size}
use Rattle.ep_model.specs.Fold.{Budget, budget_of, lacks_chunk, with_give, with_record, with_steal}
use Rattle.ep_model.specs.History.{Past, accepted, admits_write, config_of as config_in, has_left, in_write, is_due, is_finished, is_open, is_present, opened}
use Rattle.ep_model.specs.Lawful.{IsLawful, begins, has_due, is_open_somewhere, objection_to}
use Rattle.pt_load.specs.Sample.{frames_of, payload_of, sample}
use Rattle.pt_gen.specs.declared.limits.TheConstants.{NARROW, WIDE}
use Rattle.pt_gen.specs.Schedule.{closing, config_of, from_each, generated, gets, made, opening, round_at, sweep, thread_at, threads, write_at}
use Rattle.pt_gen.specs.state.ToCome.{IsThread}
use Rattle.pt_gen.proofs.Made.{HandsCounted, Leads, none, next, begin_can, can_at, close_can, end_can, finish_can, give_can, joined, lawful_after, led_by, point_can, show_can, steal_can, thread_is_there, thread_was_there}
use Rattle.pt_gen.proofs.Turns.{wide_gets}

-- ---- what holds between two steps

-- what holds of both sessions
two : (P : ℕ → Type 0) → P 1 → P 2 → (session : ℕ) → 1 ≤ session → session ≤ 2 → P session
two P first second zero low high = absurd (omega arith)
two P first second (suc zero) low high = first
two P first second (suc (suc zero)) low high = second
two P first second (suc (suc (suc session))) low high = absurd (omega arith)

-- What no step between the opening and the closing changes: both sessions are there, and open on all threads.
record Opened (config : ℕ → Option Config) (there : ℕ → Bool) (known : List ℕ) (gone : ℕ → Bool) (ever : ℕ → List ℕ) (now : ℕ → ℕ → Bool) : Type 0 where
  pub config_is : (s : ℕ) → 1 ≤ s → s ≤ 2 → config s ≡ Some (config_of s)
  pub here : (s : ℕ) → 1 ≤ s → s ≤ 2 → there s ≡ true
  pub accepted_are : known ≡ NARROW ∷ WIDE ∷ []
  pub all_stay : (t : ℕ) → gone t ≡ false
  pub opened_are : (s : ℕ) → 1 ≤ s → s ≤ 2 → ever s ≡ threads
  pub stands_open : (s t : ℕ) → 1 ≤ s → s ≤ 2 → IsThread t → now s t ≡ true

abbrev AreOpen : Past → Type 0
AreOpen past =
    Opened (λ s. config_in s past) (λ s. is_present s past) (accepted past) (λ t. has_left t past) (λ s. opened s past) (λ s t. is_open s t past)

-- Both sessions are open on all threads, of which these are in a write, after so many rounds.
record Stands (writing : ℕ → Bool) (rounds : ℕ) (past : Past) : Type 0 where
  pub are : AreOpen past
  pub inside : (t : ℕ) → in_write t past ≡ writing t
  pub begun : begins past ≡ rounds
  pub hand : (s : ℕ) → (budget_of s past).in_hand ≡ 0

-- Nobody is in a write.
abbrev Between : ℕ → Past → Type 0
Between rounds past = Stands (λ t. false) rounds past

begun_stands : (rounds thread stamp : ℕ) (write : Write) (past : Past) → Between rounds past
    → Stands (λ t. thread == t) (rounds + 1) (step.Begin thread stamp write ∷ past)
begun_stands rounds thread stamp write past st = record {
  are = st.are;
  inside = λ t. rw (st.inside t) (or-false (thread == t));
  begun = ap (λ n. n + 1) st.begun;
  hand = st.hand;
}

either : (b : Bool) (x y : Budget) → x.in_hand ≡ 0 → y.in_hand ≡ 0 → (cond b x y).in_hand ≡ 0
either b x y first second = elim b as (λ v. (cond v x y).in_hand ≡ 0) [ true ↦ first | false ↦ second ]

shown_stands : (writing : ℕ → Bool) (rounds thread session : ℕ) (past : Past) → Stands writing rounds past
    → Stands writing rounds (step.Show thread session ∷ past)
shown_stands writing rounds thread session past st = record {
  are = st.are;
  inside = st.inside;
  begun = st.begun;
  hand = λ s. let budget = budget_of s past in
      either (session == s) _ budget
      (either (lacks_chunk budget (chunks_of s past) thread (shown_size thread past)) budget (with_record budget thread (shown_size thread past)) (st.hand s) (st.hand s))
      (st.hand s);
}

ended_stands : (rounds thread : ℕ) (past : Past) → Stands (λ t. thread == t) rounds past → Between rounds (step.End thread ∷ past)
ended_stands rounds thread past st = record {
  are = st.are;
  inside = λ t. rw (st.inside t) (not-and_self (thread == t));
  begun = st.begun;
  hand = st.hand;
}

-- A session steals from a thread and gives back.
stolen_stands : (rounds session thread : ℕ) (past : Past) → Between rounds past
    → Between rounds (step.Give session ∷ step.Steal session thread ∷ past)
stolen_stands rounds session thread past st = record {
  are = st.are;
  inside = st.inside;
  begun = st.begun;
  hand = λ s. elim (session == s) as (λ b. (cond b (with_give (cond b (with_steal (budget_of s past) thread) (budget_of s past))) (cond b (with_steal (budget_of s past) thread) (budget_of s past))).in_hand ≡ 0) [
    | true ↦ refl
    | false ↦ st.hand s
  ];
}

pointed_stands : (rounds session stamp : ℕ) (past : Past) → Between rounds past → Between rounds (step.Point session stamp ∷ past)
pointed_stands rounds session stamp past st = record { are = st.are; inside = st.inside; begun = st.begun; hand = st.hand }

-- Steps that lead on between two rounds.
record Goes (rounds : ℕ) (past : Past) (steps : List Step) : Type 0 where
  pub after : Past
  pub leads : Leads past steps after
  pub between : Between rounds after

then_goes : {before : Past} {xs ys : List Step} (rounds more : ℕ) → Goes rounds before xs
    → ((past : Past) → Between rounds past → Goes more past ys) → Goes more before (xs ++ ys)
then_goes rounds more first later =
    let rest = later first.after first.between in
    record { after = rest.after; leads = joined first.leads rest.leads; between = rest.between }

-- ---- the opening

-- what holds of all threads
four : (P : ℕ → Type 0) → P 1 → P 2 → P 3 → P 4 → (thread : ℕ) → IsThread thread → P thread
four P a b c d zero inside = let h = inside.0 in absurd (omega arith)
four P a b c d (suc zero) inside = a
four P a b c d (suc (suc zero)) inside = b
four P a b c d (suc (suc (suc zero))) inside = c
four P a b c d (suc (suc (suc (suc zero)))) inside = d
four P a b c d (suc (suc (suc (suc (suc thread))))) inside = let h = inside.1 in absurd (omega arith)

opening_goes : Goes 0 [] opening
opening_goes = record {
  after = reverse opening;
  leads = next refl (next refl (next refl (next refl (next refl (next refl (next refl (next refl (next refl (next refl none)))))))));
  between = record {
    are = record {
      config_is = two (λ s. config_in s (reverse opening) ≡ Some (config_of s)) refl refl;
      here = two (λ s. is_present s (reverse opening) ≡ true) refl refl;
      accepted_are = refl;
      all_stay = λ t. refl;
      opened_are = two (λ s. opened s (reverse opening) ≡ threads) refl refl;
      stands_open = λ s t low high inside.
          two
          (λ s. is_open s t (reverse opening) ≡ true)
          (four (λ t. is_open 1 t (reverse opening) ≡ true) refl refl refl refl t inside)
          (four (λ t. is_open 2 t (reverse opening) ≡ true) refl refl refl refl t inside)
          s low high;
    };
    inside = λ t. refl;
    begun = refl;
    hand = λ s. refl;
  };
}

-- ---- rounds

turn : (seed round : ℕ) → IsThread (thread_at seed round)
turn seed round = (omega arith, omega arith)

-- Each write is of an event that is defined.
is_defined : (seed round : ℕ) → is_none (definition_at sample (write_at seed round).event) ≡ false
unfolding sample
is_defined seed round =
    agree_below_at (λ event. is_none (definition_at sample event)) (λ event. event == 0) 9 (write_at seed round).event refl (omega arith)
    ∙ ne_eqb (write_at seed round).event 0 (λ e. omega arith)

frames_are_few : (index : ℕ) → nat_le (length (frames_of index)) FRAMES ≡ true
unfolding frames_of
frames_are_few index = few (index % 4) _ _ _
  where
    few : (n a b c : ℕ) → nat_le (length (take n (a ∷ b ∷ c ∷ []))) FRAMES ≡ true
    few zero a b c = refl
    few (suc zero) a b c = refl
    few (suc (suc zero)) a b c = refl
    few (suc (suc (suc zero))) a b c = refl
    few (suc (suc (suc (suc n)))) a b c = refl

payload_is_short : (event thread index : ℕ) → event < 9 → nat_le (length (payload_of event thread index)) PAYLOAD_BYTES ≡ true
unfolding payload_of sample
payload_is_short event thread index below =
    agree_below_at (λ event. nat_le (length (payload_of event thread index)) PAYLOAD_BYTES) (λ event. true) 9 event refl below

is_small : (seed round : ℕ) → fits (write_at seed round) ≡ true
is_small seed round = and_from _ _ (frames_are_few _) (payload_is_short _ _ _ (omega arith))

-- A session that is open on the thread is due where it gets the write.
due_at_begin : (past : Past) (thread stamp session : ℕ) (write : Write) (config : Config) → is_open session thread past ≡ true
    → config_in session past ≡ Some config
    → is_due sample session thread (step.Begin thread stamp write ∷ past) ≡ admits_write sample (Some config) write
due_at_begin past thread stamp session write config stands_open is = rw (eq-eqb thread thread refl, stands_open, is) refl

none_is_due : (thread : ℕ) (past : Past) → accepted past ≡ NARROW ∷ WIDE ∷ [] → is_present NARROW past ≡ true → is_present WIDE past ≡ true
    → is_due sample NARROW thread past ≡ false → is_due sample WIDE thread past ≡ false → has_due sample thread past ≡ false
none_is_due thread past accepted_are narrow_here wide_here narrow_not wide_not =
    rw (accepted_are, narrow_here, wide_here, narrow_not, wide_not) refl

made_as : ℕ → ℕ → Write → Bool → Bool → List Step
made_as thread stamp write first second =
    step.Begin thread stamp write ∷ []
    ++ map (λ s. step.Show thread s) (cond first (WIDE ∷ cond second (NARROW ∷ []) []) (cond second (NARROW ∷ []) []))
    ++ step.End thread ∷ []

made_is : (thread stamp : ℕ) (write : Write) (first second : Bool) → gets write WIDE ≡ first → gets write NARROW ≡ second
    → made thread stamp write ≡ made_as thread stamp write first second
unfolding made_as
made_is thread stamp write first second wide narrow =
    ap (λ b. made_as thread stamp write b (gets write NARROW)) wide ∙ ap (λ b. made_as thread stamp write first b) narrow

-- Both sessions get the write.
both_go : (thread round : ℕ) (write : Write) (past : Past) → IsThread thread → is_none (definition_at sample write.event) ≡ false
    → fits write ≡ true → gets write WIDE ≡ true → gets write NARROW ≡ true → round < SCHEDULE_WRITES → Between round past
    → Goes (round + 1) past (made_as thread round write true true)
unfolding made_as
both_go thread round write past it defined small wide narrow few st =
    let p1 : Past = step.Begin thread round write ∷ past in
    let p2 : Past = step.Show thread WIDE ∷ p1 in
    let p3 : Past = step.Show thread NARROW ∷ p2 in
    let there = thread_is_there thread past it (st.are.all_stay thread) in
    let s1 : Stands (λ t. thread == t) (round + 1) p1 = begun_stands round thread round write past st in
    let s2 : Stands (λ t. thread == t) (round + 1) p2 = shown_stands (λ t. thread == t) (round + 1) thread WIDE p1 s1 in
    let s3 : Stands (λ t. thread == t) (round + 1) p3 = shown_stands (λ t. thread == t) (round + 1) thread NARROW p2 s2 in
    let inside : in_write thread p1 ≡ true = s1.inside thread ∙ eq-eqb thread thread refl in
    let wide_here = st.are.here WIDE (omega arith) (omega arith) in
    let narrow_here = st.are.here NARROW (omega arith) (omega arith) in
    let wide_due : is_due sample WIDE thread p1 ≡ true =
    due_at_begin past thread round WIDE write (config_of WIDE) (st.are.stands_open WIDE thread (omega arith) (omega arith) it) (st.are.config_is WIDE (omega arith) (omega arith)) ∙ wide in
    let narrow_due : is_due sample NARROW thread p2 ≡ true =
    due_at_begin past thread round NARROW write (config_of NARROW) (st.are.stands_open NARROW thread (omega arith) (omega arith) it) (st.are.config_is NARROW (omega arith) (omega arith)) ∙ narrow in
    let wide_not : is_due sample WIDE thread p3 ≡ false = rw (eq-eqb thread thread refl) refl in
    let narrow_not : is_due sample NARROW thread p3 ≡ false = rw (eq-eqb thread thread refl) refl in
    record {
      after = step.End thread ∷ p3;
      leads =
          next (begin_can past thread round write there (st.inside thread) defined small (let h = st.begun in omega arith))
          (next (show_can p1 thread WIDE there wide_here inside wide_due)
          (next (show_can p2 thread NARROW there narrow_here inside narrow_due)
          (next (end_can p3 thread there inside (none_is_due thread p3 st.are.accepted_are narrow_here wide_here narrow_not wide_not)) none)));
      between = ended_stands (round + 1) thread p3 s3;
    }

-- The first session alone gets it.
one_goes : (thread round : ℕ) (write : Write) (past : Past) → IsThread thread → is_none (definition_at sample write.event) ≡ false
    → fits write ≡ true → gets write WIDE ≡ true → gets write NARROW ≡ false → round < SCHEDULE_WRITES → Between round past
    → Goes (round + 1) past (made_as thread round write true false)
unfolding made_as
one_goes thread round write past it defined small wide narrow few st =
    let p1 : Past = step.Begin thread round write ∷ past in
    let p2 : Past = step.Show thread WIDE ∷ p1 in
    let there = thread_is_there thread past it (st.are.all_stay thread) in
    let s1 : Stands (λ t. thread == t) (round + 1) p1 = begun_stands round thread round write past st in
    let s2 : Stands (λ t. thread == t) (round + 1) p2 = shown_stands (λ t. thread == t) (round + 1) thread WIDE p1 s1 in
    let inside : in_write thread p1 ≡ true = s1.inside thread ∙ eq-eqb thread thread refl in
    let wide_here = st.are.here WIDE (omega arith) (omega arith) in
    let narrow_here = st.are.here NARROW (omega arith) (omega arith) in
    let wide_due : is_due sample WIDE thread p1 ≡ true =
    due_at_begin past thread round WIDE write (config_of WIDE) (st.are.stands_open WIDE thread (omega arith) (omega arith) it) (st.are.config_is WIDE (omega arith) (omega arith)) ∙ wide in
    let narrow_not : is_due sample NARROW thread p2 ≡ false =
    due_at_begin past thread round NARROW write (config_of NARROW) (st.are.stands_open NARROW thread (omega arith) (omega arith) it) (st.are.config_is NARROW (omega arith) (omega arith)) ∙ narrow in
    let wide_not : is_due sample WIDE thread p2 ≡ false = rw (eq-eqb thread thread refl) refl in
    record {
      after = step.End thread ∷ p2;
      leads =
          next (begin_can past thread round write there (st.inside thread) defined small (let h = st.begun in omega arith))
          (next (show_can p1 thread WIDE there wide_here inside wide_due)
          (next (end_can p2 thread there inside (none_is_due thread p2 st.are.accepted_are narrow_here wide_here narrow_not wide_not)) none));
      between = ended_stands (round + 1) thread p2 s2;
    }

write_goes : (seed round : ℕ) (past : Past) → round < SCHEDULE_WRITES → Between round past
    → Goes (round + 1) past (made (thread_at seed round) round (write_at seed round))
write_goes seed round past few st = by (gets (write_at seed round) NARROW) refl
  where
    by : (b : Bool) → gets (write_at seed round) NARROW ≡ b → Goes (round + 1) past (made (thread_at seed round) round (write_at seed round))
    by true narrow =
        subst (Goes (round + 1) past) (sym (made_is _ _ _ true true (wide_gets seed round) narrow))
        (both_go _ round _ past (turn seed round) (is_defined seed round) (is_small seed round) (wide_gets seed round) narrow few st)
    by false narrow =
        subst (Goes (round + 1) past) (sym (made_is _ _ _ true false (wide_gets seed round) narrow))
        (one_goes _ round _ past (turn seed round) (is_defined seed round) (is_small seed round) (wide_gets seed round) narrow few st)

-- ---- sweeps

stolen_goes : HandsCounted → (session thread rounds : ℕ) (past : Past) → 1 ≤ session → session ≤ 2 → IsThread thread → Between rounds past
    → Goes rounds past (step.Steal session thread ∷ step.Give session ∷ [])
stolen_goes counted session thread rounds past low high inside st = record {
  after = step.Give session ∷ step.Steal session thread ∷ past;
  leads =
      next (steal_can counted past session thread (st.are.here session low high) (thread_was_there thread past inside) (st.are.stands_open session thread low high inside) (st.hand session))
      (next (give_can (step.Steal session thread ∷ past) session (st.are.here session low high)) none);
  between = stolen_stands rounds session thread past st;
}

session_sweeps : HandsCounted → (session stamp rounds : ℕ) (past : Past) → 1 ≤ session → session ≤ 2 → Between rounds past
    → Goes rounds past (from_each session (step.Steal session) ++ step.Point session stamp ∷ [])
session_sweeps counted session stamp rounds past low high st =
    then_goes rounds rounds (stolen_goes counted session 1 rounds past low high (omega arith, omega arith) st)
    (λ p s. then_goes rounds rounds (stolen_goes counted session 2 rounds p low high (omega arith, omega arith) s)
    (λ p s. then_goes rounds rounds (stolen_goes counted session 3 rounds p low high (omega arith, omega arith) s)
    (λ p s. then_goes rounds rounds (stolen_goes counted session 4 rounds p low high (omega arith, omega arith) s)
    (λ p s. record {
      after = step.Point session stamp ∷ p;
      leads = next (point_can p session stamp (s.are.here session low high)) none;
      between = pointed_stands rounds session stamp p s;
    }))))

sweep_goes : HandsCounted → (rounds : ℕ) (past : Past) → Between rounds past → Goes rounds past (sweep rounds)
sweep_goes counted rounds past st =
    then_goes rounds rounds (session_sweeps counted WIDE rounds rounds past (omega arith) (omega arith) st)
    (λ p s. then_goes rounds rounds (session_sweeps counted NARROW rounds rounds p (omega arith) (omega arith) s)
    (λ p s. record { after = p; leads = none; between = s }))

sweep_if : HandsCounted → (rounds : ℕ) (past : Past) (due : Bool) → Between rounds past → Goes rounds past (cond due (sweep rounds) [])
sweep_if counted rounds past true st = sweep_goes counted rounds past st
sweep_if counted rounds past false st = record { after = past; leads = none; between = st }

rounds_go : HandsCounted → (seed first count last : ℕ) (past : Past) → first + count ≡ last → last ≤ SCHEDULE_WRITES → Between first past
    → Goes last past (flat_map (round_at seed) (range_with_len first count))
rounds_go counted seed first zero last past is few st =
    record { after = past; leads = none; between = subst (λ n. Between n past) (let e : first ≡ last = omega arith in e) st }
rounds_go counted seed first (suc count) last past is few st =
    then_goes (first + 1) last
    (then_goes (first + 1) (first + 1) (write_goes seed first past (omega arith) st) (λ p s. sweep_if counted (first + 1) p _ s))
    (λ p s. rounds_go counted seed (first + 1) count last p (omega arith) few s)

-- ---- the closing

-- The session is open on the threads from this one on, and closed on those before it.
record Closes (session from : ℕ) (past : Past) : Type 0 where
  pub here : is_present session past ≡ true
  pub opened_are : opened session past ≡ threads
  pub later_open : (t : ℕ) → from ≤ t → t ≤ 4 → is_open session t past ≡ true
  pub closed : (t : ℕ) → 1 ≤ t → t < from → is_open session t past ≡ false
  pub outside : (t : ℕ) → in_write t past ≡ false
  pub hand : (budget_of session past).in_hand ≡ 0

closed_stands : (session thread : ℕ) (past : Past) → Closes session thread past
    → Closes session (thread + 1) (step.Give session ∷ step.Close session thread ∷ past)
closed_stands session thread past st = record {
  here = st.here;
  opened_are = st.opened_are;
  later_open = λ t from most.
      rw (eq-eqb session session refl, ne_eqb thread t (λ e. omega arith), st.later_open t (omega arith) most) refl;
  closed = λ t least below.
      ⊎_elim
      (λ (l : t < thread). rw (st.closed t least l) (and_right _ false refl))
      (λ (l : thread ≤ t). rw (eq-eqb session session refl, eq-eqb thread t (omega arith)) refl)
      (cases_lt t thread);
  outside = st.outside;
  hand = rw (eq-eqb session session refl) refl;
}

after_closing : ℕ → ℕ → Past → Past
after_closing session stamp past =
    step.Finish session stamp
    ∷ step.Give session ∷ step.Close session 4
    ∷ step.Give session ∷ step.Close session 3
    ∷ step.Give session ∷ step.Close session 2
    ∷ step.Give session ∷ step.Close session 1 ∷ past

session_closes : HandsCounted → (session stamp : ℕ) (past : Past) → Closes session 1 past
    → Leads past (from_each session (step.Close session) ++ step.Finish session stamp ∷ []) (after_closing session stamp past)
unfolding after_closing
session_closes counted session stamp past c1 =
    let p2 : Past = step.Give session ∷ step.Close session 1 ∷ past in
    let p3 : Past = step.Give session ∷ step.Close session 2 ∷ p2 in
    let p4 : Past = step.Give session ∷ step.Close session 3 ∷ p3 in
    let p5 : Past = step.Give session ∷ step.Close session 4 ∷ p4 in
    let c2 : Closes session 2 p2 = closed_stands session 1 past c1 in
    let c3 : Closes session 3 p3 = closed_stands session 2 p2 c2 in
    let c4 : Closes session 4 p4 = closed_stands session 3 p3 c3 in
    let c5 : Closes session 5 p5 = closed_stands session 4 p4 c4 in
    let all_closed : is_open_somewhere session p5 ≡ false =
    rw c5.opened_are (or_from _ _ (c5.closed 1 (omega arith) (omega arith)) (or_from _ _ (c5.closed 2 (omega arith) (omega arith)) (or_from _ _ (c5.closed 3 (omega arith) (omega arith)) (or_from _ _ (c5.closed 4 (omega arith) (omega arith)) refl)))) in
    next (close_can counted past session 1 c1.here refl (c1.later_open 1 (omega arith) (omega arith)) (c1.outside 1) c1.hand)
    (next (give_can (step.Close session 1 ∷ past) session c1.here)
    (next (close_can counted p2 session 2 c2.here refl (c2.later_open 2 (omega arith) (omega arith)) (c2.outside 2) c2.hand)
    (next (give_can (step.Close session 2 ∷ p2) session c1.here)
    (next (close_can counted p3 session 3 c3.here refl (c3.later_open 3 (omega arith) (omega arith)) (c3.outside 3) c3.hand)
    (next (give_can (step.Close session 3 ∷ p3) session c1.here)
    (next (close_can counted p4 session 4 c4.here refl (c4.later_open 4 (omega arith) (omega arith)) (c4.outside 4) c4.hand)
    (next (give_can (step.Close session 4 ∷ p4) session c1.here)
    (next (finish_can counted p5 session stamp c5.here all_closed c5.hand) none))))))))

-- Both sessions are closed and finished.
closing_leads : HandsCounted → (rounds : ℕ) (past : Past) → Between rounds past
    → Leads past (closing rounds) (after_closing NARROW rounds (after_closing WIDE rounds past))
unfolding after_closing
closing_leads counted rounds past st =
    joined
    (session_closes counted WIDE rounds past (record {
      here = st.are.here WIDE (omega arith) (omega arith);
      opened_are = st.are.opened_are WIDE (omega arith) (omega arith);
      later_open = λ t least most. st.are.stands_open WIDE t (omega arith) (omega arith) (least, most);
      closed = λ t least below. absurd (omega arith);
      outside = st.inside;
      hand = st.hand WIDE;
    }))
    (joined
    (session_closes counted NARROW rounds (after_closing WIDE rounds past) (record {
      here = st.are.here NARROW (omega arith) (omega arith);
      opened_are = st.are.opened_are NARROW (omega arith) (omega arith);
      later_open = λ t least most. st.are.stands_open NARROW t (omega arith) (omega arith) (least, most);
      closed = λ t least below. absurd (omega arith);
      outside = st.inside;
      hand = st.hand NARROW;
    }))
    none)

-- ---- the whole

-- The steps can be made from the start, and both sessions are finished then.
pub record Whole (steps : List Step) : Type 0 where
  pub after : Past
  pub leads : Leads [] steps after
  pub wide : is_finished WIDE after ≡ true
  pub narrow : is_finished NARROW after ≡ true
  pub wide_opened : opened WIDE after ≡ threads
  pub narrow_opened : opened NARROW after ≡ threads

pub whole : HandsCounted → (seed rounds : ℕ) → rounds ≤ SCHEDULE_WRITES → Whole (generated seed rounds)
unfolding generated after_closing
whole counted seed rounds few =
    let all : Goes rounds [] (opening ++ flat_map (round_at seed) (range_with_len 0 rounds)) =
    then_goes 0 rounds opening_goes (λ p s. rounds_go counted seed 0 rounds rounds p (omega arith) few s) in
    record {
      after = after_closing NARROW rounds (after_closing WIDE rounds all.after);
      leads = joined all.leads (closing_leads counted rounds all.after all.between);
      wide = refl;
      narrow = refl;
      wide_opened = all.between.are.opened_are WIDE (omega arith) (omega arith);
      narrow_opened = all.between.are.opened_are NARROW (omega arith) (omega arith);
    }

-- They stand in the past in their order.
past_is : {steps : List Step} (w : Whole steps) → w.after ≡ reverse steps
past_is {steps = steps} w = led_by w.leads ∙ append-nil (reverse steps)

-- So what holds after them holds of them in their order.
pub in_order : {steps : List Step} (P : Past → Type 0) (w : Whole steps) → P w.after → P (reverse steps)
in_order P w holds = subst P (past_is w) holds

pub all_are_lawful : {steps : List Step} → Whole steps → IsLawful sample (reverse steps)
all_are_lawful w = in_order (IsLawful sample) w (lawful_after tt w.leads)

pub each_can_be_made : {steps : List Step} (past : Past) (step : Step) (later : List Step) → Whole steps
    → steps ≡ reverse past ++ step ∷ later → objection_to sample past step ≡ None
each_can_be_made past step later w is =
    subst
    (λ p. objection_to sample p step ≡ None)
    (append-nil (reverse (reverse past)) ∙ reverse-reverse past)
    (can_at (reverse past) step later (subst (λ steps. Leads [] steps w.after) is w.leads))
