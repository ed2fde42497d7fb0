-- What a session keeps of its threads, once it was opened on one more, or took from one.
use Rattle.std.proofs.Common.{◌≡◌, ℕ, ◌+◌, ◌-◌, Bool, true, false, inl, inr, List, map, filter, Option, Some, None, refl, ap, sym, ◌∙◌, subst, arith}
use Rattle.std.specs.Prelude.{not, ◌&&◌, ◌==◌, if◌then◌else◌}
use Rattle.std.proofs.lemmas.Bool.{cases_eq, eq-eqb, ne_eqb, eqb-false, not-true, true≢false}
use Rattle.ep_defs.specs.declared.session.Marks.{Marks}
use Rattle.ep_model.specs.History.{insert_ascending}
use Rattle.ep_model.proofs.Lists.{has}
use Rattle.ep_slot.specs.Hand.{HandState}
use Rattle.ep_guarded.specs.Tied.{AreCounted}
use Rattle.ep_stream_laws.proofs.Lists.{ascending-filter, filter-same, filter-insert_kept, filter-insert_dropped, map-changed, map-insert, map-same_kept}
use Rattle.ep_stream.specs.declared.opened.Named.{Named}
use Rattle.ep_stream.specs.Named.{first_named, insert_by, with_number}
use Rattle.ep_stream.specs.Rows.{hand_after}
use Rattle.ep_live_laws.specs.Tracing.{Account, AreAscending, IsHandBy, IsHeld, IsOneOf, Keeps, Watch, marks_by, name_by}
use Rattle.ep_live_laws.proofs.Accounts.{ascending-insert, ascending-same, fresh_account, one-apart, one-before, one-here, one-more, with_opened, with_taken}

-- ---- one thread more

opened-there : (accounts : ℕ → Account) (thread from : ℕ) → with_opened accounts thread from thread ≡ fresh_account from
opened-there accounts thread from = ap (λ v. if v then fresh_account from else accounts thread) (eq-eqb thread thread refl)

opened-other : (accounts : ℕ → Account) (thread from t : ℕ) → (t == thread) ≡ false → with_opened accounts thread from t ≡ accounts t
opened-other accounts thread from t off = ap (λ v. if v then fresh_account from else accounts t) off

-- What is kept for each thread.
module _ {A : Type 0} (key : A → ℕ) (f : (ℕ → Account) → ℕ → A) (p : Account → Bool) (keyed : (a : ℕ → Account) (x : ℕ) → key (f a x) ≡ x) (same : (a b : ℕ → Account) (x : ℕ) → a x ≡ b x → f a x ≡ f b x) where
  -- The others keep theirs.
  opened-list : (accounts : ℕ → Account) (opened : List ℕ) (thread from : ℕ) → (IsOneOf opened thread → ⊥)
      → map (f (with_opened accounts thread from)) (filter (λ t. p (with_opened accounts thread from t)) opened) ≡ map (f accounts) (filter (λ t. p (accounts t)) opened)
  opened-list accounts opened thread from fresh =
      let now = with_opened accounts thread from in
      let at : (t : ℕ) → has t opened ≡ true → now t ≡ accounts t = λ t is. opened-other accounts thread from t (one-apart thread t opened fresh is) in
      ap (map (f now)) (filter-same (λ t. p (now t)) (λ t. p (accounts t)) opened (λ t is. ap p (at t is)))
      ∙ map-same_kept (f now) (f accounts) (λ t. p (accounts t)) opened (λ t is kept. same now accounts t (at t is))

  -- It is kept for one more.
  opened-kept : (accounts : ℕ → Account) (opened : List ℕ) (thread from : ℕ) (items : List A) → (IsOneOf opened thread → ⊥) → AreAscending opened
      → p (fresh_account from) ≡ true → items ≡ map (f accounts) (filter (λ t. p (accounts t)) opened)
      → insert_by key (f (with_opened accounts thread from) thread) items ≡ map (f (with_opened accounts thread from)) (filter (λ t. p (with_opened accounts thread from t)) (insert_ascending thread opened))
  opened-kept accounts opened thread from items fresh up kept are =
      let now = with_opened accounts thread from in
      let keep : ℕ → Bool = λ t. p (now t) in
      let on : keep thread ≡ true = ap p (opened-there accounts thread from) ∙ kept in
      ap (insert_by key (f now thread)) (are ∙ sym (opened-list accounts opened thread from fresh))
      ∙ sym (map-insert key (f now) thread (filter keep opened) (keyed now))
      ∙ ap (map (f now)) (sym (filter-insert_kept keep thread opened on (ascending-same opened up)))

  -- Nothing is kept for one more.
  opened-dropped : (accounts : ℕ → Account) (opened : List ℕ) (thread from : ℕ) (items : List A) → (IsOneOf opened thread → ⊥)
      → p (fresh_account from) ≡ false → items ≡ map (f accounts) (filter (λ t. p (accounts t)) opened)
      → items ≡ map (f (with_opened accounts thread from)) (filter (λ t. p (with_opened accounts thread from t)) (insert_ascending thread opened))
  opened-dropped accounts opened thread from items fresh dropped are =
      let now = with_opened accounts thread from in
      let keep : ℕ → Bool = λ t. p (now t) in
      let off : keep thread ≡ false = ap p (opened-there accounts thread from) ∙ dropped in
      are ∙ sym (opened-list accounts opened thread from fresh) ∙ ap (map (f now)) (sym (filter-insert_dropped keep thread opened off))

pub name-same : (a b : ℕ → Account) (x : ℕ) → a x ≡ b x → name_by a x ≡ name_by b x
name-same a b x e = ap (λ (account : Account). record { thread = x; number = account.last; is_open = account.is_open }) e

pub marks-same : (a b : ℕ → Account) (x : ℕ) → a x ≡ b x → marks_by a x ≡ marks_by b x
marks-same a b x e = ap (λ (account : Account). record { thread = x; from = account.from; to = account.to; taken = account.taken; refused = account.last - account.taken }) e

-- What a row has of its threads stays where other accounts are the same of these.
pub held-same : (home : ℕ → ℕ) (opened now_opened : List ℕ) (accounts now : ℕ → Account) (row : ℕ) (hand : Option HandState)
    → ((t : ℕ) → IsOneOf opened t → IsOneOf now_opened t) → ((t : ℕ) → IsOneOf now_opened t → home t ≡ row → IsOneOf opened t) → ((t : ℕ) → home t ≡ row → now t ≡ accounts t)
    → IsHeld home opened accounts row hand → IsHeld home now_opened now row hand
held-same home opened now_opened accounts now row None more less same held = λ t is at. ap (λ (account : Account). account.is_open) (same t at) ∙ held t (less t is at) at
held-same home opened now_opened accounts now row (Some hand) more less same held =
    let here = sym (same hand.thread held.row_is) in
    record {
      is_opened = more hand.thread held.is_opened;
      row_is = held.row_is;
      is_open = ap (λ (account : Account). account.is_open) (sym here) ∙ held.is_open;
      alone = λ t is at shown. held.alone t (less t is at) at (ap (λ (account : Account). account.is_open) (sym (same t at)) ∙ shown);
      from = held.from ∙ ap (λ (account : Account). account.from) here;
      taken = held.taken ∙ ap (λ (account : Account). account.taken) here;
      last = held.last ∙ ap (λ (account : Account). account.last) here;
    }

-- Threads of other rows are others.
pub home-apart : (home : ℕ → ℕ) (thread t row : ℕ) → (home thread ≡ row → ⊥) → home t ≡ row → (t == thread) ≡ false
home-apart home thread t row away at = ne_eqb t thread (λ same. away (ap home (sym same) ∙ at))

-- The hand of a row on which the session was just opened.
hand-fresh : (home : ℕ → ℕ) (opened : List ℕ) (accounts : ℕ → Account) (thread from : ℕ) (hand : HandState)
    → hand.thread ≡ thread → hand.from ≡ from → hand.taken ≡ 0 → hand.last ≡ 0
    → ((t : ℕ) → IsOneOf opened t → home t ≡ home thread → (accounts t).is_open ≡ false)
    → IsHandBy home (insert_ascending thread opened) (with_opened accounts thread from) (home thread) hand
hand-fresh home opened accounts thread from hand thread_is from_is taken last shut =
    let now = with_opened accounts thread from in
    let here : now hand.thread ≡ fresh_account from = ap now thread_is ∙ opened-there accounts thread from in
    record {
      is_opened = subst (IsOneOf (insert_ascending thread opened)) (sym thread_is) (one-here thread opened);
      row_is = ap home thread_is;
      is_open = ap (λ (account : Account). account.is_open) here;
      alone = λ t is at shown.
          elim (cases_eq t thread) [
            | inl same ↦ same ∙ sym thread_is
            | inr other ↦
                let off = ne_eqb t thread other in
                let closed = ap (λ (account : Account). account.is_open) (opened-other accounts thread from t off) ∙ shut t (one-before thread t opened is off) at in
                absurd (true≢false (sym shown ∙ closed))
          ];
      from = from_is ∙ ap (λ (account : Account). account.from) (sym here);
      taken = taken ∙ ap (λ (account : Account). account.taken) (sym here);
      last = last ∙ ap (λ (account : Account). account.last) (sym here);
    }

-- The session is opened on a thread.
pub keeps-opened : (watch : Watch) (opened : List ℕ) (thread from : ℕ) (accounts : ℕ → Account) (old new : ℕ → Option HandState) (named : List Named) (marks : List Marks) (hand : HandState)
    → (IsOneOf opened thread → ⊥) → old (watch.home thread) ≡ None
    → hand.thread ≡ thread → hand.from ≡ from → hand.taken ≡ 0 → hand.last ≡ 0 → ((r : ℕ) → new r ≡ (if r == watch.home thread then Some hand else old r))
    → Keeps watch opened accounts old named marks
    → Keeps watch (insert_ascending thread opened) (with_opened accounts thread from) new (insert_by (λ n. n.thread) (first_named thread) named) marks
keeps-opened watch opened thread from accounts old new named marks hand fresh none thread_is from_is taken last sets h =
    let home = watch.home in
    let now = with_opened accounts thread from in
    let there = opened-there accounts thread from in
    let after = insert_ascending thread opened in
    let other : (t : ℕ) → (t == thread) ≡ false → now t ≡ accounts t = λ t off. opened-other accounts thread from t off in
    let shut : (t : ℕ) → IsOneOf opened t → home t ≡ home thread → (accounts t).is_open ≡ false =
    subst (IsHeld home opened accounts (home thread)) none (h.held (home thread)) in
    record {
      ascending = ascending-insert thread opened fresh h.ascending;
      held = λ row.
          let Set : Bool → Option HandState = λ v. if v then Some hand else old row in
          elim (cases_eq row (home thread)) [
            | inl same ↦
                subst (IsHeld home after now row) (sym (sets row ∙ ap Set (eq-eqb row (home thread) same)))
                (subst (λ r. IsHandBy home after now r hand) (sym same) (hand-fresh home opened accounts thread from hand thread_is from_is taken last shut))
            | inr away ↦
                let apart : (t : ℕ) → home t ≡ row → (t == thread) ≡ false = λ t at. home-apart home thread t row (λ e. away (sym e)) at in
                subst (IsHeld home after now row) (sym (sets row ∙ ap Set (ne_eqb row (home thread) away)))
                (held-same home opened after accounts now row (old row) (λ t is. one-more thread t opened is) (λ t is at. one-before thread t opened is (apart t at)) (λ t at. other t (apart t at)) (h.held row))
          ];
      named_are =
          ap (λ n. insert_by (λ (m : Named). m.thread) n named) (sym (ap (λ (account : Account). record { thread = thread; number = account.last; is_open = account.is_open }) there))
          ∙ opened-kept (λ (n : Named). n.thread) name_by (λ account. account.is_named) (λ a x. refl) name-same accounts opened thread from named fresh h.ascending refl h.named_are;
      marks_are = opened-dropped (λ (m : Marks). m.thread) marks_by (λ account. not account.is_open) (λ a x. refl) marks-same accounts opened thread from marks fresh refl h.marks_are;
      open_named = λ t is.
          elim (cases_eq t thread) [
            | inl same ↦ rw (eq-eqb t thread same) refl
            | inr apart ↦ let off = ne_eqb t thread apart in rw off (h.open_named t (rw off at is))
          ];
      within = λ t is off.
          elim (cases_eq t thread) [
            | inl same ↦ rw (eq-eqb t thread same) (omega arith)
            | inr apart ↦ let out = ne_eqb t thread apart in rw out (h.within t (one-before thread t opened is out) (rw out at off))
          ];
      counted = λ t is off.
          elim (cases_eq t thread) [
            | inl same ↦ let no : true ≡ false = rw (eq-eqb t thread same) at off in cc
            | inr apart ↦
                let out = ne_eqb t thread apart in
                let Are : Marks → Type 0 = λ m. AreCounted watch.events watch.writes watch.config m in
                subst Are (sym (marks-same now accounts t (other t out))) (h.counted t (one-before thread t opened is out) (rw out at off))
          ];
    }

-- ---- what is taken

taken-other : (accounts : ℕ → Account) (thread count last t : ℕ) → (t == thread) ≡ false → with_taken accounts thread count last t ≡ accounts t
taken-other accounts thread count last t off = rw off refl

-- A thread on which the session is closed is not the one from which it takes.
pub shut-apart : (accounts : ℕ → Account) (thread t : ℕ) → (accounts thread).is_open ≡ true → (accounts t).is_open ≡ false → (t == thread) ≡ false
shut-apart accounts thread t open_there shut = ne_eqb t thread (λ same. true≢false (sym open_there ∙ ap (λ n. (accounts n).is_open) (sym same) ∙ shut))

-- The hand of a row from which a batch was taken.
hand-taken : (home : ℕ → ℕ) (opened : List ℕ) (accounts : ℕ → Account) (count last chunks row : ℕ) (hand : HandState) → IsHandBy home opened accounts row hand
    → IsHandBy home opened (with_taken accounts hand.thread count last) row (hand_after hand count last chunks)
hand-taken home opened accounts count last chunks row hand by =
    let here = eq-eqb hand.thread hand.thread refl in
    record {
      is_opened = by.is_opened;
      row_is = by.row_is;
      is_open = by.is_open;
      alone = by.alone;
      from = by.from;
      taken = rw here (ap (λ n. n + count) by.taken);
      last = rw here refl;
    }

-- A batch is taken of a row on which the session is open.
pub keeps-taken : (watch : Watch) (opened : List ℕ) (count last chunks row : ℕ) (accounts : ℕ → Account) (old new : ℕ → Option HandState) (named : List Named) (marks : List Marks) (hand : HandState)
    → IsHandBy watch.home opened accounts row hand → ((r : ℕ) → new r ≡ (if r == row then Some (hand_after hand count last chunks) else old r))
    → Keeps watch opened accounts old named marks
    → Keeps watch opened (with_taken accounts hand.thread count last) new (with_number hand.thread last true named) marks
keeps-taken watch opened count last chunks row accounts old new named marks hand by sets h =
    let home = watch.home in
    let thread = hand.thread in
    let now = with_taken accounts thread count last in
    let other : (t : ℕ) → (t == thread) ≡ false → now t ≡ accounts t = λ t off. taken-other accounts thread count last t off in
    let closed : (t : ℕ) → (accounts t).is_open ≡ false → marks_by now t ≡ marks_by accounts t = λ t off.
    marks-same now accounts t (other t (shut-apart accounts thread t by.is_open off)) in
    record {
      ascending = h.ascending;
      held = λ r.
          let after = hand_after hand count last chunks in
          let Set : Bool → Option HandState = λ v. if v then Some after else old r in
          elim (cases_eq r row) [
            | inl same ↦
                subst (IsHeld home opened now r) (sym (sets r ∙ ap Set (eq-eqb r row same)))
                (subst (λ x. IsHandBy home opened now x after) (sym same) (hand-taken home opened accounts count last chunks row hand by))
            | inr away ↦
                let apart : (t : ℕ) → home t ≡ r → (t == thread) ≡ false = λ t at. home-apart home thread t r (λ e. away (sym e ∙ by.row_is)) at in
                subst (IsHeld home opened now r) (sym (sets r ∙ ap Set (ne_eqb r row away)))
                (held-same home opened opened accounts now r (old r) (λ t is. is) (λ t is at. is) (λ t at. other t (apart t at)) (h.held r))
          ];
      named_are = ap (with_number thread last true) h.named_are
          ∙ sym (map-changed (name_by accounts) (name_by now) (λ n. record n { number = last; is_open = n.is_open && true }) thread (filter (λ t. (accounts t).is_named) opened)
          (ascending-filter (λ t. (accounts t).is_named) opened (ascending-same opened h.ascending)) (λ x. refl)
          (rw (eq-eqb thread thread refl, by.is_open) refl)
          (λ x off. let apart = ne_eqb x thread (λ same. eqb-false thread x off (sym same)) in name-same now accounts x (other x apart)));
      marks_are = h.marks_are
          ∙ sym (map-same_kept (marks_by now) (marks_by accounts) (λ t. not (accounts t).is_open) opened (λ t is kept. closed t (not-true (accounts t).is_open kept)));
      open_named = h.open_named;
      within = λ t is off. let apart = shut-apart accounts thread t by.is_open off in rw apart (h.within t is off);
      counted = λ t is off. let Are : Marks → Type 0 = λ m. AreCounted watch.events watch.writes watch.config m in subst Are (sym (closed t off)) (h.counted t is off);
    }
