-- What a session keeps of its threads, once it was closed on one.
use Rattle.std.proofs.Common.{◌≡◌, ℕ, ◌+◌, ◌-◌, true, false, inl, inr, List, map, filter, Option, None, refl, ap, sym, ◌∙◌, subst, arith}
use Rattle.std.specs.Prelude.{Bool, not, ◌&&◌, ◌==◌, if◌then◌else◌}
use Rattle.std.proofs.lemmas.Bool.{cases_Bool, cases_eq, eq-eqb, ne_eqb, eqb-false, not-true}
use Rattle.ep_defs.specs.declared.session.Marks.{Marks}
use Rattle.ep_slot.specs.Hand.{HandState}
use Rattle.ep_guarded.specs.Tied.{AreCounted}
use Rattle.ep_stream_laws.proofs.Lists.{ascending-filter, filter-more, map-changed, map-insert, map-same_kept}
use Rattle.ep_stream.specs.declared.opened.Named.{Named}
use Rattle.ep_stream.specs.Named.{insert_by, with_number, with_marks}
use Rattle.ep_live_laws.specs.Tracing.{Account, IsHandBy, IsHeld, IsOneOf, Keeps, Watch, marks_by, name_by}
use Rattle.ep_live_laws.proofs.Accounts.{ascending-same, with_taken, with_closed}
use Rattle.ep_live_laws.proofs.Keeping.{held-same, home-apart, marks-same, name-same, shut-apart}

-- The account of a thread from which the last batch was taken.
abbrev pub with_last : (ℕ → Account) → ℕ → ℕ → ℕ → ℕ → ℕ → Account
with_last accounts thread count last to = with_closed (with_taken accounts thread count last) thread to

last-other : (accounts : ℕ → Account) (thread count last to t : ℕ) → (t == thread) ≡ false → with_last accounts thread count last to t ≡ accounts t
last-other accounts thread count last to t off = rw off refl

-- The marks that are kept are those of the account.
mark-is : (mark : Marks) (thread from taken refused : ℕ) → mark.thread ≡ thread → mark.from ≡ from → mark.taken ≡ taken → mark.refused ≡ refused
    → record { thread = thread; from = from; to = mark.to; taken = taken; refused = refused } ≡ mark
mark-is mark thread from taken refused a b c d =
    let start : Marks = record { thread = thread; from = from; to = mark.to; taken = taken; refused = refused } in
    let one : start ≡ record { thread = mark.thread; from = from; to = mark.to; taken = taken; refused = refused } = ap (λ n. record { thread = n; from = from; to = mark.to; taken = taken; refused = refused }) (sym a) in
    let two : record { thread = mark.thread; from = from; to = mark.to; taken = taken; refused = refused } ≡ record { thread = mark.thread; from = mark.from; to = mark.to; taken = taken; refused = refused } = ap (λ n. record { thread = mark.thread; from = n; to = mark.to; taken = taken; refused = refused }) (sym b) in
    let three : record { thread = mark.thread; from = mark.from; to = mark.to; taken = taken; refused = refused } ≡ record { thread = mark.thread; from = mark.from; to = mark.to; taken = mark.taken; refused = refused } = ap (λ n. record { thread = mark.thread; from = mark.from; to = mark.to; taken = n; refused = refused }) (sym c) in
    one ∙ two ∙ three ∙ ap (λ n. record { thread = mark.thread; from = mark.from; to = mark.to; taken = mark.taken; refused = n }) (sym d)

-- The session is open on no thread of the row on which it was closed.
shut-there : (home : ℕ → ℕ) (opened : List ℕ) (accounts : ℕ → Account) (count last to row : ℕ) (hand : HandState) → IsHandBy home opened accounts row hand
    → (t : ℕ) → IsOneOf opened t → home t ≡ row → (with_last accounts hand.thread count last to t).is_open ≡ false
shut-there home opened accounts count last to row hand by t is at =
    elim (cases_eq t hand.thread) [
      | inl same ↦ rw (eq-eqb t hand.thread same) refl
      | inr other ↦
          rw (ne_eqb t hand.thread other)
          (elim (cases_Bool (accounts t).is_open) [ inl shown ↦ absurd (other (by.alone t is at shown)) | inr off ↦ off ])
    ]

-- The session is closed on a row on which it is open.
pub keeps-closed : (watch : Watch) (opened : List ℕ) (count last row : ℕ) (accounts : ℕ → Account) (old new : ℕ → Option HandState) (named : List Named) (marks : List Marks) (hand : HandState) (mark : Marks)
    → IsHandBy watch.home opened accounts row hand → mark.thread ≡ hand.thread → mark.from ≡ hand.from → mark.taken ≡ hand.taken + count → mark.taken + mark.refused ≡ last → AreCounted watch.events watch.writes watch.config mark
    → ((r : ℕ) → new r ≡ (if r == row then None else old r))
    → Keeps watch opened accounts old named marks
    → Keeps watch opened (with_last accounts hand.thread count last mark.to) new (with_number hand.thread last false named) (with_marks mark marks)
keeps-closed watch opened count last row accounts old new named marks hand mark by thread_is from taken refused are sets h =
    let home = watch.home in
    let thread = hand.thread in
    let now = with_last accounts thread count last mark.to in
    let same = eq-eqb thread thread refl in
    let up = ascending-same opened h.ascending in
    let other : (t : ℕ) → (t == thread) ≡ false → now t ≡ accounts t = λ t off. last-other accounts thread count last mark.to t off in
    let closed : (t : ℕ) → (accounts t).is_open ≡ false → marks_by now t ≡ marks_by accounts t = λ t off.
    marks-same now accounts t (other t (shut-apart accounts thread t by.is_open off)) in
    let total : mark.taken ≡ (accounts thread).taken + count = taken ∙ ap (λ n. n + count) by.taken in
    let here : marks_by now thread ≡ mark =
    rw same (mark-is mark thread (accounts thread).from ((accounts thread).taken + count) (last - ((accounts thread).taken + count)) thread_is (from ∙ by.from) total (omega (arith, total, refused))) in
    let shut : ℕ → Bool = λ t. not (accounts t).is_open in
    let shut_now : ℕ → Bool = λ t. not (now t).is_open in
    record {
      ascending = h.ascending;
      held = λ r.
          let Set : Bool → Option HandState = λ v. if v then None else old r in
          elim (cases_eq r row) [
            | inl e ↦
                subst (IsHeld home opened now r) (sym (sets r ∙ ap Set (eq-eqb r row e)))
                (λ t is at. shut-there home opened accounts count last mark.to row hand by t is (at ∙ e))
            | inr away ↦
                let apart : (t : ℕ) → home t ≡ r → (t == thread) ≡ false = λ t at. home-apart home thread t r (λ e. away (sym e ∙ by.row_is)) at in
                subst (IsHeld home opened now r) (sym (sets r ∙ ap Set (ne_eqb r row away)))
                (held-same home opened opened accounts now r (old r) (λ t is. is) (λ t is at. is) (λ t at. other t (apart t at)) (h.held r))
          ];
      named_are = ap (with_number thread last false) h.named_are
          ∙ sym (map-changed (name_by accounts) (name_by now) (λ n. record n { number = last; is_open = n.is_open && false }) thread (filter (λ t. (accounts t).is_named) opened)
          (ascending-filter (λ t. (accounts t).is_named) opened up) (λ x. refl)
          (rw (same, by.is_open) refl)
          (λ x off. let apart = ne_eqb x thread (λ e. eqb-false thread x off (sym e)) in name-same now accounts x (other x apart)));
      marks_are =
          ap (λ m. with_marks m marks) (sym here)
          ∙ ap (insert_by (λ m. m.thread) (marks_by now thread)) (h.marks_are ∙ sym (map-same_kept (marks_by now) (marks_by accounts) shut opened (λ t is kept. closed t (not-true (accounts t).is_open kept))))
          ∙ sym (map-insert (λ m. m.thread) (marks_by now) thread (filter shut opened) (λ x. refl))
          ∙ ap (map (marks_by now)) (sym (filter-more shut shut_now thread opened up by.is_opened (ap not by.is_open) (rw same refl)
          (λ x off. let apart = ne_eqb x thread (λ e. eqb-false thread x off (sym e)) in ap (λ (account : Account). not account.is_open) (other x apart))));
      open_named = λ t is.
          elim (cases_eq t thread) [
            | inl e ↦ let no : false ≡ true = rw (eq-eqb t thread e) at is in cc
            | inr apart ↦ h.open_named t (rw (ne_eqb t thread apart) at is)
          ];
      within = λ t is off.
          elim (cases_eq t thread) [
            | inl e ↦ rw (eq-eqb t thread e, e) (omega (arith, total, refused))
            | inr apart ↦ let out = ne_eqb t thread apart in rw out (h.within t is (rw out at off))
          ];
      counted = λ t is off.
          let Are : Marks → Type 0 = λ m. AreCounted watch.events watch.writes watch.config m in
          elim (cases_eq t thread) [
            | inl e ↦ subst Are (sym (ap (marks_by now) e ∙ here)) are
            | inr apart ↦ let out = ne_eqb t thread apart in subst Are (sym (marks-same now accounts t (other t out))) (h.counted t is (rw out at off))
          ];
    }
