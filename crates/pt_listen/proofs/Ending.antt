-- What a run has come to once its session has ended.
use Rattle.std.proofs.Common.{◌≡◌, ◌∙◌, inl, inr, ℕ, suc, ◌+◌, ◌≤◌, Bool, List, [], ◌∷◌, Some, length, map, refl, sym, ap, subst, arith}
use Rattle.std.specs.Prelude.{slice_get}
use Rattle.std.specs.List.{AllByRecursion, range_with_len}
use Rattle.ep_defs.specs.declared.event.EventDef.{EventDef}
use Rattle.ep_defs.specs.declared.session.Config.{Config}
use Rattle.ep_defs.specs.declared.session.Marks.{Marks}
use Rattle.ep_defs.specs.declared.session.Write.{Write}
use Rattle.ep_guarded.specs.Tied.{AreCounted}
use Rattle.ep_pool.specs.Shared.{SeatState}
use Rattle.ep_listen.specs.Heard.{HeardEvent}
use Rattle.ep_listen.specs.Shares.{Account, IsHeardOf, IsShareOf, heard_by, no_account}
use Rattle.pt_load.specs.Sample.{sample}
use Rattle.pt_load.specs.declared.plan.Plan.{Plan}
use Rattle.pt_writers.specs.Whole.{AreWhole, IsWhole, admitted_of}
use Rattle.pt_writers.specs.Written.{writes_of}
use Rattle.pt_writers.proofs.Whole.{all-counted}
use Rattle.pt_listen.specs.Watched.{AreWatched}
use Rattle.pt_listen.specs.state.Hearing.{HasEnded}

-- The law on what is missing.
abbrev pub AllIsHeard : Type 0
AllIsHeard =
    (admitted : List Write) (account : Account) (refused : ℕ) (failed : Bool) (thread : ℕ) (heard : List HeardEvent)
    → IsHeardOf admitted account failed thread heard → account.last ≤ length admitted → account.taken + refused ≡ length admitted
    → IsShareOf admitted refused failed (heard_by thread heard)

-- What holds of each at its place holds of all.
all-of : {A : Type 0} (Q : A → Type 0) (xs : List A) → ((k : ℕ) (x : A) → slice_get xs k ≡ Some x → Q x) → AllByRecursion Q xs
all-of Q [] each = tt
all-of Q (x ∷ xs) each = (each 0 x refl, all-of Q xs (λ k. each (suc k)))

-- The threads of marks that stand by row.
threads-from : (first : ℕ) (marks : List Marks) → ((k : ℕ) (mark : Marks) → slice_get marks k ≡ Some mark → mark.thread ≡ first + k) → map (λ m. m.thread) marks ≡ range_with_len first (length marks)
threads-from first [] each = refl
threads-from first (m ∷ marks) each =
    ap (λ (t : ℕ). t ∷ map (λ m. m.thread) marks) (each 0 m refl ∙ omega arith)
    ∙ ap (λ (ts : List ℕ). first ∷ ts) (threads-from (first + 1) marks (λ k mark is. each (suc k) mark is ∙ omega arith))

empty : {A : Type 0} (xs : List A) → length xs ≤ 0 → xs ≡ []
empty [] few = refl
empty (x ∷ xs) few = absurd (omega (arith, few))

module _ {C : Type 0} (has_heard : C → List HeardEvent → Type 0) (plan : Plan) (config : Config) (at_first : List HeardEvent → Type 0) (callback : C) (marks : List Marks) (failed : Bool) (seat : SeatState) (ended : HasEnded has_heard plan.threads sample (writes_of plan) config at_first plan.writes callback marks failed seat) where
  pub whole-end : AreWhole plan config marks
  whole-end =
      record {
        threads = threads-from 1 marks (λ k mark is. (ended.marks_are k mark is).thread ∙ omega arith) ∙ ap (λ (n : ℕ). range_with_len 1 n) ended.marks_count;
        whole = all-of (IsWhole plan.writes) marks (λ k mark is. record { from = (ended.marks_are k mark is).from; to_is = (ended.marks_are k mark is).to_is });
        counted = all-of (AreCounted sample (writes_of plan) config) marks (λ k mark is. (ended.marks_are k mark is).counted);
      }

  -- What was heard of the thread of some marks.
  of-mark : (k : ℕ) (mark : Marks) → slice_get marks k ≡ Some mark → IsHeardOf (admitted_of plan config mark.thread) (ended.accounts mark.thread) failed mark.thread ended.heard.heard
  of-mark k mark is = ended.heard.are mark.thread

  account-is : (k : ℕ) (mark : Marks) → slice_get marks k ≡ Some mark → (mark.taken ≡ (ended.accounts mark.thread).taken) × (mark.taken + mark.refused ≡ (ended.accounts mark.thread).last)
  account-is k mark is =
      let by = ended.marks_are k mark is in
      (by.taken ∙ ap (λ (t : ℕ). (ended.accounts t).taken) (sym by.thread), by.last ∙ ap (λ (t : ℕ). (ended.accounts t).last) (sym by.thread))

  share-of : AllIsHeard → (k : ℕ) (mark : Marks) → slice_get marks k ≡ Some mark → IsShareOf (admitted_of plan config mark.thread) mark.refused failed (heard_by mark.thread ended.heard.heard)
  share-of law k mark is =
      let by = ended.marks_are k mark is in
      let account = account-is k mark is in
      let all = all-counted plan config mark (record { from = by.from; to_is = by.to_is }) by.counted in
      law (admitted_of plan config mark.thread) (ended.accounts mark.thread) mark.refused failed mark.thread ended.heard.heard (of-mark k mark is)
      (omega (arith, all, account.1))
      (ap (λ (n : ℕ). n + mark.refused) (sym account.0) ∙ all)

  pub watched-end : AllIsHeard → AreWatched plan config failed marks ended.heard.heard
  watched-end law =
      record {
        shares = all-of (λ mark. IsShareOf (admitted_of plan config mark.thread) mark.refused failed (heard_by mark.thread ended.heard.heard)) marks (share-of law);
        taken = λ sound.
            all-of (λ mark. length (heard_by mark.thread ended.heard.heard) ≡ mark.taken) marks
            (λ k mark is. (of-mark k mark is).all sound ∙ sym (account-is k mark is).0);
        alone = λ thread outside.
            let none : ended.accounts thread ≡ no_account = ended.heard.others thread (λ inside. elim outside [
              | inl zero_is ↦ (let low = inside.0 in omega (arith, low, zero_is))
              | inr past ↦ (let high = inside.1 in omega (arith, high, past))
            ]) in
            empty (heard_by thread ended.heard.heard) (let few = (ended.heard.are thread).few in omega (arith, few, ap (λ (a : Account). a.taken) none));
      }

-- The session was one over the sample program.
pub ended-as : {C : Type 0} (has_heard : C → List HeardEvent → Type 0) (plan : Plan) (rows : ℕ) (events : List EventDef) (writes : ℕ → List Write) (config : Config) (at_first : List HeardEvent → Type 0) (ends : ℕ) (callback : C) (marks : List Marks) (failed : Bool) (seat : SeatState)
    → rows ≡ plan.threads → events ≡ sample → writes ≡ writes_of plan → ends ≡ plan.writes
    → HasEnded has_heard rows events writes config at_first ends callback marks failed seat
    → HasEnded has_heard plan.threads sample (writes_of plan) config at_first plan.writes callback marks failed seat
ended-as has_heard plan rows events writes config at_first ends callback marks failed seat rows_are events_are writes_are ends_are ended =
    subst (λ (n : ℕ). HasEnded has_heard n sample (writes_of plan) config at_first plan.writes callback marks failed seat) rows_are
    (subst (λ (es : List EventDef). HasEnded has_heard rows es (writes_of plan) config at_first plan.writes callback marks failed seat) events_are
    (subst (λ (ws : ℕ → List Write). HasEnded has_heard rows events ws config at_first plan.writes callback marks failed seat) writes_are
    (subst (λ (n : ℕ). HasEnded has_heard rows events writes config at_first n callback marks failed seat) ends_are ended)))
