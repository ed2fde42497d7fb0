-- A session that is opened on one row after another, before anything was written.
use Rattle.std.proofs.Common.{◌≡◌, ◌∙◌, ℕ, zero, suc, ◌+◌, ◌*◌, ◌-◌, ◌<◌, ◌≤◌, Bool, false, inl, inr, List, [], ◌∷◌, ◌++◌, Option, None, Some, length, refl, sym, ap, subst, arith}
use Rattle.std.specs.Prelude.{IsSome, slice_get, if◌then◌else◌}
use Rattle.std.proofs.lemmas.Option.{none-some, slice_get_within}
use Rattle.std.specs.List.{sum_by}
use Rattle.std.proofs.lemmas.Bool.{cases_eq, eq-eqb, ne_eqb}
use Rattle.std.proofs.lemmas.List.{append-nil, get_or_past}
use Rattle.ep_defs.specs.declared.limits.TheConstants.{SESSIONS}
use Rattle.ep_defs.specs.declared.event.EventDef.{EventDef}
use Rattle.ep_defs.specs.declared.session.Config.{Config}
use Rattle.ep_defs.specs.declared.session.Marks.{Marks}
use Rattle.ep_defs.specs.declared.session.Write.{Write}
use Rattle.ep_guarded.specs.declared.grant.Grant.{Grant}
use Rattle.ep_guarded.specs.Tied.{thread_of}
use Rattle.ep_pool.specs.Shared.{SeatState}
use Rattle.ep_slot.specs.Hand.{HandState}
use Rattle.ep_stream.specs.Hands.{hand_at}
use Rattle.ep_stream.specs.Rows.{first_hand}
use Rattle.ep_listen.specs.Heard.{HeardEvent}
use Rattle.ep_listen.specs.Listening.{callback_of, has_failed, marks_in, room_of}
use Rattle.ep_listen.specs.Shares.{AreHeard, no_account}
use Rattle.ep_listen.specs.declared.listener.Listener.{Listener}
use Rattle.ep_live.specs.RowSet.{AreFresh, LiveRowsState}
use Rattle.pt_listen.specs.state.Hearing.{AreItsRows, IsHandBy, IsHearing, admitted_in}
use Rattle.pt_listen.proofs.Halves.{hand_at-push}

-- The law on what is heard at first.
abbrev pub NothingIsHeard : Type 0
NothingIsHeard = (admitted : ℕ → List Write) → AreHeard admitted (λ thread. no_account) false []

pub no-hand : (row : ℕ) → hand_at [] row ≡ None
no-hand zero = refl
no-hand (suc place) = get_or_past {X = Option HandState} [] place None (omega arith)

-- The rows of a session that is open nowhere.
pub its-first : (count slot : ℕ) (config : Config) (grant : Grant) (seat : SeatState) (stands : Option ℕ) (lives : List ℕ) (set : LiveRowsState) → slot < SESSIONS → grant.config ≡ config → AreFresh count slot grant seat stands lives set → AreItsRows count slot config set []
its-first count slot config grant seat stands lives set within asked fresh =
    record {
      within = within;
      rows = fresh.count;
      slot_is = fresh.slot_is;
      config_is = ap (λ (g : Grant). g.config) fresh.grant_is ∙ asked;
      expected = λ row. fresh.closed row slot ∙ sym (no-hand row);
      configured = λ row hand is. absurd (none-some hand (sym (no-hand row) ∙ is));
      out = fresh.given slot;
    }

-- The hand of a row's first thread, opened before its first write.
pub first-by : (rows row life : ℕ) (hand : HandState) → 0 < row → life ≡ 0 → hand ≡ first_hand 1 hand.thread hand.from → hand.thread ≡ thread_of rows (row - 1) life → hand.from ≡ 0 → IsHandBy (λ thread. no_account) row hand
unfolding thread_of
first-by rows row life hand some first is thread from =
    let zero_is : life * rows ≡ 0 = ap (λ (n : ℕ). n * rows) first ∙ omega arith in
    record {
      thread = thread ∙ omega (arith, zero_is, some);
      from = from;
      taken = ap (λ (h : HandState). h.taken) is;
      last = ap (λ (h : HandState). h.last) is;
    }

pub hands-more : (hands : List (Option HandState)) (hand : HandState) → IsHandBy (λ thread. no_account) (length hands + 1) hand
    → ((r : ℕ) (h : HandState) → hand_at hands r ≡ Some h → IsHandBy (λ thread. no_account) r h)
    → (r : ℕ) (h : HandState) → hand_at (hands ++ Some hand ∷ []) r ≡ Some h → IsHandBy (λ thread. no_account) r h
hands-more hands hand by each r h is =
    let at = sym (hand_at-push hands hand r) ∙ is in
    elim (cases_eq r (length hands + 1)) [
      | inl here ↦
          let now = sym (ap (λ (v : Bool). if v then Some hand else hand_at hands r) (eq-eqb r (length hands + 1) here)) ∙ at in
          subst (λ (n : ℕ). IsHandBy (λ thread. no_account) n h) (sym here) (subst (IsHandBy (λ thread. no_account) (length hands + 1)) (same hand h now) by)
      | inr other ↦ each r h (sym (ap (λ (v : Bool). if v then Some hand else hand_at hands r) (ne_eqb r (length hands + 1) other)) ∙ at)
    ]
  where
    same : (a b : HandState) → Some a ≡ Some b → a ≡ b
    same a b e = cc

pub opened-more : (hands : List (Option HandState)) (hand : HandState) → ((r : ℕ) → 0 < r → r ≤ length hands → IsSome (hand_at hands r))
    → (r : ℕ) → 0 < r → r ≤ length hands + 1 → IsSome (hand_at (hands ++ Some hand ∷ []) r)
opened-more hands hand each r low high =
    elim (cases_eq r (length hands + 1)) [
      | inl here ↦ subst IsSome (sym (hand_at-push hands hand r ∙ ap (λ (v : Bool). if v then Some hand else hand_at hands r) (eq-eqb r (length hands + 1) here))) refl
      | inr other ↦ subst IsSome (sym (hand_at-push hands hand r ∙ ap (λ (v : Bool). if v then Some hand else hand_at hands r) (ne_eqb r (length hands + 1) other))) (each r low (omega (arith, high, other)))
    ]

-- A session that was just opened on all rows.
pub hearing-first : {C : Type 0} (has_heard : C → List HeardEvent → Type 0) (count : ℕ) (events : List EventDef) (writes : ℕ → List Write) (config : Config) (at_first : List HeardEvent → Type 0) (slot : ℕ) (set : LiveRowsState) (hands : List (Option HandState)) (listener : Listener C)
    → NothingIsHeard → AreItsRows count slot config set hands → length hands ≡ count
    → ((r : ℕ) (h : HandState) → hand_at hands r ≡ Some h → IsHandBy (λ thread. no_account) r h)
    → ((r : ℕ) → 0 < r → r ≤ count → IsSome (hand_at hands r))
    → ((before : List HeardEvent) → at_first before → has_heard (callback_of listener) before)
    → marks_in listener ≡ [] → room_of listener ≡ count → has_failed listener ≡ false → set.seat.dry ≡ 0
    → IsHearing has_heard count events writes config at_first 0 0 slot set hands listener
hearing-first has_heard count events writes config at_first slot set hands listener law its long by opened told marks room sound dry =
    record {
      rows = its;
      long = long;
      accounts = λ thread. no_account;
      heard = record {
        heard = [];
        told = λ before first. subst (has_heard (callback_of listener)) (sym (append-nil before)) (told before first);
        are = subst (λ (v : Bool). AreHeard (admitted_in events writes config) (λ thread. no_account) v []) (sym sound) (law (admitted_in events writes config));
        others = λ thread outside. refl;
      };
      hands_are = by;
      opened = opened;
      shut = λ r low. shut-none r low;
      room = room;
      marks = ap length marks;
      marks_are = λ k mark is. absurd (no-mark (marks_in listener) marks k mark is);
      dry = dry ∙ sym (ap (λ (ms : List Marks). sum_by (λ mark. mark.refused) ms) marks);
    }
  where
    shut-none : (r : ℕ) → r ≤ 0 → hand_at hands r ≡ None
    shut-none zero low = refl
    shut-none (suc r) low = absurd (omega (arith, low))

    no-mark : (ms : List Marks) → ms ≡ [] → (k : ℕ) (mark : Marks) → slice_get ms k ≡ Some mark → ⊥
    no-mark ms none k mark is = let small = slice_get_within ms k mark is in let long = ap length none in omega (arith, small, long)
