-- Decisions stay borne out where a session is added or changes.
use Rattle.std.proofs.Common.{◌≡◌, ◌≢◌, ℕ, ◌<◌, ◌≤◌, Bool, true, false, Option, Some, None, List, [], ◌∷◌, ◌++◌, eqb, nat_lt, refl, ap, sym, ◌∙◌, arith, ◌⊎◌, inl, inr, cond, count_by}
use Rattle.std.proofs.lemmas.Bool.Decides.{eqb_tells}
use Rattle.ep_table.specs.declared.limits.TheConstants.{SLOTS}
use Rattle.ep_journal.specs.declared.decision.Decision.{Decision}
use Rattle.ep_journal.specs.declared.decision.Decision.TheVariants as decision
use Rattle.ep_journal.specs.declared.session.Entry.{Entry}
use Rattle.ep_journal.specs.Items.{item, with_item, passes_or_none}
use Rattle.ep_journal.specs.Kept.{is_asked_by, is_earlier, is_stopped_by, was_not_live, is_borne}
use Rattle.ep_journal.proofs.Items.{item-set, item-set-other, item-snoc-is, passes-set, passes-snoc, count-item, count-snoc}

-- What is said of a session where it is there stays so where another that passes takes its place.
or_none-set : (p : Entry → Bool) (xs : List Entry) (n m : ℕ) (x y : Entry) → item xs n ≡ Some x → (p x ≡ true → p y ≡ true) →
    passes_or_none p (item xs m) ≡ true → passes_or_none p (item (with_item xs n y) m) ≡ true
or_none-set p xs n m x y e keeps h = by_test (eqb_tells m n)
  where
    by_test : ((eqb m n ≡ true) × (m ≡ n)) ⊎ ((eqb m n ≡ false) × (m ≢ n)) → passes_or_none p (item (with_item xs n y) m) ≡ true
    by_test (inl t) =
        let was : passes_or_none p (item xs n) ≡ true = ap (λ k. passes_or_none p (item xs k)) (sym t.1) ∙ h in
        let old : p x ≡ true = rw e at was in
        ap (λ k. passes_or_none p (item (with_item xs n y) k)) t.1 ∙ rw (item-set xs n x y e) (keeps old)
    by_test (inr t) = rw (item-set-other xs n m x y e t.1) h

-- What counts.
abbrev one : Bool → ℕ
one t = cond t 1 0

-- A session changes.
pub borne-set : (sessions : List Entry) (id : ℕ) (e f : Entry) (conn : ℕ) (d : Decision) → item sessions id ≡ Some e →
    (is_asked_by conn e ≡ true → is_asked_by conn f ≡ true) → is_earlier conn f ≡ is_earlier conn e →
    (is_stopped_by conn e ≡ true → is_stopped_by conn f ≡ true) → (was_not_live conn e ≡ true → was_not_live conn f ≡ true) →
    is_borne sessions conn d ≡ true → is_borne (with_item sessions id f) conn d ≡ true
borne-set sessions id e f conn decision.Nothing there a b c g h = refl
borne-set sessions id e f conn (decision.Accepted n) there a b c g h = passes-set (is_asked_by conn) sessions id n e f there a h
borne-set sessions id e f conn decision.Full there a b c g h =
    let n = count-item (is_earlier conn) sessions id e f there in
    let same : count_by (is_earlier conn) (with_item sessions id f) ≡ count_by (is_earlier conn) sessions = omega (arith, n, ap one b) in
    rw same h
borne-set sessions id e f conn (decision.Ticket n) there a b c g h = passes-set (is_stopped_by conn) sessions id n e f there c h
borne-set sessions id e f conn (decision.Refused n) there a b c g h = or_none-set (was_not_live conn) sessions id n e f there g h

-- A session of a later connection comes.
pub borne-snoc : (sessions : List Entry) (f : Entry) (conn : ℕ) (d : Decision) → conn < f.conn → is_borne sessions conn d ≡ true →
    is_borne (sessions ++ f ∷ []) conn d ≡ true
borne-snoc sessions f conn decision.Nothing later h = refl
borne-snoc sessions f conn (decision.Accepted n) later h = passes-snoc (is_asked_by conn) sessions n f h
borne-snoc sessions f conn decision.Full later h =
    let n = count-snoc (is_earlier conn) sessions f in
    let least : SLOTS ≤ count_by (is_earlier conn) sessions = grind arith in
    let most : SLOTS ≤ count_by (is_earlier conn) (sessions ++ f ∷ []) = omega (arith, n, least) in
    grind arith
borne-snoc sessions f conn (decision.Ticket n) later h = passes-snoc (is_stopped_by conn) sessions n f h
borne-snoc sessions f conn (decision.Refused n) later h = by_case (item (sessions ++ f ∷ []) n) refl
  where
    late : nat_lt conn f.conn ≡ true
    late = grind arith

    by_case : (o : Option Entry) → item (sessions ++ f ∷ []) n ≡ o → passes_or_none (was_not_live conn) (item (sessions ++ f ∷ []) n) ≡ true
    by_case None e = rw e refl
    by_case (Some x) e =
        elim (item-snoc-is sessions n x f e) [ inl t ↦ rw (e, t.1, late) refl | inr t ↦ let was : was_not_live conn x ≡ true = rw t at h in rw e was ]
