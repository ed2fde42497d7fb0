-- A registry stays tied where one of its lists changes together with the half that shows it.
use Rattle.std.proofs.Common.{◌≡◌, ◌≢◌, ℕ, zero, suc, ◌+◌, ◌-◌, ◌<◌, ◌≤◌, ◌%◌, Bool, true, false, Option, Some, None, List, [], ◌∷◌, ◌++◌, length, length-append, set, slice_get, eqb, refl, ap, sym, ◌∙◌, arith, ◌⊎◌, inl, inr, cond, count_by}
use Rattle.std.proofs.lemmas.Grind.{common_steps}
use Rattle.std.proofs.lemmas.Bool.Decides.{eqb_tells}
use Rattle.std.proofs.lemmas.List.{length-set}
use Rattle.std.proofs.lemmas.Bool.{and_parts}
use Rattle.ep_table.proofs.Places.{get-set, get-set_other}
use Rattle.ep_table.specs.Sessions.{Sessions}
use Rattle.ep_journal.specs.declared.limits.TheConstants.{CONNECTIONS}
use Rattle.ep_journal.specs.declared.decision.Decision.{Decision}
use Rattle.ep_journal.specs.declared.session.Entry.{Entry}
use Rattle.ep_registry.specs.declared.hold.Hold.{Hold}
use Rattle.ep_registry.specs.declared.server.Mark.{Mark}
use Rattle.ep_registry.specs.declared.server.Mark.TheVariants as mark
use Rattle.ep_journal.specs.Items.{item, with_item}
use Rattle.ep_registry.specs.Places.{numbered}
use Rattle.ep_journal.specs.Recorded.{begun}
use Rattle.ep_journal.specs.Kept.{is_on, is_of, is_early, is_late}
use Rattle.ep_registry.specs.Held.{hold_of, hold_at, AreHeld}
use Rattle.ep_registry.specs.Registered.{Desk, IsTied, IsMarked}
use Rattle.ep_journal.proofs.Items.{item-within, item-set, item-set-other, item-last, count-item, count-snoc}

-- ---- what a meeting shows

abbrev list_there : Option (Option (List Decision)) → List Decision
list_there None = []
list_there (Some None) = []
list_there (Some (Some decisions)) = decisions

pub book-is : (book : List (Option (List Decision))) (x y : List Decision) → book ≡ Some y ∷ [] → slice_get book 0 ≡ Some (Some x) → x ≡ y
book-is book x y e h = let g : Some (Some x) ≡ Some (Some y) = sym h ∙ ap (λ (b : List (Option (List Decision))). slice_get b 0) e in ap list_there g

abbrev hold_there : Option (Option (Option Hold)) → Option Hold
hold_there None = None
hold_there (Some None) = None
hold_there (Some (Some hold)) = hold

-- Whoever shows what the registry's half shows knows what the registry knows.
pub shown-known : (holds : List (Option (Option Hold))) (sessions : List Entry) (hold : Hold) → AreHeld holds sessions → 0 < hold.id → hold.id ≤ CONNECTIONS →
    slice_get holds (CONNECTIONS - hold.id) ≡ Some (Some (Some hold)) → hold_at sessions hold.id ≡ Some hold
shown-known holds sessions hold held first last h = ap hold_there (sym (held hold.id first last) ∙ h)

-- So does a holder whose hold it is.
pub holder-known : (holds : List (Option (Option Hold))) (sessions : List Entry) (shown hold : Hold) → AreHeld holds sessions → hold ≡ shown → (0 < hold.id) × (hold.id ≤ CONNECTIONS)
    → slice_get holds (CONNECTIONS - shown.id) ≡ Some (Some (Some shown)) → hold_at sessions hold.id ≡ Some hold
holder-known holds sessions shown hold held same known h = shown-known holds sessions hold held known.0 known.1 (rw same h)

pub held-entry : (sessions : List Entry) (id : ℕ) (hold : Hold) → hold_at sessions id ≡ Some hold → (e : Entry) × (item sessions id ≡ Some e) × (hold ≡ hold_of id e)
held-entry sessions id hold h = by_case (item sessions id) refl
  where
    by_case : (o : Option Entry) → item sessions id ≡ o → (e : Entry) × (item sessions id ≡ Some e) × (hold ≡ hold_of id e)
    by_case None e = absurd (let n : hold_at sessions id ≡ None = rw e refl in let q : Some hold ≡ None = sym h ∙ n in cc)
    by_case (Some x) e = let n : hold_at sessions id ≡ Some (hold_of id x) = rw e refl in let q : Some hold ≡ Some (hold_of id x) = sym h ∙ n in (x, e, grind (arith, common_steps))

-- ---- the ties of sessions

pub held-set : (holds : List (Option (Option Hold))) (sessions : List Entry) (id : ℕ) (e f : Entry) → length holds ≡ CONNECTIONS → id ≤ CONNECTIONS → AreHeld holds sessions →
    item sessions id ≡ Some e → AreHeld (set holds (CONNECTIONS - id) (Some (Some (hold_of id f)))) (with_item sessions id f)
held-set holds sessions id e f all last h there n first' last' = by_test (eqb_tells n id)
  where
    put : slice_get (set holds (CONNECTIONS - id) (Some (Some (hold_of id f)))) (CONNECTIONS - id) ≡ Some (Some (Some (hold_of id f)))
    put = let w = item-within sessions id e there in get-set holds (CONNECTIONS - id) (Some (Some (hold_of id f))) (omega (arith, all, w.0))

    by_test : ((eqb n id ≡ true) × (n ≡ id)) ⊎ ((eqb n id ≡ false) × (n ≢ id)) →
        slice_get (set holds (CONNECTIONS - id) (Some (Some (hold_of id f)))) (CONNECTIONS - n) ≡ Some (Some (hold_at (with_item sessions id f) n))
    by_test (inl t) = rw t.1 (put ∙ rw (item-set sessions id e f there) refl)
    by_test (inr t) =
        let w = item-within sessions id e there in
        get-set_other holds (CONNECTIONS - id) (CONNECTIONS - n) (Some (Some (hold_of id f))) (λ q. t.1 (omega (arith, q, w.0))) ∙ h n first' last'
        ∙ rw (item-set-other sessions id n e f there t.1) refl

pub held-same : (holds : List (Option (Option Hold))) (sessions : List Entry) (id : ℕ) (e f : Entry) → AreHeld holds sessions → item sessions id ≡ Some e →
    hold_of id f ≡ hold_of id e → AreHeld holds (with_item sessions id f)
held-same holds sessions id e f h there same n first last = by_test (eqb_tells n id)
  where
    by_test : ((eqb n id ≡ true) × (n ≡ id)) ⊎ ((eqb n id ≡ false) × (n ≢ id)) → slice_get holds (CONNECTIONS - n) ≡ Some (Some (hold_at (with_item sessions id f) n))
    by_test (inl t) =
        let was : hold_at sessions id ≡ Some (hold_of id e) = rw there refl in
        let now : hold_at (with_item sessions id f) id ≡ Some (hold_of id e) = rw (item-set sessions id e f there) (ap (λ (k : Hold). let q : Option Hold = Some k in q) same) in
        h n first last ∙ ap (λ (k : Option Hold). let q : Option (Option (Option Hold)) = Some (Some k) in q) (ap (hold_at sessions) t.1 ∙ was ∙ sym now ∙ ap (hold_at (with_item sessions id f)) (sym t.1))
    by_test (inr t) = h n first last ∙ rw (item-set-other sessions id n e f there t.1) refl

get-snoc-other : {A : Type 0} (xs : List A) (k : ℕ) (y : A) → k ≢ length xs → slice_get (xs ++ y ∷ []) k ≡ slice_get xs k
get-snoc-other [] zero y n = absurd (n refl)
get-snoc-other [] (suc k) y n = refl
get-snoc-other (x ∷ xs) zero y n = refl
get-snoc-other (x ∷ xs) (suc k) y n = get-snoc-other xs k y (λ e. n (ap suc e))

pub item-snoc-other : {A : Type 0} (xs : List A) (n : ℕ) (y : A) → n ≢ length xs + 1 → item (xs ++ y ∷ []) n ≡ item xs n
item-snoc-other xs zero y d = refl
item-snoc-other xs (suc k) y d = get-snoc-other xs k y (λ e. d (omega (arith, e)))

pub held-snoc : (holds : List (Option (Option Hold))) (sessions : List Entry) (f : Entry) → length holds ≡ CONNECTIONS → length sessions < CONNECTIONS → AreHeld holds sessions →
    AreHeld (set holds (CONNECTIONS - (length sessions + 1)) (Some (Some (hold_of (length sessions + 1) f)))) (sessions ++ f ∷ [])
held-snoc holds sessions f all room h n first last = by_test (eqb_tells n (length sessions + 1))
  where
    put : slice_get (set holds (CONNECTIONS - (length sessions + 1)) (Some (Some (hold_of (length sessions + 1) f)))) (CONNECTIONS - (length sessions + 1)) ≡
        Some (Some (Some (hold_of (length sessions + 1) f)))
    put = get-set holds (CONNECTIONS - (length sessions + 1)) (Some (Some (hold_of (length sessions + 1) f))) (omega (arith, all))

    by_test : ((eqb n (length sessions + 1) ≡ true) × (n ≡ length sessions + 1)) ⊎ ((eqb n (length sessions + 1) ≡ false) × (n ≢ length sessions + 1)) →
        slice_get (set holds (CONNECTIONS - (length sessions + 1)) (Some (Some (hold_of (length sessions + 1) f)))) (CONNECTIONS - n) ≡ Some (Some (hold_at (sessions ++ f ∷ []) n))
    by_test (inl t) = rw t.1 (put ∙ rw (item-last sessions (length sessions + 1) f refl) refl)
    by_test (inr t) =
        get-set_other holds (CONNECTIONS - (length sessions + 1)) (CONNECTIONS - n) (Some (Some (hold_of (length sessions + 1) f))) (λ q. t.1 (omega (arith, q)))
        ∙ h n first last ∙ rw (item-snoc-other sessions n f t.1) refl

-- ---- the marks of the roles

pub marked-keeps : (d d' : Desk) (role : ℕ) (o : Option (Option Mark)) → d'.roles ≡ d.roles → (d.closed ≡ true → d'.closed ≡ true) →
    (d.closed ≡ true → count_by (is_of d.roles role) d.recorded.sessions ≡ 0 → count_by (is_of d'.roles role) d'.recorded.sessions ≡ 0) → IsMarked d role o → IsMarked d' role o
marked-keeps d d' role None same stays none h = h
marked-keeps d d' role (Some None) same stays none h = h
marked-keeps d d' role (Some (Some (mark.Server early late left))) same stays none h = h
marked-keeps d d' role (Some (Some (mark.Role roles left))) same stays none h = (h.0 ∙ sym same, λ l. let g = h.1 l in (stays g.0, none g.0 g.1))

count-off : (p : Entry → Bool) (sessions : List Entry) (id : ℕ) (e f : Entry) → item sessions id ≡ Some e → (p f ≡ true → p e ≡ true) → count_by p sessions ≡ 0 →
    count_by p (with_item sessions id f) ≡ 0
count-off p sessions id e f there keeps none = by_case (p f) refl (p e) refl
  where
    c : count_by p (with_item sessions id f) + cond (p e) 1 0 ≡ count_by p sessions + cond (p f) 1 0
    c = count-item p sessions id e f there

    one : Bool → ℕ
    one t = cond t 1 0

    by_case : (a : Bool) → p f ≡ a → (b : Bool) → p e ≡ b → count_by p (with_item sessions id f) ≡ 0
    by_case false h b g = omega (arith, none, c, ap one h)
    by_case true h true g = omega (arith, none, c, ap one h, ap one g)
    by_case true h false g = absurd (let q : false ≡ true = sym g ∙ keeps h in cc)

is-of-keeps : (roles role : ℕ) (e f : Entry) → f.slot ≡ e.slot → (is_on f ≡ true → is_on e ≡ true) → is_of roles role f ≡ true → is_of roles role e ≡ true
is-of-keeps roles role e f slot on h =
    let b = and_parts (eqb (f.slot % roles) role) (is_on f) h in
    let q : eqb (e.slot % roles) role ≡ true = ap (λ s. eqb (s % roles) role) (sym slot) ∙ b.0 in
    rw (q, on b.1) refl

same-count : (p : Entry → Bool) (sessions : List Entry) (id : ℕ) (e f : Entry) → item sessions id ≡ Some e → p f ≡ p e → count_by p (with_item sessions id f) ≡ count_by p sessions
same-count p sessions id e f there same = let c = count-item p sessions id e f there in omega (arith, c, ap one same)
  where
    one : Bool → ℕ
    one t = cond t 1 0

-- ---- the server decides

pub told-tied : (d : Desk) (table : Sessions) (decisions : List Decision) (ended : Bool) → IsTied d →
    IsTied (record d { recorded = record { table = table; decisions = decisions; sessions = d.recorded.sessions; ended = ended }; book = Some decisions ∷ [] })
told-tied d table decisions ended t = record {
  book = refl;
  places = t.places;
  holds = t.holds;
  spare = t.spare;
  few = t.few;
  marks = t.marks;
  server = t.server;
  early = t.early;
  late = t.late;
  role = λ role l. marked-keeps d (record d { recorded = record { table = table; decisions = decisions; sessions = d.recorded.sessions; ended = ended }; book = Some decisions ∷ [] }) role (slice_get d.marks role) refl (λ c. c) (λ c n. n) (t.role role l);
  some = t.some;
}

-- ---- all writers have ended

pub writers-tied : (d : Desk) → IsTied d → IsTied (record d { recorded = record d.recorded { ended = true } })
writers-tied d t = record {
  book = t.book;
  places = t.places;
  holds = t.holds;
  spare = t.spare;
  few = t.few;
  marks = t.marks;
  server = t.server;
  early = t.early;
  late = t.late;
  role = λ role l. marked-keeps d (record d { recorded = record d.recorded { ended = true } }) role (slice_get d.marks role) refl (λ c. c) (λ c n. n) (t.role role l);
  some = t.some;
}

-- ---- a session changes

pub record Changes (d : Desk) (id : ℕ) (e f : Entry) (shown : List (Option (Option Hold))) : Type 0 where
  pub there : item d.recorded.sessions id ≡ Some e
  pub slot : f.slot ≡ e.slot
  pub on : is_on f ≡ true → is_on e ≡ true
  pub early : is_early f ≡ is_early e
  pub late : is_late f ≡ is_late e
  pub places : length shown ≡ CONNECTIONS
  pub holds : AreHeld shown (with_item d.recorded.sessions id f)

pub changed-tied : (d : Desk) (table : Sessions) (decisions : List Decision) (ended : Bool) (id : ℕ) (e f : Entry) (holds : List (Option (Option Hold))) → IsTied d → Changes d id e f holds →
    IsTied (record d { recorded = record { table = table; decisions = decisions; sessions = with_item d.recorded.sessions id f; ended = ended }; book = Some decisions ∷ []; holds = holds })
changed-tied d table decisions ended id e f holds t c = record {
  book = refl;
  places = c.places;
  holds = c.holds;
  spare = t.spare ∙ ap (λ n. numbered (CONNECTIONS - n) None) (sym (length-set d.recorded.sessions (id - 1) f));
  few = let n = length-set d.recorded.sessions (id - 1) f in let l : length d.recorded.sessions ≤ CONNECTIONS = t.few in omega (arith, n, l);
  marks = t.marks;
  server = t.server;
  early = t.early ∙ sym (same-count is_early d.recorded.sessions id e f c.there c.early);
  late = t.late ∙ sym (same-count is_late d.recorded.sessions id e f c.there c.late);
  role =
      λ role l.
      marked-keeps d (record d { recorded = record { table = table; decisions = decisions; sessions = with_item d.recorded.sessions id f; ended = ended }; book = Some decisions ∷ []; holds = holds })
      role (slice_get d.marks role) refl (λ q. q)
      (λ q n. count-off (is_of d.roles role) d.recorded.sessions id e f c.there (is-of-keeps d.roles role e f c.slot c.on) n)
      (t.role role l);
  some = t.some;
}

-- What changes with the half of whoever has the session.
pub put-changes : (d : Desk) (id : ℕ) (e f : Entry) → IsTied d → id ≤ CONNECTIONS → item d.recorded.sessions id ≡ Some e → f.slot ≡ e.slot → (is_on f ≡ true → is_on e ≡ true) →
    is_early f ≡ is_early e → is_late f ≡ is_late e → Changes d id e f (set d.holds (CONNECTIONS - id) (Some (Some (hold_of id f))))
put-changes d id e f t last there slot on early late = record {
  there = there;
  slot = slot;
  on = on;
  early = early;
  late = late;
  places = length-set d.holds (CONNECTIONS - id) (Some (Some (hold_of id f))) ∙ t.places;
  holds = held-set d.holds d.recorded.sessions id e f t.places last t.holds there;
}

-- ---- a session begins

pub begun-tied : (d : Desk) (table : Sessions) (decisions : List Decision) (ended : Bool) (conn slot : ℕ) → IsTied d → length d.recorded.sessions < CONNECTIONS → d.closed ≡ false →
    IsTied (record d {
      recorded = record { table = table; decisions = decisions; sessions = d.recorded.sessions ++ begun conn slot ∷ []; ended = ended };
      book = Some decisions ∷ [];
      holds = set d.holds (CONNECTIONS - (length d.recorded.sessions + 1)) (Some (Some (hold_of (length d.recorded.sessions + 1) (begun conn slot))));
      spare = numbered (CONNECTIONS - (length d.recorded.sessions + 1)) None;
    })
begun-tied d table decisions ended conn slot t room unclosed = record {
  book = refl;
  places = length-set d.holds (CONNECTIONS - (length d.recorded.sessions + 1)) (Some (Some (hold_of (length d.recorded.sessions + 1) f))) ∙ t.places;
  holds = held-snoc d.holds d.recorded.sessions f t.places room t.holds;
  spare = ap (λ n. numbered (CONNECTIONS - n) None) (sym (length-append d.recorded.sessions (f ∷ [])));
  few = let n = length-append d.recorded.sessions (f ∷ []) in omega (arith, n);
  marks = t.marks;
  server = t.server;
  early = let a = count-snoc is_early d.recorded.sessions f in let b : d.early ≡ count_by is_early d.recorded.sessions = t.early in omega (arith, a, b);
  late = let a = count-snoc is_late d.recorded.sessions f in let b : d.late ≡ count_by is_late d.recorded.sessions = t.late in omega (arith, a, b);
  role = λ role l. marked-keeps d desk role (slice_get d.marks role) refl (λ q. q) (λ q n. absurd (let no : false ≡ true = sym unclosed ∙ q in cc)) (t.role role l);
  some = t.some;
}
  where
    f : Entry
    f = begun conn slot

    desk : Desk
    desk = record d {
      recorded = record { table = table; decisions = decisions; sessions = d.recorded.sessions ++ begun conn slot ∷ []; ended = ended };
      book = Some decisions ∷ [];
      holds = set d.holds (CONNECTIONS - (length d.recorded.sessions + 1)) (Some (Some (hold_of (length d.recorded.sessions + 1) (begun conn slot))));
      spare = numbered (CONNECTIONS - (length d.recorded.sessions + 1)) None;
    }
