-- When all roles have ended, no slot is held.
use Rattle.std.proofs.Common.{◌≡◌, ◌≢◌, ℕ, suc, ◌+◌, ◌<◌, ◌≤◌, ◌%◌, Bool, true, false, Option, Some, None, List, [], ◌∷◌, length, get_or, set, slice_get, eqb, refl, ap, sym, ◌∙◌, arith, subst, ◌⊎◌, inl, inr, cond, count_by}
use Rattle.std.proofs.Math.Nat.{mod-lt}
use Rattle.std.proofs.lemmas.Bool.Decides.{eqb_tells}
use Rattle.std.proofs.lemmas.List.{length-set}
use Rattle.std.proofs.lemmas.List.Sums.{count_by-le-length}
use Rattle.std.proofs.lemmas.Option.{slice_get_within, get_or_from_slice_get}
use Rattle.ep_table.specs.declared.limits.TheConstants.{SLOTS}
use Rattle.ep_table.proofs.Places.{counts_one, get-set, get-set_other}
use Rattle.ep_journal.specs.declared.limits.TheConstants.{CONNECTIONS}
use Rattle.ep_journal.specs.declared.session.Entry.{Entry}
use Rattle.ep_registry.specs.declared.server.Mark.{Mark}
use Rattle.ep_registry.specs.declared.server.Mark.TheVariants as mark
use Rattle.ep_journal.specs.Kept.{is_on, is_of, is_early, is_late}
use Rattle.ep_registry.specs.Registered.{Desk, IsTied, IsMarked, RoleHalf, ServerHalf, mark_of, AreLeft, AreMarked}
use Rattle.ep_journal.proofs.Methods.{count-first}
use Rattle.ep_registry.proofs.Tied.{marked-keeps}

-- ---- marks

abbrev mark_there : Option (Option Mark) → Mark
mark_there None = mark.Server 0 0 false
mark_there (Some None) = mark.Server 0 0 false
mark_there (Some (Some mark)) = mark

pub mark-known : (marks : List (Option Mark)) (place : ℕ) (a b : Mark) → slice_get marks place ≡ Some (Some a) → slice_get marks place ≡ Some (Some b) → a ≡ b
mark-known marks place a b h g = let q : Some (Some a) ≡ Some (Some b) = sym h ∙ g in ap mark_there q

-- What a server's mark shows.
pub server-shows : (early late : ℕ) (left : Bool) (early' late' : ℕ) (left' : Bool) → mark.Server early late left ≡ mark.Server early' late' left' →
    (early ≡ early') × (late ≡ late') × (left ≡ left')
server-shows early late left early' late' left' h = (cc, cc, cc)

-- The registry is not closed while the server's half says that it has not ended.
pub unclosed-by : (marks : List (Option Mark)) (s t : ServerHalf) (early late : ℕ) (closed : Bool) → slice_get marks SLOTS ≡ Some (Some (mark_of s)) →
    slice_get marks SLOTS ≡ Some (Some (mark.Server early late closed)) → s ≡ t → t.left ≡ false → closed ≡ false
unclosed-by marks s t early late closed h g same left =
    let m = mark-known marks SLOTS (mark_of s) (mark.Server early late closed) h g in
    let a : s.left ≡ closed = (server-shows s.early s.late s.left early late closed m).2 in
    let b : s.left ≡ t.left = ap (λ (k : ServerHalf). k.left) same in
    sym a ∙ b ∙ left

pub role-known : (d : Desk) (number roles : ℕ) (left : Bool) → IsTied d → number < SLOTS → slice_get d.marks number ≡ Some (Some (mark.Role roles left)) →
    IsMarked d number (Some (Some (mark.Role roles left)))
role-known d number roles left t l shown = let m : IsMarked d number (slice_get d.marks number) = t.role number l in subst (IsMarked d number) shown m

pub left-tied : (d : Desk) (number roles : ℕ) → IsTied d → number < SLOTS → roles ≡ d.roles → d.closed ≡ true → count_by (is_of d.roles number) d.recorded.sessions ≡ 0 →
    IsTied (record d { marks = set d.marks number (Some (mark.Role roles true)) })
left-tied d number roles t l same closed none = record {
  book = t.book;
  places = t.places;
  holds = t.holds;
  spare = t.spare;
  few = t.few;
  marks = length-set d.marks number shown ∙ t.marks;
  server = get-set_other d.marks number SLOTS shown (λ q. absurd (omega (arith, q, l))) ∙ t.server;
  early = t.early;
  late = t.late;
  role = λ role within. by_test role within (eqb_tells role number);
  some = t.some;
}
  where
    shown : Option Mark
    shown = Some (mark.Role roles true)

    desk : Desk
    desk = record d { marks = set d.marks number shown }

    by_test : (role : ℕ) → role < SLOTS → ((eqb role number ≡ true) × (role ≡ number)) ⊎ ((eqb role number ≡ false) × (role ≢ number)) →
        IsMarked desk role (slice_get (set d.marks number shown) role)
    by_test role within (inl h) =
        let put : slice_get (set d.marks number shown) number ≡ Some shown = get-set d.marks number shown (let m : length d.marks ≡ SLOTS + 1 = t.marks in omega (arith, m, l)) in
        let own : IsMarked desk number (Some shown) = (same, λ _. (closed, none)) in
        rw h.1 (subst (IsMarked desk number) (sym put) own)
    by_test role within (inr h) =
        let m : slice_get (set d.marks number shown) role ≡ slice_get d.marks role = get-set_other d.marks number role shown h.1 in
        rw m (marked-keeps d desk role (slice_get d.marks role) refl (λ q. q) (λ q n. n) (t.role role within))

-- ---- counts

-- A registry counts no more sessions than there can be connections.
counted-few : (d : Desk) (p : Entry → Bool) (n : ℕ) → IsTied d → n ≡ count_by p d.recorded.sessions → n ≤ CONNECTIONS
counted-few d p n t a =
    let b = count_by-le-length p d.recorded.sessions in
    let c : length d.recorded.sessions ≤ CONNECTIONS = t.few in omega (arith, a, b, c)

pub early-small : (d : Desk) → IsTied d → d.early ≤ CONNECTIONS
early-small d t = counted-few d is_early d.early t t.early

pub late-small : (d : Desk) → IsTied d → d.late ≤ CONNECTIONS
late-small d t = counted-few d is_late d.late t t.late

count-none : (p : Entry → Bool) (xs : List Entry) → ((place : ℕ) (x : Entry) → slice_get xs place ≡ Some x → p x ≡ false) → count_by p xs ≡ 0
count-none p [] h = refl
count-none p (x ∷ xs) h =
    let rest : count_by p xs ≡ 0 = count-none p xs (λ place y q. h (suc place) y q) in
    let no : p x ≡ false = h 0 x refl in omega (arith, rest, ap one no, count-first p x xs)
  where
    one : Bool → ℕ
    one t = cond t 1 0

pub one-there : (p : Entry → Bool) (xs : List Entry) (place : ℕ) (x : Entry) → slice_get xs place ≡ Some x → count_by p xs ≡ 0 → p x ≡ false
one-there p xs place x there none = by_case (p x) refl
  where
    by_case : (b : Bool) → p x ≡ b → p x ≡ false
    by_case false h = h
    by_case true h =
        let g : get_or xs place x ≡ x = get_or_from_slice_get xs place x x there in
        let one = counts_one p xs place x (slice_get_within xs place x there) (rw g h) in absurd (omega (arith, none, one))

-- ---- all roles have ended

pub none-on : (d : Desk) (roles : List RoleHalf) → IsTied d → AreLeft roles → AreMarked d.marks roles → count_by is_on d.recorded.sessions ≡ 0
none-on d roles t left marked = count-none is_on d.recorded.sessions off
  where
    shown : (number : ℕ) → number < length roles → slice_get d.marks number ≡ Some (Some (mark.Role (length roles) true))
    shown number l = marked number (record { number = number; roles = length roles; left = true }) (left.each number l)

    known : (number : ℕ) → number < length roles → (length roles ≡ d.roles) × (count_by (is_of d.roles number) d.recorded.sessions ≡ 0)
    known number l =
        let few : length roles ≤ SLOTS = left.few in
        let m : IsMarked d number (Some (Some (mark.Role (length roles) true))) = role-known d number (length roles) true t (omega (arith, few, l)) (shown number l) in
        (m.0, (m.1 refl).1)

    all : length roles ≡ d.roles
    all = (known 0 left.some).0

    off : (place : ℕ) (e : Entry) → slice_get d.recorded.sessions place ≡ Some e → is_on e ≡ false
    off place e there = by_case (is_on e) refl
      where
        role : ℕ
        role = e.slot % d.roles

        within : role < length roles
        within = let l : e.slot % d.roles < d.roles = mod-lt e.slot t.some in let a : length roles ≡ d.roles = all in omega (arith, a, l)

        same : eqb role role ≡ true
        same = grind arith

        by_case : (b : Bool) → is_on e ≡ b → is_on e ≡ false
        by_case false h = h
        by_case true h =
            let no : is_of d.roles role e ≡ false = one-there (is_of d.roles role) d.recorded.sessions place e there (known role within).1 in
            let yes : is_of d.roles role e ≡ true = rw (same, h) refl in absurd (let q : true ≡ false = sym yes ∙ no in cc)

pub served-none : (sessions : List Entry) (roles role roles' role' n : ℕ) → roles ≡ roles' → role ≡ role' → n ≡ count_by (is_of roles role) sessions → n ≡ 0 → count_by (is_of roles' role') sessions ≡ 0
served-none sessions roles role roles' role' n a b h z = rw (← a, ← b) (sym h ∙ z)
