-- Lists that ascend by a key.
use Rattle.std.proofs.Common.{◌≡◌, ℕ, zero, suc, ◌<◌, ◌≤◌, Bool, List, [], ◌∷◌, length, refl, ap, sym, ◌∙◌, arith}
use Rattle.std.specs.Prelude.{slice_index_or, slice_set, nat_lt, if◌then◌else◌}
use Rattle.std.specs.List.{insert}
use Rattle.std.proofs.lemmas.Bool.{lt-ltb, le-ltb}
use Rattle.ep_stream.specs.declared.opened.Named.{Named}
use Rattle.ep_stream.specs.Named.{insert_by, with_thread}

-- An item goes before the first that is greater.
pub inserts_by : {A : Type 0} (key : A → ℕ) (x : A) (xs : List A) (i : ℕ) → i ≤ length xs → ((k : ℕ) (d : A) → k < i → key (slice_index_or xs k d) ≤ key x) → ((k : ℕ) (d : A) → i ≤ k → k < length xs → key x < key (slice_index_or xs k d)) → insert xs i x ≡ insert_by key x xs
inserts_by key x [] zero within below above = refl
inserts_by key x [] (suc i) within below above = absurd (omega (arith, within))
inserts_by {A} key x (y ∷ ys) zero within below above =
    sym (ap (λ (v : Bool). if v then x ∷ y ∷ ys else y ∷ insert_by key x ys) (lt-ltb (key x) (key y) (above 0 y (omega arith) (omega arith))))
inserts_by {A} key x (y ∷ ys) (suc i) within below above =
    let later : insert ys i x ≡ insert_by key x ys = inserts_by key x ys i (omega (arith, within)) (λ k d small. below (suc k) d (omega (arith, small))) (λ k d from small. above (suc k) d (omega (arith, from)) (omega (arith, small))) in
    ap (λ (zs : List A). y ∷ zs) later
    ∙ sym (ap (λ (v : Bool). if v then x ∷ y ∷ ys else y ∷ insert_by key x ys) (le-ltb (key x) (key y) (below 0 y (omega arith))))

-- What stands for a thread is changed where the thread is.
pub changes_at : (change : Named → Named) (thread : ℕ) (names : List Named) (i : ℕ) (d : Named) → i < length names → ((k : ℕ) (e : Named) → k < i → (slice_index_or names k e).thread < thread) → (slice_index_or names i d).thread ≡ thread → slice_set names i (change (slice_index_or names i d)) ≡ with_thread change thread names
changes_at change thread [] i d within below is = absurd (omega (arith, within))
changes_at change thread (n ∷ names) zero d within below is =
    sym (ap (λ (v : Bool). if v then n ∷ with_thread change thread names else (if nat_lt thread n.thread then n ∷ names else change n ∷ names)) (le-ltb n.thread thread (omega (arith, is)))
    ∙ ap (λ (v : Bool). if v then n ∷ names else change n ∷ names) (le-ltb thread n.thread (omega (arith, is))))
changes_at change thread (n ∷ names) (suc i) d within below is =
    let later : slice_set names i (change (slice_index_or names i d)) ≡ with_thread change thread names = changes_at change thread names i d (omega (arith, within)) (λ k e small. below (suc k) e (omega (arith, small))) is in
    ap (λ (ns : List Named). n ∷ ns) later
    ∙ sym (ap (λ (v : Bool). if v then n ∷ with_thread change thread names else (if nat_lt thread n.thread then n ∷ names else change n ∷ names)) (lt-ltb n.thread thread (below 0 n (omega arith))))

-- Nothing is changed where the thread is not.
pub changes_none : (change : Named → Named) (thread : ℕ) (names : List Named) (i : ℕ) → i ≤ length names → ((k : ℕ) (e : Named) → k < i → (slice_index_or names k e).thread < thread) → ((e : Named) → i < length names → thread < (slice_index_or names i e).thread) → names ≡ with_thread change thread names
changes_none change thread [] i within below above = refl
changes_none change thread (n ∷ names) zero within below above =
    sym (ap (λ (v : Bool). if v then n ∷ with_thread change thread names else (if nat_lt thread n.thread then n ∷ names else change n ∷ names)) (le-ltb n.thread thread (let h = above n (omega arith) in omega (arith, h)))
    ∙ ap (λ (v : Bool). if v then n ∷ names else change n ∷ names) (lt-ltb thread n.thread (above n (omega arith))))
changes_none change thread (n ∷ names) (suc i) within below above =
    let later : names ≡ with_thread change thread names = changes_none change thread names i (omega (arith, within)) (λ k e small. below (suc k) e (omega (arith, small))) (λ e small. above e (omega (arith, small))) in
    ap (λ (ns : List Named). n ∷ ns) later
    ∙ sym (ap (λ (v : Bool). if v then n ∷ with_thread change thread names else (if nat_lt thread n.thread then n ∷ names else change n ∷ names)) (lt-ltb n.thread thread (below 0 n (omega arith))))
