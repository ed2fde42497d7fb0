-- The lists that a session keeps in the order of their threads (this project's profile).
use Rattle.std.specs.Prelude.{ℕ, Bool, true, ◌&&◌, List, [], ◌∷◌, map, filter, nat_lt, if◌then◌else◌}
use Rattle.ep_defs.specs.declared.session.Marks.{Marks}
use Rattle.ep_stream.specs.declared.opened.Named.{Named}

-- A list, ascending by a key, with one more item in its place.
abbrev pub insert_by : {A : Type 0} → (A → ℕ) → A → List A → List A
insert_by key x [] = x ∷ []
insert_by key x (y ∷ ys) = if nat_lt (key x) (key y) then x ∷ y ∷ ys else y ∷ insert_by key x ys

-- A thread on which the session was just opened.
abbrev pub first_named : ℕ → Named
first_named thread = record { thread = thread; number = 0; is_open = true }

-- The threads, ascending, with what stands for one of them changed.
abbrev pub with_thread : (Named → Named) → ℕ → List Named → List Named
with_thread change thread [] = []
with_thread change thread (n ∷ names) =
    if nat_lt n.thread thread
    then n ∷ with_thread change thread names
    else (if nat_lt thread n.thread then n ∷ names else change n ∷ names)

-- The last number of a thread is this one, and the session stays open there or is closed.
abbrev pub with_number : ℕ → ℕ → Bool → List Named → List Named
with_number thread number stays names = with_thread (λ n. record n { number = number; is_open = n.is_open && stays }) thread names

-- The threads on which the session is open.
abbrev pub still_open : List Named → List Named
still_open names = filter (λ n. n.is_open) names

-- What a point says of the threads: how far each had come.
abbrev pub numbers_of : List Named → List (ℕ × ℕ)
numbers_of names = map (λ n. (n.thread, n.number)) names

-- The marks with those of one thread more, ascending by thread.
abbrev pub with_marks : Marks → List Marks → List Marks
with_marks marks others = insert_by (λ m. m.thread) marks others
