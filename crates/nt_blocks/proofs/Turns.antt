-- Things one after another: how reading goes on after those that were read.
use Rattle.std.proofs.Common.{◌≡◌, ℕ, suc, Bool, true, false, Result, Ok, Err, List, [], ◌∷◌, ◌++◌, refl, sym, ap, ◌∙◌, append_assoc}
use Rattle.std.proofs.lemmas.List.{append-nil}
use Rattle.pt_num.specs.Steps.{◌>>=◌}
use Rattle.nt_blocks.specs.Each.{One, Many, with_thing, each_at}

-- These things before those that are read later.
abbrev pub with_things : {S A E : Type 0} → List A → Result (Many S A) E → Result (Many S A) E
with_things things (Ok many) = Ok (record { things = things ++ many.things; state = many.state; rest = many.rest })
with_things things (Err fault) = Err fault

-- At first nothing was read.
pub turn_first : {S A E : Type 0} (read : Result (Many S A) E) → read ≡ with_things [] read
turn_first (Ok many) = refl
turn_first (Err fault) = refl

with_things-snoc : {S A E : Type 0} (things : List A) (thing : A) (read : Result (Many S A) E) → with_things things (with_thing thing read) ≡ with_things (things ++ thing ∷ []) read
with_things-snoc {S} {A} {E} things thing (Ok many) =
    let build : List A → Result (Many S A) E = λ all. Ok (record { things = all; state = many.state; rest = many.rest }) in
    ap build (sym (append_assoc things (thing ∷ []) many.things))
with_things-snoc things thing (Err fault) = refl

-- A thing that is read stands before those after it.
pub each_at-step : {S A E : Type 0} (done : S → List ℕ → Bool) (step : S → List ℕ → Result (One S A) E) (more : ℕ) (state : S) (bytes : List ℕ) (one : One S A) → done state bytes ≡ false → step state bytes ≡ Ok one → each_at done step (suc more) state bytes ≡ with_thing one.thing (each_at done step more one.state one.rest)
unfolding each_at
each_at-step done step more state bytes one goes read = rw (goes, each_at, read)

each_at-stop : {S A E : Type 0} (done : S → List ℕ → Bool) (step : S → List ℕ → Result (One S A) E) (more : ℕ) (state : S) (bytes : List ℕ) (fault : E) → done state bytes ≡ false → step state bytes ≡ Err fault → each_at done step (suc more) state bytes ≡ Err fault
unfolding each_at
each_at-stop done step more state bytes fault goes read = rw (goes, each_at, read)

-- Where reading does not end a thing is read, and then those after it.
pub each_at-goes : {S A E : Type 0} (done : S → List ℕ → Bool) (step : S → List ℕ → Result (One S A) E) (more : ℕ) (state : S) (bytes : List ℕ) → done state bytes ≡ false → each_at done step (suc more) state bytes ≡ (step state bytes >>= λ one. with_thing one.thing (each_at done step more one.state one.rest))
unfolding each_at
each_at-goes done step more state bytes goes = rw (goes, each_at)

-- Where reading ends nothing is read.
pub each_at-end : {S A E : Type 0} (done : S → List ℕ → Bool) (step : S → List ℕ → Result (One S A) E) (more : ℕ) (state : S) (bytes : List ℕ) → done state bytes ≡ true → each_at done step (suc more) state bytes ≡ Ok (record { things = []; state = state; rest = bytes })
unfolding each_at
each_at-end done step more state bytes ends = rw (ends, each_at)

-- One thing more is read, and reading goes on after it.
pub turn_more : {S A E : Type 0} (done : S → List ℕ → Bool) (step : S → List ℕ → Result (One S A) E) (more : ℕ) (state : S) (bytes : List ℕ) (read : Result (Many S A) E) (things : List A) (one : One S A) → read ≡ with_things things (each_at done step (suc more) state bytes) → done state bytes ≡ false → step state bytes ≡ Ok one → read ≡ with_things (things ++ one.thing ∷ []) (each_at done step more one.state one.rest)
turn_more done step more state bytes read things one so_far goes taken =
    so_far
    ∙ ap (with_things things) (each_at-step done step more state bytes one goes taken)
    ∙ with_things-snoc things one.thing (each_at done step more one.state one.rest)

-- A fault of one thing is that of all.
pub turn_stops : {S A E : Type 0} (done : S → List ℕ → Bool) (step : S → List ℕ → Result (One S A) E) (more : ℕ) (state : S) (bytes : List ℕ) (read : Result (Many S A) E) (things : List A) (fault : E) → read ≡ with_things things (each_at done step (suc more) state bytes) → done state bytes ≡ false → step state bytes ≡ Err fault → read ≡ Err fault
turn_stops done step more state bytes read things fault so_far goes taken =
    so_far ∙ ap (with_things things) (each_at-stop done step more state bytes fault goes taken)

-- At the end all things were read.
pub turn_ends : {S A E : Type 0} (done : S → List ℕ → Bool) (step : S → List ℕ → Result (One S A) E) (more : ℕ) (state : S) (bytes : List ℕ) (read : Result (Many S A) E) (things : List A) → read ≡ with_things things (each_at done step (suc more) state bytes) → done state bytes ≡ true → read ≡ Ok (record { things = things; state = state; rest = bytes })
turn_ends {S} {A} {E} done step more state bytes read things so_far ends =
    let build : List A → Result (Many S A) E = λ all. Ok (record { things = all; state = state; rest = bytes }) in
    so_far
    ∙ ap (with_things things) (each_at-end done step more state bytes ends)
    ∙ ap build (append-nil things)
