-- What comes of the words of a command from a place on: they are taken and tell something, or a word is refused.
use Rattle.std.proofs.Common.{◌≡◌, ◌∙◌, List, [], ◌∷◌, Option, None, refl, sym, ap, ap₂}
use Rattle.std.specs.List.{fold}
use Rattle.clap.specs.Walk.{Text, Row, Walk, walked, finished}
use Rattle.clap.specs.Simple.{App, Shape}
use Rattle.clap.specs.Faults.{walk_fault, turn_fault}
use Rattle.clap.specs.Kinds.{Kinds}
use Rattle.clap.specs.declared.error.kind.ErrorKind.{ErrorKind}
use Rattle.pt_words.proofs.Walks.{faults-on, faults-here}
use Rattle.pt_words.proofs.Read.{faults}

-- A command as it is built, and what the texts tell that were found for them.
pub record Reading (A : Type 0) : Type 0 where
  pub app : App
  pub shape : Shape
  pub tells : List Row → Option A

-- The faults of the whole parse.
abbrev pub ended : {A : Type 0} → Reading A → Walk → List Text → Kinds
ended by w words = faults by.app (walk_fault by.shape [] w words) (fold (walked by.shape.rules []) w words)

-- What all words tell.
abbrev pub told : {A : Type 0} → Reading A → Walk → List Text → Option A
told by w words = by.tells (finished by.shape.rules (fold (walked by.shape.rules []) w words).held)

-- Words that are taken have this answer, and those that are not taken have none.
pub record Answers {A : Type 0} (by : Reading A) (w : Walk) (words : List Text) (answer : Option A) : Type 0 where
  pub taken : ended by w words ≡ [] → told by w words ≡ answer
  pub refused : (ended by w words ≡ [] → ⊥) → None ≡ answer

pub is-taken : {A : Type 0} (by : Reading A) (w : Walk) (words : List Text) (answer : Option A) → ended by w words ≡ [] → told by w words ≡ answer → Answers by w words answer
is-taken by w words answer passes is = record { taken = λ again. is; refused = λ no. absurd (no passes) }

pub is-refused : {A : Type 0} (by : Reading A) (w : Walk) (words : List Text) (k : ErrorKind) → ended by w words ≡ k ∷ [] → Answers by w words None
is-refused by w words k fails = record { taken = λ passes. absurd (one-none (sym fails ∙ passes)); refused = λ no. refl }
  where
    one-none : k ∷ [] ≡ [] → ⊥
    one-none is = cc

-- A word that is taken leaves the rest.
pub step : {A : Type 0} (by : Reading A) (w after : Walk) (word : Text) (more : List Text) (answer : Option A) → turn_fault by.shape [] w word ≡ [] → walked by.shape.rules [] w word ≡ after
    → Answers by after more answer → Answers by w (word ∷ more) answer
step by w after word more answer passes next rest =
    let walks : fold (walked by.shape.rules []) w (word ∷ more) ≡ fold (walked by.shape.rules []) after more = ap (λ v. fold (walked by.shape.rules []) v more) next in
    let ends : ended by w (word ∷ more) ≡ ended by after more = ap₂ (faults by.app) (faults-on by.shape w after word more passes next) walks in
    let tells : told by w (word ∷ more) ≡ told by after more = ap (λ (v : Walk). by.tells (finished by.shape.rules v.held)) walks in
    record {
      taken = λ none. tells ∙ rest.taken (sym ends ∙ none);
      refused = λ no. rest.refused (λ none. no (ends ∙ none));
    }

-- A word that is refused ends it.
pub here : {A : Type 0} (by : Reading A) (w : Walk) (word : Text) (more : List Text) (k : ErrorKind) → turn_fault by.shape [] w word ≡ k ∷ [] → Answers by w (word ∷ more) None
here by w word more k fails =
    is-refused by w (word ∷ more) k
    (ap (λ ks. faults by.app ks (fold (walked by.shape.rules []) w (word ∷ more))) (faults-here by.shape w word more fails))
