-- The turns of a loop over the parts of a text, which stand between its commas.
use denote.Param.Members.{Mut}
use Rattle.std.proofs.Common.{◌≡◌, ◌+◌, ◌==◌, Bool, false, List, ◌∷◌, Bor, Option, Some, None, length, drop, ℕ, sym, ap, ◌∙◌}
use Rattle.std.specs.Fn.{CalledAt}
use Rattle.std.specs.Iterator.{Yields}
use Rattle.std.specs.Slice.Iter as slice
use Rattle.std.proofs.lemmas.List.{at_drop_more}
use Rattle.std.proofs.lemmas.Iterator.{YieldsList}
use Rattle.std.proofs.lemmas.Iterator.Consumers.{YieldsList-at, YieldsList-turn, YieldsList-end}
use Rattle.std.proofs.lemmas.Iterator.Splits.{YieldsList-from_slice_split}
use Rattle.ep_plan.specs.Words.{comma, parts_at}

-- The part whose turn it is begins what is left.
turn : {S : Type 0} (all : List (List ℕ)) (steps : S → Option (Bor (List ℕ)) → S → Type 0) (s t u : S) (past : List (Bor (List ℕ))) (r : Option (Bor (List ℕ))) (part : Bor (List ℕ)) → Yields steps s past t → r ≡ Some part → steps t r u
    → YieldsList steps (λ text. text.now) s all → drop (length past) all ≡ part.now ∷ drop (length past + 1) all
turn all steps s t u past r part yielded is step parts =
    let here = YieldsList-turn parts past t yielded r u part is step in
    at_drop_more (λ left. left) all (length past) part.now here.0 ∙ ap (λ (text : List ℕ). text ∷ drop (length past + 1) all) (sym here.1)

pub next_part : {F : Type 0} {w : _} (g : Mut F (Bor ℕ × Unit {0}) Bool) {f : F} (s t u : _) (text : List ℕ) (past : List (Bor (List ℕ))) (part : Bor (List ℕ)) {r : Option (Bor (List ℕ))}
    → Yields (slice.split_steps g) s past t → r ≡ Some part → slice.split_steps g t r u
    → s ≡ w → slice.split_rest w ≡ text → slice.split_done w ≡ false → slice.split_callee w ≡ f
    → ((byte : ℕ) (found : Bool) (q : F) → CalledAt g f byte found q → (q ≡ f) × (found ≡ (byte == comma)))
    → drop (length past) (parts_at comma text) ≡ part.now ∷ drop (length past + 1) (parts_at comma text)
next_part g s t u text past part yielded is step begins rest done callee called =
    turn (parts_at comma text) (slice.split_steps g) s t u past _ part yielded is step (YieldsList-at begins (YieldsList-from_slice_split g (λ byte. byte == comma) text rest done callee called))

-- At the end all parts were there.
pub all_parts : {F : Type 0} {w : _} (g : Mut F (Bor ℕ × Unit {0}) Bool) {f : F} (s t u : _) (text : List ℕ) (past : List (Bor (List ℕ))) {r : Option (Bor (List ℕ))}
    → Yields (slice.split_steps g) s past t → r ≡ None → slice.split_steps g t r u
    → s ≡ w → slice.split_rest w ≡ text → slice.split_done w ≡ false → slice.split_callee w ≡ f
    → ((byte : ℕ) (found : Bool) (q : F) → CalledAt g f byte found q → (q ≡ f) × (found ≡ (byte == comma)))
    → length past ≡ length (parts_at comma text)
all_parts g s t u text past yielded is step begins rest done callee called =
    (YieldsList-end (YieldsList-at begins (YieldsList-from_slice_split g (λ byte. byte == comma) text rest done callee called)) past t yielded _ u is step).1
