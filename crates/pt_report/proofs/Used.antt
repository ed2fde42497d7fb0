-- One use more of a stack.
use Rattle.std.proofs.Common.{◌≡◌, ℕ, Bool, true, false, cond, eqb, List, [], ◌∷◌, ◌++◌, Option, Some, None, is_some, refl, sym, ap, ◌∙◌, subst}
use Rattle.std.proofs.lemmas.Bool.{eqb-true}
use Rattle.std.specs.Ordering.{nat_cmp}
use Rattle.std.specs.Cmp.Lexicographic.{slice_cmp, nat_list_cmp_total}
use Rattle.std.specs.BTreeMap.{get}
use Rattle.nt_blocks.specs.Ordered.{lookup}
use Rattle.nt_check.specs.state.Ids.{held_in, value_at}
use Rattle.pt_report.specs.declared.stacks.Stacks.{Stacks}
use Rattle.pt_report.specs.Report.{stack_in}
use Rattle.pt_report.specs.state.Counts.{Counts}
use Rattle.pt_report.specs.state.Stacks.{IsCounted, ShowsStacks}
use Rattle.pt_report.proofs.Tallies.{name-old}

-- The stacks that have a place keep it.
abbrev pub Stay : Stacks → Stacks → Type 0
Stay old new =
    (name : List ℕ) (place : ℕ) → get (slice_cmp nat_cmp) old.uses.places name ≡ Some place → get (slice_cmp nat_cmp) new.uses.places name ≡ Some place

counted-still : (id place : ℕ) (named : List (ℕ × List ℕ)) (old new : Stacks) → Stay old new → IsCounted id place named old → IsCounted id place named new
counted-still id place named old new stay was =
    record { bytes = was.bytes; stands = was.stands; some = was.some; placed = stay was.bytes place was.placed }

-- A place that is there was put there.
pub held-some : (held : Option (Option ℕ)) (place : ℕ) → held_in held ≡ Some place → held ≡ Some (Some place)
held-some None place e = absurd (cc)
held-some (Some held) place e = ap Some e

same-stack : (found : Option (List ℕ)) (a b : List ℕ) → found ≡ Some a → found ≡ Some b → a ≡ b
same-stack found a b e f = cc

-- A stack that has its place.
pub used-again : (id place : ℕ) (bytes : List ℕ) (uses : List (List ℕ)) (named : List (ℕ × List ℕ)) (old new : Stacks) → ShowsStacks uses named old → lookup id named ≡ Some bytes → value_at old.places id ≡ Some (Some place)
    → ((q : ℕ) → value_at new.stacks q ≡ value_at old.stacks q) → ((q : ℕ) → value_at new.places q ≡ value_at old.places q) → new.uses.places ≡ old.uses.places
    → ((key : List ℕ) → get (slice_cmp nat_cmp) old.uses.places key ≡ Some place → Counts (slice_cmp nat_cmp) uses (uses ++ key ∷ []) new.uses) → ShowsStacks (uses ++ stack_in bytes) named new
used-again id place bytes uses named old new h is there stacks-are places-are same counted =
    let was = h.known id place there in
    let stay : Stay old new = λ name p e. ap (λ m. get (slice_cmp nat_cmp) m name) same ∙ e in
    let again = name-old (slice_cmp nat_cmp) nat_list_cmp_total uses (uses ++ was.bytes ∷ []) new.uses was.bytes (counted was.bytes was.placed) (ap is_some (stay was.bytes place was.placed)) in
    let all : uses ++ was.bytes ∷ [] ≡ uses ++ stack_in bytes = ap (λ (l : List (List ℕ)). uses ++ l) (sym was.some ∙ ap stack_in (same-stack (lookup id named) was.bytes bytes was.stands is)) in
    record {
      found = λ q. stacks-are q ∙ h.found q;
      known = λ q p e. counted-still q p named old new stay (h.known q p (sym (places-are q) ∙ e));
      counted = subst (λ (l : List (List ℕ)). Counts (slice_cmp nat_cmp) l l new.uses) all again;
    }

-- A stack that gets its place.
pub used-first : (id place : ℕ) (key bytes : List ℕ) (uses : List (List ℕ)) (named : List (ℕ × List ℕ)) (old new : Stacks) → ShowsStacks uses named old → key ≡ bytes → lookup id named ≡ Some bytes → stack_in bytes ≡ bytes ∷ []
    → ((q : ℕ) → value_at new.stacks q ≡ value_at old.stacks q) → ((q : ℕ) → value_at new.places q ≡ cond (eqb id q) (Some (Some place)) (value_at old.places q)) → Stay old new → get (slice_cmp nat_cmp) new.uses.places key ≡ Some place
    → Counts (slice_cmp nat_cmp) (uses ++ key ∷ []) (uses ++ key ∷ []) new.uses → ShowsStacks (uses ++ stack_in bytes) named new
used-first id place key bytes uses named old new h same is some stacks-are places-are stay placed counted =
    record {
      found = λ q. stacks-are q ∙ h.found q;
      known = λ q p e. known q p e (eqb id q) refl;
      counted = subst (λ (l : List (List ℕ)). Counts (slice_cmp nat_cmp) l l new.uses) (ap (λ (b : List ℕ). uses ++ b ∷ []) same ∙ ap (λ (l : List (List ℕ)). uses ++ l) (sym some)) counted;
    }
  where
    known : (q p : ℕ) → value_at new.places q ≡ Some (Some p) → (b : Bool) → eqb id q ≡ b → IsCounted q p named new
    known q p e true own =
        let both : ◌≡◌ {A = Option (Option ℕ)} (Some (Some place)) (Some (Some p)) = sym (places-are q ∙ ap (λ b. cond b (Some (Some place)) (value_at old.places q)) own) ∙ e in
        let p-is : place ≡ p = cc in
        record {
          bytes = bytes;
          stands = ap (λ i. lookup i named) (sym (eqb-true id q own)) ∙ is;
          some = some;
          placed = ap (get (slice_cmp nat_cmp) new.uses.places) (sym same) ∙ placed ∙ ap Some p-is;
        }
    known q p e false other = counted-still q p named old new stay (h.known q p (sym (places-are q ∙ ap (λ b. cond b (Some (Some place)) (value_at old.places q)) other) ∙ e))
