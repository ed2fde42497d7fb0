-- One item more of what is kept.
use Rattle.std.proofs.Common.{◌≡◌, ℕ, zero, suc, Bool, true, false, cond, eqb, List, [], ◌∷◌, ◌++◌, map, Option, Some, None, Result, Ok, Err, refl, sym, ap, ◌∙◌, subst, append_assoc, length}
use Rattle.std.proofs.lemmas.List.{map-append, append-nil}
use Rattle.std.specs.Prelude.{OnOk, is_err}
use Rattle.std.specs.declared.cmp.Ordering.{Ordering}
use Rattle.std.specs.Ordering.{nat_cmp}
use Rattle.std.specs.Cmp.Lexicographic.{slice_cmp}
use Rattle.std.specs.BTreeMap.{get}
use Rattle.ep_defs.specs.declared.item.ItemKind.{ItemKind}
use Rattle.ep_defs.specs.Entry.{Entry}
use Rattle.nt_blocks.specs.Ordered.{Disorder, Names, lookup, tell, names_after, told_after}
use Rattle.nt_check.specs.state.Ids.{value_at}
use Rattle.nt_check.specs.state.Took.{names_at}
use Rattle.pt_num.proofs.Steps.{bind_inv, ok-same}
use Rattle.ep_defs.specs.declared.event.EventDef.{EventDef}
use Rattle.pt_report.specs.declared.key.EventKey.{EventKey}
use Rattle.pt_report.specs.Keys.{key_of, key_order}
use Rattle.pt_report.specs.declared.events.EventPlaces.{EventPlaces}
use Rattle.pt_report.specs.declared.events.Events.{Events}
use Rattle.pt_report.specs.state.Events.{IsPlaced}
use Rattle.pt_report.specs.declared.tally.Tally.{Tally}
use Rattle.pt_report.specs.Report.{stack_in}
use Rattle.pt_report.specs.state.Counts.{Counts}
use Rattle.pt_report.specs.declared.stacks.Stacks.{Stacks}
use Rattle.pt_report.specs.state.Stacks.{IsCounted, stack_among}

-- One use more, in place of what it is made of.
pub use-at : {A K : Type 0} (cmp : K → K → Ordering) (f : A → K) (names : List K) (uses : List A) (x : A) (key : K) (tally : Tally K) → key ≡ f x → Counts cmp names (map f uses ++ key ∷ []) tally → Counts cmp names (map f (uses ++ x ∷ [])) tally
use-at {A} {K} cmp f names uses x key tally is counts =
    subst (λ (all : List K). Counts cmp names all tally) (ap (λ k. map f uses ++ k ∷ []) is ∙ sym (map-append f uses (x ∷ []))) counts

-- One name more.
pub name-at : {A K : Type 0} (cmp : K → K → Ordering) (f : A → K) (names : List A) (uses : List K) (x : A) (key : K) (tally : Tally K) → key ≡ f x → Counts cmp (map f names ++ key ∷ []) uses tally → Counts cmp (map f (names ++ x ∷ [])) uses tally
name-at {A} {K} cmp f names uses x key tally is counts =
    subst (λ (all : List K). Counts cmp all uses tally) (ap (λ k. map f names ++ k ∷ []) is ∙ sym (map-append f names (x ∷ []))) counts

-- An id other than 0 stands for what was defined under it.
pub stack-defined : (named : List (ℕ × List ℕ)) (id : ℕ) → eqb id 0 ≡ false → stack_among named id ≡ lookup id named
stack-defined named zero e = absurd (cc)
stack-defined named (suc id) e = refl

-- The entries of one item more.
pub told-one-more : (names : Names) (kinds : List ItemKind) (kind : ItemKind) (entries all : List Entry) → told_after names kinds ≡ Ok entries → told_after names (kinds ++ kind ∷ []) ≡ Ok all → (more : List Entry) × (tell (names_at names kinds) kind ≡ Ok more) × (all ≡ entries ++ more)
told-one-more names [] kind entries all old new = first (tell names kind) refl
  where
    first : (p : Result (List Entry) Disorder) → tell names kind ≡ p → (more : List Entry) × (tell names kind ≡ Ok more) × (all ≡ entries ++ more)
    first (Ok more) e =
        let is : ◌≡◌ {A = Result (List Entry) Disorder} (Ok (more ++ [])) (Ok all) = sym (rw e refl) ∙ new in
        let none : [] ≡ entries = cc in
        let same : more ++ [] ≡ all = cc in
        (more, e, sym same ∙ append-nil more ∙ ap (λ (front : List Entry). front ++ more) none)
    first (Err fault) e = absurd (no (rw e at new))
      where
        no : ◌≡◌ {A = Result (List Entry) Disorder} (Err fault) (Ok all) → ⊥
        no wrong = cc
told-one-more names (first ∷ kinds) kind entries all old new =
    let a = bind_inv (tell names first) _ entries old in
    let b = bind_inv (told_after (names_after names first) kinds) _ entries a.2 in
    let a' = bind_inv (tell names first) _ all new in
    let b' = bind_inv (told_after (names_after names first) (kinds ++ kind ∷ [])) _ all a'.2 in
    let later = told-one-more (names_after names first) kinds kind b.0 b'.0 b.1 b'.1 in
    let same : a.0 ≡ a'.0 = ok-same a.0 a'.0 (sym a.1 ∙ a'.1) in (
      later.0,
      later.1,
      sym (ok-same _ all b'.2)
          ∙ ap (λ (front : List Entry). front ++ b'.0) (sym same)
          ∙ ap (λ (back : List Entry). a.0 ++ back) later.2
          ∙ sym (append_assoc a.0 b.0 later.0)
          ∙ ap (λ (front : List Entry). front ++ later.0) (ok-same _ entries b.2),
    )

-- Where the definitions are counted after one more.
pub placed-more : (id q : ℕ) (def d : EventDef) (named : List (ℕ × EventDef)) (places : EventPlaces) (old new : Events)
    → value_at new.metadata q ≡ cond (eqb id q) (Some places) (value_at old.metadata q)
    → get (slice_cmp nat_cmp) new.providers.places def.provider ≡ Some places.provider → get key_order new.events.places (key_of def) ≡ Some places.event
    → ((name : List ℕ) (place : ℕ) → get (slice_cmp nat_cmp) old.providers.places name ≡ Some place → get (slice_cmp nat_cmp) new.providers.places name ≡ Some place)
    → ((key : EventKey) (place : ℕ) → get key_order old.events.places key ≡ Some place → get key_order new.events.places key ≡ Some place)
    → ((d : EventDef) → lookup q named ≡ Some d → IsPlaced d q old) → lookup q ((id, def) ∷ named) ≡ Some d → IsPlaced d q new
placed-more id q def d named places old new now provider event providers events before is = either (eqb id q) refl
  where
    either : (b : Bool) → eqb id q ≡ b → IsPlaced d q new
    either true e =
        let there : ◌≡◌ {A = Option EventDef} (Some def) (Some d) = sym (ap (λ b. cond b (Some def) (lookup q named)) e) ∙ is in
        let same : def ≡ d = cc in
        record {
          places = places;
          there = now ∙ ap (λ b. cond b (Some places) (value_at old.metadata q)) e;
          provider = ap (λ (x : EventDef). get (slice_cmp nat_cmp) new.providers.places x.provider) (sym same) ∙ provider;
          event = ap (λ (x : EventDef). get key_order new.events.places (key_of x)) (sym same) ∙ event;
        }
    either false e =
        let was = before d (sym (ap (λ b. cond b (Some def) (lookup q named)) e) ∙ is) in
        record {
          places = was.places;
          there = now ∙ ap (λ b. cond b (Some places) (value_at old.metadata q)) e ∙ was.there;
          provider = providers d.provider was.places.provider was.provider;
          event = events (key_of d) was.places.event was.event;
        }

-- What the ids stand for after one more.
pub stack-more : (id q : ℕ) (bytes stack : List ℕ) (named : List (ℕ × List ℕ)) (before : Option (List ℕ)) → stack ≡ bytes → before ≡ lookup q named → cond (eqb id q) (Some stack) before ≡ lookup q ((id, bytes) ∷ named)
stack-more id q bytes stack named before same before-is = either (eqb id q)
  where
    either : (b : Bool) → cond b (Some stack) before ≡ cond b (Some bytes) (lookup q named)
    either true = ap Some same
    either false = before-is

-- Where the stacks are counted after one more, which has no place yet.
pub known-more : (id q place : ℕ) (bytes : List ℕ) (named : List (ℕ × List ℕ)) (old new : Stacks) → value_at new.places q ≡ cond (eqb id q) (Some None) (value_at old.places q) → new.uses ≡ old.uses
    → (value_at old.places q ≡ Some (Some place) → IsCounted q place named old) → value_at new.places q ≡ Some (Some place) → IsCounted q place ((id, bytes) ∷ named) new
known-more id q place bytes named old new now same before is = either (eqb id q) refl
  where
    either : (b : Bool) → eqb id q ≡ b → IsCounted q place ((id, bytes) ∷ named) new
    either true e =
        let none : ◌≡◌ {A = Option (Option ℕ)} (Some None) (Some (Some place)) = sym (now ∙ ap (λ b. cond b (Some None) (value_at old.places q)) e) ∙ is in
        absurd (cc)
    either false e =
        let was = before (sym (now ∙ ap (λ b. cond b (Some None) (value_at old.places q)) e) ∙ is) in
        record {
          bytes = was.bytes;
          stands = ap (λ b. cond b (Some bytes) (lookup q named)) e ∙ was.stands;
          some = was.some;
          placed = ap (λ (uses : Tally (List ℕ)). get (slice_cmp nat_cmp) uses.places was.bytes) same ∙ was.placed;
        }

-- Some bytes are a stack.
pub some-stack : (bytes : List ℕ) → eqb (length bytes) 0 ≡ false → stack_in bytes ≡ bytes ∷ []
some-stack [] e = absurd (cc)
some-stack (byte ∷ bytes) e = refl

-- What follows of an answer follows where there is one.
pub on-ok : {E A P Q : Type 0} (answer : Result A E) → (P → Q) → OnOk answer P → OnOk answer Q
on-ok (Ok x) f p = f p
on-ok (Err fault) f p = p

pub on-ok-is : {E A P : Type 0} (answer : Result A E) → OnOk answer P → is_err answer ≡ false → P
on-ok-is (Ok x) p e = p
on-ok-is (Err fault) p e = absurd (cc)
