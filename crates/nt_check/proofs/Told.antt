-- One item more: it is refused exactly where it can't be told after the names that stand there.
use Rattle.std.proofs.Common.{◌≡◌, List, [], ◌∷◌, ◌++◌, Result, Ok, Err, refl, sym, ap, ◌∙◌}
use Rattle.std.specs.Prelude.{IsOk, IsErrAnd}
use Rattle.ep_defs.specs.declared.item.ItemKind.{ItemKind}
use Rattle.ep_defs.specs.Entry.{Entry}
use Rattle.pt_num.specs.Steps.{◌>>=◌}
use Rattle.pt_num.proofs.Steps.{both_ok, ok_value}
use Rattle.nt_blocks.specs.Ordered.{Disorder, Names, tell, names_after, told_after}
use Rattle.nt_blocks.specs.Ordered as disorder
use Rattle.nt_check.specs.declared.checker.CheckFault.{CheckFault}
use Rattle.nt_check.specs.declared.checker.CheckFault.TheVariants.{Bad, OutOfMemory}
use Rattle.nt_check.specs.declared.checker.CheckKind.{CheckKind}
use Rattle.nt_check.specs.declared.checker.CheckKind.TheVariants.{UnknownMetadata, UnknownStack, MetadataTwice, StackTwice}
use Rattle.nt_check.specs.Faults.{disorder_of}
use Rattle.nt_check.specs.state.Took.{names_at}

ok-is : {E A : Type 0} (p : Result A E) (x : A) → p ≡ Ok x → IsOk p
ok-is p x e = rw e refl

pub names_at-more : (names : Names) (kinds : List ItemKind) (kind : ItemKind) → names_at names (kinds ++ kind ∷ []) ≡ names_after (names_at names kinds) kind
names_at-more names [] kind = refl
names_at-more names (first ∷ kinds) kind = names_at-more (names_after names first) kinds kind

pub told-refused : (names : Names) (kinds : List ItemKind) (kind : ItemKind) (fault : Disorder) → IsOk (told_after names kinds) → tell (names_at names kinds) kind ≡ Err fault → told_after names (kinds ++ kind ∷ []) ≡ Err fault
told-refused names [] kind fault ok e = rw e refl
told-refused names (first ∷ kinds) kind fault ok e =
    let one = both_ok (tell names first) _ ok in
    let others = both_ok (told_after (names_after names first) kinds) _ one.2 in
    let later : told_after (names_after names first) (kinds ++ kind ∷ []) ≡ Err fault = told-refused (names_after names first) kinds kind fault (ok-is (told_after (names_after names first) kinds) others.0 others.1) e in
    rw (one.1, later) refl

pub told-taken : (names : Names) (kinds : List ItemKind) (kind : ItemKind) → IsOk (told_after names kinds) → IsOk (tell (names_at names kinds) kind) → IsOk (told_after names (kinds ++ kind ∷ []))
told-taken names [] kind ok fine =
    let there = ok_value (tell names kind) fine in rw there.1 refl
told-taken names (first ∷ kinds) kind ok fine =
    let one = both_ok (tell names first) _ ok in
    let others = both_ok (told_after (names_after names first) kinds) _ one.2 in
    let later : IsOk (told_after (names_after names first) (kinds ++ kind ∷ [])) = told-taken (names_after names first) kinds kind (ok-is (told_after (names_after names first) kinds) others.0 others.1) fine in
    let there = both_ok (told_after (names_after names first) (kinds ++ kind ∷ [])) (λ more. Ok more) (same-ok _ later) in
    rw (one.1, there.1) refl
  where
    same-ok : (p : Result (List Entry) Disorder) → IsOk p → IsOk (p >>= (λ more. Ok more))
    same-ok (Ok x) ok = refl
    same-ok (Err fault) ok = ok

-- ---- faults

kind_of : Disorder → CheckKind
kind_of (disorder.UnknownMetadata id) = UnknownMetadata id
kind_of (disorder.UnknownStack id) = UnknownStack id
kind_of (disorder.MetadataTwice id) = MetadataTwice id
kind_of (disorder.StackTwice id) = StackTwice id

back : (fault : CheckKind) → kind_of (disorder_of fault) ≡ fault
unfolding kind_of
back (UnknownMetadata id) = refl
back (UnknownStack id) = refl
back (MetadataTwice id) = refl
back (StackTwice id) = refl

-- Equal in the order of items, equal for the checker.
pub fault-same : (a b : CheckKind) → disorder_of a ≡ disorder_of b → a ≡ b
fault-same a b e = sym (back a) ∙ ap kind_of e ∙ back b

-- Out of memory is no fault of the item.
pub memory-no-fault : {A : Type 0} (p : Result A CheckFault) (fault : CheckKind) → IsErrAnd p (λ other. other ≡ OutOfMemory) → p ≡ Err (Bad fault) → ⊥
memory-no-fault (Ok x) fault memory e = cc
memory-no-fault (Err other) fault memory e = cc

pub bad-same : {A : Type 0} (a b : CheckKind) → ◌≡◌ {A = Result A CheckFault} (Err (Bad a)) (Err (Bad b)) → a ≡ b
bad-same a b e = cc

pub disorder-same : {A : Type 0} (p : Result A Disorder) (a b : Disorder) → p ≡ Err a → p ≡ Err b → a ≡ b
disorder-same p a b e f = cc
