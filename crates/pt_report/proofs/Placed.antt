-- The first item that can't stand where it does: it stays the first whatever follows, and items that have one are not ordered.
use Rattle.std.proofs.Common.{◌≡◌, ℕ, List, [], ◌∷◌, ◌++◌, refl, sym, ap, ◌∙◌, subst, append_assoc}
use Rattle.std.specs.Prelude.{IsOk, Option, Some, None, true, is_some}
use Rattle.std.proofs.lemmas.List.{map-append}
use Rattle.ep_defs.specs.declared.item.Item.{Item}
use Rattle.ep_defs.specs.declared.item.ItemKind.{ItemKind}
use Rattle.pt_num.proofs.Steps.{both_ok, ok_no_fault, ok_value}
use Rattle.nt_blocks.specs.Ordered.{Names, no_names, tell, names_after, told_after, kinds_of, AreOrdered}
use Rattle.nt_check.specs.declared.checker.CheckKind.{CheckKind}
use Rattle.nt_check.specs.Faults.{disorder_of}
use Rattle.pt_report.specs.declared.report.Report.{Report}
use Rattle.pt_report.specs.declared.reading.Misplaced.{Misplaced}
use Rattle.pt_report.specs.Found.{IsMisplaced}
use Rattle.pt_report.specs.state.Read.{IsChecked}

-- What is told of items tells their front.
told-front : (names : Names) (front back : List ItemKind) → IsOk (told_after names (front ++ back)) → IsOk (told_after names front)
told-front names [] back ok = refl
told-front names (kind ∷ front) back ok =
    let one = both_ok (tell names kind) _ ok in
    let others = both_ok (told_after (names_after names kind) (front ++ back)) _ one.2 in
    let rest = ok_value (told_after (names_after names kind) front) (told-front (names_after names kind) front back (rw others.1 refl)) in
    rw (one.1, rest.1) refl

-- Items that follow change nothing.
pub misplaced-more : (items more : List Item) (at : ℕ) (kind : CheckKind) → IsMisplaced items at kind → IsMisplaced (items ++ more) at kind
misplaced-more items more at kind is =
    record {
      before = is.before;
      item = is.item;
      after = is.after ++ more;
      split = ap (λ all. all ++ more) is.split ∙ append_assoc is.before (is.item ∷ is.after) more;
      ordered = is.ordered;
      fault = is.fault;
      place = is.place;
    }

pub misplaced-not_ordered : (items : List Item) (at : ℕ) (kind : CheckKind) → IsMisplaced items at kind → AreOrdered items → ⊥
misplaced-not_ordered items at kind is ordered =
    let front : List Item = is.before ++ is.item ∷ [] in
    let all-is : items ≡ front ++ is.after = is.split ∙ sym (append_assoc is.before (is.item ∷ []) is.after) in
    let kinds-are : kinds_of items ≡ kinds_of front ++ kinds_of is.after = ap kinds_of all-is ∙ map-append (λ (i : Item). i.kind) front is.after in
    let told : IsOk (told_after no_names (kinds_of front)) = told-front no_names (kinds_of front) (kinds_of is.after) (subst (λ (kinds : List ItemKind). IsOk (told_after no_names kinds)) kinds-are ordered) in
    ok_no_fault (told_after no_names (kinds_of front)) (disorder_of kind) told is.fault

pub checked-more : (items more : List Item) (report : Report) (misplaced : Option Misplaced) → is_some misplaced ≡ true → IsChecked items report misplaced → IsChecked (items ++ more) report misplaced
checked-more items more report (Some misplaced) there checked = misplaced-more items more misplaced.at misplaced.kind checked
checked-more items more report None there checked = absurd (cc)
