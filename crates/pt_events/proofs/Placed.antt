-- One item more of those that were listed, or that come after one that can't stand where it does.
use Rattle.std.proofs.Common.{◌≡◌, ℕ, List, [], ◌∷◌, ◌++◌, refl, sym, ap, ◌∙◌, subst, append_assoc}
use Rattle.std.specs.Prelude.{Option, Some, None, Err, true, false, is_some}
use Rattle.std.proofs.lemmas.List.{append-nil, map-append}
use Rattle.ep_defs.specs.declared.item.Item.{Item}
use Rattle.ep_defs.specs.declared.item.ItemKind.{ItemKind}
use Rattle.nt_blocks.specs.Ordered.{no_names, told_after, kinds_of}
use Rattle.nt_check.specs.declared.checker.CheckKind.{CheckKind}
use Rattle.nt_check.specs.Faults.{disorder_of}
use Rattle.pt_lines.specs.declared.form.Form.{Form}
use Rattle.pt_events.specs.declared.listing.Listing.{Listing}
use Rattle.pt_events.specs.declared.reading.Misplaced.{Misplaced}
use Rattle.pt_events.specs.Lines.{lines_of}
use Rattle.pt_lines.specs.Forms.{AreLines}
use Rattle.pt_events.specs.Found.{AreLinesOf}
use Rattle.pt_lines.specs.Appends.{Appends}
use Rattle.pt_events.specs.state.Listed.{HasListed, ListsOne}
use Rattle.pt_events.specs.state.Read.{IsChecked}
use Rattle.pt_events.proofs.Lines.{listed-more}

-- The kinds of one item more.
kinds-more : (before : List Item) (item : Item) → kinds_of (before ++ item ∷ []) ≡ kinds_of before ++ item.kind ∷ []
kinds-more before item = map-append (λ (i : Item). i.kind) before (item ∷ [])

-- Items that follow the first that can't stand where it does change nothing.
pub checked-more : (form : Form) (items more : List Item) (text : List ℕ) (old new : Listing) (misplaced : Option Misplaced) → is_some misplaced ≡ true → IsChecked form items text old misplaced → IsChecked form (items ++ more) text new misplaced
checked-more form items more text old new (Some misplaced) there (is, lines) = (
  record {
    before = is.before;
    item = is.item;
    after = is.after ++ more;
    split = ap (λ (all : List Item). all ++ more) is.split ∙ append_assoc is.before (is.item ∷ is.after) more;
    ordered = is.ordered;
    fault = is.fault;
    place = is.place;
  },
  lines,
)
checked-more form items more text old new None there checked = absurd (cc)

-- What was listed, where all items could stand.
pub all-listed : (form : Form) (items : List Item) (text : List ℕ) (listing : Listing) (misplaced : Option Misplaced) → misplaced ≡ None → IsChecked form items text listing misplaced → HasListed (kinds_of items) listing × AreLinesOf form items text
all-listed form items text listing misplaced none checked = subst (IsChecked form items text listing) none checked

-- Nothing more is put.
pub same-checked : (form : Form) (items : List Item) (text out : List ℕ) (listing : Listing) (misplaced : Option Misplaced) → IsChecked form items text listing misplaced → Appends (λ more. IsChecked form items (text ++ more) listing misplaced) out out
same-checked form items text out listing misplaced checked =
    ([], subst (λ (t : List ℕ). IsChecked form items t listing misplaced) (sym (append-nil text)) checked, sym (append-nil out))

-- The item is listed.
pub item-listed : (form : Form) (before : List Item) (item : Item) (text out now : List ℕ) (old new : Listing) (misplaced : Option Misplaced)
    → is_some misplaced ≡ false → IsChecked form before text old misplaced
    → (HasListed (kinds_of before) old → HasListed (kinds_of before ++ item.kind ∷ []) new × ListsOne form (kinds_of before) item.kind out now)
    → Appends (λ more. IsChecked form (before ++ item ∷ []) (text ++ more) new misplaced) out now
item-listed form before item text out now old new (Some misplaced) there checked listed = absurd (cc)
item-listed form before item text out now old new None there (had, lines) listed =
    let all = listed had in
    let more = all.1.0 in (
      more,
      (
        subst (λ (kinds : List ItemKind). HasListed kinds new) (sym (kinds-more before item)) all.0,
        subst (λ (kinds : List ItemKind). AreLines form (lines_of kinds) (text ++ more)) (sym (kinds-more before item)) (listed-more form (kinds_of before) item.kind text more lines all.1.1),
      ),
      all.1.2,
    )

-- The item can't stand there.
pub item-misplaced : (form : Form) (before : List Item) (item : Item) (text out now : List ℕ) (old new : Listing) (misplaced : Option Misplaced) (kind : CheckKind)
    → is_some misplaced ≡ false → IsChecked form before text old misplaced
    → (HasListed (kinds_of before) old → told_after no_names (kinds_of before ++ item.kind ∷ []) ≡ Err (disorder_of kind)) → now ≡ out
    → Appends (λ more. IsChecked form (before ++ item ∷ []) (text ++ more) new (Some (record { at = item.at; kind = kind }))) out now
item-misplaced form before item text out now old new (Some misplaced) kind there checked fault same = absurd (cc)
item-misplaced form before item text out now old new None kind there (had, lines) fault same = (
  [],
  (
    record {
      before = before;
      item = item;
      after = [];
      split = refl;
      ordered = had.ordered;
      fault = ap (told_after no_names) (kinds-more before item) ∙ fault had;
      place = refl;
    },
    subst (λ (t : List ℕ). AreLines form (lines_of (kinds_of before)) t) (sym (append-nil text)) lines,
  ),
  same ∙ sym (append-nil out),
)

-- Some items more, and then others.
pub checked-then : (form : Form) (before items others : List Item) (text out mid now : List ℕ) (between new : Listing) (maybe misplaced : Option Misplaced) → (first : Appends (λ more. IsChecked form (before ++ items) (text ++ more) between maybe) out mid) → Appends (λ more. IsChecked form ((before ++ items) ++ others) ((text ++ first.0) ++ more) new misplaced) mid now → Appends (λ more. IsChecked form (before ++ (items ++ others)) (text ++ more) new misplaced) out now
checked-then form before items others text out mid now between new maybe misplaced first second = (
  first.0 ++ second.0,
  subst (λ (all : List Item). IsChecked form all (text ++ (first.0 ++ second.0)) new misplaced) (append_assoc before items others)
      (subst (λ (put : List ℕ). IsChecked form ((before ++ items) ++ others) put new misplaced) (append_assoc text first.0 second.0) second.1),
  second.2 ∙ ap (λ (put : List ℕ). put ++ second.0) first.2 ∙ append_assoc out first.0 second.0,
)
