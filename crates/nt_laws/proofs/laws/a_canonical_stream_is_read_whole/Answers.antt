use Rattle.std.proofs.Common.{◌≡◌, ℕ, List, ap, sym, ◌∙◌, subst}
use Rattle.ep_defs.specs.declared.session.TraceInfo.{TraceInfo}
use Rattle.ep_defs.specs.declared.item.Item.{Item}
use Rattle.ep_defs.specs.Entry.{Entry}
use Rattle.nt_blocks.specs.Verdict.{Good, Bad, More, Verdict, verdict}
use Rattle.nt_write.specs.Trace.{IsTrace}
use Rattle.nt_write.specs.Canonical.{IsCanonical}
use Rattle.nt_laws.specs.Reading.{IsReadAs}
use Rattle.nt_laws.proofs.Told.{told-ordered}
use Rattle.nt_laws.proofs.laws.a_canonical_stream_is_read_whole.Goals as goal

-- Well-formed streams are read whole.
abbrev AreReadWhole : Type 0
AreReadWhole = (info : TraceInfo) (items : List Item) (bytes : List ℕ) → IsTrace info items bytes → verdict bytes ≡ Good items

-- The canonical stream has its items.
read : AreReadWhole → (info : TraceInfo) (entries : List Entry) (bytes : List ℕ) (canonical : IsCanonical info entries bytes) → IsReadAs info entries canonical.items bytes
read whole info entries bytes canonical = record {
  found = whole info canonical.items bytes canonical.read;
  ordered = told-ordered canonical.items entries canonical.told;
  told = canonical.told;
  others = canonical.read.others;
  first = canonical.read.hold;
  no_other_trace = canonical.no_other_trace;
}

-- The items of a verdict that is good.
items_of : Verdict → List Item
items_of (Good items) = items
items_of (More items) = items
items_of (Bad refusal items) = items

-- It has no other items.
only : AreReadWhole → (info : TraceInfo) (entries : List Entry) (items : List Item) (bytes : List ℕ) → IsCanonical info entries bytes → verdict bytes ≡ Good items → IsReadAs info entries items bytes
unfolding items_of
only whole info entries items bytes canonical found =
    let these = read whole info entries bytes canonical in
    let same : canonical.items ≡ items = ap items_of (sym these.found ∙ found) in
    subst (λ (those : List Item). IsReadAs info entries those bytes) same these

pub returns-clause-read : goal.returns-clause-read
returns-clause-read c = read c.a_well_formed_stream_is_read_whole.ensures

pub returns-clause-only : goal.returns-clause-only
returns-clause-only c = only c.a_well_formed_stream_is_read_whole.ensures
