-- A stream that tells of each thread the writes that were admitted, less those that were refused (this project's
-- theorem; the items as in the NetTrace format document of PerfView, version 4).
use Rattle.std.specs.Prelude.{◌≡◌, ℕ, Bool, true, false, List, [], ◌∷◌, ◌++◌}
use Rattle.std.specs.List.{AllByRecursion}
use Rattle.ep_defs.specs.declared.session.TraceInfo.{TraceInfo}
use Rattle.ep_defs.specs.declared.item.Item.{Item}
use Rattle.ep_defs.specs.declared.item.ItemKind.{ItemKind}
use Rattle.ep_defs.specs.declared.item.ItemKind.TheVariants as item
use Rattle.ep_defs.specs.Entry.{Entry}
use Rattle.nt_blocks.specs.Ordered.{kinds_of, Tell}
use Rattle.nt_write.specs.Canonical.{IsCanonical, is_trace, is_plain}
use Rattle.ep_model.specs.Faithful.{Share, AreFaithful}
use Rattle.ep_rundown.specs.Rundown.{with_section}
use Rattle.nt_laws.specs.Bare.{bare}

-- A stream's items tell the shares of the threads: the admitted writes less those that the shares have as refused.
pub record Faithful (shares : List Share) (items : List Item) : Type 0 where
  pub info : TraceInfo
  pub others : List ItemKind
  pub entries : List Entry
  -- one Trace, the first item
  pub one_trace : kinds_of items ≡ item.Trace info ∷ others
  pub no_other_trace : AllByRecursion (λ kind. is_trace kind ≡ false) others
  -- each name is defined before its use
  pub told : Tell items entries
  pub plain : AllByRecursion (λ kind. is_plain kind ≡ true) others
  pub faithful : AreFaithful shares entries
  -- the last item is a point, that of the last entry
  pub before : List ItemKind
  pub ended : kinds_of items ≡ before ++ item.Point faithful.last.stamp faithful.last.threads ∷ []

-- Where the bytes are the canonical stream of the entries with the section of a rundown, its items tell the shares once what
-- is the rundown's is left out.
abbrev pub TellsShares : Bool → TraceInfo → List Share → List Entry → List ℕ → Type 0
TellsShares rundown info shares entries bytes =
    (canonical : IsCanonical info (with_section rundown entries) bytes) → Faithful shares (bare rundown canonical.items)
