-- The one stream that is written for a list of entries.
use Rattle.std.specs.Prelude.{◌≡◌, ℕ, Bool, true, false, ◌&&◌, List, [], ◌∷◌, ◌++◌, ◌==◌}
use Rattle.std.specs.List.{AllByRecursion}
use Rattle.ep_defs.specs.declared.session.TraceInfo.{TraceInfo}
use Rattle.ep_defs.specs.declared.item.Item.{Item}
use Rattle.ep_defs.specs.declared.item.ItemKind.{ItemKind}
use Rattle.ep_defs.specs.declared.item.ItemKind.TheVariants as item
use Rattle.nt_object.specs.Stream.{stream_start, blocks_bytes}
use Rattle.nt_write.specs.Trace.{IsTrace}
use Rattle.ep_defs.specs.Entry.{Entry, Point, PointEntry}
use Rattle.nt_blocks.specs.Ordered.{kinds_of, Tell}
use Rattle.nt_write.specs.Layout.{Layout, empty_layout, with_entries, flushed}

-- The start, and the blocks that are flushed.
abbrev pub flushed_bytes : TraceInfo → Layout → List ℕ
flushed_bytes info layout = stream_start info ++ blocks_bytes layout.blocks

-- All of that with a last flush, and the null reference.
abbrev pub encoded : TraceInfo → List Entry → List ℕ
encoded info entries = flushed_bytes info (flushed (with_entries empty_layout entries)) ++ 1 ∷ []

-- The item is that of the Trace object.
abbrev pub is_trace : ItemKind → Bool
is_trace (item.Trace info) = true
is_trace _ = false

-- An event's thread is the one that wrote it, and its processor is 0 (this project's profile).
abbrev pub is_plain : ItemKind → Bool
is_plain (item.Event metadata number capture processor thread stack stamp activity related payload) = (thread == capture) && (processor == 0)
is_plain _ = true

-- The bytes are what is written for the entries, and a reader finds these entries in them.
pub record IsCanonical (info : TraceInfo) (entries : List Entry) (bytes : List ℕ) : Type 0 where
  pub written : bytes ≡ encoded info entries
  pub items : List Item
  pub read : IsTrace info items bytes
  pub told : Tell items entries
  -- the first item is that of the Trace object, and no other item is
  pub no_other_trace : AllByRecursion (λ kind. is_trace kind ≡ false) (kinds_of read.others)
  -- each event's thread is the one that wrote it, on processor 0
  pub plain : AllByRecursion (λ kind. is_plain kind ≡ true) (kinds_of read.others)
  -- where the entries end with a point, so do the items
  pub ended : (front : List Entry) (point : PointEntry)
      → entries ≡ front ++ Point point ∷ []
      → (before : List ItemKind) × (kinds_of items ≡ before ++ item.Point point.stamp point.threads ∷ [])
