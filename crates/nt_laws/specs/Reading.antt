-- What a reader finds in a stream that tells entries.
use Rattle.std.specs.Prelude.{◌≡◌, ℕ, ◌⊎◌, false, List, ◌∷◌, ◌++◌}
use Rattle.std.specs.List.{AllByRecursion}
use Rattle.ep_defs.specs.declared.session.TraceInfo.{TraceInfo}
use Rattle.ep_defs.specs.declared.item.Item.{Item}
use Rattle.ep_defs.specs.Entry.{Entry}
use Rattle.nt_blocks.specs.Ordered.{kinds_of, AreOrdered, Tell}
use Rattle.nt_blocks.specs.Verdict.{Good, More, verdict}
use Rattle.nt_write.specs.Trace.{trace_item}
use Rattle.nt_write.specs.Canonical.{is_trace}

-- The bytes are found to be a whole stream with these items, which stand in order and tell these entries.
pub record IsReadAs (info : TraceInfo) (entries : List Entry) (items : List Item) (bytes : List ℕ) : Type 0 where
  -- the stream has its end, and nothing in it is refused
  pub found : verdict bytes ≡ Good items
  -- each name is defined before its use, and once
  pub ordered : AreOrdered items
  pub told : Tell items entries
  -- the first item is that of the Trace object, and no other item is
  pub others : List Item
  pub first : items ≡ trace_item info ∷ others
  pub no_other_trace : AllByRecursion (λ kind. is_trace kind ≡ false) (kinds_of others)

-- The bytes are found to begin a stream: nothing in them is refused, and these items, the first of the stream's, are
-- there.
pub record IsBegun (items : List Item) (bytes : List ℕ) : Type 0 where
  pub first : List Item
  pub others : List Item
  pub more : verdict bytes ≡ More first
  pub all : items ≡ first ++ others

-- The bytes are found to begin a stream, and its items that are there stand in order and tell the first of these
-- entries.
pub record IsBegunAs (entries : List Entry) (bytes : List ℕ) : Type 0 where
  pub items : List Item
  pub more : verdict bytes ≡ More items
  pub ordered : AreOrdered items
  pub first : List Entry
  pub others : List Entry
  pub told : Tell items first
  pub all : entries ≡ first ++ others

-- Nothing in the bytes is refused: they are found to be a whole stream, or to begin one, and these items are there.
abbrev pub IsFound : List Item → List ℕ → Type 0
IsFound items bytes = (verdict bytes ≡ Good items) ⊎ (verdict bytes ≡ More items)

-- So it is, and the items stand in order and tell the first of these entries.
pub record IsReadUpTo (entries : List Entry) (bytes : List ℕ) : Type 0 where
  pub items : List Item
  pub found : IsFound items bytes
  pub ordered : AreOrdered items
  pub first : List Entry
  pub others : List Entry
  pub told : Tell items first
  pub all : entries ≡ first ++ others
