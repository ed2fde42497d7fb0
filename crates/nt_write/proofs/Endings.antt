-- Entries that end with a point leave no item after it.
use Rattle.std.proofs.Common.{◌≡◌, ℕ, ◌^◌, ◌<◌, ◌≤◌, List, [], ◌∷◌, ◌++◌, length, Option, Some, None, refl, ap, sym, ◌∙◌, arith, subst, append_assoc}
use Rattle.std.proofs.lemmas.List.{append-nil, drop_all}
use Rattle.std.specs.Prelude.{unwrap_or}
use Rattle.std.specs.List.{AllByRecursion, last_or}
use Rattle.ep_defs.specs.declared.item.ItemKind.{ItemKind}
use Rattle.ep_defs.specs.declared.item.ItemKind.TheVariants as item
use Rattle.nt_object.specs.Object.{Block}
use Rattle.ep_defs.specs.Entry.{EventEntry, PointEntry, Entry, Event, Point}
use Rattle.nt_blocks.specs.Ordered.{Names, kinds_of}
use Rattle.nt_write.specs.Layout.{Layout, flushed, with_point, with_entry, with_entries}
use Rattle.nt_write.specs.Writable.{CanTell, StacksFit}
use Rattle.nt_write.proofs.Told.{AreTold, point-told, point-last}
use Rattle.nt_write.proofs.Laid.{IsLaid, laid-entry, laid-told, all-definitions-stay}

-- If the entries end with a point, the last kind is that of the point.
abbrev pub AreEnded : List Entry → List ItemKind → Type 0
AreEnded entries kinds =
    (front : List Entry) (point : PointEntry) → entries ≡ front ++ Point point ∷ [] → (before : List ItemKind) × (kinds ≡ before ++ item.Point point.stamp point.threads ∷ [])

-- The blocks tell the entries, and hold nothing after a last point.
pub record AreWhole (blocks : List Block) (entries : List Entry) : Type 0 where
  pub names : Names
  pub all : AreTold blocks entries names
  pub ended : AreEnded entries (kinds_of all.items)

-- ---- the last entry

-- The last entry is the one at the end.
last-is : (o : Option Entry) (entries : List Entry) (entry : Entry) → last_or o (entries ++ entry ∷ []) ≡ Some entry
last-is o [] entry = refl
last-is o (first ∷ entries) entry = last-is (Some first) entries entry

-- Entries have one last entry.
same-last : (front others : List Entry) (a b : Entry) → front ++ a ∷ [] ≡ others ++ b ∷ [] → a ≡ b
same-last front others a b e =
    ap (λ (o : Option Entry). unwrap_or o a) (sym (last-is None front a) ∙ ap (λ (es : List Entry). last_or None es) e ∙ last-is None others b)

-- No entries have none.
none-last : (front : List Entry) (a : Entry) → [] ≡ front ++ a ∷ [] → ⊥
none-last [] a e = cc
none-last (b ∷ front) a e = cc

-- An event is no point.
not-point : (event : EventEntry) (point : PointEntry) → Event event ≡ Point point → ⊥
not-point event point e = cc

-- A point is one point.
same-point : (p q : PointEntry) → Point p ≡ Point q → p ≡ q
same-point p q e = cc

-- ---- one entry more

-- After a point nothing waits.
point-flushed : (layout : Layout) (point : PointEntry) → (flushed (with_point layout point)).blocks ≡ (with_point layout point).blocks
point-flushed layout point = rw (drop_all (length layout.definitions) layout.definitions (omega arith)) refl

-- One entry more is told, and nothing after it where it is a point.
entry-whole : (layout : Layout) (entries : List Entry) (entry : Entry) → IsLaid layout entries → CanTell entry → length (with_entry layout entry).definitions < 2 ^ 31 → length (with_entry layout entry).stacks < 2 ^ 31 → AreWhole (flushed (with_entry layout entry)).blocks (entries ++ entry ∷ [])
entry-whole layout entries (Event event) h can few few_stacks =
    let told = laid-told (with_entry layout (Event event)) (entries ++ Event event ∷ []) (laid-entry layout entries (Event event) h can few few_stacks) in
    record {
      names = told.0;
      all = told.1;
      ended = λ front point e. absurd (not-point event point (same-last entries front (Event event) (Point point) e));
    }
entry-whole layout entries (Point point) h can few few_stacks =
    let told = laid-told layout entries h in
    let last = point-last point told.0 (flushed layout).blocks entries told.1 can in
    let all = point-told point told.0 (flushed layout).blocks entries told.1 can in
    subst (λ (blocks : List Block). AreWhole blocks (entries ++ Point point ∷ [])) (sym (point-flushed layout point))
    (record {
      names = record told.0 { stacks = [] };
      all = all;
      ended = λ front other e.
          (last.0, last.1 ∙ ap (λ (p : PointEntry). last.0 ++ item.Point p.stamp p.threads ∷ []) (same-point point other (same-last entries front (Point point) (Point other) e)));
    })

-- ---- all entries

-- All entries, one after another.
pub all-whole : (layout : Layout) (before entries : List Entry) → IsLaid layout before → AreWhole (flushed layout).blocks before → AllByRecursion CanTell entries → length (with_entries layout entries).definitions < 2 ^ 31 → StacksFit layout entries → AreWhole (flushed (with_entries layout entries)).blocks (before ++ entries)
all-whole layout before [] h whole can few stacks = subst (λ (es : List Entry). AreWhole (flushed layout).blocks es) (sym (append-nil before)) whole
all-whole layout before (entry ∷ entries) h whole can few stacks =
    let next : Layout = with_entry layout entry in
    let few_next = first (length next.definitions) (length (with_entries next entries).definitions) (all-definitions-stay next entries) few in
    subst (λ (es : List Entry). AreWhole (flushed (with_entries next entries)).blocks es) (append_assoc before (entry ∷ []) entries)
    (all-whole next (before ++ entry ∷ []) entries (laid-entry layout before entry h can.0 few_next stacks.0) (entry-whole layout before entry h can.0 few_next stacks.0) can.1 few stacks.1)
  where
    first : (a b : ℕ) → a ≤ b → b < 2 ^ 31 → a < 2 ^ 31
    first a b h g = omega arith

-- Before any entry there is no last one.
pub none-whole : (layout : Layout) → IsLaid layout [] → AreWhole (flushed layout).blocks []
none-whole layout h =
    let told = laid-told layout [] h in
    record { names = told.0; all = told.1; ended = λ front point e. absurd (none-last front (Point point) e) }
