-- What is written for entries is a stream of the format that tells them.
use Rattle.std.proofs.Common.{◌≡◌, ◌^◌, ◌<◌, List, [], ◌∷◌, ◌++◌, length, Ok, refl, ap}
use Rattle.std.specs.Prelude.{IsTrue}
use Rattle.std.specs.List.{AllByRecursion}
use Rattle.ep_defs.specs.declared.item.ItemKind.{ItemKind}
use Rattle.ep_defs.specs.declared.item.ItemKind.TheVariants as item
use Rattle.ep_defs.specs.declared.session.TraceInfo.{TraceInfo}
use Rattle.ep_defs.specs.Session.{is_info}
use Rattle.nt_write.specs.Trace.{trace_item, IsTrace}
use Rattle.ep_defs.specs.Entry.{Entry}
use Rattle.nt_blocks.specs.Ordered.{no_names, kinds_of, told_after}
use Rattle.nt_write.specs.Layout.{Layout, empty_layout, flushed, with_entry, with_entries}
use Rattle.nt_write.specs.Canonical.{encoded, IsCanonical}
use Rattle.nt_write.specs.Writable.{CanTell, StacksFit}
use Rattle.nt_write.proofs.Names.{told-is, told-cons}
use Rattle.nt_write.proofs.Items.{no_other_trace}
use Rattle.nt_write.proofs.Laid.{laid-empty}
use Rattle.nt_write.proofs.Endings.{AreWhole, all-whole, none-whole}

-- Blocks that tell the entries, with nothing after a last point, make a stream that does.
canonical-by : (info : TraceInfo) (entries : List Entry) → IsTrue (is_info info) → AreWhole (flushed (with_entries empty_layout entries)).blocks entries → IsCanonical info entries (encoded info entries)
canonical-by info entries fits whole =
    let h = whole.all in
    let read : IsTrace info (trace_item info ∷ h.items) (encoded info entries) = record {
      blocks = (flushed (with_entries empty_layout entries)).blocks;
      others = h.items;
      stream = record { spelled = refl; info_fits = fits; placed = h.are.follow };
      bodies = h.are.hold;
      not_large = h.are.not_large;
      hold = refl;
    } in
    record {
      written = refl;
      items = trace_item info ∷ h.items;
      read = read;
      told = told-cons (Ok []) (told_after no_names (kinds_of h.items)) [] entries refl (told-is no_names (kinds_of h.items) entries whole.names h.tells);
      no_other_trace = no_other_trace info (trace_item info ∷ h.items) (encoded info entries) read;
      plain = h.plain;
      ended = λ front point e.
          let last = whole.ended front point e in
          (item.Trace info ∷ last.0, ap (λ (kinds : List ItemKind). item.Trace info ∷ kinds) last.1);
    }

-- The law for all entries that can be written.
pub is-canonical : (info : TraceInfo) (entries : List Entry) → IsTrue (is_info info) → AllByRecursion CanTell entries → length (with_entries empty_layout entries).definitions < 2 ^ 31 → StacksFit empty_layout entries → IsCanonical info entries (encoded info entries)
is-canonical info entries fits can few stacks =
    canonical-by info entries fits (all-whole empty_layout [] entries laid-empty (none-whole empty_layout laid-empty) can few stacks)

-- ---- for a writer, entry by entry

-- Where the last entry goes.
pub with_entries-more : (layout : Layout) (entries : List Entry) (entry : Entry) → with_entries layout (entries ++ entry ∷ []) ≡ with_entry (with_entries layout entries) entry
with_entries-more layout [] entry = refl
with_entries-more layout (first ∷ entries) entry = with_entries-more (with_entry layout first) entries entry

-- The stacks fit with one entry more, where they do with those before it.
pub stacks_fit-more : (layout : Layout) (entries : List Entry) (entry : Entry) → StacksFit layout entries → length (with_entries layout (entries ++ entry ∷ [])).stacks < 2 ^ 31 → StacksFit layout (entries ++ entry ∷ [])
stacks_fit-more layout [] entry h few = (few, tt)
stacks_fit-more layout (first ∷ entries) entry h few = (h.0, stacks_fit-more (with_entry layout first) entries entry h.1 few)
