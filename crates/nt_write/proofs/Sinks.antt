-- A writer goes on over another sink that has taken the same.
use Rattle.std.proofs.Common.{◌≡◌, ℕ, Bool, List, [], ◌∷◌, ◌++◌, Option, subst, ◌∙◌}
use Rattle.std.specs.Prelude.{IsTrue}
use Rattle.ep_defs.specs.declared.event.EventDef.{EventDef}
use Rattle.ep_defs.specs.declared.session.TraceInfo.{TraceInfo}
use Rattle.ep_defs.specs.Entry.{Entry}
use Rattle.nt_object.specs.Stream.{stream_start, blocks_bytes}
use Rattle.nt_write.specs.declared.writer.TraceWriter.{TraceWriter}
use Rattle.nt_write.specs.Layout.{Layout, empty_layout, flushed, with_entries}
use Rattle.nt_write.specs.Writer.{IsWriting, TookPart}
use Rattle.nt_write.specs.Sinks.{with_sink}
use Rattle.nt_write.proofs.Prefixes.{some-all, prefix-more, prefix-longer, some-longer}
use Rattle.nt_write.proofs.Flushing.{flushed-extends}
use Rattle.nt_write.proofs.Entries.{part-of, writing-canonical}

-- What the sink of a writer took so far begins the stream of its entries.
pub part-now : {S : Type 0} (tells : S → Bool) (taken : S → List ℕ) (before : List ℕ) (defs : ℕ → Option EventDef) (info : TraceInfo) (entries : List Entry) (writer : TraceWriter S) → IsWriting tells taken before defs info entries writer → TookPart tells taken before info entries writer.output.sink
part-now tells taken before defs info entries writer h =
    let layout : Layout = with_entries empty_layout entries in
    let blocks : List ℕ = blocks_bytes layout.blocks in
    let ends : List ℕ = blocks_bytes (flushed layout).blocks in
    part-of tells taken before info entries writer.output.sink (writing-canonical tells taken before defs info entries writer h)
    (some-longer tells taken (before ++ stream_start info) blocks (ends ++ 1 ∷ []) writer.output.sink
    (prefix-longer blocks ends (ends ++ 1 ∷ []) (flushed-extends layout) (prefix-more ends (1 ∷ [])))
    (some-all tells taken (before ++ stream_start info) blocks writer.output.sink h.at.kept.output.took))

-- A writer goes on over a sink that has taken the same.
pub goes-on : {S : Type 0} (tells : S → Bool) (taken : S → List ℕ) (before : List ℕ) (defs : ℕ → Option EventDef) (info : TraceInfo) (entries : List Entry) (writer : TraceWriter S) (sink : S) → IsWriting tells taken before defs info entries writer → tells sink ≡ tells writer.output.sink → taken sink ≡ taken writer.output.sink → IsWriting tells taken before defs info entries (with_sink writer sink)
goes-on tells taken before defs info entries writer sink h told same =
    record {
      sound = h.sound;
      at =
          record {
            kept = record {
              output = record {
                took = record {
                  all = λ told_now. same ∙ h.at.kept.output.took.all (subst (λ (b : Bool). IsTrue b) told told_now);
                };
                alignment = h.at.kept.output.alignment;
              };
              pending = h.at.kept.pending;
              ids = h.at.kept.ids;
              flushes = h.at.kept.flushes;
            };
            known = h.at.known;
            few = h.at.few;
          };
      framed_are = h.framed_are;
      info_fits = h.info_fits;
      can_tell = h.can_tell;
      stacks_fit = h.stacks_fit;
    }
