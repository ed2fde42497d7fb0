-- A writer that has given the stack of the event that comes its id.
use Rattle.std.proofs.Common.{◌≡◌, ℕ, Bool, false, List, Option, ap, ◌∙◌}
use Rattle.std.specs.Prelude.{length, nat_lt}
use Rattle.ep_defs.specs.declared.event.EventDef.{EventDef}
use Rattle.nt_stacks.specs.declared.interner.Interned.{Interned}
use Rattle.nt_stacks.specs.Stacks.{with_stack, stack_id}
use Rattle.nt_write.specs.declared.pending.Pending.{Pending}
use Rattle.nt_write.specs.declared.writer.TraceWriter.{TraceWriter}
use Rattle.nt_write.specs.Value.{StacksSeen, AreFew, framed_with}
use Rattle.nt_write.specs.Layout.{Layout}
use Rattle.nt_write.specs.Writing.{IsAt}
use Rattle.nt_write.specs.Adding.{IsReady}
use Rattle.nt_write.proofs.Defining.{interned-by, interned-pending}
use Rattle.nt_write.proofs.Known.{interned-known}

-- It is ready for the event.
pub ready-for : {S : Type 0} (tells : S → Bool) (taken : S → List ℕ) (start : List ℕ) (defs : ℕ → Option EventDef) (layout : Layout) (frames : List ℕ) (writer : TraceWriter S) (pending : Pending) (stack : Interned) → IsAt tells taken start defs layout writer
    → pending.metadata ≡ writer.pending.metadata → pending.events ≡ writer.pending.events
    → pending.stacks ≡ record (writer.pending.stacks) { known = with_stack writer.pending.stacks.known frames; framed = framed_with writer.pending.stacks.framed frames }
    → stack.id ≡ stack_id pending.stacks.known frames → stack.is_new ≡ nat_lt (length writer.pending.stacks.known) (length pending.stacks.known) → AreFew pending.stacks.known pending.stacks.framed
    → IsReady tells taken start defs layout frames stack (record writer { pending = pending })
ready-for tells taken start defs layout frames writer pending stack h metadata events is id is_new few =
    let old = writer.pending in
    let count = framed_with old.stacks.framed frames in
    record {
      kept = record {
        output = h.kept.output;
        pending = interned-pending layout old pending (with_stack old.stacks.known frames) count h.kept.pending metadata events is;
        ids = h.kept.ids;
        flushes = h.kept.flushes;
      };
      known = ap (λ (s : StacksSeen). s.known) is ∙ ap (λ (ss : List (List ℕ)). with_stack ss frames) h.known;
      few = few;
      interned = interned-by layout.stacks frames old.stacks pending.stacks stack count h.known is id is_new;
    }

-- So it is where the stack is not new, by its id alone.
pub ready-known : {S : Type 0} (tells : S → Bool) (taken : S → List ℕ) (start : List ℕ) (defs : ℕ → Option EventDef) (layout : Layout) (frames : List ℕ) (stack : Interned) (writer : TraceWriter S) → IsReady tells taken start defs layout frames stack writer → stack.is_new ≡ false
    → IsReady tells taken start defs layout frames (record { id = stack.id; is_new = false }) writer
ready-known tells taken start defs layout frames stack writer h known =
    record { kept = h.kept; known = h.known; few = h.few; interned = interned-known layout.stacks frames stack h.interned known }
