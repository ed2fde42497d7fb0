-- An event whose definition and whose stack have ids: it brings nothing new but its blob.
use Rattle.std.proofs.Common.{◌≡◌, ◌≢◌, ℕ, ◌<◌, Bool, false, List, Option, None, Some, refl, ap, sym, ◌∙◌, arith}
use Rattle.std.proofs.lemmas.Bool.{ne_eqb}
use Rattle.ep_defs.specs.declared.event.EventDef.{EventDef}
use Rattle.ep_defs.specs.Event.{is_same_event}
use Rattle.ep_defs.specs.Entry.{EventEntry}
use Rattle.nt_head.specs.declared.head.HeadState.{HeadState}
use Rattle.nt_stacks.specs.declared.interner.Interned.{Interned}
use Rattle.nt_stacks.specs.Stacks.{with_stack}
use Rattle.nt_write.specs.declared.writer.EventOut.{EventOut}
use Rattle.nt_write.specs.declared.writer.TraceWriter.{TraceWriter}
use Rattle.nt_write.specs.Adding.{IsReady}
use Rattle.nt_write.specs.Layout.{Layout, id_in, with_member, event_draft, needs_flush, with_event}
use Rattle.nt_write.specs.Arriving.{IsInterned, with_definition, with_new_stack, with_draft}
use Rattle.nt_write.specs.Writer.{entry_of}
use Rattle.nt_write.specs.Writing.{arrival_for, id_at, ids_of, lacks_room}
use Rattle.nt_write.proofs.Defining.{event-is, needs-is, stack-known}

-- A stack that is not new, by its id alone.
pub interned-known : (stacks : List (List ℕ)) (frames : List ℕ) (stack : Interned) → IsInterned stacks frames stack → stack.is_new ≡ false → IsInterned stacks frames (record { id = stack.id; is_new = false })
interned-known stacks frames stack h known = record { id = h.id; is_new = sym known ∙ h.is_new }

-- A definition with an id is none that is new.
has-id : (definitions : List EventDef) (def : EventDef) (id : ℕ) → 0 < id → id ≡ id_in is_same_event def definitions → id_in is_same_event def definitions ≢ 0
has-id definitions def id given is = λ none. omega (arith, given, is, none)

-- What arrives of the event lacks room exactly where the event needs a flush.
pub known-needs : {S : Type 0} (tells : S → Bool) (taken : S → List ℕ) (start : List ℕ) (defs : ℕ → Option EventDef) (layout : Layout) (def : EventDef) (out : EventOut) (id stack : ℕ) (writer : TraceWriter S)
    → IsReady tells taken start defs layout out.frames.now (record { id = stack; is_new = false }) writer → defs out.event ≡ Some def → (0 < id) × (id ≡ id_at (ids_of writer) out.event)
    → lacks_room layout (arrival_for out None (record { id = stack; is_new = false })) ≡ needs_flush layout (entry_of def out)
known-needs tells taken start defs layout def out id stack writer h at given =
    needs-is layout def out None (record { id = stack; is_new = false }) (has-id layout.definitions def id given.0 (given.1 ∙ h.kept.ids.id_is out.event def at)) h.interned

-- It stays among the definitions once.
member-known : (definitions : List EventDef) (def : EventDef) → id_in is_same_event def definitions ≢ 0 → with_member is_same_event definitions def ≡ definitions
member-known definitions def some = rw (ne_eqb (id_in is_same_event def definitions) 0 some) refl

-- The layout stays but for the blob.
layout-known : (layout : Layout) (event : EventEntry) → with_stack layout.stacks event.stack ≡ layout.stacks → id_in is_same_event event.def layout.definitions ≢ 0 → with_definition (with_new_stack layout event.stack) event.def ≡ layout
layout-known layout event known some =
    ap (λ (stacks : List (List ℕ)). with_definition (record layout { stacks = stacks }) event.def) known
    ∙ ap (λ (definitions : List EventDef). record layout { definitions = definitions }) (member-known layout.definitions event.def some)

-- The layout with the blob is the layout with the event.
pub event-known : (layout : Layout) (event : EventEntry) (head : HeadState) (id stack : ℕ) → IsInterned layout.stacks event.stack (record { id = stack; is_new = false }) → 0 < id → id ≡ id_in is_same_event event.def layout.definitions → head ≡ (event_draft id stack event).state → with_draft layout (record { state = head; payload = event.payload }) ≡ with_event layout event
event-known layout event head id stack interned given is said =
    let some = has-id layout.definitions event.def id given is in
    ap (λ (l : Layout). with_draft l (record { state = head; payload = event.payload })) (sym (layout-known layout event (stack-known layout.stacks event.stack (sym interned.is_new)) some))
    ∙ event-is layout event head id stack said
    (is ∙ ap (λ (definitions : List EventDef). id_in is_same_event event.def definitions) (sym (member-known layout.definitions event.def some)))
    interned.id
