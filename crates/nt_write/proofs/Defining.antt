-- An event, its definition and its stack, from a layout to what a writer keeps of it.
use Rattle.std.proofs.Common.{◌≡◌, ℕ, suc, ◌+◌, ◌-◌, ◌≤◌, Bool, true, false, eqb, inl, inr, List, [], ◌∷◌, ◌++◌, length, drop, Option, Some, None, ◌⊎◌, refl, ap, sym, ◌∙◌, subst, arith, length-append}
use Rattle.std.proofs.lemmas.List.{length-drop, drop-append-le}
use Rattle.std.proofs.lemmas.Bool.{ne_eqb, le-ltb, lt-ltb, cases_Bool, true≢false}
use Rattle.std.specs.Prelude.{IsTrue, nat_lt, ◌&&◌, ◌||◌, if◌then◌else◌}
use Rattle.std.specs.Option.{option_map}
use Rattle.ep_defs.specs.declared.limits.TheConstants.{PAYLOAD_BYTES}
use Rattle.ep_defs.specs.declared.event.EventDef.{EventDef}
use Rattle.ep_defs.specs.Event.{is_same_event}
use Rattle.ep_defs.specs.Entry.{EventEntry}
use Rattle.nt_head.specs.declared.head.HeadState.{HeadState}
use Rattle.nt_head.specs.Head.{zero_state}
use Rattle.nt_meta.specs.Meta.{meta_payload}
use Rattle.nt_blocks.specs.Drafts.{Draft, meta_draft, meta_drafts, blob_body}
use Rattle.nt_blocks.specs.Making.{IsMaking}
use Rattle.nt_blocks.specs.Value.{Making}
use Rattle.nt_stacks.specs.declared.interner.Interned.{Interned}
use Rattle.nt_stacks.specs.Stacks.{stack_id, with_stack}
use Rattle.nt_write.specs.declared.limits.TheConstants.{STACK_BYTES}
use Rattle.nt_write.specs.declared.pending.Pending.{Pending}
use Rattle.nt_write.specs.declared.writer.EventOut.{EventOut}
use Rattle.ep_defs.specs.Event.{is_valid_event}
use Rattle.ep_defs.specs.Ranges.{EventFits}
use Rattle.nt_meta.proofs.Definitions.{fits-payload, short-payload}
use Rattle.nt_write.specs.Value.{StacksSeen}
use Rattle.nt_write.specs.Writable.{CanDefine}
use Rattle.nt_write.specs.Layout.{Layout, id_in, with_member, new_metas, new_stack_body, passes, needs_flush, event_draft, with_event}
use Rattle.nt_write.specs.Arriving.{passes_by, IsNew, IsDefining, IsInterned, CanFlush, IsAtMost, with_definition, with_new_stack, with_draft, flushed_if}
use Rattle.nt_write.specs.Writing.{IsPending, IsSmall, arrival_for, lacks_room}
use Rattle.nt_write.specs.Writer.{entry_of}
use Rattle.nt_write.proofs.Flushing.{flushed_if-definitions, flushed_if-stacks}
use Rattle.nt_write.proofs.IdTables.{id-new, with_new}

-- ---- when a flush is needed

-- The room for a definition that is new, and for none.
meta-part : (layout : Layout) (def : EventDef) (meta : Option (List ℕ)) → IsNew layout.definitions def meta → passes_by (blob_body (new_metas layout)) 88 (option_map (λ bytes. length bytes) meta) ≡ (eqb (id_in is_same_event def layout.definitions) 0 && passes (blob_body (new_metas layout)) (88 + length (meta_payload (length layout.definitions + 1) def)))
meta-part layout def None h = rw (ne_eqb (id_in is_same_event def layout.definitions) 0 h) refl
meta-part layout def (Some payload) h =
    ap (λ (bytes : List ℕ). passes (blob_body (new_metas layout)) (88 + length bytes)) h.1
    ∙ ap (λ (n : ℕ). eqb n 0 && passes (blob_body (new_metas layout)) (88 + length (meta_payload (length layout.definitions + 1) def))) (sym h.0)

-- The room for a stack that is new, and for none.
stack-part : (new : Bool) (body : List ℕ) (n : ℕ) → passes_by body 4 (if new then Some n else None) ≡ (new && passes body (4 + n))
stack-part true body n = refl
stack-part false body n = refl

-- What arrives lacks room exactly where the event needs a flush.
pub needs-is : (layout : Layout) (def : EventDef) (out : EventOut) (meta : Option (List ℕ)) (stack : Interned) → IsNew layout.definitions def meta → IsInterned layout.stacks out.frames.now stack → lacks_room layout (arrival_for out meta stack) ≡ needs_flush layout (entry_of def out)
needs-is layout def out meta stack h g =
    let events : Bool = passes (blob_body layout.events) (88 + length out.payload.now) in
    let defined : Bool = eqb (id_in is_same_event def layout.definitions) 0 && passes (blob_body (new_metas layout)) (88 + length (meta_payload (length layout.definitions + 1) def)) in
    ap (λ (b : Bool). (events || b) || passes_by (new_stack_body layout) 4 (if stack.is_new then Some (length out.frames.now) else None)) (meta-part layout def meta h)
    ∙ ap (λ (b : Bool). (events || defined) || b) (stack-part stack.is_new (new_stack_body layout) (length out.frames.now))
    ∙ ap (λ (b : Bool). (events || defined) || (b && passes (new_stack_body layout) (4 + length out.frames.now))) g.is_new

-- ---- definitions

-- One definition more, under the next id.
pub meta_drafts-more : (id : ℕ) (definitions : List EventDef) (def : EventDef) → meta_drafts id (definitions ++ def ∷ []) ≡ meta_drafts id definitions ++ meta_draft (id + length definitions) def ∷ []
meta_drafts-more id [] def = ap (λ (n : ℕ). meta_draft n def ∷ []) (none id)
  where
    none : (n : ℕ) → n ≡ n + 0
    none n = omega arith
meta_drafts-more id (first ∷ definitions) def =
    ap (λ (drafts : List Draft). meta_draft id first ∷ drafts)
    (meta_drafts-more (id + 1) definitions def ∙ ap (λ (n : ℕ). meta_drafts (id + 1) definitions ++ meta_draft n def ∷ []) (shift id (length definitions)))
  where
    shift : (n k : ℕ) → n + 1 + k ≡ n + suc k
    shift n k = omega arith

-- A new definition is one blob more.
new_metas-more : (layout : Layout) (def : EventDef) → layout.definitions_flushed ≤ length layout.definitions → id_in is_same_event def layout.definitions ≡ 0 → new_metas (with_definition layout def) ≡ new_metas layout ++ meta_draft (length layout.definitions + 1) def ∷ []
new_metas-more layout def few none =
    let first : ℕ = layout.definitions_flushed + 1 in
    let flushed : ℕ = layout.definitions_flushed in
    ap (λ (defs : List EventDef). meta_drafts first (drop flushed defs)) (with_new layout.definitions def none)
    ∙ ap (λ (defs : List EventDef). meta_drafts first defs) (drop-append-le flushed layout.definitions (def ∷ []) few)
    ∙ meta_drafts-more first (drop flushed layout.definitions) def
    ∙ ap (λ (n : ℕ). new_metas layout ++ meta_draft n def ∷ []) (next flushed (length layout.definitions) (length (drop flushed layout.definitions)) few (length-drop flushed layout.definitions))
  where
    next : (flushed all left : ℕ) → flushed ≤ all → left ≡ all - flushed → flushed + 1 + left ≡ all + 1
    next flushed all left h e = omega arith

-- The blob that was put together is that of the definition.
meta_draft-is : (head : HeadState) (payload : List ℕ) (size id : ℕ) (def : EventDef) → head ≡ record zero_state { sorted = true; size = size } → size ≡ length payload → payload ≡ meta_payload id def → record { state = head; payload = payload } ≡ meta_draft id def
meta_draft-is head payload size id def h s p =
    let D : HeadState → List ℕ → Draft = λ state bytes. record { state = state; payload = bytes } in
    let H : ℕ → HeadState = λ n. record zero_state { sorted = true; size = n } in
    ap (λ (state : HeadState). D state payload) (h ∙ ap H s) ∙ ap (λ (bytes : List ℕ). D (H (length bytes)) bytes) p

-- What is pending with a new definition.
pub definition-pending : (layout : Layout) (def : EventDef) (old new : Pending) (head : HeadState) (payload : List ℕ) (size : ℕ) → IsPending layout old → layout.definitions_flushed ≤ length layout.definitions → IsNew layout.definitions def (Some payload) → IsMaking (new_metas layout ++ record { state = head; payload = payload } ∷ []) new.metadata → head ≡ record zero_state { sorted = true; size = size } → size ≡ length payload → new.events ≡ old.events → new.stacks ≡ old.stacks → IsPending (with_definition layout def) new
definition-pending layout def old new head payload size h few is_new made head-is size-is events stacks =
    record {
      metadata =
          subst (λ (ds : List Draft). IsMaking ds new.metadata)
          (ap (λ (d : Draft). new_metas layout ++ d ∷ []) (meta_draft-is head payload size (length layout.definitions + 1) def head-is size-is is_new.1) ∙ sym (new_metas-more layout def few is_new.0))
          made;
      events = subst (λ (m : Making). IsMaking layout.events m) (sym events) h.events;
      first = ap (λ (s : StacksSeen). s.first) stacks ∙ h.first;
      stacks = ap (λ (s : StacksSeen). s.fresh) stacks ∙ h.stacks;
    }

-- A definition more leaves those that are flushed.
pub definition-flushes : (layout : Layout) (def : EventDef) → CanFlush layout → CanFlush (with_definition layout def)
definition-flushes layout def h = record { definitions = by_test (cases_Bool (eqb (id_in is_same_event def layout.definitions) 0)); stacks = h.stacks }
  where
    by_test : (eqb (id_in is_same_event def layout.definitions) 0 ≡ true) ⊎ (eqb (id_in is_same_event def layout.definitions) 0 ≡ false) → layout.definitions_flushed ≤ length (with_member is_same_event layout.definitions def)
    by_test (inl e) = rw e (omega (arith, h.definitions, length-append layout.definitions (def ∷ [])))
    by_test (inr e) = rw e h.definitions

-- The id of a definition that was new.
pub id-given : (layout : Layout) (def : EventDef) (id : ℕ) → id_in is_same_event def layout.definitions ≡ 0 → id ≡ length layout.definitions + 1 → id ≡ id_in is_same_event def (with_definition layout def).definitions
id-given layout def id none next =
    next ∙ sym (id-new layout.definitions def none) ∙ ap (λ (ds : List EventDef). id_in is_same_event def ds) (sym (with_new layout.definitions def none))

-- ---- stacks

-- A list is no longer than itself.
not-longer : (n : ℕ) → nat_lt n n ≡ true → ⊥
not-longer n e = true≢false (sym e ∙ le-ltb n n (omega arith))

-- A stack that makes the list longer stands at its end.
pub stack-new : (stacks : List (List ℕ)) (stack : List ℕ) → nat_lt (length stacks) (length (with_stack stacks stack)) ≡ true → with_stack stacks stack ≡ stacks ++ stack ∷ []
stack-new stacks [] e = absurd (not-longer (length stacks) e)
stack-new stacks (b ∷ bytes) e =
    elim (cases_Bool (eqb (stack_id stacks (b ∷ bytes)) 0)) [
      | inl is ↦ rw is refl
      | inr is ↦ absurd (not-longer (length stacks) (rw is at e))
    ]

-- Any other leaves the list.
pub stack-known : (stacks : List (List ℕ)) (stack : List ℕ) → nat_lt (length stacks) (length (with_stack stacks stack)) ≡ false → with_stack stacks stack ≡ stacks
stack-known stacks [] e = refl
stack-known stacks (b ∷ bytes) e =
    elim (cases_Bool (eqb (stack_id stacks (b ∷ bytes)) 0)) [
      | inl is ↦ absurd (true≢false (sym (longer (length stacks) (length (stacks ++ (b ∷ bytes) ∷ [])) (length-append stacks ((b ∷ bytes) ∷ []))) ∙ (rw is at e)))
      | inr is ↦ rw is refl
    ]
  where
    longer : (n m : ℕ) → m ≡ n + 1 → nat_lt n m ≡ true
    longer n m h = lt-ltb n m (omega arith)

-- A stack more leaves those that are flushed.
pub stack-flushes : (layout : Layout) (stack : List ℕ) → CanFlush layout → CanFlush (with_new_stack layout stack)
stack-flushes layout stack h = record { definitions = h.definitions; stacks = by_test (cases_Bool (nat_lt (length layout.stacks) (length (with_stack layout.stacks stack)))) }
  where
    by_test : (nat_lt (length layout.stacks) (length (with_stack layout.stacks stack)) ≡ true) ⊎ (nat_lt (length layout.stacks) (length (with_stack layout.stacks stack)) ≡ false) → layout.stacks_flushed ≤ length (with_stack layout.stacks stack)
    by_test (inl e) = rw (stack-new layout.stacks stack e) (omega (arith, h.stacks, length-append layout.stacks (stack ∷ [])))
    by_test (inr e) = rw (stack-known layout.stacks stack e) h.stacks

-- ---- events

-- The layout with what an event brings is the layout with the event.
pub event-is : (layout : Layout) (event : EventEntry) (state : HeadState) (id stack : ℕ) → state ≡ (event_draft id stack event).state → id ≡ id_in is_same_event event.def (with_member is_same_event layout.definitions event.def) → stack ≡ stack_id (with_stack layout.stacks event.stack) event.stack → with_draft (with_definition (with_new_stack layout event.stack) event.def) (record { state = state; payload = event.payload }) ≡ with_event layout event
event-is layout event state id stack s i k =
    let D : HeadState → Draft = λ now. record { state = now; payload = event.payload } in
    ap (λ (d : Draft). with_draft (with_definition (with_new_stack layout event.stack) event.def) d)
    (ap D s
    ∙ ap (λ (n : ℕ). event_draft n stack event) i
    ∙ ap (λ (n : ℕ). event_draft (id_in is_same_event event.def (with_member is_same_event layout.definitions event.def)) n event) k)

-- The payload that was put together is that of the definition.
pub payload-put : (items cleared : List ℕ) (id : ℕ) (def : EventDef) → items ≡ cleared ++ meta_payload id def → cleared ≡ [] → items ≡ meta_payload id def
payload-put items cleared id def put cleared-is = put ∙ ap (λ (x : List ℕ). x ++ meta_payload id def) cleared-is

-- A flush that may be none leaves a new definition new, and a known one known.
pub new-after : (full : Bool) (layout : Layout) (def : EventDef) (meta : Option (List ℕ)) → IsNew layout.definitions def meta → IsNew (flushed_if full layout).definitions def meta
new-after full layout def meta h = subst (λ (ds : List EventDef). IsNew ds def meta) (sym (flushed_if-definitions full layout)) h

-- And the stacks.
pub interned-after : (full : Bool) (layout : Layout) (frames : List ℕ) (stack : Interned) → IsInterned layout.stacks frames stack → IsInterned (flushed_if full layout).stacks frames stack
interned-after full layout frames stack h = subst (λ (ss : List (List ℕ)). IsInterned ss frames stack) (sym (flushed_if-stacks full layout)) h

-- A valid definition whose numbers fit their types can be written.
pub can-define : (def : EventDef) → IsTrue (is_valid_event def) → EventFits def → CanDefine def
can-define def valid fits = record { fits = fits-payload def valid fits; short = λ id. short-payload id def valid }

-- ---- what arrives

-- What arrives is small where its parts are.
pub small-arrival : (def : EventDef) (out : EventOut) (meta : Option (List ℕ)) (stack : Interned) → length out.payload.now ≤ PAYLOAD_BYTES → length out.frames.now ≤ STACK_BYTES → ((payload : List ℕ) → meta ≡ Some payload → IsDefining def payload) → IsSmall (arrival_for out meta stack)
small-arrival def out meta stack payload frames defining =
    record { payload = payload; meta = of-meta meta defining; stack = of-stack stack.is_new (length out.frames.now) frames }
  where
    of-meta : (m : Option (List ℕ)) → ((payload : List ℕ) → m ≡ Some payload → IsDefining def payload) → IsAtMost PAYLOAD_BYTES (option_map (λ bytes. length bytes) m)
    of-meta None h = tt
    of-meta (Some bytes) h = (h bytes refl).short

    of-stack : (new : Bool) (n : ℕ) → n ≤ STACK_BYTES → IsAtMost STACK_BYTES (if new then Some n else None)
    of-stack true n h = h
    of-stack false n h = tt

-- What the interner answers for a stack.
pub interned-by : (stacks : List (List ℕ)) (frames : List ℕ) (old new : StacksSeen) (stack : Interned) (count : ℕ) → old.known ≡ stacks → new ≡ record old { known = with_stack old.known frames; framed = count } → stack.id ≡ stack_id new.known frames → stack.is_new ≡ nat_lt (length old.known) (length new.known) → IsInterned stacks frames stack
interned-by stacks frames old new stack count known is id is_new =
    let all : new.known ≡ with_stack stacks frames = ap (λ (s : StacksSeen). s.known) is ∙ ap (λ (ss : List (List ℕ)). with_stack ss frames) known in
    record {
      id = id ∙ ap (λ (ss : List (List ℕ)). stack_id ss frames) all;
      is_new = is_new ∙ ap (λ (ss : List (List ℕ)). nat_lt (length ss) (length new.known)) known ∙ ap (λ (ss : List (List ℕ)). nat_lt (length stacks) (length ss)) all;
    }

-- It leaves what is pending.
pub interned-pending : (layout : Layout) (old new : Pending) (known : List (List ℕ)) (count : ℕ) → IsPending layout old → new.metadata ≡ old.metadata → new.events ≡ old.events → new.stacks ≡ record old.stacks { known = known; framed = count } → IsPending layout new
interned-pending layout old new known count h metadata events stacks =
    record {
      metadata = subst (λ (m : Making). IsMaking (new_metas layout) m) (sym metadata) h.metadata;
      events = subst (λ (m : Making). IsMaking layout.events m) (sym events) h.events;
      first = ap (λ (s : StacksSeen). s.first) stacks ∙ h.first;
      stacks = ap (λ (s : StacksSeen). s.fresh) stacks ∙ h.stacks;
    }
