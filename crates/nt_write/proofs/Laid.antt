-- However entries are laid out, what is flushed tells them up to those that are not.
use Rattle.std.proofs.Common.{◌≡◌, ℕ, zero, suc, ◌+◌, ◌^◌, ◌<◌, ◌≤◌, Bool, true, false, cond, eqb, List, [], ◌∷◌, ◌++◌, length, refl, ap, sym, ◌∙◌, inl, inr, arith, subst, length-append, append_assoc}
use Rattle.std.proofs.lemmas.List.{append-nil, map-append, drop_at, drop_all}
use Rattle.std.proofs.lemmas.Bool.{or_parts, ltb-false, lt-ltb, eq-eqb, false≢true, cases_Bool}
use Rattle.std.specs.Prelude.{map, ◌||◌, ◌&&◌, nat_lt}
use Rattle.std.specs.List.{AllByRecursion}
use Rattle.ep_defs.specs.declared.limits.TheConstants.{PAYLOAD_BYTES}
use Rattle.ep_defs.specs.declared.event.EventDef.{EventDef}
use Rattle.ep_defs.specs.Event.{is_same_text, is_same_event}
use Rattle.nt_object.specs.declared.object.BlockKind.TheVariants as block
use Rattle.nt_object.specs.Object.{Block}
use Rattle.nt_meta.specs.Meta.{meta_payload}
use Rattle.nt_blocks.specs.declared.limits.TheConstants.{WRITTEN_BYTES}
use Rattle.nt_blocks.specs.Bodies.{stack_body, point_body}
use Rattle.ep_defs.specs.Entry.{EventEntry, PointEntry, Entry, Event, Point}
use Rattle.nt_blocks.specs.Ordered.{Names}
use Rattle.nt_blocks.specs.Drafts.{Draft, blob_body, meta_draft, meta_drafts}
use Rattle.nt_blocks.proofs.PutBlobs.{length-blob_body}
use Rattle.nt_stacks.specs.Stacks.{with_stack, stack_id}
use Rattle.nt_write.specs.Layout.{Layout, event_draft, empty_layout, id_in, with_member, new_metas, new_stack_body, with_block, with_block_of, flushed, passes, needs_flush, with_event, with_point, with_entry, with_entries}
use Rattle.nt_write.specs.Writable.{CanDefine, IsStack, CanWrite, CanPoint, CanTell}
use Rattle.nt_write.proofs.BlobBodies.{body-len-more, meta-state}
use Rattle.nt_write.proofs.BlockSteps.{all-more, no_blocks, stack_body-len-none, stack-len-more}
use Rattle.nt_write.proofs.Names.{named, IsNumbered, numbered-more, Members, members}
use Rattle.nt_write.proofs.Sameness.{text_sameness, event_sameness}
use Rattle.nt_write.proofs.Told.{AreTold, metas-told, stacks-told, events-told, point-told, Pending, draft_of, entry_of, IsStacked, IsPending, pending-draft}
use Rattle.nt_write.proofs.Defining.{meta_drafts-more}

-- ---- the parts of a layout

-- A layout by what of it is flushed and what is not.
pub record Parts : Type 0 where
  pub blocks : List Block
  pub old_definitions : List EventDef
  pub new_definitions : List EventDef
  pub old_stacks : List (List ℕ)
  pub new_stacks : List (List ℕ)
  pub pending : List Pending

-- All definitions so far.
abbrev definitions_of : Parts → List EventDef
definitions_of p = p.old_definitions ++ p.new_definitions

-- All stacks since the last point.
abbrev stacks_of : Parts → List (List ℕ)
stacks_of p = p.old_stacks ++ p.new_stacks

-- The layout that has these parts.
abbrev pub layout_of : Parts → Layout
layout_of p =
    record {
      blocks = p.blocks;
      definitions = p.old_definitions ++ p.new_definitions;
      definitions_flushed = length p.old_definitions;
      stacks = p.old_stacks ++ p.new_stacks;
      stacks_flushed = length p.old_stacks;
      events = map draft_of p.pending;
    }

-- The bodies in the making have room left.
pub record AreSmall (p : Parts) : Type 0 where
  pub events : length (blob_body (map draft_of p.pending)) ≤ WRITTEN_BYTES
  pub metas : length (blob_body (meta_drafts (length p.old_definitions + 1) p.new_definitions)) ≤ WRITTEN_BYTES
  pub stacks : length (stack_body (length p.old_stacks + 1) p.new_stacks) ≤ WRITTEN_BYTES

-- What is flushed tells these entries up to those that are not.
pub record IsSound (p : Parts) (entries : List Entry) : Type 0 where
  pub told : List Entry
  pub flushed : AreTold p.blocks told (record { definitions = named 1 p.old_definitions []; stacks = named 1 p.old_stacks [] })
  pub entries_are : entries ≡ told ++ map entry_of p.pending
  pub pending : AllByRecursion (IsPending (definitions_of p) (stacks_of p)) p.pending
  pub definitions : AllByRecursion CanDefine p.new_definitions
  pub stacks : AllByRecursion IsStack p.new_stacks
  pub few_definitions : length (definitions_of p) < 2 ^ 31
  pub few_stacks : length (stacks_of p) < 2 ^ 31
  pub small : AreSmall p

-- ---- a flush

-- The blocks with those of a flush.
abbrev flushed_blocks : List Draft → ℕ → List (List ℕ) → List Draft → List Block → List Block
flushed_blocks events first stacks metas blocks =
    with_block_of block.Event events (blob_body events)
    (with_block_of block.Stack stacks (stack_body first stacks)
    (with_block_of block.Metadata metas (blob_body metas) blocks))

-- The parts after a flush.
abbrev flushed_parts : Parts → Parts
flushed_parts p =
    record {
      blocks = flushed_blocks (map draft_of p.pending) (length p.old_stacks + 1) p.new_stacks (meta_drafts (length p.old_definitions + 1) p.new_definitions) p.blocks;
      old_definitions = definitions_of p;
      new_definitions = [];
      old_stacks = stacks_of p;
      new_stacks = [];
      pending = [];
    }

-- A flush of the layout leaves these parts.
flushed-is : (p : Parts) → flushed (layout_of p) ≡ layout_of (flushed_parts p)
flushed-is p =
    let stacks = drop_at p.old_stacks p.new_stacks (length p.old_stacks) refl in
    let metas = drop_at p.old_definitions p.new_definitions (length p.old_definitions) refl in
    let all_definitions = sym (append-nil (definitions_of p)) in
    let all_stacks = sym (append-nil (stacks_of p)) in
    λ i. record {
      blocks = flushed_blocks (map draft_of p.pending) (length p.old_stacks + 1) (stacks i) (meta_drafts (length p.old_definitions + 1) (metas i)) p.blocks;
      definitions = all_definitions i;
      definitions_flushed = length (definitions_of p);
      stacks = all_stacks i;
      stacks_flushed = length (stacks_of p);
      events = [];
    }

-- Where nothing waits, the bodies are small.
nothing-small : (p : Parts) → p.new_definitions ≡ [] → p.new_stacks ≡ [] → p.pending ≡ [] → AreSmall p
nothing-small p d s e = record {
  events = rw e (omega (arith, length-blob_body []));
  metas = rw d (omega (arith, length-blob_body []));
  stacks = rw s (omega (arith, stack_body-len-none (length p.old_stacks + 1)));
}

-- After a flush all entries so far are told.
flushed-sound : (p : Parts) (entries : List Entry) → IsSound p entries → IsSound (flushed_parts p) entries
flushed-sound p entries h =
    let metas = metas-told p.old_definitions p.new_definitions (named 1 p.old_stacks []) p.blocks h.told h.flushed h.definitions h.few_definitions h.small.metas in
    let stacks = stacks-told p.old_stacks p.new_stacks (named 1 (definitions_of p) []) (with_block_of block.Metadata (meta_drafts (length p.old_definitions + 1) p.new_definitions) (blob_body (meta_drafts (length p.old_definitions + 1) p.new_definitions)) p.blocks) h.told metas h.stacks h.few_stacks h.small.stacks in
    record {
      told = h.told ++ map entry_of p.pending;
      flushed = events-told (definitions_of p) (stacks_of p) p.pending (with_block_of block.Stack p.new_stacks (stack_body (length p.old_stacks + 1) p.new_stacks) (with_block_of block.Metadata (meta_drafts (length p.old_definitions + 1) p.new_definitions) (blob_body (meta_drafts (length p.old_definitions + 1) p.new_definitions)) p.blocks)) h.told stacks h.pending h.few_definitions h.few_stacks h.small.events;
      entries_are = h.entries_are ∙ sym (append-nil (h.told ++ map entry_of p.pending));
      pending = tt;
      definitions = tt;
      stacks = tt;
      few_definitions = rw append-nil h.few_definitions;
      few_stacks = rw append-nil h.few_stacks;
      small = nothing-small (flushed_parts p) refl refl refl;
    }

-- ---- room for an event

-- The bodies in the making have room for the event.
record HasRoom (layout : Layout) (event : EventEntry) : Type 0 where
  pub events : length (blob_body layout.events) + (88 + length event.payload) ≤ WRITTEN_BYTES
  pub metas : id_in is_same_event event.def layout.definitions ≡ 0 → length (blob_body (new_metas layout)) + (88 + length (meta_payload (length layout.definitions + 1) event.def)) ≤ WRITTEN_BYTES
  pub stacks : length layout.stacks < length (with_stack layout.stacks event.stack) → length (new_stack_body layout) + (4 + length event.stack) ≤ WRITTEN_BYTES

-- Where both do not hold and one does, the other does not.
both-false : (a b : Bool) → (a && b) ≡ false → a ≡ true → b ≡ false
both-false true b e h = e
both-false false b e h = absurd (false≢true h)

-- A body that does not pass the limit is within it.
passes-false : (body : List ℕ) (more : ℕ) → passes body more ≡ false → length body + more ≤ WRITTEN_BYTES
passes-false body more h = ltb-false WRITTEN_BYTES (length body + more) h

-- Where no flush is needed there is room.
room-by-test : (layout : Layout) (event : EventEntry) → needs_flush layout event ≡ false → HasRoom layout event
room-by-test layout event h =
    let id : ℕ = id_in is_same_event event.def layout.definitions in
    let payload : List ℕ = meta_payload (length layout.definitions + 1) event.def in
    let is_new_stack : Bool = nat_lt (length layout.stacks) (length (with_stack layout.stacks event.stack)) in
    let events : Bool = passes (blob_body layout.events) (88 + length event.payload) in
    let metas : Bool = passes (blob_body (new_metas layout)) (88 + length payload) in
    let stacks : Bool = passes (new_stack_body layout) (4 + length event.stack) in
    let outer = or_parts (events || (eqb id 0 && metas)) (is_new_stack && stacks) h in
    let inner = or_parts events (eqb id 0 && metas) outer.0 in
    record {
      events = passes-false (blob_body layout.events) (88 + length event.payload) inner.0;
      metas = λ e. passes-false (blob_body (new_metas layout)) (88 + length payload) (both-false (eqb id 0) metas inner.1 (eq-eqb id 0 e));
      stacks = λ lt. passes-false (new_stack_body layout) (4 + length event.stack) (both-false is_new_stack stacks outer.1 (lt-ltb (length layout.stacks) (length (with_stack layout.stacks event.stack)) lt));
    }

-- After a flush there is room for any event that can be written.
room-after-flush : (layout : Layout) (event : EventEntry) → CanWrite event → HasRoom (flushed layout) event
room-after-flush layout event h = record {
  events = omega (arith, length-blob_body [], h.short);
  metas = λ e. rw (drop_all (length layout.definitions) layout.definitions (omega arith)) (whole (length (blob_body [])) (length (meta_payload (length layout.definitions + 1) event.def)) (length-blob_body []) (h.def.short (length layout.definitions + 1)));
  stacks = λ lt. rw (drop_all (length layout.stacks) layout.stacks (omega arith)) (room (length (stack_body (length layout.stacks + 1) [])) (stack_body-len-none (length layout.stacks + 1)));
}
  where
    whole : (body n : ℕ) → body ≡ 20 → n ≤ PAYLOAD_BYTES → body + (88 + n) ≤ WRITTEN_BYTES
    whole body n e le = omega arith

    room : (body : ℕ) → body ≡ 8 → body + (4 + length event.stack) ≤ WRITTEN_BYTES
    room body e = omega (arith, h.stack.short)

-- ---- a definition and a stack more

-- The new definitions with one that an event has.
record DefinitionsGrown (old new : List EventDef) (def : EventDef) : Type 0 where
  pub now : List EventDef
  pub more : List EventDef
  pub list : with_member is_same_event (old ++ new) def ≡ old ++ now
  pub grown : old ++ now ≡ old ++ new ++ more
  pub can : AllByRecursion CanDefine now
  pub small : length (blob_body (meta_drafts (length old + 1) now)) ≤ WRITTEN_BYTES
  pub numbered : IsNumbered (old ++ now) (id_in is_same_event def (old ++ now)) def

-- An event's definition is new and has room, or is there already.
definitions-grown : (old new : List EventDef) (def : EventDef) → CanDefine def → AllByRecursion CanDefine new → length (blob_body (meta_drafts (length old + 1) new)) ≤ WRITTEN_BYTES → (id_in is_same_event def (old ++ new) ≡ 0 → length (blob_body (meta_drafts (length old + 1) new)) + (88 + length (meta_payload (length (old ++ new) + 1) def)) ≤ WRITTEN_BYTES) → DefinitionsGrown old new def
definitions-grown old new def can all small room =
    let m = members is_same_event event_sameness (old ++ new) def in
    elim m.list [
      | inl e ↦ grown-by m e
      | inr e ↦ record {
        now = new;
        more = [];
        list = e;
        grown = sym (append-nil (old ++ new));
        can = all;
        small = small;
        numbered = subst (λ (ds : List EventDef). IsNumbered ds (id_in is_same_event def ds) def) e m.numbered;
      }
    ]
  where
    same_id : (a b c : ℕ) → c ≡ a + b → a + 1 + b ≡ c + 1
    same_id a b c e = omega arith

    within : (a b n : ℕ) → a ≤ b + n → b + n ≤ WRITTEN_BYTES → a ≤ WRITTEN_BYTES
    within a b n h g = omega arith

    grown-by : Members is_same_event (old ++ new) def → (id_in is_same_event def (old ++ new) ≡ 0) × (with_member is_same_event (old ++ new) def ≡ (old ++ new) ++ def ∷ []) → DefinitionsGrown old new def
    grown-by m e =
        let list : with_member is_same_event (old ++ new) def ≡ old ++ (new ++ def ∷ []) = e.1 ∙ append_assoc old new (def ∷ []) in
        let id : ℕ = length old + 1 + length new in
        let id-is : id ≡ length (old ++ new) + 1 = same_id (length old) (length new) (length (old ++ new)) (length-append old new) in
        let longer : length (blob_body (meta_drafts (length old + 1) new ++ meta_draft id def ∷ [])) ≤ length (blob_body (meta_drafts (length old + 1) new)) + (88 + length (meta_payload id def)) = body-len-more (meta_drafts (length old + 1) new) (meta_draft id def) (meta-state id def can) in
        record {
          now = new ++ def ∷ [];
          more = def ∷ [];
          list = list;
          grown = sym (append_assoc old new (def ∷ []));
          can = all-more CanDefine new def all can;
          small = subst (λ (ds : List Draft). length (blob_body ds) ≤ WRITTEN_BYTES) (sym (meta_drafts-more (length old + 1) new def))
              (within (length (blob_body (meta_drafts (length old + 1) new ++ meta_draft id def ∷ []))) (length (blob_body (meta_drafts (length old + 1) new))) (88 + length (meta_payload id def)) longer
              (subst (λ (n : ℕ). length (blob_body (meta_drafts (length old + 1) new)) + (88 + length (meta_payload n def)) ≤ WRITTEN_BYTES) (sym id-is) (room e.0)));
          numbered = subst (λ (ds : List EventDef). IsNumbered ds (id_in is_same_event def ds) def) list m.numbered;
        }

-- The new stacks with the one of an event.
record StacksGrown (old new : List (List ℕ)) (stack : List ℕ) : Type 0 where
  pub now : List (List ℕ)
  pub more : List (List ℕ)
  pub list : with_stack (old ++ new) stack ≡ old ++ now
  pub grown : old ++ now ≡ old ++ new ++ more
  pub short : AllByRecursion IsStack now
  pub small : length (stack_body (length old + 1) now) ≤ WRITTEN_BYTES
  pub stacked : IsStacked (old ++ now) (stack_id (old ++ now) stack) stack

-- A stack under its number.
stacked-by : (stacks : List (List ℕ)) (id : ℕ) (stack : List ℕ) → IsNumbered stacks id stack → IsStacked stacks id stack
stacked-by stacks zero stack h = absurd (nothing h.some)
  where
    nothing : 0 < 0 → ⊥
    nothing e = omega arith
stacked-by stacks (suc id) stack h = record { few = h.few; found = λ definitions. h.found }

-- An event's stack is empty, new with room, or there already.
stacks-grown : (old new : List (List ℕ)) (stack : List ℕ) → IsStack stack → AllByRecursion IsStack new → length (stack_body (length old + 1) new) ≤ WRITTEN_BYTES → (length (old ++ new) < length (with_stack (old ++ new) stack) → length (stack_body (length old + 1) new) + (4 + length stack) ≤ WRITTEN_BYTES) → StacksGrown old new stack
stacks-grown old new [] short all small room = record {
  now = new;
  more = [];
  list = refl;
  grown = sym (append-nil (old ++ new));
  short = all;
  small = small;
  stacked = record { few = omega arith; found = λ definitions. refl };
}
stacks-grown old new (b ∷ bytes) short all small room =
    let m = members is_same_text text_sameness (old ++ new) (b ∷ bytes) in
    elim m.list [
      | inl e ↦ grown-by m e
      | inr e ↦ record {
        now = new;
        more = [];
        list = e;
        grown = sym (append-nil (old ++ new));
        short = all;
        small = small;
        stacked = subst (λ (ss : List (List ℕ)). IsStacked ss (id_in is_same_text (b ∷ bytes) ss) (b ∷ bytes)) e (stacked-by (with_member is_same_text (old ++ new) (b ∷ bytes)) (id_in is_same_text (b ∷ bytes) (with_member is_same_text (old ++ new) (b ∷ bytes))) (b ∷ bytes) m.numbered);
      }
    ]
  where
    longer : (n m : ℕ) → m ≡ n + 1 → n < m
    longer n m e = omega arith

    within : (a b n : ℕ) → a ≡ b + n → b + n ≤ WRITTEN_BYTES → a ≤ WRITTEN_BYTES
    within a b n h g = omega arith

    grown-by : Members is_same_text (old ++ new) (b ∷ bytes) → (id_in is_same_text (b ∷ bytes) (old ++ new) ≡ 0) × (with_member is_same_text (old ++ new) (b ∷ bytes) ≡ (old ++ new) ++ (b ∷ bytes) ∷ []) → StacksGrown old new (b ∷ bytes)
    grown-by m e =
        let stack : List ℕ = b ∷ bytes in
        let list : with_member is_same_text (old ++ new) stack ≡ old ++ (new ++ stack ∷ []) = e.1 ∙ append_assoc old new (stack ∷ []) in
        let is_new : length (old ++ new) < length (with_member is_same_text (old ++ new) stack) = longer (length (old ++ new)) (length (with_member is_same_text (old ++ new) stack)) (ap (λ (ss : List (List ℕ)). length ss) e.1 ∙ length-append (old ++ new) (stack ∷ [])) in
        record {
          now = new ++ stack ∷ [];
          more = stack ∷ [];
          list = list;
          grown = sym (append_assoc old new (stack ∷ []));
          short = all-more IsStack new stack all short;
          small = within (length (stack_body (length old + 1) (new ++ stack ∷ []))) (length (stack_body (length old + 1) new)) (4 + length stack) (stack-len-more (length old + 1) new stack) (room is_new);
          stacked = subst (λ (ss : List (List ℕ)). IsStacked ss (id_in is_same_text stack ss) stack) list (stacked-by (with_member is_same_text (old ++ new) stack) (id_in is_same_text stack (with_member is_same_text (old ++ new) stack)) stack m.numbered);
        }

-- ---- an event

-- More stacks leave the ids of those before them.
stacked-more : (stacks more : List (List ℕ)) (id : ℕ) (stack : List ℕ) → IsStacked stacks id stack → IsStacked (stacks ++ more) id stack
stacked-more stacks more zero stack h = record { few = omega arith; found = h.found }
stacked-more stacks more (suc id) stack h =
    stacked-by (stacks ++ more) (suc id) stack (numbered-more stacks more (suc id) stack (record { some = omega arith; few = h.few; found = h.found [] }))

-- More names leave what waits as it is.
pending-more : (definitions more : List EventDef) (stacks more_stacks : List (List ℕ)) (ps : List Pending) → AllByRecursion (IsPending definitions stacks) ps → AllByRecursion (IsPending (definitions ++ more) (stacks ++ more_stacks)) ps
pending-more definitions more stacks more_stacks [] h = tt
pending-more definitions more stacks more_stacks (p ∷ ps) h = (
  record {
    can = h.0.can;
    def = numbered-more definitions more p.metadata p.event.def h.0.def;
    stack = stacked-more stacks more_stacks p.stack p.event.stack h.0.stack;
  },
  pending-more definitions more stacks more_stacks ps h.1,
)

-- What stands after some entries.
pub record IsLaid (layout : Layout) (entries : List Entry) : Type 0 where
  pub parts : Parts
  pub is : layout ≡ layout_of parts
  pub sound : IsSound parts entries

-- A flush keeps what a layout tells.
pub laid-flushed : (layout : Layout) (entries : List Entry) → IsLaid layout entries → IsLaid (flushed layout) entries
laid-flushed layout entries h = record {
  parts = flushed_parts h.parts;
  is = ap (λ (l : Layout). flushed l) h.is ∙ flushed-is h.parts;
  sound = flushed-sound h.parts entries h.sound;
}

-- The parts with an event that there is room for.
abbrev grown_pending : (p : Parts) (event : EventEntry) → DefinitionsGrown p.old_definitions p.new_definitions event.def → StacksGrown p.old_stacks p.new_stacks event.stack → Pending
grown_pending p event d s =
    record {
      metadata = id_in is_same_event event.def (p.old_definitions ++ d.now);
      stack = stack_id (p.old_stacks ++ s.now) event.stack;
      event = event;
    }

-- The parts with the event behind those that wait.
abbrev grown_parts : (p : Parts) (event : EventEntry) → DefinitionsGrown p.old_definitions p.new_definitions event.def → StacksGrown p.old_stacks p.new_stacks event.stack → Parts
grown_parts p event d s =
    record {
      blocks = p.blocks;
      old_definitions = p.old_definitions;
      new_definitions = d.now;
      old_stacks = p.old_stacks;
      new_stacks = s.now;
      pending = p.pending ++ grown_pending p event d s ∷ [];
    }

-- The layout with the event has these parts.
grown-is : (p : Parts) (event : EventEntry) (d : DefinitionsGrown p.old_definitions p.new_definitions event.def) (s : StacksGrown p.old_stacks p.new_stacks event.stack) → with_event (layout_of p) event ≡ layout_of (grown_parts p event d s)
grown-is p event d s =
    let definitions = d.list in
    let stacks = s.list in
    let with_last : with_event (layout_of p) event ≡ record (layout_of (grown_parts p event d s)) { events = map draft_of p.pending ++ draft_of (grown_pending p event d s) ∷ [] } = λ i. record {
      blocks = p.blocks;
      definitions = definitions i;
      definitions_flushed = length p.old_definitions;
      stacks = stacks i;
      stacks_flushed = length p.old_stacks;
      events = map draft_of p.pending ++ event_draft (id_in is_same_event event.def (definitions i)) (stack_id (stacks i) event.stack) event ∷ [];
    } in
    with_last ∙ ap (λ (es : List Draft). record (layout_of (grown_parts p event d s)) { events = es }) (sym (map-append draft_of p.pending (grown_pending p event d s ∷ [])))

-- With the event, the entries are told up to what waits.
grown-sound : (p : Parts) (entries : List Entry) (event : EventEntry) (d : DefinitionsGrown p.old_definitions p.new_definitions event.def) (s : StacksGrown p.old_stacks p.new_stacks event.stack) → IsSound p entries → CanWrite event → length (blob_body (map draft_of p.pending)) + (88 + length event.payload) ≤ WRITTEN_BYTES → length (p.old_definitions ++ d.now) < 2 ^ 31 → length (p.old_stacks ++ s.now) < 2 ^ 31 → IsSound (grown_parts p event d s) (entries ++ Event event ∷ [])
grown-sound p entries event d s h can room few few_stacks =
    let definitions : List EventDef = p.old_definitions ++ d.now in
    let stacks : List (List ℕ) = p.old_stacks ++ s.now in
    let last : Pending = grown_pending p event d s in
    let last-is : IsPending definitions stacks last = record { can = can; def = d.numbered; stack = s.stacked } in
    let before : AllByRecursion (IsPending definitions stacks) p.pending =
    subst (λ (ds : List EventDef). AllByRecursion (IsPending ds stacks) p.pending) (sym d.grown)
    (subst (λ (ss : List (List ℕ)). AllByRecursion (IsPending (p.old_definitions ++ p.new_definitions ++ d.more) ss) p.pending) (sym s.grown)
    (pending-more (definitions_of p) d.more (stacks_of p) s.more p.pending h.pending)) in
    record {
      told = h.told;
      flushed = h.flushed;
      entries_are = ap (λ (es : List Entry). es ++ Event event ∷ []) h.entries_are ∙ append_assoc h.told (map entry_of p.pending) (Event event ∷ []) ∙ ap (λ (es : List Entry). h.told ++ es) (sym (map-append entry_of p.pending (last ∷ [])));
      pending = all-more (IsPending definitions stacks) p.pending last before last-is;
      definitions = d.can;
      stacks = s.short;
      few_definitions = few;
      few_stacks = few_stacks;
      small = record {
        events = rw (map-append draft_of p.pending (last ∷ [])) (within (length (blob_body (map draft_of p.pending ++ draft_of last ∷ []))) (length (blob_body (map draft_of p.pending))) (88 + length event.payload)
            (body-len-more (map draft_of p.pending) (draft_of last) (pending-draft definitions stacks last few few_stacks last-is).fits) room);
        metas = d.small;
        stacks = s.small;
      };
    }
  where
    within : (a b n : ℕ) → a ≤ b + n → b + n ≤ WRITTEN_BYTES → a ≤ WRITTEN_BYTES
    within a b n h g = omega arith

-- An event for which there is room.
laid-event : (layout : Layout) (entries : List Entry) (event : EventEntry) → IsLaid layout entries → CanWrite event → HasRoom layout event → length (with_event layout event).definitions < 2 ^ 31 → length (with_event layout event).stacks < 2 ^ 31 → IsLaid (with_event layout event) (entries ++ Event event ∷ [])
laid-event layout entries event h can room few few_stacks = laid-by h.parts h.sound (subst (λ (l : Layout). HasRoom l event) h.is room)
    (subst (λ (l : Layout). length (with_event l event).definitions < 2 ^ 31) h.is few)
    (subst (λ (l : Layout). length (with_event l event).stacks < 2 ^ 31) h.is few_stacks)
    h.is
  where
    laid-by : (p : Parts) → IsSound p entries → HasRoom (layout_of p) event → length (with_event (layout_of p) event).definitions < 2 ^ 31 → length (with_event (layout_of p) event).stacks < 2 ^ 31 → layout ≡ layout_of p → IsLaid (with_event layout event) (entries ++ Event event ∷ [])
    laid-by p sound room few few_stacks is =
        let metas = drop_at p.old_definitions p.new_definitions (length p.old_definitions) refl in
        let stacks = drop_at p.old_stacks p.new_stacks (length p.old_stacks) refl in
        let d : DefinitionsGrown p.old_definitions p.new_definitions event.def = definitions-grown p.old_definitions p.new_definitions event.def can.def sound.definitions sound.small.metas
        (subst (λ (new : List EventDef). id_in is_same_event event.def (definitions_of p) ≡ 0 → length (blob_body (meta_drafts (length p.old_definitions + 1) new)) + (88 + length (meta_payload (length (definitions_of p) + 1) event.def)) ≤ WRITTEN_BYTES) metas room.metas) in
        let s : StacksGrown p.old_stacks p.new_stacks event.stack = stacks-grown p.old_stacks p.new_stacks event.stack can.stack sound.stacks sound.small.stacks
        (subst (λ (new : List (List ℕ)). length (stacks_of p) < length (with_stack (stacks_of p) event.stack) → length (stack_body (length p.old_stacks + 1) new) + (4 + length event.stack) ≤ WRITTEN_BYTES) stacks room.stacks) in
        record {
          parts = grown_parts p event d s;
          is = ap (λ (l : Layout). with_event l event) is ∙ grown-is p event d s;
          sound = grown-sound p entries event d s sound can room.events
              (subst (λ (ds : List EventDef). length ds < 2 ^ 31) d.list few)
              (subst (λ (ss : List (List ℕ)). length ss < 2 ^ 31) s.list few_stacks);
        }

-- ---- a point

-- The parts after a point.
abbrev point_parts : Parts → PointEntry → Parts
point_parts p point =
    record (flushed_parts p) {
      blocks = with_block block.Point (point_body point.stamp point.threads) (flushed_parts p).blocks;
      old_stacks = [];
    }

-- After a point, all entries are told, and no stack is named.
point-sound : (p : Parts) (entries : List Entry) (point : PointEntry) → IsSound p entries → CanPoint point → IsSound (point_parts p point) (entries ++ Point point ∷ [])
point-sound p entries point h can =
    let before : IsSound (flushed_parts p) entries = flushed-sound p entries h in
    record {
      told = before.told ++ Point point ∷ [];
      flushed = point-told point (record { definitions = named 1 (definitions_of p) []; stacks = named 1 (stacks_of p) [] }) (flushed_parts p).blocks before.told before.flushed can;
      entries_are = ap (λ (es : List Entry). es ++ Point point ∷ []) (before.entries_are ∙ append-nil before.told) ∙ sym (append-nil (before.told ++ Point point ∷ []));
      pending = tt;
      definitions = tt;
      stacks = tt;
      few_definitions = before.few_definitions;
      few_stacks = omega arith;
      small = nothing-small (point_parts p point) refl refl refl;
    }

-- A point that can be written.
laid-point : (layout : Layout) (entries : List Entry) (point : PointEntry) → IsLaid layout entries → CanPoint point → IsLaid (with_point layout point) (entries ++ Point point ∷ [])
laid-point layout entries point h can = record {
  parts = point_parts h.parts point;
  is = ap (λ (before : Layout). record before { blocks = with_block block.Point (point_body point.stamp point.threads) before.blocks; stacks = []; stacks_flushed = 0 }) (ap (λ (l : Layout). flushed l) h.is ∙ flushed-is h.parts);
  sound = point-sound h.parts entries point h.sound can;
}

-- ---- any entry

-- An event, after a flush where one is needed.
event-by-test : (layout : Layout) (entries : List Entry) (event : EventEntry) (needed : Bool) → needs_flush layout event ≡ needed → IsLaid layout entries → CanWrite event → (length (with_event (cond needed (flushed layout) layout) event).definitions < 2 ^ 31) → (length (with_event (cond needed (flushed layout) layout) event).stacks < 2 ^ 31) → IsLaid (with_event (cond needed (flushed layout) layout) event) (entries ++ Event event ∷ [])
event-by-test layout entries event true e h can few few_stacks = laid-event (flushed layout) entries event (laid-flushed layout entries h) can (room-after-flush layout event can) few few_stacks
event-by-test layout entries event false e h can few few_stacks = laid-event layout entries event h can (room-by-test layout event e) few few_stacks

-- One entry more.
pub laid-entry : (layout : Layout) (entries : List Entry) (entry : Entry) → IsLaid layout entries → CanTell entry → length (with_entry layout entry).definitions < 2 ^ 31 → length (with_entry layout entry).stacks < 2 ^ 31 → IsLaid (with_entry layout entry) (entries ++ entry ∷ [])
laid-entry layout entries (Event event) h can few few_stacks = event-by-test layout entries event (needs_flush layout event) refl h can few few_stacks
laid-entry layout entries (Point point) h can few few_stacks = laid-point layout entries point h can

-- Before any entry.
pub laid-empty : IsLaid empty_layout []
laid-empty =
    let none : Parts = record { blocks = []; old_definitions = []; new_definitions = []; old_stacks = []; new_stacks = []; pending = [] } in
    record {
      parts = none;
      is = refl;
      sound = record {
        told = [];
        flushed = record { items = []; are = no_blocks; tells = (refl, refl); plain = tt };
        entries_are = refl;
        pending = tt;
        definitions = tt;
        stacks = tt;
        few_definitions = omega arith;
        few_stacks = omega arith;
        small = nothing-small none refl refl refl;
      };
    }

-- Definitions are never forgotten.
pub member-stays : {A : Type 0} (same : A → A → Bool) (xs : List A) (x : A) → length xs ≤ length (with_member same xs x)
member-stays same xs x =
    elim (cases_Bool (eqb (id_in same x xs) 0)) [
      | inl e ↦ rw e (omega (arith, length-append xs (x ∷ [])))
      | inr e ↦ rw e (omega arith)
    ]

-- One entry more forgets no definition.
definitions-stay : (layout : Layout) (entry : Entry) → length layout.definitions ≤ length (with_entry layout entry).definitions
definitions-stay layout (Event event) = by_test (needs_flush layout event)
  where
    by_test : (needed : Bool) → length layout.definitions ≤ length (with_event (cond needed (flushed layout) layout) event).definitions
    by_test true = member-stays is_same_event layout.definitions event.def
    by_test false = member-stays is_same_event layout.definitions event.def
definitions-stay layout (Point point) = omega arith

-- Nor do more entries.
pub all-definitions-stay : (layout : Layout) (entries : List Entry) → length layout.definitions ≤ length (with_entries layout entries).definitions
all-definitions-stay layout [] = omega arith
all-definitions-stay layout (entry ∷ entries) = omega (arith, definitions-stay layout entry, all-definitions-stay (with_entry layout entry) entries)

-- Once all is flushed, the blocks tell all entries.
pub laid-told : (layout : Layout) (entries : List Entry) → IsLaid layout entries → (names : Names) × AreTold (flushed layout).blocks entries names
laid-told layout entries h =
    let p : Parts = h.parts in
    let sound : IsSound (flushed_parts p) entries = flushed-sound p entries h.sound in
    let names : Names = record { definitions = named 1 (definitions_of p) []; stacks = named 1 (stacks_of p) [] } in (
      names,
      subst (λ (l : Layout). AreTold l.blocks entries names) (sym (ap (λ (l : Layout). flushed l) h.is ∙ flushed-is p))
          (subst (λ (es : List Entry). AreTold (flushed_parts p).blocks es names) (sym (sound.entries_are ∙ append-nil sound.told)) sound.flushed),
    )
