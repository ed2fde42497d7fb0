-- Events one after another.
use Rattle.std.proofs.Common.{◌≡◌, ℕ, ◌+◌, ◌-◌, ◌<◌, ◌≤◌, Ok, List, [], ◌∷◌, ◌++◌, length, take, drop, refl, sym, ap, ◌∙◌, subst, append_assoc, arith}
use Rattle.std.proofs.lemmas.List.{append-nil}
use Rattle.pt_num.proofs.Joined.{rest_is}
use Rattle.ep_defs.specs.declared.item.Item.{Item}
use Rattle.nt_object.specs.declared.object.BlockKind.TheVariants as block
use Rattle.nt_head.specs.declared.head.HeadState.{HeadState}
use Rattle.nt_head.specs.Head.{zero_state}
use Rattle.nt_blocks.specs.declared.take.BodyFault.{BodyFault}
use Rattle.nt_blocks.specs.Refusals.{blob_at, blob_body_at, header_at}
use Rattle.nt_blocks.specs.Taking.{IsFault}
use Rattle.nt_blocks.proofs.TakeBlobs.{Going, blob_found, going_end, going_start, going_step, going_stop}
use Rattle.nt_check.specs.Events.{EventRest}
use Rattle.nt_names.specs.declared.head.Head.{Head}
use Rattle.nt_names.specs.declared.take.EventAt.{EventAt}
use Rattle.nt_names.specs.Told.{AppendsEvents, AreEvents, IsEvent, item_of}
use Rattle.nt_names.specs.state.Heads.{SkimsBlob, head_of}

-- One event more.
pub events-more : (events : List EventAt) (items : List Item) (event : EventAt) (item : Item) → AreEvents events items → IsEvent event item → AreEvents (events ++ event ∷ []) (items ++ item ∷ [])
events-more [] [] event item are is = (is, tt)
events-more [] (i ∷ items) event item are is = absurd are
events-more (e ∷ events) [] event item are is = absurd are
events-more (e ∷ events) (i ∷ items) event item are is = (are.0, events-more events items event item are.1 is)

-- The events in front of this place were read, and reading goes on here.
pub record Skimmed (at : ℕ) (body : List ℕ) (old : List EventAt) (here : ℕ) (previous : Head) (rest : List ℕ) (events : List EventAt) : Type 0 where
  pub before : HeadState
  pub same : head_of before ≡ previous
  pub items : List Item
  pub going : Going block.Event at body [] here before rest items
  pub told : List EventAt
  pub added : events ≡ old ++ told
  pub are : AreEvents told items

pub skimmed_start : (at size : ℕ) (body : List ℕ) (old : List EventAt) → header_at at body ≡ Ok size → size ≤ length body → Skimmed at body old size (head_of zero_state) (drop size body) old
skimmed_start at size body old headed within = record {
  before = zero_state;
  same = refl;
  items = [];
  going = going_start block.Event at size body [] headed within;
  told = [];
  added = sym (append-nil old);
  are = tt;
}

pub skimmed_step : (at here used : ℕ) (body : List ℕ) (old events new : List EventAt) (previous now : Head) (rest : List ℕ) → Skimmed at body old here previous rest events → 0 < length rest → SkimsBlob previous rest now used → new ≡ events ++ record { at = at + here; names = now.names } ∷ [] → Skimmed at body old (here + (used + now.size)) now (drop (used + now.size) rest) new
skimmed_step at here used body old events new previous now rest skimmed some skims e =
    let one = skims skimmed.before skimmed.same in
    let state = one.state in
    let payload : List ℕ = take state.size (drop used rest) in
    let more : EventRest = record { processor = state.processor; thread = state.thread; stamp = state.stamp; activity = state.activity; related = state.related; payload = payload } in
    let event : EventAt = record { at = at + here; names = (head_of state).names } in
    let item : Item = item_of event more in
    let next = going_step block.Event at here body [] skimmed.items (skimmed.items ++ item ∷ []) skimmed.before rest (record { kind = item.kind; head = state; used = used + state.size }) skimmed.going some
    (record {
      some = omega (arith, one.reads.some);
      within = one.reads.within;
      read = blob_found block.Event at here used skimmed.before state rest item.kind one.reads (λ place. refl);
    })
    refl in
    let is : event ≡ record { at = at + here; names = now.names } = ap (λ (h : Head). record { at = at + here; names = h.names }) one.kept in
    let size : state.size ≡ now.size = ap (λ (h : Head). h.size) one.kept in
    subst (λ (n : ℕ). Skimmed at body old (here + (used + n)) now (drop (used + n) rest) new) size
    (record {
      before = state;
      same = one.kept;
      items = skimmed.items ++ item ∷ [];
      going = next;
      told = skimmed.told ++ event ∷ [];
      added = e ∙ ap (λ (last : EventAt). events ++ last ∷ []) (sym is) ∙ ap (λ (front : List EventAt). front ++ event ∷ []) skimmed.added ∙ append_assoc old skimmed.told (event ∷ []);
      are = events-more skimmed.told skimmed.items event item skimmed.are (record { rest = more; is = refl });
    })

-- The blob stands within the bytes.
pub record Within (rest : List ℕ) (now : Head) (used : ℕ) : Type 0 where
  pub some : 0 < used
  pub most : used + now.size ≤ length rest

skims_within : (at here used : ℕ) (body : List ℕ) (old events : List EventAt) (previous now : Head) (rest : List ℕ) → Skimmed at body old here previous rest events → SkimsBlob previous rest now used → Within rest now used
skims_within at here used body old events previous now rest skimmed skims =
    let one = skims skimmed.before skimmed.same in
    let size : one.state.size ≡ now.size = ap (λ (h : Head). h.size) one.kept in
    record { some = one.reads.some; most = omega (arith, one.reads.within, size) }

-- The same of the bytes from a place on.
pub skims_here : (at here used : ℕ) (body : List ℕ) (old events : List EventAt) (previous now : Head) → Skimmed at body old here previous (drop here body) events → SkimsBlob previous (take (length body - here) (drop here body)) now used → Within (drop here body) now used
skims_here at here used body old events previous now skimmed skims =
    let here_on : SkimsBlob previous (drop here body) now used = rw (rest_is here body) at skims in
    skims_within at here used body old events previous now (drop here body) skimmed here_on

pub skimmed_end : (at here : ℕ) (body : List ℕ) (old events : List EventAt) (previous : Head) (rest : List ℕ) → Skimmed at body old here previous rest events → length rest ≡ 0 → AppendsEvents (blob_body_at block.Event at body) old events
skimmed_end at here body old events previous rest skimmed none =
    let all = going_end block.Event at here body [] skimmed.items skimmed.before rest skimmed.going none in
    record {
      found = all.found;
      reads = all.reads;
      told = skimmed.told;
      are = subst (λ (items : List Item). AreEvents skimmed.told items) all.added skimmed.are;
      added = skimmed.added;
    }

pub skimmed_stop : (at here : ℕ) (body : List ℕ) (old events : List EventAt) (previous : Head) (rest : List ℕ) (why : BodyFault) → Skimmed at body old here previous rest events → 0 < length rest → ((before : HeadState) → head_of before ≡ previous → IsFault (blob_at block.Event (record { at = at + here; before = before }) rest) at why) → IsFault (blob_body_at block.Event at body) at why
skimmed_stop at here body old events previous rest why skimmed some stops =
    going_stop block.Event at here body [] skimmed.items skimmed.before rest why skimmed.going some (stops skimmed.before skimmed.same)
