-- A body that is made of drafts is a body of blobs.
use Rattle.std.proofs.Common.{◌≡◌, ℕ, zero, suc, ◌+◌, ◌^◌, ◌<◌, ◌≤◌, List, [], ◌∷◌, ◌++◌, length, refl, ap, sym, arith, length-append}
use Rattle.std.proofs.lemmas.List.{append-nil}
use Rattle.std.specs.Prelude.{map, replicate}
use Rattle.std.proofs.lemmas.List.Elements.{All-nil}
use Rattle.std.specs.List.{concat, flat_map, AllByRecursion}
use Rattle.std.specs.Int.{w16, w64}
use Rattle.ep_defs.specs.declared.limits.TheConstants.{PAYLOAD_BYTES}
use Rattle.ep_defs.specs.declared.event.EventDef.{EventDef}
use Rattle.ep_defs.specs.declared.item.Item.{Item}
use Rattle.ep_defs.specs.declared.item.ItemKind.{ItemKind}
use Rattle.ep_defs.specs.declared.item.ItemKind.TheVariants as item
use Rattle.nt_head.specs.declared.head.HeadState.{HeadState}
use Rattle.pt_num.specs.Numbers.{fixed}
use Rattle.nt_head.specs.Head.{IsState, zero_state}
use Rattle.nt_meta.specs.Meta.{meta_payload}
use Rattle.nt_blocks.specs.Bodies.{Blob, blob_bytes, AreChained, HoldsEvent, HoldsMeta, AreItems, IsBlobBody}
use Rattle.nt_blocks.specs.Ordered.{kinds_of}
use Rattle.nt_blocks.specs.Drafts.{Draft, drafts_bytes, stamps, least, greatest, blob_body, meta_draft, meta_drafts}
use Rattle.nt_blocks.proofs.PutBlobs.{length-blob_body}
use Rattle.nt_head.specs.Fewest.{head_bytes}
use Rattle.nt_write.specs.Writable.{CanDefine}
use Rattle.nt_head.proofs.Heads.{MayFollow, head-is, head-len}
use Rattle.nt_write.proofs.Bytes.{AreLow, IsLow, bytes-of, low-meta, low-body}

-- ---- blobs

-- The blobs that drafts become.
abbrev pub blobs_of : HeadState → List Draft → List Blob
blobs_of before [] = []
blobs_of before (draft ∷ drafts) =
    record { head = head_bytes before draft.state; state = draft.state; payload = draft.payload } ∷ blobs_of draft.state drafts

-- The bytes of drafts are those of their blobs.
pub drafts_bytes-is : (before : HeadState) (drafts : List Draft) → drafts_bytes before drafts ≡ flat_map blob_bytes (blobs_of before drafts)
drafts_bytes-is before [] = refl
drafts_bytes-is before (draft ∷ drafts) = ap (λ (bytes : List ℕ). head_bytes before draft.state ++ draft.payload ++ bytes) (drafts_bytes-is draft.state drafts)

-- Each draft may follow the one before it, and says the size of its payload.
abbrev pub CanChain : HeadState → List Draft → Type 0
CanChain before [] = Unit {0}
CanChain before (draft ∷ drafts) = MayFollow before draft.state × (length draft.payload ≡ draft.state.size) × CanChain draft.state drafts

-- The blobs of drafts that may be chained are chained.
pub chain-is : (before : HeadState) (drafts : List Draft) → CanChain before drafts → AreChained before (blobs_of before drafts)
chain-is before [] h = tt
chain-is before (draft ∷ drafts) h = (head-is before draft.state h.0, h.1, chain-is draft.state drafts h.2)

-- ---- items

-- Each blob holds the kind at its place.
abbrev pub HoldEach : (Blob → ItemKind → Type 0) → List Blob → List ItemKind → Type 0
HoldEach Holds [] [] = Unit {0}
HoldEach Holds [] (kind ∷ kinds) = ⊥
HoldEach Holds (blob ∷ blobs) [] = ⊥
HoldEach Holds (blob ∷ blobs) (kind ∷ kinds) = Holds blob kind × HoldEach Holds blobs kinds

-- One item for each blob, at its first byte.
abbrev pub items_at : ℕ → List Blob → List ItemKind → List Item
items_at at [] kinds = []
items_at at (blob ∷ blobs) [] = []
items_at at (blob ∷ blobs) (kind ∷ kinds) = record { at = at; kind = kind } ∷ items_at (at + length (blob_bytes blob)) blobs kinds

-- These are the items of the blobs.
pub items-are : (Holds : Blob → ItemKind → Type 0) (at : ℕ) (blobs : List Blob) (kinds : List ItemKind) → HoldEach Holds blobs kinds → AreItems Holds at blobs (items_at at blobs kinds)
items-are Holds at [] kinds h = refl
items-are Holds at (blob ∷ blobs) [] h = absurd h
items-are Holds at (blob ∷ blobs) (kind ∷ kinds) h =
    let next = at + length (blob_bytes blob) in
    (kind, items_at next blobs kinds, h.0, items-are Holds next blobs kinds h.1, refl)

-- Their kinds are the ones that were given.
pub kinds-at : (Holds : Blob → ItemKind → Type 0) (at : ℕ) (blobs : List Blob) (kinds : List ItemKind) → HoldEach Holds blobs kinds → kinds_of (items_at at blobs kinds) ≡ kinds
kinds-at Holds at [] [] h = refl
kinds-at Holds at [] (kind ∷ kinds) h = absurd h
kinds-at Holds at (blob ∷ blobs) [] h = absurd h
kinds-at Holds at (blob ∷ blobs) (kind ∷ kinds) h = ap (λ (ks : List ItemKind). kind ∷ ks) (kinds-at Holds (at + length (blob_bytes blob)) blobs kinds h.1)

-- A body of drafts that may be chained.
pub blob_body-is : (Holds : Blob → ItemKind → Type 0) (at : ℕ) (drafts : List Draft) (kinds : List ItemKind) → CanChain zero_state drafts → AllByRecursion IsLow drafts → HoldEach Holds (blobs_of zero_state drafts) kinds → IsBlobBody Holds at (items_at (at + 20) (blobs_of zero_state drafts) kinds) (blob_body drafts)
blob_body-is Holds at drafts kinds can low hold = record {
  flags = 1;
  least = least (stamps drafts);
  greatest = greatest (stamps drafts);
  more = [];
  blobs = blobs_of zero_state drafts;
  spelled = ap (λ (bytes : List ℕ). concat (fixed w16 20 ∷ fixed w16 1 ∷ fixed w64 (least (stamps drafts)) ∷ fixed w64 (greatest (stamps drafts)) ∷ bytes ∷ [])) (drafts_bytes-is zero_state drafts);
  size_fits = omega arith;
  flags_fit = omega arith;
  compressed = refl;
  chained = chain-is zero_state drafts can;
  hold = items-are Holds (at + 20) (blobs_of zero_state drafts) kinds hold;
  bytes_fit = bytes-of (blob_body drafts) (low-body zero_state drafts low);
}

-- ---- lengths

-- What is longer behind a blob is longer with it.
longer-rest : (head payload rest more : List ℕ) (n : ℕ) → length more ≤ length rest + n → length (head ++ payload ++ more) ≤ length (head ++ payload ++ rest) + n
longer-rest head payload rest more n h = omega (arith, length-append (head ++ payload) more, length-append (head ++ payload) rest)

-- A blob with nothing behind it.
last-blob : (head payload : List ℕ) → length head ≤ 88 → length (head ++ payload ++ []) ≤ 0 + (88 + length payload)
last-blob head payload h = omega (arith, length-append (head ++ payload) [], length-append head payload)

-- One draft more.
pub drafts-len-more : (before : HeadState) (drafts : List Draft) (draft : Draft) → IsState draft.state → length (drafts_bytes before (drafts ++ draft ∷ [])) ≤ length (drafts_bytes before drafts) + (88 + length draft.payload)
drafts-len-more before [] draft h = last-blob (head_bytes before draft.state) draft.payload (head-len before draft.state h)
drafts-len-more before (d ∷ drafts) draft h =
    longer-rest (head_bytes before d.state) d.payload (drafts_bytes d.state drafts) (drafts_bytes d.state (drafts ++ draft ∷ [])) (88 + length draft.payload)
    (drafts-len-more d.state drafts draft h)

-- A body with one blob more is longer by its payload and 88 bytes at most.
pub body-len-more : (drafts : List Draft) (draft : Draft) → IsState draft.state → length (blob_body (drafts ++ draft ∷ [])) ≤ length (blob_body drafts) + (88 + length draft.payload)
body-len-more drafts draft h =
    within (length (blob_body (drafts ++ draft ∷ []))) (length (drafts_bytes zero_state (drafts ++ draft ∷ []))) (length (blob_body drafts)) (length (drafts_bytes zero_state drafts)) (88 + length draft.payload)
    (length-blob_body (drafts ++ draft ∷ [])) (length-blob_body drafts) (drafts-len-more zero_state drafts draft h)
  where
    within : (a b c d n : ℕ) → a ≡ 20 + b → c ≡ 20 + d → b ≤ d + n → a ≤ c + n
    within a b c d n p q r = omega arith

-- ---- events

-- What a draft of an event holds.
abbrev pub event_kind : Draft → ItemKind
event_kind draft =
    item.Event draft.state.metadata draft.state.number draft.state.capture draft.state.processor draft.state.thread draft.state.stack draft.state.stamp draft.state.activity draft.state.related draft.payload

-- A draft that can be the blob of an event.
pub record IsEventDraft (draft : Draft) : Type 0 where
  pub fits : IsState draft.state
  pub some : 0 < draft.state.metadata
  pub size : length draft.payload ≡ draft.state.size
  pub low : IsLow draft

-- Drafts of events may be chained after any blob whose stamp fits.
pub events-chain : (before : HeadState) (drafts : List Draft) → before.stamp < 2 ^ 64 → AllByRecursion IsEventDraft drafts → CanChain before drafts
events-chain before [] b h = tt
events-chain before (draft ∷ drafts) b h =
    (record { fits = h.0.fits; stamp = b; number = λ z. absurd (omega (arith, h.0.some)) }, h.0.size, events-chain draft.state drafts h.0.fits.stamp h.1)

-- They are bytes.
pub events-low : (drafts : List Draft) → AllByRecursion IsEventDraft drafts → AllByRecursion IsLow drafts
events-low [] h = tt
events-low (draft ∷ drafts) h = (h.0.low, events-low drafts h.1)

-- Their blobs hold the events.
pub events-hold : (before : HeadState) (drafts : List Draft) → AllByRecursion IsEventDraft drafts → HoldEach HoldsEvent (blobs_of before drafts) (map event_kind drafts)
events-hold before [] h = tt
events-hold before (draft ∷ drafts) h = ((h.0.some, refl), events-hold draft.state drafts h.1)

-- ---- definitions

-- What the drafts of definitions hold.
abbrev pub meta_kinds : ℕ → List EventDef → List ItemKind
meta_kinds id [] = []
meta_kinds id (def ∷ defs) = item.Meta id def ∷ meta_kinds (id + 1) defs

-- What a metadata blob's header says fits its places.
pub meta-state : (id : ℕ) (def : EventDef) → CanDefine def → IsState (meta_draft id def).state
meta-state id def h =
    let short : length (meta_payload id def) ≤ PAYLOAD_BYTES = h.short id in
    record {
      ids = record {
        metadata = omega arith;
        number = omega arith;
        processor = omega arith;
        stack = omega arith;
        size = below (length (meta_payload id def)) short;
      };
      capture = omega arith;
      thread = omega arith;
      stamp = omega arith;
      activity = refl;
      related = refl;
    }
  where
    below : (n : ℕ) → n ≤ PAYLOAD_BYTES → n < 2 ^ 32
    below n h = omega arith

-- Drafts of definitions may be chained after a blob without a number.
pub metas-chain : (before : HeadState) (id : ℕ) (defs : List EventDef) → before.stamp ≡ 0 → before.number ≡ 0 → AllByRecursion CanDefine defs → CanChain before (meta_drafts id defs)
metas-chain before id [] stamp number h = tt
metas-chain before id (def ∷ defs) stamp number h = (
  record { fits = meta-state id def h.0; stamp = omega arith; number = λ z. sym number },
  refl,
  metas-chain (meta_draft id def).state (id + 1) defs refl refl h.1,
)

-- Zeros are bytes.
low-zeros : (n : ℕ) → AreLow (replicate n 0)
low-zeros zero = tt
low-zeros (suc n) = (omega arith, low-zeros n)

-- They are bytes.
pub metas-low : (id : ℕ) (defs : List EventDef) → AllByRecursion IsLow (meta_drafts id defs)
metas-low id [] = tt
metas-low id (def ∷ defs) = (record { activity = zeros; related = zeros; payload = low-meta id def }, metas-low (id + 1) defs)
  where
    zeros : AreLow zero_state.activity
    zeros = low-zeros 16

-- Their blobs hold the definitions, where the ids fit.
pub metas-hold : (before : HeadState) (id : ℕ) (defs : List EventDef) → 0 < id → id + length defs ≤ 2 ^ 31 → AllByRecursion CanDefine defs → HoldEach HoldsMeta (blobs_of before (meta_drafts id defs)) (meta_kinds id defs)
metas-hold before id [] some few h = tt
metas-hold before id (def ∷ defs) some few h = (
  (id, def, record { more = []; spelled = sym (append-nil (meta_payload id def)); not_zero = some; id_fits = omega arith; def_fits = h.0.fits; more_bytes = All-nil (λ byte. byte < 2 ^ 8) }, refl),
  metas-hold (meta_draft id def).state (id + 1) defs (omega arith) (omega arith) h.1,
)
