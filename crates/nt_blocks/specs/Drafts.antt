-- The bodies of blobs that are written (this project's profile).
use Rattle.std.specs.Prelude.{ℕ, ◌+◌, true, List, [], ◌∷◌, ◌++◌, length, map, min, max, fold}
use Rattle.std.specs.Int.{w16, w64}
use Rattle.std.specs.List.{concat}
use Rattle.ep_defs.specs.declared.event.EventDef.{EventDef}
use Rattle.pt_num.specs.Numbers.{fixed}
use Rattle.nt_head.specs.declared.head.HeadState.{HeadState}
use Rattle.nt_head.specs.Head.{zero_state}
use Rattle.nt_head.specs.Fewest.{head_bytes}
use Rattle.nt_meta.specs.Meta.{meta_payload}
use Rattle.nt_blocks.specs.declared.limits.TheConstants.{HEADER_BYTES}

-- A blob before it has bytes: what its header is to say, and its payload.
pub record Draft : Type 0 where
  pub state : HeadState
  pub payload : List ℕ

-- Each header says what is new after the one before it.
abbrev pub drafts_bytes : HeadState → List Draft → List ℕ
drafts_bytes before [] = []
drafts_bytes before (draft ∷ drafts) = head_bytes before draft.state ++ draft.payload ++ drafts_bytes draft.state drafts

-- The stamps of the blobs.
abbrev pub stamps : List Draft → List ℕ
stamps drafts = map (λ d. d.state.stamp) drafts

-- The least and the greatest of the numbers, or 0 where there are none.
abbrev pub least : List ℕ → ℕ
least [] = 0
least (n ∷ ns) = fold min n ns

-- The greatest of some numbers, 0 where there are none.
abbrev pub greatest : List ℕ → ℕ
greatest [] = 0
greatest (n ∷ ns) = fold max n ns

-- A header of 20 bytes that says how its blobs are compressed, and the blobs.
abbrev pub blob_body : List Draft → List ℕ
blob_body drafts =
    concat
    (fixed w16 HEADER_BYTES ∷ fixed w16 1 ∷ fixed w64 (least (stamps drafts)) ∷ fixed w64 (greatest (stamps drafts)) ∷ drafts_bytes zero_state drafts ∷ [])

-- In a metadata blob's header all is 0 but the size, and it counts as sorted.
abbrev pub meta_draft : ℕ → EventDef → Draft
meta_draft id def =
    let payload = meta_payload id def in
    record { state = record zero_state { sorted = true; size = length payload }; payload = payload }

-- The definitions under the ids from this one on.
abbrev pub meta_drafts : ℕ → List EventDef → List Draft
meta_drafts id [] = []
meta_drafts id (def ∷ defs) = meta_draft id def ∷ meta_drafts (id + 1) defs
