-- A body in the making is one of the format.
use Rattle.std.proofs.Common.{◌≡◌, ℕ, ◌+◌, inl, inr, List, [], ◌∷◌, ◌++◌, length, refl, sym, ap, subst, ◌∙◌, append_assoc, arith}
use Rattle.std.specs.Prelude.{◌⊎◌}
use Rattle.std.specs.Int.{w16, w64}
use Rattle.std.specs.List.{flat_map}
use Rattle.std.proofs.lemmas.List.{append-nil}
use Rattle.ep_defs.specs.Ranges.{AreBytes}
use Rattle.ep_defs.specs.declared.item.Item.{Item}
use Rattle.ep_defs.specs.declared.item.ItemKind.{ItemKind}
use Rattle.ep_defs.specs.declared.item.ItemKind.TheVariants as item
use Rattle.pt_num.specs.Numbers.{fixed}
use Rattle.nt_object.specs.declared.object.BlockKind.{BlockKind}
use Rattle.nt_object.specs.declared.object.BlockKind.TheVariants as block
use Rattle.nt_head.specs.declared.head.HeadState.{HeadState}
use Rattle.nt_head.specs.Head.{IsHead, zero_state}
use Rattle.nt_blocks.specs.Bodies.{AreChained, AreItems, Blob, IsBlobBody, IsBody, blob_bytes}
use Rattle.nt_blocks.specs.Making.{MayAdd}
use Rattle.nt_blocks.specs.Value.{AreBlobs, EachHolds, HoldsIn, last_head}

chained-more : (before : HeadState) (blobs : List Blob) (blob : Blob) → AreChained before blobs → IsHead (last_head before blobs) blob.state blob.head → length blob.payload ≡ blob.state.size → AreChained before (blobs ++ blob ∷ [])
chained-more before [] blob chained is sized = (is, sized, tt)
chained-more before (b ∷ blobs) blob chained is sized =
    (chained.0, chained.1, chained-more b.state blobs blob chained.2 is sized)

last-more : (before : HeadState) (blobs : List Blob) (blob : Blob) → last_head before (blobs ++ blob ∷ []) ≡ blob.state
last-more before [] blob = refl
last-more before (b ∷ blobs) blob = last-more b.state blobs blob

hold-more : (kind : BlockKind) (blobs : List Blob) (blob : Blob) (held : ItemKind) → EachHolds kind blobs → HoldsIn kind blob held → EachHolds kind (blobs ++ blob ∷ [])
hold-more kind [] blob held hold holds = ((held, holds), tt)
hold-more kind (b ∷ blobs) blob held hold holds = (hold.0, hold-more kind blobs blob held hold.1 holds)

bytes-more : (blobs : List Blob) (blob : Blob) → flat_map blob_bytes (blobs ++ blob ∷ []) ≡ flat_map blob_bytes blobs ++ blob_bytes blob
bytes-more [] blob = append-nil (blob_bytes blob)
bytes-more (b ∷ blobs) blob =
    ap (λ (r : List ℕ). blob_bytes b ++ r) (bytes-more blobs blob)
    ∙ sym (append_assoc (blob_bytes b) (flat_map blob_bytes blobs) (blob_bytes blob))

-- What may be added holds an item.
holds-item : (kind : BlockKind) (blob : Blob) → MayAdd kind blob.state blob.payload → (held : ItemKind) × HoldsIn kind blob held
holds-item block.Event blob may =
    (item.Event blob.state.metadata blob.state.number blob.state.capture blob.state.processor blob.state.thread blob.state.stack blob.state.stamp blob.state.activity blob.state.related blob.payload, (may, refl))
holds-item block.Metadata blob may = (item.Meta may.id may.def, (may.id, may.def, may.meta, refl))
holds-item block.Stack blob may = absurd may
holds-item block.Point blob may = absurd may

-- A blob more keeps it whole.
pub whole_more : (kind : BlockKind) (bytes new head_said payload : List ℕ) (last head : HeadState) → AreBlobs kind bytes last → IsHead last head head_said → head.size ≡ length payload → MayAdd kind head payload → new ≡ bytes ++ head_said ++ payload → AreBlobs kind new head
whole_more kind bytes new head_said payload last head whole is sized may e =
    let blob : Blob = record { head = head_said; state = head; payload = payload } in
    let held = holds-item kind blob may in
    record {
      blobs = whole.blobs ++ blob ∷ [];
      spelled =
          e
          ∙ append_assoc bytes head_said payload
          ∙ ap (λ (r : List ℕ). r ++ blob_bytes blob) whole.spelled
          ∙ sym (bytes-more whole.blobs blob);
      chained = chained-more zero_state whole.blobs blob whole.chained (subst (λ (s : HeadState). IsHead s head head_said) whole.latest is) (sym sized);
      latest = sym (last-more zero_state whole.blobs blob);
      hold = hold-more kind whole.blobs blob held.0 whole.hold held.1;
    }

items-of : (kind : BlockKind) (at : ℕ) (blobs : List Blob) → EachHolds kind blobs → (items : List Item) × AreItems (HoldsIn kind) at blobs items
items-of kind at [] hold = ([], refl)
items-of kind at (blob ∷ blobs) hold =
    let rest = items-of kind (at + length (blob_bytes blob)) blobs hold.1 in
    (record { at = at; kind = hold.0.0 } ∷ rest.0, (hold.0.0, rest.0, hold.0.1, rest.1, refl))

-- What is put of it, in five pieces.
pub five_put : (o1 o2 o3 o4 o5 a b c d e : List ℕ) → o1 ≡ a → o2 ≡ o1 ++ b → o3 ≡ o2 ++ c → o4 ≡ o3 ++ d → o5 ≡ o4 ++ e → o5 ≡ a ++ (b ++ (c ++ (d ++ e)))
five_put o1 o2 o3 o4 o5 a b c d e e1 e2 e3 e4 e5 =
    e5
    ∙ ap (λ (r : List ℕ). r ++ e) (e4 ∙ ap (λ (r : List ℕ). r ++ d) (e3 ∙ ap (λ (r : List ℕ). r ++ c) (e2 ∙ ap (λ (r : List ℕ). r ++ b) e1)))
    ∙ (simp append_assoc)

blob_body-whole : (Holds : Blob → ItemKind → Type 0) (at : ℕ) (items : List Item) (blobs : List Blob) (body : List ℕ) (least greatest : ℕ) → AreChained zero_state blobs → AreItems Holds (at + 20) blobs items → body ≡ fixed w16 20 ++ (fixed w16 1 ++ (fixed w64 least ++ (fixed w64 greatest ++ flat_map blob_bytes blobs))) → AreBytes body → IsBlobBody Holds at items body
blob_body-whole Holds at items blobs body least greatest chained hold e fit =
    record {
      flags = 1;
      least = least;
      greatest = greatest;
      more = [];
      blobs = blobs;
      spelled = e ∙ ap (λ (r : List ℕ). fixed w16 20 ++ (fixed w16 1 ++ (fixed w64 least ++ (fixed w64 greatest ++ r)))) (sym (append-nil (flat_map blob_bytes blobs)));
      size_fits = omega arith;
      flags_fit = omega arith;
      compressed = refl;
      chained = chained;
      hold = hold;
      bytes_fit = fit;
    }

-- With its header it is a body of the format.
pub whole_body : (kind : BlockKind) (at : ℕ) (bytes body : List ℕ) (last : HeadState) (least greatest : ℕ) → (kind ≡ block.Event) ⊎ (kind ≡ block.Metadata) → AreBlobs kind bytes last → body ≡ fixed w16 20 ++ (fixed w16 1 ++ (fixed w64 least ++ (fixed w64 greatest ++ bytes))) → AreBytes body → (items : List Item) × IsBody kind at items body
whole_body block.Event at bytes body last least greatest of_blobs whole e fit =
    let items = items-of block.Event (at + 20) whole.blobs whole.hold in
    (items.0, blob_body-whole (HoldsIn block.Event) at items.0 whole.blobs body least greatest whole.chained items.1 (e ∙ ap (λ (r : List ℕ). fixed w16 20 ++ (fixed w16 1 ++ (fixed w64 least ++ (fixed w64 greatest ++ r)))) whole.spelled) fit)
whole_body block.Metadata at bytes body last least greatest of_blobs whole e fit =
    let items = items-of block.Metadata (at + 20) whole.blobs whole.hold in
    (items.0, blob_body-whole (HoldsIn block.Metadata) at items.0 whole.blobs body least greatest whole.chained items.1 (e ∙ ap (λ (r : List ℕ). fixed w16 20 ++ (fixed w16 1 ++ (fixed w64 least ++ (fixed w64 greatest ++ r)))) whole.spelled) fit)
whole_body block.Stack at bytes body last least greatest of_blobs whole e fit =
    absurd (elim of_blobs [ inl other ↦ cc | inr other ↦ cc ])
whole_body block.Point at bytes body last least greatest of_blobs whole e fit =
    absurd (elim of_blobs [ inl other ↦ cc | inr other ↦ cc ])
