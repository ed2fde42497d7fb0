use Rattle.std.proofs.Common.{rules, ◌≡◌, [], length, ap, sym, subst, ◌∙◌}
use Rattle.std.proofs.lemmas.Bool.{false≢true}
use Rattle.nt_blocks.specs.Value.{AreBlobs, Making}
use Rattle.nt_blocks.specs.Drafts.{Draft}
use Rattle.nt_blocks.specs.Making.{IsMaking, MayAdd}
use Rattle.nt_head.specs.declared.head.HeadState.{HeadState}
use Rattle.nt_head.specs.Fewest.{head_bytes}
use Rattle.nt_blocks.proofs.Whole.{whole_more}
use Rattle.nt_blocks.proofs.PutBlobs.{none_exactly, first_stamps, later_stamps, made_more}
use Rattle.nt_blocks.proofs.blob_block.BlobBlock.add.Goals as goal

pub returns-then-is_first-clause-ok : goal.returns-then-is_first-clause-ok
returns-then-is_first-clause-ok c = λ drafts making.
    let old : Making = record { kind = c.self.inside.kind; bytes = c.self.inside.bytes.items; last = c.self.inside.last; least = c.self.inside.least; greatest = c.self.inside.greatest } in
    let was : IsMaking drafts old = subst (λ (m : Making). IsMaking drafts m) (sym c.self.view_is) making in
    let draft : Draft = record { state = c.args.head.now; payload = c.args.payload.now } in
    let new : Making = record { kind = c.self.inside.kind; bytes = c.put_blob.new.out.items; last = c.put_blob.new.last; least = c.args.head.now.stamp; greatest = c.args.head.now.stamp } in
    let none = (none_exactly drafts _ (c.self.inside.bytes.ok.0 ∙ ap length was.bytes)).0 (sym c.is_empty-is_first.ensures ∙ c.if-is_first.true) in
    let found = first_stamps drafts draft none in
    made_more drafts draft old new was c.in_ok-put_blob.ensures.ok c.in_ok-put_blob.ensures.last found.0 found.1

pub returns-else-is_first-clause-ok : goal.returns-else-is_first-clause-ok
returns-else-is_first-clause-ok c = λ drafts making.
    let old : Making = record { kind = c.self.inside.kind; bytes = c.self.inside.bytes.items; last = c.self.inside.last; least = c.self.inside.least; greatest = c.self.inside.greatest } in
    let was : IsMaking drafts old = subst (λ (m : Making). IsMaking drafts m) (sym c.self.view_is) making in
    let draft : Draft = record { state = c.args.head.now; payload = c.args.payload.now } in
    let new : Making = record { kind = c.self.inside.kind; bytes = c.put_blob.new.out.items; last = c.put_blob.new.last; least = c.min-self-inside.result; greatest = c.max-self-inside.result } in
    let exactly = none_exactly drafts _ (c.self.inside.bytes.ok.0 ∙ ap length was.bytes) in
    let some : drafts ≡ [] → ⊥ = λ none. false≢true (sym c.if-is_first.false ∙ c.is_empty-is_first.ensures ∙ exactly.1 none) in
    let found = later_stamps drafts draft some in
    made_more drafts draft old new was c.in_ok-put_blob.ensures.ok c.in_ok-put_blob.ensures.last
    (c.min-self-inside.ensures ∙ (rw was.least_stamp found.0)) (c.max-self-inside.ensures ∙ (rw was.greatest_stamp found.1))

pub invariant_of-self-then-is_first : goal.invariant_of-self-then-is_first
invariant_of-self-then-is_first c = record {
  few = search rules;
  quiet = search rules;
  of_blobs = c.self.invariant.of_blobs;
  whole =
      subst (λ (s : HeadState). AreBlobs c.self.inside.kind c.put_blob.new.out.items s) (sym c.in_ok-put_blob.ensures.last)
      (whole_more c.self.inside.kind c.self.inside.bytes.items c.put_blob.new.out.items (head_bytes c.self.inside.last c.args.head.now) c.args.payload.now c.self.inside.last c.args.head.now c.self.invariant.whole c.in_ok-put_blob.ensures.form c.requires.size (subst (λ (m : Making). MayAdd m.kind c.args.head.now c.args.payload.now) (sym c.self.view_is) c.requires.holds) c.in_ok-put_blob.ensures.ok);
}

pub invariant_of-self-else-is_first : goal.invariant_of-self-else-is_first
invariant_of-self-else-is_first c = record {
  few = search rules;
  quiet = search rules;
  of_blobs = c.self.invariant.of_blobs;
  whole =
      subst (λ (s : HeadState). AreBlobs c.self.inside.kind c.put_blob.new.out.items s) (sym c.in_ok-put_blob.ensures.last)
      (whole_more c.self.inside.kind c.self.inside.bytes.items c.put_blob.new.out.items (head_bytes c.self.inside.last c.args.head.now) c.args.payload.now c.self.inside.last c.args.head.now c.self.invariant.whole c.in_ok-put_blob.ensures.form c.requires.size (subst (λ (m : Making). MayAdd m.kind c.args.head.now c.args.payload.now) (sym c.self.view_is) c.requires.holds) c.in_ok-put_blob.ensures.ok);
}
