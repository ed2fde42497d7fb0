use Rattle.std.proofs.Common.{◌≡◌, ◌∙◌, ◌++◌, [], ◌∷◌, Bool, List, ap, sym, subst}
use Rattle.std.specs.Prelude.{if◌then◌else◌}
use Rattle.std.specs.List.{All}
use Rattle.ep_chunk.specs.Record.{Record, record_of, size_of}
use Rattle.ep_model.specs.Budget.{needs_chunk}
use Rattle.ep_slot.specs.Chain.{records_of, pending_of, with_last, HasRecords}
use Rattle.ep_slot.proofs.Chains.{kept-records, kept-pending, kept-filled, kept-last, begun-pending, begun-filled, needed}
use Rattle.ep_slot.proofs.keep.keep.Goals as goal

pub returns-then-append_last-clause-records : goal.returns-then-append_last-clause-records
returns-then-append_last-clause-records g c =
    let chain = c.args.chain.now in
    let r : Record = record_of c.args.rec.now in
    let kept = kept-last chain c.append_last.new.chain r c.append_last.result c.if-append_last.true c.append_last.ensures.room c.append_last.ensures.kept in
    ap records_of kept.is ∙ kept-records chain r (size_of r) kept.fits

pub returns-then-append_last-clause-pending : goal.returns-then-append_last-clause-pending
returns-then-append_last-clause-pending g c =
    let chain = c.args.chain.now in
    let r : Record = record_of c.args.rec.now in
    let kept = kept-last chain c.append_last.new.chain r c.append_last.result c.if-append_last.true c.append_last.ensures.room c.append_last.ensures.kept in
    ap pending_of kept.is ∙ kept-pending chain r kept.fits

pub returns-then-append_last-clause-filled : goal.returns-then-append_last-clause-filled
returns-then-append_last-clause-filled g c filled =
    let chain = c.args.chain.now in
    let r : Record = record_of c.args.rec.now in
    let kept = kept-last chain c.append_last.new.chain r c.append_last.result c.if-append_last.true c.append_last.ensures.room c.append_last.ensures.kept in
    subst (All HasRecords) (sym kept.is) (kept-filled chain r (size_of r) kept.fits filled)

pub returns-in-Some-clause-pending : goal.returns-in-Some-clause-pending
returns-in-Some-clause-pending g c =
    let chain = c.args.chain.now in
    let r : Record = record_of c.args.rec.now in
    let yes = needed (needs_chunk (pending_of chain) (size_of r)) (sym c.if-append_last.false ∙ c.append_last.ensures.room) in
    let same : c.append_last.new.chain ≡ chain =
    c.append_last.ensures.kept ∙ ap (λ (v : Bool). if v then with_last chain r else chain) c.if-append_last.false
    in
    ap pending_of (c.join.ensures ∙ ap (λ (xs : List (List Record)). xs ++ c.begin.result) same ∙ ap (λ (xs : List (List Record)). chain ++ xs) c.begin.ensures)
    ∙ begun-pending chain r yes

pub returns-in-Some-clause-filled : goal.returns-in-Some-clause-filled
returns-in-Some-clause-filled g c filled =
    let chain = c.args.chain.now in
    let r : Record = record_of c.args.rec.now in
    let same : c.append_last.new.chain ≡ chain =
    c.append_last.ensures.kept ∙ ap (λ (v : Bool). if v then with_last chain r else chain) c.if-append_last.false
    in
    let is : c.join.new.self ≡ chain ++ (r ∷ []) ∷ [] =
    c.join.ensures ∙ ap (λ (xs : List (List Record)). xs ++ c.begin.result) same ∙ ap (λ (xs : List (List Record)). chain ++ xs) c.begin.ensures
    in
    subst (All HasRecords) (sym is) (begun-filled chain r filled)
