use Rattle.std.proofs.Common.{◌∙◌, ◌++◌, [], ◌∷◌, ℕ, List, ap, sym, subst, arith, refl, vec_capacity}
use Rattle.std.proofs.lemmas.Bool.{false≢true}
use Rattle.ep_chunk.specs.Record.{Record, record_of, total_size}
use Rattle.ep_chunk.specs.Held.{IsHeld, records_in}
use Rattle.ep_chunk.proofs.Holding.{more-held, more-is, used-is}
use Rattle.ep_chunk.proofs.chunk.Chunk.append.Goals as goal

pub returns-then-size-left-clause-fits : goal.returns-then-size-left-clause-fits
returns-then-size-left-clause-fits c =
    let used = used-is c.self.inside.bytes.items (vec_capacity c.self.inside.bytes) c.self.invariant ∙ ap total_size c.self.view_is in
    (λ t. absurd (false≢true t), λ h. absurd (omega arith))

pub returns-clause-fits : goal.returns-clause-fits
returns-clause-fits c =
    let used = used-is c.self.inside.bytes.items (vec_capacity c.self.inside.bytes) c.self.invariant ∙ ap total_size c.self.view_is in
    (λ _. omega arith, λ _. refl)

pub invariant_of-self : goal.invariant_of-self
invariant_of-self c =
    let r = record_of c.args.rec.now in
    let P : List ℕ → Type 0 = λ bytes. IsHeld bytes (vec_capacity c.put_record.new.bytes) in
    subst P (sym c.put_record.ensures.items)
    (more-held c.self.inside.bytes.items (vec_capacity c.self.inside.bytes) (vec_capacity c.put_record.new.bytes) r c.self.invariant c.put_record.ensures.fitting (omega arith) c.put_record.ensures.room)

pub returns-clause-records : goal.returns-clause-records
returns-clause-records c =
    let r = record_of c.args.rec.now in
    ap records_in c.put_record.ensures.items
    ∙ more-is c.self.inside.bytes.items (vec_capacity c.self.inside.bytes) r c.self.invariant c.put_record.ensures.fitting
    ∙ ap (λ (records : List Record). records ++ r ∷ []) c.self.view_is
