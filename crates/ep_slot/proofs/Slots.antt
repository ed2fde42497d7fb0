-- What holds of a slot after each call.
use Rattle.std.proofs.Common.{◌≡◌, ℕ, ◌+◌, ◌<◌, ◌≤◌, List, [], ◌∷◌, ◌++◌, length, refl, ap, sym, subst, arith, length-append}
use Rattle.std.specs.List.{All}
use Rattle.std.proofs.lemmas.List.Elements.{All-nil, All-push}
use Rattle.ep_defs.specs.declared.limits.TheConstants.{WRITES}
use Rattle.ep_chunk.specs.Record.{Record}
use Rattle.ep_model.specs.Budget.{Pending}
use Rattle.ep_slot.specs.Chain.{records_of, HasRecords}
use Rattle.ep_slot.specs.Slot.{SlotState, AreRising}
use Rattle.ep_slot.specs.Held.{IsHeld}
use Rattle.ep_slot.proofs.Chains.{few-chunks}

-- Numbers still rise where the greatest may be greater.
rising-more : (below most more : ℕ) (records : List Record) → most ≤ more → AreRising below most records → AreRising below more records
rising-more below most more [] h rising = omega arith
rising-more below most more (r ∷ records) h rising = (rising.0, rising-more r.number most more records h rising.1)

-- A record with a greater number stands at the end.
rising-push : (below most : ℕ) (records : List Record) (r : Record) → r.number ≡ most + 1 → AreRising below most records → AreRising below (most + 1) (records ++ r ∷ [])
rising-push below most [] r is rising = (omega arith, omega arith)
rising-push below most (first ∷ records) r is rising = (rising.0, rising-push first.number most records r is rising.1)

-- A slot with one record more.
pub held-record : (pending : ℕ) (old : SlotState) (chain chain' : List (List Record)) (r : Record) (budget : Pending) → IsHeld pending old chain → records_of chain' ≡ old.records ++ r ∷ [] → r.number ≡ old.used + 1 → r.thread ≡ old.thread → old.used < WRITES → All HasRecords chain' → IsHeld (pending + 1) (record old { used = old.used + 1; records = records_of chain'; pending = budget }) chain'
held-record pending old chain chain' r budget held is number thread few filled =
    let k = held.kept in
    let len : length (records_of chain') ≡ length old.records + 1 = omega (arith, ap (length {A = Record}) is, length-append old.records (r ∷ [])) in
    record {
      kept =
          record {
            counted = omega (arith, k.counted);
            last = omega (arith, k.last);
            rising = subst (AreRising old.last (old.used + 1)) (sym is) (rising-push old.last old.used old.records r number k.rising);
            of_thread =
                let P : Record → Type 0 = λ x. x.thread ≡ old.thread in
                subst (All P) (sym is) (All-push P old.records r k.of_thread thread);
          };
      count = omega (arith, held.count);
      few = omega arith;
      stolen = held.stolen;
      filled = filled;
    }

-- A slot with one refusal more.
pub held-refusal : (pending : ℕ) (old : SlotState) (chain chain' : List (List Record)) (budget : Pending) → IsHeld pending old chain → old.used < WRITES → records_of chain' ≡ old.records → All HasRecords chain' → IsHeld pending (record old { used = old.used + 1; refused = old.refused + 1; records = records_of chain'; pending = budget }) chain'
held-refusal pending old chain chain' budget held few is filled =
    let k = held.kept in
    let len : length (records_of chain') ≡ length old.records = ap (length {A = Record}) is in
    record {
      kept =
          record {
            counted = omega (arith, k.counted);
            last = omega (arith, k.last);
            rising =
                subst (AreRising old.last (old.used + 1)) (sym is) (rising-more old.last old.used (old.used + 1) old.records (omega arith) k.rising);
            of_thread =
                let P : Record → Type 0 = λ x. x.thread ≡ old.thread in
                subst (All P) (sym is) k.of_thread;
          };
      count = omega (arith, held.count);
      few = omega arith;
      stolen = held.stolen;
      filled = filled;
    }

-- A slot of which all was taken.
pub held-steal : (pending count : ℕ) (old : SlotState) (chain left : List (List Record)) (budget : Pending) → IsHeld pending old chain → records_of chain ≡ old.records → count ≡ length chain → left ≡ [] → IsHeld 0 (record old { taken = old.taken + pending; last = old.used; stolen = old.stolen + count; records = records_of left; pending = budget }) left
held-steal pending count old chain left budget held is same none =
    let k = held.kept in
    let few = few-chunks chain held.filled in
    let len : length (records_of chain) ≡ length old.records = ap (length {A = Record}) is in
    subst
    (λ (xs : List (List Record)). IsHeld 0 (record old { taken = old.taken + pending; last = old.used; stolen = old.stolen + count; records = records_of xs; pending = budget }) xs)
    (sym none)
    (record {
      kept =
          record {
            counted = omega (arith, k.counted, held.count);
            last = omega arith;
            rising = omega arith;
            of_thread = All-nil (λ (x : Record). x.thread ≡ old.thread);
          };
      count = refl;
      few = held.few;
      stolen = omega (arith, held.stolen, held.count);
      filled = All-nil HasRecords;
    })

-- There are few enough chunks to count them.
pub few-held : (pending : ℕ) (old : SlotState) (chain : List (List Record)) → IsHeld pending old chain → records_of chain ≡ old.records → old.stolen + length chain ≤ old.used
few-held pending old chain held is =
    let k = held.kept in
    let few = few-chunks chain held.filled in
    let len : length (records_of chain) ≡ length old.records = ap (length {A = Record}) is in
    omega (arith, k.counted, held.stolen)
