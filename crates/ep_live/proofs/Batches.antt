-- What is numbered among a thread's writes is of an event of the program.
use Rattle.std.proofs.Common.{◌≡◌, ℕ, zero, suc, ◌-◌, Bool, true, false, List, [], ◌∷◌, Option, None, Some, refl, ap, sym, ◌∙◌, cond, drop, filter}
use Rattle.std.specs.Prelude.{slice_get, slice_index_or}
use Rattle.std.specs.List.{All}
use Rattle.std.specs.Option.{option_map_or}
use Rattle.ep_defs.specs.Admits.{session_admits}
use Rattle.ep_defs.specs.Definitions.{definition_at}
use Rattle.ep_defs.specs.declared.event.EventDef.{EventDef}
use Rattle.ep_defs.specs.declared.session.Config.{Config}
use Rattle.ep_defs.specs.declared.session.Write.{Write}
use Rattle.ep_model.specs.History.{admits_write}
use Rattle.ep_chunk.specs.Record.{Record}
use Rattle.ep_slot.specs.Hand.{HandState}
use Rattle.ep_row.specs.AtRest.{IsNumbered, write_of}
use Rattle.ep_guarded.specs.Tied.{AreTaken}
use Rattle.ep_stream.specs.Rows.{IsBatch, IsDefined}
use Rattle.ep_stream.proofs.Describing.{in_range}
use Rattle.std.proofs.lemmas.Option.{none-some}
use Rattle.ep_live.proofs.Pushing.{same}

passed_cons : {A : Type 0} (p : A → Bool) (y : A) (rest : List A) (v : Bool) (k : ℕ) (x : A) → p y ≡ v → ((n : ℕ) → slice_get rest n ≡ Some x → p x ≡ true) → slice_get (cond v (y ∷ rest) rest) k ≡ Some x → p x ≡ true
passed_cons p y rest true zero x e all is = ap p (sym (same y x is)) ∙ e
passed_cons p y rest true (suc k) x e all is = all k is
passed_cons p y rest false k x e all is = all k is

-- What passes a filter has passed its test.
passed : {A : Type 0} (p : A → Bool) (xs : List A) (k : ℕ) (x : A) → slice_get (filter p xs) k ≡ Some x → p x ≡ true
passed p [] k x is = absurd (none-some x is)
passed p (y ∷ ys) k x is = passed_cons p y (filter p ys) (p y) k x refl (λ n. passed p ys n x) is

admits-defined : (config : Config) (o : Option EventDef) → option_map_or (λ def. session_admits config def) o false ≡ true → (def : EventDef) × (o ≡ Some def)
admits-defined config None h = cc
admits-defined config (Some def) h = (def, refl)

is-defined : (events : List EventDef) (config : Config) (writes : List Write) (from : ℕ) (r : Record) → IsNumbered events config writes from r → IsDefined events r
is-defined events config writes from r is =
    let admits = passed (λ write. admits_write events (Some config) write) (drop from writes) (r.number - 1) (write_of r) is in
    let found = admits-defined config (definition_at events r.event) admits in
    in_range events r.event found.0 found.1

-- What is taken of numbered records is a batch.
pub is-batch : (events : List EventDef) (config : Config) (writes : List Write) (hand : HandState) (records : List Record) (last : ℕ) → AreTaken hand records last → All (IsNumbered events config writes hand.from) records → IsBatch events hand records last
is-batch events config writes hand records last taken numbered =
    record {
      of_thread = taken.of_thread;
      rising = taken.rising;
      defined = λ k r small. is-defined events config writes hand.from (slice_index_or records k r) (numbered k r small);
      fit = taken.fit;
    }
