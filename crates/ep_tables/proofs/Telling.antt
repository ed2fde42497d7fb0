-- What a session's call told, and where it ran out of stack ids.
use Rattle.std.proofs.Common.{◌≡◌, true, List, ◌++◌, Result, Ok, Err, refl, subst}
use Rattle.std.specs.Prelude.{OnOk}
use Rattle.ep_defs.specs.Definitions.{definition_at}
use Rattle.ep_defs.specs.declared.event.EventDef.{EventDef}
use Rattle.ep_defs.specs.Entry.{Entry}
use Rattle.pt_io.specs.Memory.{SinkState}
use Rattle.nt_write.specs.declared.fault.Fault.{Fault}
use Rattle.nt_write.specs.declared.fault.Fault.TheVariants.{TooLong}
use Rattle.ep_stream.specs.Session.{writer_of, Writes}
use Rattle.ep_stream.specs.Telling.{IsTelling, IsFaulty}
use Rattle.ep_tables.specs.declared.tables.Present.{Present}
use Rattle.ep_tables.specs.Made.{TellsIn, IsSpent}

-- What holds where a call answered no fault.
pub ok_with : {A E X : Type 0} (result : Result A E) → ((a : A) → result ≡ Ok a → X) → OnOk result X
ok_with (Ok a) f = f a refl
ok_with (Err e) f = tt

pub from_ok : {A E X : Type 0} (result : Result A E) (a : A) → result ≡ Ok a → OnOk result X → X
from_ok {X = X} result a is x = subst (λ r. OnOk r X) is x

-- A call that answered no fault told all of its entries.
pub tells_in : {A : Type 0} (events : List EventDef) (entries : List Entry) (was now : Present) (result : Result A Fault) (a : A) → result ≡ Ok a
    → Writes (λ (s : SinkState). true) (λ (s : SinkState). s.taken) events entries was.session now.session result → TellsIn events entries was now
tells_in events entries was now result a is writes before info told telling =
    let t = writes before info told telling in
    subst (λ (es : List Entry). IsTelling (λ (s : SinkState). true) (λ (s : SinkState). s.taken) before (definition_at events) info (told ++ es) (writer_of now.session)) (from_ok result a is t.all) t.telling

-- A call that found no stack id.
pub spent_in : {A : Type 0} (events : List EventDef) (entries : List Entry) (was now : Present) (result : Result A Fault) → result ≡ Err TooLong
    → Writes (λ (s : SinkState). true) (λ (s : SinkState). s.taken) events entries was.session now.session result
    → IsFaulty (λ (s : SinkState). s.faults) (writer_of was.session) (writer_of now.session) result → IsSpent events entries was
spent_in events entries was now result is writes faulty before info told telling =
    let t = writes before info told telling in
    (t.done, t.front, t.telling.spent (faulty.fails TooLong is))
