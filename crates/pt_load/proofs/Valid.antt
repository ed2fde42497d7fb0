-- The sample program's events are valid, and a thread can make each of its writes.
use Rattle.std.proofs.Common.{◌≡◌, ℕ, zero, suc, ◌+◌, ◌%◌, ◌<◌, ◌≤◌, true, [], ◌∷◌, length, take, Option, Some, refl, sym, ap, ◌∙◌, arith}
use Rattle.std.specs.Prelude.{IsTrue, nat_le, ◌==◌, if◌then◌else◌}
use Rattle.std.specs.List.{list_all}
use Rattle.std.specs.Option.{option_map_or}
use Rattle.std.proofs.lemmas.Bool.{agree_below_at, and_from}
use Rattle.ep_defs.specs.declared.event.EventDef.{EventDef}
use Rattle.ep_defs.specs.declared.limits.TheConstants.{EVENTS}
use Rattle.ep_defs.specs.Definitions.{AreDistinct, definition_at}
use Rattle.ep_defs.specs.Event.{is_valid_event}
use Rattle.ep_defs.specs.Session.{fits}
use Rattle.ep_rundown.specs.Rundown.{lacks_rundown}
use Rattle.pt_load.specs.Sample.{sample, nth, event_at, frames_of, payload_of}
use Rattle.pt_load.specs.declared.plan.Plan.{Plan}

pub sample_is_short : length sample ≤ EVENTS
unfolding sample
sample_is_short = omega arith

pub sample_is_valid : IsTrue (list_all is_valid_event sample)
unfolding sample
sample_is_valid = refl

pub sample_lacks_rundown : IsTrue (lacks_rundown sample)
unfolding sample
sample_lacks_rundown = refl

-- The number of an event is told by its provider's name, whose length no other has, and its id.
number_of : EventDef → ℕ
number_of def =
    def.id + (if length def.provider == 12 then 3 else if length def.provider == 11 then 6 else 0)

number_is : (i : ℕ) (def : EventDef) → definition_at sample i ≡ Some def → number_of def ≡ i
unfolding sample number_of
number_is zero def is = cc
number_is (suc zero) def is = sym (ap (λ (o : Option EventDef). option_map_or number_of o 0) is)
number_is (suc (suc zero)) def is = sym (ap (λ (o : Option EventDef). option_map_or number_of o 0) is)
number_is (suc (suc (suc zero))) def is = sym (ap (λ (o : Option EventDef). option_map_or number_of o 0) is)
number_is (suc (suc (suc (suc zero)))) def is = sym (ap (λ (o : Option EventDef). option_map_or number_of o 0) is)
number_is (suc (suc (suc (suc (suc zero))))) def is = sym (ap (λ (o : Option EventDef). option_map_or number_of o 0) is)
number_is (suc (suc (suc (suc (suc (suc zero)))))) def is = sym (ap (λ (o : Option EventDef). option_map_or number_of o 0) is)
number_is (suc (suc (suc (suc (suc (suc (suc zero))))))) def is = sym (ap (λ (o : Option EventDef). option_map_or number_of o 0) is)
number_is (suc (suc (suc (suc (suc (suc (suc (suc zero)))))))) def is = sym (ap (λ (o : Option EventDef). option_map_or number_of o 0) is)
number_is (suc (suc (suc (suc (suc (suc (suc (suc (suc i))))))))) def is = cc

pub sample_is_distinct : AreDistinct (definition_at sample)
sample_is_distinct i j def first second = sym (number_is i def first) ∙ number_is j def second

-- ---- writes

frames_are_few : (index : ℕ) → nat_le (length (frames_of index)) 100 ≡ true
unfolding frames_of
frames_are_few index = few (index % 4) _ _ _
  where
    few : (n a b c : ℕ) → nat_le (length (take n (a ∷ b ∷ c ∷ []))) 100 ≡ true
    few zero a b c = refl
    few (suc zero) a b c = refl
    few (suc (suc zero)) a b c = refl
    few (suc (suc (suc zero))) a b c = refl
    few (suc (suc (suc (suc n)))) a b c = refl

payload_is_short : (event thread index : ℕ) → event < 9 → nat_le (length (payload_of event thread index)) 60000 ≡ true
unfolding payload_of sample
payload_is_short event thread index below =
    agree_below_at (λ event. nat_le (length (payload_of event thread index)) 60000) (λ event. true) 9 event refl below

pub write_fits : (plan : Plan) (thread index : ℕ) → IsTrue (fits (nth plan thread index))
write_fits plan thread index = and_from _ _ (frames_are_few _) (payload_is_short _ _ _ (omega arith))

pub write_is_defined : (plan : Plan) (thread index : ℕ) → (0 < event_at plan thread index) × (event_at plan thread index ≤ length sample)
unfolding sample
write_is_defined plan thread index = (omega arith, omega arith)
