-- What an event is counted by.
use Rattle.std.specs.declared.cmp.Ordering.{Ordering}
use Rattle.std.specs.Ordering.{nat_cmp, on, then_cmp}
use Rattle.std.specs.Cmp.Lexicographic.{slice_cmp}
use Rattle.ep_defs.specs.declared.event.EventDef.{EventDef}
use Rattle.pt_report.specs.declared.key.EventKey.{EventKey}

-- By what an event is counted.
abbrev pub key_of : EventDef → EventKey
key_of def = record { provider = def.provider; id = def.id; version = def.version; name = def.name }

-- Events are ordered by provider, id, version and name.
abbrev pub key_order : EventKey → EventKey → Ordering
key_order =
    then_cmp (on (λ event. event.provider) (slice_cmp nat_cmp))
    (then_cmp (on (λ event. event.id) nat_cmp)
    (then_cmp (on (λ event. event.version) nat_cmp) (on (λ event. event.name) (slice_cmp nat_cmp))))
