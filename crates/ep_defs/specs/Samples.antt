-- Small values for the laws that compute: an event, a write of it, and a session that gets it.
use Rattle.std.specs.Prelude.{ℕ, true, false, List, [], ◌∷◌, replicate, codes}
use Rattle.ep_defs.specs.declared.event.EventDef.{EventDef}
use Rattle.ep_defs.specs.declared.session.Config.{Config}
use Rattle.ep_defs.specs.declared.session.Write.{Write}

-- No activity.
abbrev pub zero_id : List ℕ
zero_id = replicate 16 0

-- The event E of the provider P, of this level and with these keywords.
abbrev pub event_e : ℕ → ℕ → EventDef
event_e level keywords = record { provider = codes "P"; id = 1; version = 0; level = level; keywords = keywords; name = codes "E"; fields = [] }

-- 16 chunks, stacks, and one rule for P with these keywords, up to level 4.
abbrev pub config_p : ℕ → Config
config_p keywords =
    record {
      rules = record { name = codes "P"; keywords = keywords; level = 4 } ∷ [];
      chunks = 16;
      stackwalk = true;
      rundown = false;
    }

-- A write of the event with this number, without frames or payload.
abbrev pub write_e : ℕ → Write
write_e event = record { event = event; activity = zero_id; related = zero_id; frames = []; payload = [] }
