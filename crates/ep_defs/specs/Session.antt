-- Which sessions can be asked for, what can be written, and what a program may say of itself.
use Rattle.std.specs.Prelude.{ℕ, ◌+◌, ◌^◌, Bool, ◌&&◌, [], ◌∷◌, length, nat_lt, nat_le, ◌==◌}
use Rattle.std.specs.List.{list_all}
use Rattle.std.specs.Int.{is_in_range}
use Rattle.ep_defs.specs.declared.limits.TheConstants.{CHUNKS, FACTS_UNITS, FRAMES, PAYLOAD_BYTES, RULES}
use Rattle.ep_defs.specs.declared.session.TheConstants.{CLOCK_FREQUENCY, POINTER_BYTES}
use Rattle.ep_defs.specs.declared.session.Config.{Config}
use Rattle.ep_defs.specs.declared.session.Write.{Write}
use Rattle.ep_defs.specs.declared.session.TraceInfo.{TraceInfo}
use Rattle.ep_defs.specs.declared.session.Facts.{Facts}

-- At least one rule, none without a name, and at least one chunk; not too many of either (this project's profile).
abbrev pub is_valid_config : Config → Bool
is_valid_config config =
    is_in_range 1 RULES (length config.rules)
    && list_all (λ rule. nat_lt 0 (length rule.name)) config.rules
    && is_in_range 1 CHUNKS config.chunks

-- Few enough frames, and a payload that is short enough (this project's profile).
abbrev pub fits : Write → Bool
fits write = nat_le (length write.frames) FRAMES && nat_le (length write.payload) PAYLOAD_BYTES

-- The three texts are short enough together (this project's profile).
abbrev pub is_valid_facts : Facts → Bool
is_valid_facts facts = nat_le (length facts.command_line + length facts.system + length facts.arch) FACTS_UNITS

-- The numbers fit their types: eight of 16 bits, two of 64, and four of 32.
abbrev pub is_info : TraceInfo → Bool
is_info info =
    (length info.date == 8)
    && list_all (λ n. nat_lt n (2 ^ 16)) info.date
    && nat_lt info.sync (2 ^ 64)
    && nat_lt info.frequency (2 ^ 64)
    && list_all (λ n. nat_lt n (2 ^ 32)) (info.pointer_size ∷ info.process_id ∷ info.processors ∷ info.rate ∷ [])

-- The clock counts nanoseconds from midnight of Thursday, 1 January 1970 (this project's profile).
abbrev pub standard_info_of : ℕ → ℕ → TraceInfo
standard_info_of process_id processors =
    record {
      date = 1970 ∷ 1 ∷ 4 ∷ 1 ∷ 0 ∷ 0 ∷ 0 ∷ 0 ∷ [];
      sync = 0;
      frequency = CLOCK_FREQUENCY;
      pointer_size = POINTER_BYTES;
      process_id = process_id;
      processors = processors;
      rate = 0;
    }
