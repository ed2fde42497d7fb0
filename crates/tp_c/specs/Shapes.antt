-- What the structs of C stand for.
use Rattle.std.specs.Prelude.{ℕ, Bool, true, false, ◌&&◌, List, [], ◌∷◌, take, drop, length, nat_le}
use Rattle.ep_defs.specs.declared.event.EventDef.{EventDef}
use Rattle.ep_defs.specs.declared.event.FieldDef.{FieldDef}
use Rattle.ep_defs.specs.declared.session.TraceInfo.{TraceInfo}
use Rattle.tp_c.specs.declared.shapes.Info.{Info}
use Rattle.tp_c.specs.declared.shapes.Definition.{Definition}
use Rattle.tp_c.specs.declared.shapes.Field.{Field}

-- What a stream says of its program.
abbrev pub info_of : Info → TraceInfo
info_of info =
    record {
      date = info.date;
      sync = info.sync;
      frequency = info.frequency;
      pointer_size = info.pointer_size;
      process_id = info.process_id;
      processors = info.processors;
      rate = info.rate;
    }

-- The lengths of the fields' names add up to the units of the names.
abbrev pub are_named : List Field → List ℕ → Bool
are_named [] [] = true
are_named [] (unit ∷ names) = false
are_named (field ∷ fields) names = nat_le field.name_units (length names) && are_named fields (drop field.name_units names)

-- The fields, each with its part of the names, which stand one after another.
abbrev pub fields_of : List Field → List ℕ → List FieldDef
fields_of [] names = []
fields_of (field ∷ fields) names =
    record { depth = field.depth; code = field.code; name = take field.name_units names } ∷ fields_of fields (drop field.name_units names)

-- The definition with its texts and its fields.
abbrev pub definition_of : Definition → List ℕ → List ℕ → List Field → List ℕ → EventDef
definition_of definition provider name fields names =
    record {
      provider = provider;
      id = definition.id;
      version = definition.version;
      level = definition.level;
      keywords = definition.keywords;
      name = name;
      fields = fields_of fields names;
    }
