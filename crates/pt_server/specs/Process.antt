-- A process that says nothing of itself.
use Rattle.std.specs.Prelude.{[]}
use Rattle.ep_defs.specs.declared.session.Facts.{Facts}
use Rattle.ep_defs.specs.Session.{standard_info_of}

-- What it says.
abbrev pub no_facts : Facts
no_facts =
    record { process_id = 0; cookie = []; command_line = []; system = []; arch = []; info = standard_info_of 0 0 }
