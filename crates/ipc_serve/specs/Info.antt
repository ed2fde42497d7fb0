-- The description of a process, by what the program says of itself.
use Rattle.ep_defs.specs.declared.session.Facts.{Facts}
use Rattle.ipc_body.specs.declared.reply.ProcessInfo.{ProcessInfo}

-- What a process says of itself.
abbrev pub info_of : Facts → ProcessInfo
info_of facts =
    record {
      process_id = facts.process_id;
      cookie = facts.cookie;
      command_line = facts.command_line;
      system = facts.system;
      arch = facts.arch;
    }
