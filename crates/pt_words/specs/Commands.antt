-- What a parse reads of the commands.
use Rattle.std.specs.Prelude.{Some, true, codes}
use Rattle.clap.specs.Lexer.{usize_max}
use Rattle.clap.specs.Walk.{Rule, Text}
use Rattle.clap.specs.Simple.{App, new_app, new_rule, on_top, with_rule}
use Rattle.clap.specs.declared.builder.ArgAction.TheVariants.{Append}

-- A command without a program's name, help or version.
abbrev pub plain_command : App
plain_command =
    on_top (λ s. record s { no_binary_name = true; disable_help_flag = true; disable_version_flag = true }) (new_app (codes "words"))

-- A position that must be there.
abbrev pub position_rule : Text → Rule
position_rule id = record (new_rule id) { required = true }

-- The third position, which takes all words that are left, at least one.
abbrev pub several_rule : Rule
several_rule =
    record (position_rule (codes "rest")) {
      action = Some Append;
      range = Some (record { start_inclusive = 1; end_inclusive = usize_max });
    }

-- One word.
abbrev pub one_app : App
one_app = with_rule plain_command (position_rule (codes "one"))

-- Two words.
abbrev pub two_app : App
two_app = with_rule one_app (position_rule (codes "two"))

-- Two words, and one or more after them.
abbrev pub several_app : App
several_app = with_rule two_app several_rule

-- The option `--session`.
abbrev pub session_rule : Rule
session_rule = record (new_rule (codes "session")) { long = Some (codes "session") }

-- The option `--session` alone.
abbrev pub session_app : App
session_app = with_rule plain_command session_rule

-- An option with a text.
abbrev pub option_rule : Text → Rule
option_rule name = record (new_rule name) { long = Some name }

-- Three words and the options `--seed` and `--mb`.
abbrev pub trace_app : App
trace_app =
    with_rule (with_rule (with_rule two_app (position_rule (codes "three"))) (option_rule (codes "seed"))) (option_rule (codes "mb"))

-- Two words and the options `--seed`, `--wait`, `--streamers` and `--lives`.
abbrev pub common_app : App
common_app =
    with_rule (with_rule (with_rule (with_rule two_app (option_rule (codes "seed"))) (option_rule (codes "wait"))) (option_rule (codes "streamers")))
    (option_rule (codes "lives"))

-- The same and the options `--reverse` and `--calls`.
abbrev pub run_app : App
run_app = with_rule (with_rule common_app (option_rule (codes "reverse"))) (option_rule (codes "calls"))
