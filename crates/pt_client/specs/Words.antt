-- The words of the client's commands (this project's profile).
use Rattle.std.specs.Prelude.{ℕ, ◌-◌, ◌^◌, nat_le, if◌then◌else◌, List, [], ◌∷◌, length, codes, Option, Some, None}
use Rattle.std.specs.Int.{is_in_range}
use Rattle.ep_defs.specs.declared.limits.TheConstants.{RULES}
use Rattle.ep_defs.specs.Event.{is_same_text}
use Rattle.ep_defs.specs.declared.session.Rule.{Rule}
use Rattle.ep_plan.specs.Words.{number_in, rule_in, all_in, at_least, at_most}
use Rattle.ipc_frame.specs.declared.limits.TheConstants.{MESSAGE_BYTES}
use Rattle.ipc_body.specs.Asking.{collect_request}
use Rattle.pt_words.specs.Target.{target_in}
use Rattle.pt_words.specs.Words.{has_option}
use Rattle.pt_client.specs.declared.words.Command.{Command}
use Rattle.pt_client.specs.declared.words.Command.TheVariants as command

-- A budget has 1 to 4,294,967,295 megabytes.
abbrev pub megabytes_in : List ℕ → Option ℕ
megabytes_in word = at_least 1 (at_most (2 ^ 32 - 1) (number_in (2 ^ 64 - 1) word))

-- The id of a session.
abbrev pub id_in : List ℕ → Option ℕ
id_in word = number_in (2 ^ 64 - 1) word

-- 1 to 1,000 rules.
abbrev pub rules_in : List (List ℕ) → Option (List Rule)
rules_in words = if is_in_range 1 RULES (length words) then all_in rule_in words else None

-- A request for a session has to fit a message.
abbrev pub collect_of : Option (List ℕ) → Option ℕ → Option (List Rule) → Option Command
collect_of (Some target) (Some megabytes) (Some rules) =
    if nat_le (length (collect_request megabytes rules)) MESSAGE_BYTES then Some (command.Collect target megabytes rules) else None
collect_of target megabytes rules = None

-- A stop, where both of its words are good.
abbrev pub stop_of : Option (List ℕ) → Option ℕ → Option Command
stop_of (Some target) (Some id) = Some (command.Stop target id)
stop_of target id = None

-- A `ps`, where its word is good.
abbrev pub ps_of : Option (List ℕ) → Option Command
ps_of (Some target) = Some (command.Ps target)
ps_of None = None

-- The words after `collect`: TARGET MB RULE..
abbrev pub collect_in : List (List ℕ) → Option Command
collect_in (target ∷ megabytes ∷ rules) = collect_of (target_in target) (megabytes_in megabytes) (rules_in rules)
collect_in words = None

-- The words after `stop`: TARGET ID
abbrev pub stop_in : List (List ℕ) → Option Command
stop_in (target ∷ id ∷ []) = stop_of (target_in target) (id_in id)
stop_in words = None

-- The words after `ps`: TARGET
abbrev pub ps_in : List (List ℕ) → Option Command
ps_in (target ∷ []) = ps_of (target_in target)
ps_in words = None

-- What the words are read as where none of them begins with `-`, since the client's commands have no options.
abbrev pub without_options : (List (List ℕ) → Option Command) → List (List ℕ) → Option Command
without_options read words = if has_option words then None else read words

-- The first word names the command.
abbrev pub command_in : List (List ℕ) → Option Command
command_in [] = None
command_in (word ∷ words) =
    if is_same_text word (codes "collect") then without_options collect_in words
    else if is_same_text word (codes "stop") then without_options stop_in words
    else if is_same_text word (codes "ps") then without_options ps_in words
    else None
