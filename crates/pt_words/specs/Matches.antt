-- What a simple command makes of words.
use Rattle.std.specs.Prelude.{◌≡◌, ◌≢◌, List, [], Option, Some, None}
use Rattle.clap.specs.Walk.{Text, rows_of}
use Rattle.clap.specs.Simple.{App, matches_of}
use Rattle.clap.specs.Faults.{fault_of}
use Rattle.clap.specs.Matches.{found_of}
use Rattle.clap.specs.declared.parser.matches.ArgMatches.{ArgMatches}

-- The command takes the words and has these matches, or it doesn't take them.
abbrev pub IsRead : App → List Text → Option ArgMatches → Type 0
IsRead app words (Some matches) = (fault_of app words ≡ []) × (rows_of (found_of matches) ≡ matches_of app words)
IsRead app words None = fault_of app words ≢ []
