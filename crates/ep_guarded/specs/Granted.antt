-- What a grant says of a program's events. All of it is this project's own.
use Rattle.std.specs.Prelude.{◌≡◌, List}
use Rattle.ep_defs.specs.declared.event.EventDef.{EventDef}
use Rattle.ep_row.specs.Row.{admitted_of}
use Rattle.ep_guarded.specs.declared.grant.Grant.{Grant}

-- The grant says of each of these events whether its configuration admits it.
abbrev pub IsGrantFor : List EventDef → Grant → Type 0
IsGrantFor events grant = grant.admitted.items ≡ admitted_of events grant.config
