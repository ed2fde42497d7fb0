-- What a dock answers (this project's profile).
use Rattle.std.specs.Prelude.{Result, Ok, Err}
use Rattle.pt_io.specs.declared.source.Failed.{Failed}
use Rattle.pt_io.specs.declared.dock.Arrival.{Arrival}
use Rattle.pt_io.specs.declared.dock.Arrival.TheVariants as arrival

-- A fact of the link, if the answer is one.
abbrev pub IfLink : {L : Type 0} → Result (Arrival L) Failed → (L → Type 0) → Type 0
IfLink (Ok (arrival.Link link)) holds = holds link
IfLink (Ok arrival.Quiet) holds = Unit {0}
IfLink (Ok arrival.Closed) holds = Unit {0}
IfLink (Err failed) holds = Unit {0}

-- A fact, if the answer is no link.
abbrev pub OnNoLink : {L : Type 0} → Result (Arrival L) Failed → Type 0 → Type 0
OnNoLink (Ok (arrival.Link link)) holds = Unit {0}
OnNoLink (Ok arrival.Quiet) holds = holds
OnNoLink (Ok arrival.Closed) holds = holds
OnNoLink (Err failed) holds = holds

-- A fact, if the answer is a quiet turn.
abbrev pub OnQuiet : {L : Type 0} → Result (Arrival L) Failed → Type 0 → Type 0
OnQuiet (Ok arrival.Quiet) holds = holds
OnQuiet (Ok (arrival.Link link)) holds = Unit {0}
OnQuiet (Ok arrival.Closed) holds = Unit {0}
OnQuiet (Err failed) holds = Unit {0}

-- A fact, if the answer is that nothing more will come.
abbrev pub OnClosed : {L : Type 0} → Result (Arrival L) Failed → Type 0 → Type 0
OnClosed (Ok arrival.Closed) holds = holds
OnClosed (Ok (arrival.Link link)) holds = Unit {0}
OnClosed (Ok arrival.Quiet) holds = Unit {0}
OnClosed (Err failed) holds = Unit {0}
