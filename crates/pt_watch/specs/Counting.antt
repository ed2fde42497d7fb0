-- How often events were heard (this project's profile).
use Rattle.std.specs.Prelude.{◌≡◌, ℕ, ◌+◌, ◌-◌, ◌^◌, ◌<◌, min, ◌==◌, List, [], length, filter, slice_index}
use Rattle.ep_listen.specs.Heard.{HeardEvent}
use Rattle.pt_watch.specs.declared.counts.Counts.{Counts}
use Rattle.pt_watch.specs.declared.limits.TheConstants.{EVENTS}

abbrev pub counts_in : Counts → List ℕ
counts_in counts = counts.counts.items

-- How often an event was heard.
abbrev pub times : ℕ → List HeardEvent → ℕ
times event heard = length (filter (λ e. e.event == event) heard)

-- The same as far as a counter of 64 bits goes, which stands still at its last number.
abbrev pub count_of : ℕ → List HeardEvent → ℕ
count_of event heard = min (2 ^ 64 - 1) (times event heard)

-- The counts are those of the events that were heard, by the number of the definition.
abbrev pub AreCountsOf : List ℕ → List HeardEvent → Type 0
AreCountsOf counts heard = (event : ℕ) → event < length counts → slice_index counts event ≡ count_of event heard

-- Counts of the sample program's events stand for each list of events that has them.
abbrev pub StandsFor : Counts → List HeardEvent → Type 0
StandsFor counts heard = (length (counts_in counts) ≡ EVENTS + 1) × AreCountsOf (counts_in counts) heard

-- Nothing was heard.
abbrev pub IsNothing : List HeardEvent → Type 0
IsNothing heard = heard ≡ []
