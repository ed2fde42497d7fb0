-- What is fixed of the calls of one dock.
use Rattle.std.specs.Prelude.{◌≡◌, ℕ, ◌+◌, ◌≤◌, List, [], Some}
use Rattle.pt_io.specs.declared.caller.Caller.{Ghosts as Caller}
use Rattle.pt_io.specs.declared.sink.Sink.{Ghosts as Sink}
use Rattle.ipc_reverse.specs.declared.dock.ReverseDock.{ReverseDock}
use Rattle.ipc_reverse.specs.Calls.{IsCut, kept_count}

-- By which reference they are made, how many links the caller had given before, what each link takes first, and how many links
-- are given at most.
pub record Fixed : Type 0 where
  pub loan : ℕ
  pub links : ℕ
  pub advert : List ℕ
  pub most : ℕ

-- No calls.
abbrev pub no_calls : Fixed
no_calls = record { loan = 0; links = 0; advert = []; most = 0 }

-- The dock makes these calls. Each link that the caller gave since was given on, or is the one that is kept.
pub record Makes {K L : Type 0} (caller : Caller K L) (sink : Sink L) (calls : Fixed) (dock : ReverseDock K L) : Type 0 where
  pub loan : dock.caller.ghost_name ≡ calls.loan
  pub advert : dock.advert ≡ calls.advert
  pub most : dock.most ≡ calls.most
  pub links : caller.links dock.caller.now ≡ calls.links + dock.given + kept_count dock.kept
  pub few : dock.given ≤ calls.most
  pub kept : (link : L) → dock.kept ≡ Some link → IsCut sink calls.advert link
