-- Why a session did not start, by what its link gave and took.
use Rattle.std.specs.Prelude.{◌≡◌, ℕ, ◌<◌, List, []}
use Rattle.ep_defs.specs.declared.session.Config.{Config}
use Rattle.ep_defs.specs.declared.session.Facts.{Facts}
use Rattle.pt_io.specs.Sides.{ReadSide, WriteSide}
use Rattle.ipc_body.specs.declared.request.Request.TheVariants as request
use Rattle.pt_server.specs.declared.unstarted.Unstarted.{Unstarted}
use Rattle.pt_server.specs.declared.unstarted.Unstarted.TheVariants as unstarted
use Rattle.pt_server.specs.Connection.{HasAsked, Took, TookMore, TookStart}

-- The link asked for a session.
pub record HasAskedSession (gave : ReadSide) : Type 0 where
  pub config : Config
  pub asked : HasAsked gave (request.Collect config)

-- Its link took nothing but the greeting, or more than that, of the reply and the stream's start, or a write of it failed.
abbrev pub IsUnstarted : Facts → List ℕ → WriteSide → Unstarted → Type 0
IsUnstarted facts greeting took unstarted.Silent = Took greeting [] took
IsUnstarted facts greeting took unstarted.Cut =
    TookStart facts.info greeting took.tells took.taken × TookMore greeting took × (took.faults ≡ 0)
IsUnstarted facts greeting took unstarted.WriteFault = TookStart facts.info greeting took.tells took.taken × (0 < took.faults)
