-- The link of a session.
use Rattle.std.specs.Prelude.{◌≡◌, ℕ, Bool, true, false, ◌<◌, ◌⊎◌, List, []}
use Rattle.ep_defs.specs.declared.session.Config.{Config}
use Rattle.pt_io.specs.Sides.{ReadSide, WriteSide}
use Rattle.ipc_body.specs.declared.request.Request.TheVariants as request
use Rattle.pt_server.specs.Connection.{HasAsked, Took, TookMore}

-- The link, what its bytes asked for, and whether something was written since the greeting.
pub record ServedState (L : Type 0) : Type 0 where
  pub link : L
  pub config : Config
  pub wrote : Bool

-- The bytes asked for this configuration. The link has taken nothing but the greeting until something is written, and more
-- from then on, unless a write of it failed.
pub record IsServed (greeting : List ℕ) (config : Config) (wrote : Bool) (gave : ReadSide) (took : WriteSide) : Type 0 where
  pub asked : HasAsked gave (request.Collect config)
  pub silent : wrote ≡ false → Took greeting [] took
  pub some : wrote ≡ true → TookMore greeting took ⊎ (0 < took.faults)
