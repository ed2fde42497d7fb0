-- What the stream of a finished session is.
use Rattle.std.specs.Prelude.{◌≡◌, ℕ, List}
use Rattle.ep_defs.specs.declared.event.EventDef.{EventDef}
use Rattle.ep_defs.specs.declared.session.TraceInfo.{TraceInfo}
use Rattle.nt_blocks.specs.Ordered.{AreOrdered}
use Rattle.nt_blocks.specs.Verdict.{Good, verdict}
use Rattle.nt_write.specs.Canonical.{IsCanonical}
use Rattle.ep_model.specs.Faithful.{shares_of}
use Rattle.ep_model.specs.History.{Past}
use Rattle.ep_told.specs.Told.{has_rundown, told_entries}
use Rattle.nt_laws.specs.Bare.{bare}
use Rattle.nt_laws.specs.Faithful.{Faithful}

-- The bytes are the one stream of what the session tells, with a rundown where it was asked for one. They are found to be
-- a whole stream, in whose items each name is defined before its use, and the items without the rundown's tell of each
-- thread exactly the writes that the session admitted, less those that were refused.
pub record IsStreamOf (events : List EventDef) (info : TraceInfo) (session : ℕ) (past : Past) (bytes : List ℕ) : Type 0 where
  pub canonical : IsCanonical info (told_entries events session past) bytes
  pub found : verdict bytes ≡ Good canonical.items
  pub ordered : AreOrdered canonical.items
  pub faithful : Faithful (shares_of events session past) (bare (has_rundown session past) canonical.items)
