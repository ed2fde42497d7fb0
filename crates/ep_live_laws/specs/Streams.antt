-- What the stream of a session over running threads is.
use Rattle.std.specs.Prelude.{◌≡◌, ℕ, List, IsTrue}
use Rattle.ep_defs.specs.declared.event.EventDef.{EventDef}
use Rattle.ep_defs.specs.declared.session.Config.{Config}
use Rattle.ep_defs.specs.declared.session.Marks.{Marks}
use Rattle.ep_defs.specs.declared.session.TraceInfo.{TraceInfo}
use Rattle.ep_defs.specs.declared.session.Write.{Write}
use Rattle.ep_defs.specs.Entry.{Entry}
use Rattle.ep_rundown.specs.Rundown.{lacks_rundown, with_section}
use Rattle.nt_blocks.specs.Ordered.{AreOrdered}
use Rattle.nt_blocks.specs.Verdict.{Good, verdict}
use Rattle.nt_write.specs.Canonical.{IsCanonical}
use Rattle.pt_io.specs.Taken.{IsPrefix}
use Rattle.nt_laws.specs.Bare.{bare}
use Rattle.nt_laws.specs.Faithful.{Faithful}
use Rattle.nt_laws.specs.Reading.{IsReadUpTo}
use Rattle.ep_stream.specs.Telling.{IsFront}
use Rattle.ep_live_laws.specs.Traced.{AreOfThreads, ArePart, AreTraced, shares_by}

-- The bytes are the one stream of entries that trace the threads of the marks, and of the section of a rundown before the
-- last point where the configuration asks for one. They are found to be a whole stream, in whose items each name is
-- defined before its use, and the items, without what is the rundown's, tell of each thread exactly the writes that the
-- session admitted, less those whose numbers are missing, which are as many as the marks count as refused.
pub record IsTraceOf (events : List EventDef) (config : Config) (writes : ℕ → List Write) (info : TraceInfo) (marks : List Marks) (bytes : List ℕ) : Type 0 where
  pub entries : List Entry
  pub canonical : IsCanonical info (with_section config.rundown entries) bytes
  pub found : verdict bytes ≡ Good canonical.items
  pub ordered : AreOrdered canonical.items
  pub faithful : Faithful (shares_by events config writes entries marks) (bare config.rundown canonical.items)
  pub traced : AreTraced events config writes marks entries

-- The bytes begin the one stream of what is told first of entries that trace a part of what the threads wrote, or are all
-- of it, with the section where the configuration asks for one. Nothing in them is refused, and their items stand in order
-- and tell the first of what is told.
pub record IsPartOf (events : List EventDef) (config : Config) (writes : ℕ → List Write) (info : TraceInfo) (marks : List Marks) (bytes : List ℕ) : Type 0 where
  pub entries : List Entry
  pub part : ArePart events config writes marks entries
  pub told : List Entry
  pub front : IsFront told (with_section config.rundown entries)
  pub stream : List ℕ
  pub canonical : IsCanonical info told stream
  pub begins : IsPrefix bytes stream
  pub read : IsReadUpTo told bytes

-- Each canonical stream of entries that trace threads of a program, with the section where one is asked for, is such a
-- stream. The program does not define the rundown's own event.
abbrev pub TracesAreFound : List EventDef → Config → (ℕ → List Write) → Type 0
TracesAreFound events config writes =
    (info : TraceInfo) (marks : List Marks) (entries : List Entry) (bytes : List ℕ) → IsTrue (lacks_rundown events) → AreOfThreads marks
    → IsCanonical info (with_section config.rundown entries) bytes → AreTraced events config writes marks entries → IsTraceOf events config writes info marks bytes

-- What begins the canonical stream of what is told first of entries that trace a part of what the threads wrote is such a
-- part.
abbrev pub PartsAreFound : List EventDef → Config → (ℕ → List Write) → Type 0
PartsAreFound events config writes =
    (info : TraceInfo) (marks : List Marks) (entries told : List Entry) (bytes stream : List ℕ) → IsFront told (with_section config.rundown entries)
    → IsCanonical info told stream → IsPrefix bytes stream → ArePart events config writes marks entries → IsPartOf events config writes info marks bytes
