-- What a vault owns: a recorder on the heap, or nothing.
use base.Fml.{Fml, ftrue}
use base.Stored.{Coded}
use denote.RawPtr.{Ptr}
use Rattle.std.specs.Prelude.{Bool, true, false}
use Rattle.std.specs.Box.Ownership.{box_owns}
use Rattle.std.specs.Global.{Global}
use Rattle.std_heap.specs.contracts.GlobalAllocator.TheImpl.{ghosts}
use Rattle.tp_c.specs.contracts.recorder.Recorder.{the_row}

-- A full vault owns what a `Box` at its pointer owns.
abbrev pub vault_owns : Bool → Global → Ptr → the_row.Denot → Fml
vault_owns true alloc at recorder = box_owns (ghosts.dealloc_token alloc) the_row at recorder
vault_owns false alloc at recorder = ftrue

-- How the logic stores a recorder.
abbrev pub recorder_coded : Coded the_row.Denot
recorder_coded = the_row.coded
