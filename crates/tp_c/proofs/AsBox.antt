-- A full vault and its parts own what a box of a recorder owns.
use mir.Syntax.{impl, tnil, dnil}
use mathlib.Core.Bool.{false}
use mathlib.Core.List.{[]}
use denote.Signature.{Slot, plain}
use Rattle.std_alloc.proofs.BoxSteps.Form.{Bx}
use Rattle.std_heap.specs.contracts.Global as Heap
use Rattle.std_heap.specs.contracts.GlobalAllocator.TheImpl.{ghosts, dict}
use Rattle.std_heap.proofs.Global.TheLaws as heap
use Rattle.tp_c.specs.declared.recorder.Stage.TheVariants.{Over}
use Rattle.tp_c.specs.Outgoing.{no_bytes}
use Rattle.tp_c.specs.contracts.recorder.Recorder as Recorder
use Rattle.tp_c.proofs.recorder.Recorder.TheLaws as recorder
use Rattle.tp_c.specs.contracts.handle.parts.Parts as Parts
use Rattle.tp_c.specs.contracts.handle.vault.Vault as Vault

abbrev pub E : Bx
E = record { row = Recorder.the_row; laws = recorder.the_row_laws; al = record { row = Heap.the_row; laws = heap.the_row_laws; g = ghosts; d = dict; drops = impl [] tnil dnil } }

abbrev pub FromParts : Slot 0
FromParts = plain (λ _. Parts.the_row Recorder.the_row Heap.the_row ghosts)

abbrev pub FromVault : Slot 0
FromVault = plain (λ _. Vault.the_row)

-- A recorder that an empty vault names, and does not hold.
abbrev pub nobody : Recorder.the_row.Denot
nobody =
    record {
      stage = Over no_bytes false;
      definitions = [];
      threads = [];
      framed = 0;
    }
