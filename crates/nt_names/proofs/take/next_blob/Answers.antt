use Rattle.std.proofs.Common.{◌≡◌, true, refl, ap, arith}
use Rattle.std.specs.Prelude.{nat_lt}
use Rattle.std.proofs.lemmas.Bool.{le-ltb, lt-ltb}
use Rattle.nt_blocks.proofs.Shorter.{head-some}
use Rattle.nt_blocks.proofs.TakeBlobs.{blob_cut, blob_headless, blob_unfit}
use Rattle.nt_names.specs.declared.head.Head.{Head}
use Rattle.nt_names.proofs.take.next_blob.Goals as goal
use Rattle.nt_names.proofs.take.next_blob.Goals.{then-head-eq0-via-then-head-eq0, then-head-eq0-via-else-head-eq0+then-bytes-used}

pub returns-in_err-head-clause-none : goal.returns-in_err-head-clause-none
returns-in_err-head-clause-none c = λ none before same at.
    let cut = c.in_err-head.ensures.none refl before in
    blob_headless _ at before c.args.bytes.now cut.0 cut.1

pub returns-then-head-eq0-clause-none : goal.returns-then-head-eq0-clause-none
returns-then-head-eq0-clause-none c = λ none before same at.
    let skims = c.in_ok-head.ensures.some in
    let one = skims.after before same in
    let metadata : one.state.metadata ≡ c.in_ok-head.head.names.metadata = ap (λ (h : Head). h.names.metadata) one.kept in
    let size : one.state.size ≡ c.in_ok-head.head.size = ap (λ (h : Head). h.size) one.kept in
    elim c.then-head-eq0.branch [
      | then-head-eq0-via-then-head-eq0 w ↦
          blob_unfit _ at c.read_head.new.at before one.state c.args.bytes.now one.read (le-ltb 0 one.state.metadata (omega (arith, metadata)))
      | then-head-eq0-via-else-head-eq0+then-bytes-used w ↦
          let may : nat_lt 0 one.state.metadata ≡ true = lt-ltb 0 one.state.metadata (omega (arith, metadata)) in
          blob_cut _ at c.read_head.new.at before one.state c.args.bytes.now one.read may skims.within (omega (arith, size, skims.within))
    ]

pub returns-clause-some : goal.returns-clause-some
returns-clause-some c = λ before same.
    let skims = c.in_ok-head.ensures.some in
    let one = skims.after before same in
    let metadata : one.state.metadata ≡ c.in_ok-head.head.names.metadata = ap (λ (h : Head). h.names.metadata) one.kept in
    let size : one.state.size ≡ c.in_ok-head.head.size = ap (λ (h : Head). h.size) one.kept in
    record {
      state = one.state;
      kept = one.kept;
      reads = record {
        some = head-some before one.state c.args.bytes.now c.read_head.new.at one.read;
        within = omega (arith, size, skims.within, c.if-bytes-used.false);
        read = one.read;
        may = lt-ltb 0 one.state.metadata (omega (arith, metadata));
      };
    }
