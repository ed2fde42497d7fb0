use Rattle.std.proofs.Common.{◌≡◌, ◌≢◌, ◌+◌, ◌≤◌, get_or, arith}
use Rattle.std.proofs.lemmas.List.{drop_more, drop_all}
use Rattle.pt_num.proofs.Reading.{reads_end, reads_over, reads_last, reads_more, last_bound}
use Rattle.pt_num.proofs.varuint.take_groups.Goals as goal
use Rattle.pt_num.proofs.varuint.take_groups.Goals.{else-place-most-via-then-place-most+else-byte-last, else-place-most-via-else-place-most}

pub returns-then-byte-last-clause-read : goal.returns-then-byte-last-clause-read
returns-then-byte-last-clause-read c =
    let front = drop_more c.args.bytes.now c.loop-place.place 0 (omega arith) in
    reads_over _ _ _ _ _ _ _ front c.if-place-most.true c.if-byte-last.true c.loop-place.invariant

pub returns-then-byte-lt-GROUP-clause-read : goal.returns-then-byte-lt-GROUP-clause-read
returns-then-byte-lt-GROUP-clause-read c =
    let front = drop_more c.args.bytes.now c.loop-place.place 0 (omega arith) in
    let fits : c.loop-place.place + 1 ≡ c.args.most → get_or c.args.bytes.now c.loop-place.place 0 ≤ c.args.last =
    elim c.else-place-most.branch [
      | else-place-most-via-then-place-most+else-byte-last w ↦ λ at. omega arith
      | else-place-most-via-else-place-most w ↦ λ at. absurd (omega arith)
    ] in
    (omega arith, rw c.from.ensures (reads_last _ _ _ _ _ _ _ front fits c.if-byte-lt-GROUP.true c.loop-place.invariant))

pub returns-then-byte-lt-GROUP-clause-bound : goal.returns-then-byte-lt-GROUP-clause-bound
returns-then-byte-lt-GROUP-clause-bound c =
    let fits : c.loop-place.place + 1 ≡ c.args.most → get_or c.args.bytes.now c.loop-place.place 0 ≤ c.args.last =
    elim c.else-place-most.branch [
      | else-place-most-via-then-place-most+else-byte-last w ↦ λ at. omega arith
      | else-place-most-via-else-place-most w ↦ λ at. absurd (omega arith)
    ] in
    rw c.from.ensures (last_bound _ _ _ _ _ _ c.loop-place.invariant.scaled c.loop-place.invariant.low c.loop-place.invariant.before c.requires.some_last fits c.if-byte-lt-GROUP.true)

pub loop-place-preserved : goal.loop-place-preserved
loop-place-preserved c =
    let front = drop_more c.args.bytes.now c.loop-place.place 0 (omega arith) in
    let at : c.loop-place.place + 1 ≢ c.args.most =
    elim c.else-place-most.branch [
      | else-place-most-via-then-place-most+else-byte-last w ↦ λ same. omega arith
      | else-place-most-via-else-place-most w ↦ λ same. omega arith
    ] in
    rw c.from.ensures (reads_more _ _ _ _ _ _ _ front (omega arith) c.if-byte-lt-GROUP.false c.loop-place.invariant)

pub returns-clause-read : goal.returns-clause-read
returns-clause-read c =
    reads_end _ _ _ _ _ _ (drop_all c.loop-place.place c.args.bytes.now (omega arith)) c.loop-place.invariant
