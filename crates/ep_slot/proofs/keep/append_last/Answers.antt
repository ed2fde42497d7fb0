use Rattle.ep_chunk.specs.Record.{record_of, size_of}
use Rattle.ep_slot.proofs.Chains.{room-is, set-either, some-length}
use Rattle.ep_slot.proofs.keep.append_last.Goals as goal

pub returns-in-Some-clause-room : goal.returns-in-Some-clause-room
returns-in-Some-clause-room c =
    room-is c.args.chain.now c.in-Some.chunk.now (size_of (record_of c.args.rec.now)) c.append.result
    (some-length c.args.chain.now c.in-Some.ensures.empty.1)
    c.in-Some.ensures.last c.append.ensures.fits

pub returns-in-Some-clause-kept : goal.returns-in-Some-clause-kept
returns-in-Some-clause-kept c =
    set-either c.args.chain.now c.in-Some.chunk.now c.append.new.self (record_of c.args.rec.now) c.append.result
    (some-length c.args.chain.now c.in-Some.ensures.empty.1)
    c.in-Some.ensures.last c.append.ensures.records
