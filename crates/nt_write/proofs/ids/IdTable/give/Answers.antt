use Rattle.std.proofs.Common.{refl, arith, ◌<◌, length}
use Rattle.nt_write.proofs.IdTables.{ids-given, room_left}
use Rattle.nt_write.proofs.ids.IdTable.give.Goals as goal

pub returns-clause-given : goal.returns-clause-given
returns-clause-given c defs definitions def h distinct at =
    let old = c.args.self.now in
    let low : c.args.number < length old.table.items = omega (arith, old.places, c.requires.number) in
    let room : old.used < length old.numbers.items = room_left old.table.items old.numbers.items old.used c.args.number low c.requires.free old.few old.room in
    ids-given defs definitions def c.args.number old _ h distinct at low room c.requires.free refl refl refl
