-- Fields are read one after another. Each step inward is one deeper, up to the greatest depth.
use Rattle.std.proofs.Common.{◌+◌, ◌-◌, ◌*◌}
use Rattle.nt_meta.specs.declared.limits.TheConstants.{READ_DEPTH}
use Rattle.nt_meta.proofs.FieldSteps.{Going}
use Rattle.nt_meta.proofs.cursor.Cursor.+fields.Given as goal

abbrev pub decreases-field : goal.decreases-field
decreases-field l = 2 * (READ_DEPTH + 1 - l.depth)

abbrev pub decreases-fields : goal.decreases-fields
decreases-fields l = 2 * (READ_DEPTH + 1 - l.depth) + 1

abbrev pub invariant-fields-loop : goal.invariant-fields-loop
invariant-fields-loop l =
    Going l.depth l.count l.initial.self.rest.now l.initial.fields.items (l.count - l.counter) l.self.rest.now l.fields.items
