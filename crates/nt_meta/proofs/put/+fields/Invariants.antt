-- What is put so far, and then the fields that are left, are the bytes of all fields.
use Rattle.std.proofs.Common.{◌≡◌, ◌+◌, ◌*◌, ◌≤◌, ◌++◌, length, IsTrue}
use Rattle.std.specs.List.{list_all}
use Rattle.ep_defs.specs.Event.{is_valid_field}
use Rattle.pt_num.specs.Begins.{Keeps}
use Rattle.nt_meta.specs.Meta.{fields_bytes}
use Rattle.nt_meta.proofs.put.+fields.Given as goal

abbrev pub decreases-append_fields : goal.decreases-append_fields
decreases-append_fields l = 2 * length l.fields.now

abbrev pub decreases-append_inside : goal.decreases-append_inside
decreases-append_inside l = 2 * length l.inside.now + 1

abbrev pub invariant-append_fields-loop-rest : goal.invariant-append_fields-loop-rest
invariant-append_fields-loop-rest l = record {
  put : l.out.items ++ fields_bytes (length l.rest) l.rest ≡ l.initial.out.items ++ fields_bytes (length l.fields) l.fields;
  kept : Keeps l.initial.out.items l.out.items;
  few : length l.rest ≤ length l.fields;
  valid : IsTrue (list_all is_valid_field l.rest);
}

abbrev pub decreases-append_fields-loop-rest : goal.decreases-append_fields-loop-rest
decreases-append_fields-loop-rest l = length l.rest
