-- What the parts of a summary are made of. All of it is this project's own.
use Rattle.std.specs.Prelude.{◌+◌, List}
use Rattle.std.specs.List.{sum_by}
use Rattle.ep_defs.specs.declared.session.Marks.{Marks}
use Rattle.pt_gen.specs.declared.summary.Counts.{Counts}

-- The sums over the marks of a session.
abbrev pub counted : List Marks → Counts
counted marks =
    record {
      admitted = sum_by (λ mark. mark.taken) marks + sum_by (λ mark. mark.refused) marks;
      written = sum_by (λ mark. mark.taken) marks;
      refused = sum_by (λ mark. mark.refused) marks;
    }
