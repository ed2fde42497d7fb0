use Rattle.std.proofs.Common.{List, ap, ◌∙◌}
use Rattle.ep_defs.specs.Entry.{Entry}
use Rattle.ep_model.specs.Entries.{entries}
use Rattle.nt_write.specs.Writer.{point_of}
use Rattle.ep_rundown.specs.Rundown.{with_section}
use Rattle.ep_stream.specs.Named.{numbers_of}
use Rattle.ep_stream_laws.proofs.Steps.{finished_told}
use Rattle.ep_stream_laws.proofs.laws.a_finished_session_tells_its_last_entries.Goals as goal

pub returns : goal.returns
returns c events past rest stamp h =
    ap (λ (es : List Entry). with_section rest.config.rundown es) (finished_told events past rest stamp h)
    ∙ c.the_section_stands_before_the_last_point.ensures.ending rest.config.rundown (entries events rest.seat.id past) (point_of stamp (numbers_of rest.named))
