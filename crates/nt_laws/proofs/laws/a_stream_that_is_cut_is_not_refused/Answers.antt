use Rattle.std.proofs.Common.{ℕ, ◌<◌, List, ◌++◌, length}
use Rattle.ep_defs.specs.declared.session.TraceInfo.{TraceInfo}
use Rattle.ep_defs.specs.Entry.{Entry}
use Rattle.nt_write.specs.Canonical.{IsCanonical}
use Rattle.nt_laws.specs.Reading.{IsBegunAs}
use Rattle.nt_laws.proofs.Cuts.{stream-cut}
use Rattle.nt_laws.proofs.Streams.{BodiesRead}
use Rattle.nt_laws.proofs.Told.{items-first, told-ordered}
use Rattle.nt_laws.proofs.laws.a_stream_that_is_cut_is_not_refused.Goals as goal

pub returns-clause-cut : goal.returns-clause-cut
returns-clause-cut c = stream-cut (record { body = c.what_a_body_holds_is_read.ensures })

-- A canonical stream that is cut tells its first entries.
told : BodiesRead → (info : TraceInfo) (entries : List Entry) (part left : List ℕ) → IsCanonical info entries (part ++ left) → 0 < length left → IsBegunAs entries part
told reads info entries part left canonical some =
    let begun = stream-cut reads info canonical.items part left canonical.read some in
    let first = items-first canonical.items begun.first begun.others entries begun.all canonical.told in
    record {
      items = begun.first;
      more = begun.more;
      ordered = told-ordered begun.first first.0 first.2;
      first = first.0;
      others = first.1;
      told = first.2;
      all = first.3;
    }

pub returns-clause-told : goal.returns-clause-told
returns-clause-told c = told (record { body = c.what_a_body_holds_is_read.ensures })
