use Rattle.std.proofs.Common.{ℕ, List, ap}
use Rattle.ep_defs.specs.declared.session.TraceInfo.{TraceInfo}
use Rattle.ep_defs.specs.Entry.{Entry}
use Rattle.nt_blocks.specs.Ordered.{kinds_of}
use Rattle.nt_write.specs.Canonical.{IsCanonical}
use Rattle.ep_model.specs.Faithful.{Share, AreFaithful}
use Rattle.nt_laws.specs.Faithful.{Faithful}
use Rattle.nt_laws.proofs.laws.a_faithful_stream_is_found.Goals as goal

pub returns-clause-found : goal.returns-clause-found
returns-clause-found c info entries bytes canonical = (c.a_canonical_stream_is_read_whole.ensures.read info entries bytes canonical).found

pub returns-clause-ordered : goal.returns-clause-ordered
returns-clause-ordered c info entries bytes canonical = (c.a_canonical_stream_is_read_whole.ensures.read info entries bytes canonical).ordered

-- The items of a canonical stream of faithful entries tell of each thread what its share has.
faithful_items : (info : TraceInfo) (shares : List Share) (entries : List Entry) (bytes : List ℕ) → AreFaithful shares entries → (canonical : IsCanonical info entries bytes) → Faithful shares canonical.items
faithful_items info shares entries bytes faithful canonical =
    let end = canonical.ended faithful.front faithful.last faithful.ended in
    record {
      info = info;
      others = kinds_of canonical.read.others;
      entries = entries;
      one_trace = ap kinds_of canonical.read.hold;
      no_other_trace = canonical.no_other_trace;
      told = canonical.told;
      plain = canonical.plain;
      faithful = faithful;
      before = end.0;
      ended = end.1;
    }

pub returns-clause-faithful : goal.returns-clause-faithful
returns-clause-faithful c = faithful_items
