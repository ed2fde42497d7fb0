use Rattle.ep_stream_laws.proofs.Stays.{rest_follows, entries_stay, told_made}
use Rattle.ep_stream_laws.proofs.laws.other_steps_change_nothing_kept.Goals as goal

pub returns : goal.returns
returns c =
    record {
      follows = rest_follows;
      same_entries = λ events session past made off. entries_stay events session made past (told_made session made off);
    }
