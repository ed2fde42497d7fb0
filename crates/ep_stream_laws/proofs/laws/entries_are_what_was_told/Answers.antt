use Rattle.ep_stream_laws.proofs.Steps.{stolen_told, closed_told, pointed_told, finished_told}
use Rattle.ep_stream_laws.proofs.Stays.{entries_stay}
use Rattle.ep_stream_laws.proofs.laws.entries_are_what_was_told.Goals as goal

pub returns : goal.returns
returns c =
    record {
      stolen = stolen_told;
      closed = closed_told;
      pointed = pointed_told;
      finished = finished_told;
      others = λ events session past made off. entries_stay events session made past off;
    }
