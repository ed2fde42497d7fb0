use Rattle.ep_model.proofs.Others.{only-lawful, entries-only, refused-only}
use Rattle.ep_model.proofs.laws.other_sessions_steps_do_not_matter.Goals as goal

pub returns : goal.returns
returns c =
    record {
      lawful = only-lawful;
      same_entries = λ events session past lawful. entries-only events session past;
      same_refused = λ events session thread past lawful. refused-only session thread past;
    }
