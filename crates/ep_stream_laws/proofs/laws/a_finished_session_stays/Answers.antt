use Rattle.ep_stream_laws.proofs.Stays.{config_stays, entries_stay, told_made}
use Rattle.ep_stream_laws.proofs.Ends.{finish_ends, finished_stays, none_made, last_marks_stay}
use Rattle.ep_stream_laws.proofs.laws.a_finished_session_stays.Goals as goal

pub returns : goal.returns
returns c =
    record {
      ended = finish_ends;
      stays = finished_stays;
      none = none_made;
      same_config = λ events session past made lawful h. config_stays session made past (none_made events session past made lawful h);
      same_entries = λ events session past made lawful h. entries_stay events session made past (told_made session made (none_made events session past made lawful h));
      same_marks = last_marks_stay;
    }
