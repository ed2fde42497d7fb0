use Rattle.ep_tie.proofs.Seatings.{starts}
use Rattle.ep_tie.proofs.maker.Blank.new.Goals as goal

pub of_words-requires : goal.of_words-requires
of_words-requires g c = starts
