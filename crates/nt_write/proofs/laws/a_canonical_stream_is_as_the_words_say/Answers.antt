use Rattle.nt_write.proofs.InWords.{in_words}
use Rattle.nt_write.proofs.laws.a_canonical_stream_is_as_the_words_say.Goals as goal

pub returns : goal.returns
returns c = in_words
