use Rattle.nt_write.proofs.writer.note_threads.Goals as goal

pub returns : goal.returns
returns c = record { stamp = c.ranges.stamp.fits; few = c.requires; fit = c.threads_fit.ensures }
