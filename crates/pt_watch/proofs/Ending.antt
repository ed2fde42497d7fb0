-- What the command comes to, by what its run has come to and what it wrote.
use Rattle.std.proofs.Common.{◌≡◌, ◌≢◌, ◌⊎◌, inl, inr, Bool, true, false, List, [], Some, refl, ap, subst, ℕ}
use Rattle.pt_asked.specs.declared.words.Asked.{Asked}
use Rattle.pt_asked.specs.Words.{Fits}
use Rattle.pt_command.specs.declared.end.End.{End}
use Rattle.pt_command.specs.declared.end.End.TheVariants as ends
use Rattle.pt_command.specs.Says.{SaysLine}
use Rattle.pt_io.specs.declared.sink.Sink.{Ghosts as Sink}
use Rattle.pt_io.specs.Faults.{HasRisen}
use Rattle.pt_listen.specs.declared.watch.WatchEnd.{WatchEnd}
use Rattle.pt_listen.specs.Watched.{WatchedFrom}
use Rattle.pt_watch.specs.Command.{Tells, Watches}
use Rattle.pt_watch.specs.Counting.{IsNothing, StandsFor, counts_in}
use Rattle.pt_watch.specs.Lines.{told_lines}
use Rattle.pt_watch.specs.declared.counts.Counts.{Counts}
use Rattle.pt_watch.proofs.Few.{few-heard}
use Rattle.pt_watch.proofs.Telling.{lines-heard}

module _ {O : Type 0} (sink : Sink O) (old new : O) where
  -- Where nothing is written it does not matter what was to be.
  tells-as : (first second : List ℕ) (failed : Bool) (end : End) → (failed ≡ false → first ≡ second) → Tells sink old new first failed end → Tells sink old new second failed end
  tells-as first second true end same told = told
  tells-as first second false end same told = subst (λ (text : List ℕ). Tells sink old new text false end) (same refl) told

  says-fault : (text : List ℕ) (end : End) → SaysLine sink old new text ends.Done end → end ≡ ends.WriteFault → HasRisen (sink.write_faults old) (sink.write_faults new)
  says-fault text end (inl (inl said)) other = let is = said.0 in absurd (cc)
  says-fault text end (inl (inr broke)) other = broke.1.fault
  says-fault text end (inr none) other = let is = none.0 in absurd (cc)

  says-sound : (text : List ℕ) (end : End) → SaysLine sink old new text ends.Done end → end ≢ ends.WriteFault → sink.write_faults new ≡ sink.write_faults old
  says-sound text end (inl (inl said)) other = said.1.sound
  says-sound text end (inl (inr broke)) other = absurd (other broke.0)
  says-sound text end (inr none) other = ap sink.write_faults none.1

  says-ends : (text : List ℕ) (end : End) → SaysLine sink old new text ends.Done end → (end ≡ ends.Done) ⊎ (end ≡ ends.WriteFault) ⊎ (end ≡ ends.OutOfMemory)
  says-ends text end (inl (inl said)) = inl said.0
  says-ends text end (inl (inr broke)) = inr (inl broke.0)
  says-ends text end (inr none) = inr (inr none.0)

  -- A fault has its cause.
  tells-fault : (text : List ℕ) (failed : Bool) (end : End) → Tells sink old new text failed end → end ≡ ends.WriteFault → HasRisen (sink.write_faults old) (sink.write_faults new)
  tells-fault text true end told other = let is = told.0 in absurd (cc)
  tells-fault text false end told other = says-fault text end told other

  tells-sound : (text : List ℕ) (failed : Bool) (end : End) → Tells sink old new text failed end → end ≢ ends.WriteFault → sink.write_faults new ≡ sink.write_faults old
  tells-sound text true end told other = ap sink.write_faults told.1
  tells-sound text false end told other = says-sound text end told other

  tells-ends : (text : List ℕ) (failed : Bool) (end : End) → Tells sink old new text failed end → (end ≡ ends.Done) ⊎ (end ≡ ends.WriteFault) ⊎ (end ≡ ends.OutOfMemory)
  tells-ends text true end told = inr (inr told.0)
  tells-ends text false end told = says-ends text end told

  module _ (asked : Asked) (run : WatchEnd Counts) (fits : Fits asked) (watched : WatchedFrom StandsFor IsNothing asked.plan asked.config run) where
    -- The callback counted what it heard.
    pub counted : StandsFor run.listened.callback watched.heard
    counted = watched.told [] refl

    -- The run ended, and what was told of it is what was heard.
    pub watches-some : (end : End) → Tells sink old new (told_lines run.listened.marks (counts_in run.listened.callback)) run.listened.failed end
        → Watches sink asked old new run.rows.items (Some run.seat) run.listened.marks end
    watches-some end told =
        let marks = run.listened.marks in
        let counts = counts_in run.listened.callback in
        let failed = run.listened.failed in
        let heard = watched.heard in
        record {
          watched = record {
            written = watched.rows;
            whole = watched.whole;
            spent = watched.spent;
            failed = failed;
            heard = heard;
            watched = watched.watched;
            told =
                tells-as (told_lines marks counts) _ failed end
                (λ sound.
                lines-heard marks counts heard counted.0
                (few-heard asked.plan asked.config heard marks fits.plan.few fits.plan.short watched.whole (watched.watched.taken sound) watched.watched.alone)
                counted.1 (watched.watched.taken sound))
                told;
          };
          none = λ is. absurd (cc);
          write_fault = tells-fault (told_lines marks counts) failed end told;
          all_written = tells-sound (told_lines marks counts) failed end told;
          ends = tells-ends (told_lines marks counts) failed end told;
        }
