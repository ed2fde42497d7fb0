-- What a run's session is at its end, by what its stream says of it.
use Rattle.std.proofs.Common.{◌≡◌, ◌≢◌, ◌∙◌, ◌⊎◌, inl, inr, ℕ, ◌≤◌, true, false, List, map, sym, ap, subst}
use Rattle.std.specs.List.{sum_by, AllByRecursion}
use Rattle.ep_defs.specs.declared.event.EventDef.{EventDef}
use Rattle.ep_defs.specs.declared.session.Config.{Config}
use Rattle.ep_defs.specs.declared.session.Marks.{Marks}
use Rattle.ep_defs.specs.declared.session.Write.{Write}
use Rattle.pt_io.specs.declared.sink.Sink.{Ghosts as Sink}
use Rattle.ep_live.specs.Free.{EndedState}
use Rattle.ep_pool.specs.Shared.{SeatState}
use Rattle.ep_stream.specs.declared.session.Fate.{Fate}
use Rattle.ep_stream.specs.declared.session.Fate.TheVariants as fate
use Rattle.ep_stream.specs.declared.session.SessionEnd.{SessionEnd}
use Rattle.ep_live_laws.specs.Calls.{IsOutcome}
use Rattle.ep_live_laws.specs.Tracing.{is_fault}
use Rattle.pt_stream.specs.End.{HasEnded, Leaves}
use Rattle.pt_stream.specs.Setting.{Setting, watch_of}
use Rattle.pt_stream.specs.State.{EndsAt, StreamState}
use Rattle.pt_load.specs.declared.plan.Plan.{Plan}
use Rattle.pt_writers.specs.Whole.{IsSpent}
use Rattle.pt_live.specs.state.Ended.{HasEndedAt}
use Rattle.pt_live.specs.state.Open.{IsOpenOn}
use Rattle.pt_live.specs.state.Run.{RunState, setting_of}
use Rattle.pt_live.proofs.Firsts.{few-threads, threads-opened, whole-marks}

-- ---- what it was to end by

-- It was to end out of memory, or with the program.
pub own-end : (handed : Fate) → (handed ≡ fate.OutOfMemory) ⊎ (handed ≡ fate.ProgramEnd) → (handed ≢ fate.LinkFault) × (handed ≢ fate.TooLong)
own-end handed (inl is) = ((λ other. memory-link (sym is ∙ other)), (λ other. memory-long (sym is ∙ other)))
  where
    memory-link : fate.OutOfMemory ≡ fate.LinkFault → ⊥
    memory-link e = cc

    memory-long : fate.OutOfMemory ≡ fate.TooLong → ⊥
    memory-long e = cc
own-end handed (inr is) = ((λ other. end-link (sym is ∙ other)), (λ other. end-long (sym is ∙ other)))
  where
    end-link : fate.ProgramEnd ≡ fate.LinkFault → ⊥
    end-link e = cc

    end-long : fate.ProgramEnd ≡ fate.TooLong → ⊥
    end-long e = cc

-- Nobody asks for it.
pub never-asked : (handed : Fate) → (handed ≡ fate.OutOfMemory) ⊎ (handed ≡ fate.ProgramEnd) → (conn : ℕ) → handed ≢ fate.Requested conn
never-asked handed (inl is) conn other = memory-asked (sym is ∙ other)
  where
    memory-asked : fate.OutOfMemory ≡ fate.Requested conn → ⊥
    memory-asked e = cc
never-asked handed (inr is) conn other = end-asked (sym is ∙ other)
  where
    end-asked : fate.ProgramEnd ≡ fate.Requested conn → ⊥
    end-asked e = cc

-- Out of memory is a fault, and is not the program's end.
pub faulty-memory : (handed : Fate) → handed ≡ fate.OutOfMemory → is_fault handed ≡ false → ⊥
faulty-memory handed is sound = true-false (sym (ap is_fault is) ∙ sound)
  where
    true-false : true ≡ false → ⊥
    true-false e = cc

pub memory-apart : (handed : Fate) → handed ≡ fate.OutOfMemory → handed ≡ fate.ProgramEnd → ⊥
memory-apart handed is other = apart (sym is ∙ other)
  where
    apart : fate.OutOfMemory ≡ fate.ProgramEnd → ⊥
    apart e = cc

-- ---- what it comes to

module _ {S : Type 0} (side : Sink S) (run : RunState) (plan : Plan) (events : List EventDef) (writes : ℕ → List Write) where
  -- The session as one of the run.
  of-run : (rows : ℕ) (setting : Setting) (config : Config) (id : ℕ) (stream : StreamState) (handed : Fate) (end : SessionEnd S) → rows ≡ plan.threads → setting ≡ setting_of run → config ≡ run.config
      → HasEnded side (watch_of rows events writes setting config id) rows setting.lives (setting.faults id) stream handed end
      → HasEnded side (watch_of plan.threads events writes (setting_of run) run.config 1) rows 1 run.faults stream handed end
  of-run rows setting config id stream handed end rows_are setting_is config_is e =
      subst (λ (n : ℕ). HasEnded side (watch_of n events writes (setting_of run) run.config 1) rows 1 run.faults stream handed end) rows_are
      (subst (λ (c : Config). HasEnded side (watch_of rows events writes (setting_of run) c id) rows 1 run.faults stream handed end) config_is
      (subst (λ (s : Setting). HasEnded side (watch_of rows events writes s config id) rows s.lives (s.faults id) stream handed end) setting_is e))

  -- It was open on the first rows, each in its first life, and was closed there when each thread had made so many writes.
  pub ended-at : (rows opened to : ℕ) (setting : Setting) (stream : StreamState) (handed : Fate) (end : SessionEnd S) → rows ≡ plan.threads → setting ≡ setting_of run → opened ≤ rows
      → IsOpenOn run rows opened opened stream → AllByRecursion (EndsAt to) stream.marks → ((conn : ℕ) → handed ≢ fate.Requested conn)
      → HasEnded side (watch_of rows events writes setting stream.config stream.id) rows setting.lives (setting.faults stream.id) stream handed end
      → HasEndedAt side run plan events writes opened to handed end.marks end.fate end.sink
  ended-at rows opened to setting stream handed end rows_are setting_is few o ends not_asked has =
      let e = of-run rows setting stream.config stream.id stream handed end rows_are setting_is o.config_is has in
      let early = e.early o.early in
      let threads = threads-opened run rows opened stream (map (λ mark. mark.thread) stream.marks) o e.served early.first in
      subst (λ (ms : List Marks). HasEndedAt side run plan events writes opened to handed ms end.fate end.sink) (sym e.marks_are)
      (record {
        threads = threads;
        whole = whole-marks rows to stream.marks (few-threads rows opened (map (λ mark. mark.thread) stream.marks) few threads) early.from ends;
        outcome = subst
            (λ (ts : List ℕ). IsOutcome side (watch_of plan.threads events writes (setting_of run) run.config 1) ts handed stream.marks end.fate end.sink)
            threads
            e.outcome;
        well =
            record {
              link_fault = e.link_fault;
              wrote = e.wrote;
              not_asked = λ conn is. not_asked conn (sym (e.fate_is (ap is_fault is)) ∙ is);
            };
      })

-- Its pool has the chunks that were asked for, all of them back, and was found dry as often as the marks tell.
pub spent-so : {S : Type 0} (config : Config) (stream : StreamState) (end : SessionEnd S) (left : EndedState) (seat : SeatState) → stream.config ≡ config → end.marks ≡ stream.marks → Leaves stream left
    → seat ≡ left.seat → seat.share ≡ seat.seats → seat.taken ≡ seat.given → seat.total ≡ left.grant.config.chunks → IsSpent config end.marks seat
spent-so config stream end left seat config_is marks_are leaves seat_is alone back chunks =
    record {
      alone = alone;
      back = back;
      chunks = chunks ∙ ap (λ (c : Config). c.chunks) (leaves.config_is ∙ config_is);
      dry = ap (λ (s : SeatState). s.dry) seat_is ∙ leaves.spent ∙ ap (λ (ms : List Marks). sum_by (λ mark. mark.refused) ms) (sym marks_are);
    }
