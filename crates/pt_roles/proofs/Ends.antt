-- What a session of the run comes to, by what its stream says of its end.
use Rattle.std.proofs.Common.{◌≡◌, ◌≢◌, ℕ, ◌+◌, ◌<◌, ◌≤◌, true, false, List, ◌++◌, length, IsTrue, inl, inr, refl, ap, ◌∙◌, sym, subst, arith}
use Rattle.std.specs.List.{AllByRecursion}
use Rattle.ep_defs.specs.declared.event.EventDef.{EventDef}
use Rattle.ep_defs.specs.declared.limits.TheConstants.{WRITES}
use Rattle.ep_defs.specs.declared.session.Config.{Config}
use Rattle.ep_defs.specs.declared.session.Facts.{Facts}
use Rattle.ep_defs.specs.declared.session.Marks.{Marks}
use Rattle.ep_defs.specs.declared.session.Write.{Write}
use Rattle.ep_rundown.specs.Rundown.{lacks_rundown}
use Rattle.ipc_body.specs.declared.request.Request.TheVariants as request
use Rattle.pt_io.specs.Sides.{ReadSide}
use Rattle.pt_io.specs.declared.sink.Sink.{Ghosts as Sink}
use Rattle.ep_stream.specs.declared.session.Fate.{Fate}
use Rattle.ep_stream.specs.declared.session.Fate.TheVariants as fate
use Rattle.ep_stream.specs.declared.session.SessionEnd.{SessionEnd}
use Rattle.ep_journal.specs.declared.session.Opened.{Opened}
use Rattle.ep_journal.specs.declared.session.Opened.TheVariants as opened
use Rattle.ep_journal.specs.declared.session.Fate.{Fate as Kept}
use Rattle.ep_journal.specs.declared.session.Stage.TheVariants as stage
use Rattle.ep_journal.specs.Kept.{was_early}
use Rattle.ep_registry.specs.declared.hold.Hold.{Hold}
use Rattle.ep_live_laws.specs.Streams.{PartsAreFound, TracesAreFound}
use Rattle.ep_live_laws.specs.Traced.{AreOfThreads}
use Rattle.ep_live_laws.specs.Tracing.{TookTraced, TookTracedPart, is_fault}
use Rattle.pt_load.specs.Sample.{sample}
use Rattle.pt_server.specs.Connection.{HasAsked}
use Rattle.pt_server.specs.Served.{ServedState}
use Rattle.ep_live.specs.Free.{EndedState}
use Rattle.ep_pool.specs.Shared.{SeatState}
use Rattle.pt_stream.specs.End.{HasEnded, Leaves}
use Rattle.pt_stream.specs.Setting.{Setting, watch_of}
use Rattle.pt_stream.specs.State.{IsDone, StreamState, is_complete}
use Rattle.nt_write.specs.declared.limits.TheConstants.{FRAMED_EVENTS}
use Rattle.pt_io.specs.Faults.{HasRisen}
use Rattle.pt_roles.specs.Ran.{AreMarksOf, HasEachRow, IsEnd, IsSpent, IsThread, TookPart, TookTrace, is_early, refused_of, taken_of, threads_in}
use Rattle.pt_roles.specs.Fates.{fate_as}
use Rattle.pt_roles.specs.Serving.{IsLeftOf}
use Rattle.pt_roles.specs.Table.{IsOver, IsStreamOf, was_opened}
use Rattle.pt_roles.specs.World.{IsWorldOf, WorldState, before_of, setting_of, writes_of}
use Rattle.pt_roles.specs.declared.live_end.LiveSession.{LiveSession}
use Rattle.pt_writers.proofs.Load.{count-writes}
use Rattle.pt_roles.proofs.Marks.{all-done, all-marks, each-row, early-marks, is-thread, of-threads}

-- The link asked for the session that is left.
pub asked-left : {L : Type 0} (gave : L → ReadSide) (sink : Sink L) (stream : StreamState) (end : SessionEnd (ServedState L)) (session : LiveSession L)
    → HasAsked stream.gave (request.Collect stream.config) → gave end.sink.link ≡ stream.gave → end.config ≡ stream.config → IsLeftOf gave sink end session
    → HasAsked (gave session.link) (request.Collect session.config)
asked-left gave sink stream end session asked same config left =
    let side : stream.gave ≡ gave session.link = sym (left.gave_is ∙ same) in
    let conf : stream.config ≡ session.config = sym (left.config_is ∙ config) in
    subst (λ (c : Config). HasAsked (gave session.link) (request.Collect c)) conf
    (subst (λ (r : ReadSide). HasAsked r (request.Collect stream.config)) side asked)

-- A session that was opened before any write was opened.
early-opened : (o : Opened) → was_early o ≡ true → was_opened o ≡ true
early-opened opened.No was = was
early-opened opened.Early was = refl
early-opened opened.Late was = refl

-- Its pool was found dry as often as its marks tell.
pub spent-left : (config : Config) (marks : List Marks) (stream : StreamState) (ended : EndedState) (seat : SeatState) → Leaves stream ended → config ≡ stream.config → marks ≡ stream.marks
    → seat.share ≡ seat.seats → seat.taken ≡ seat.given + seat.total → seat.total ≡ ended.grant.config.chunks → seat.dry ≡ ended.seat.dry → IsSpent config marks seat
spent-left config marks stream ended seat leaves config_is marks_are alone drained chunks dry =
    record {
      alone = alone;
      drained = drained;
      chunks = chunks ∙ ap (λ (c : Config). c.chunks) (leaves.config_is ∙ sym config_is);
      dry = dry ∙ leaves.spent ∙ ap refused_of (sym marks_are);
    }

-- ---- what its link took

module _ {L : Type 0} (gave : L → ReadSide) (sink : Sink L) (side : Sink (ServedState L)) (tells_is : (s : ServedState L) → side.tells_taken s ≡ sink.tells_taken s.link) (taken_is : (s : ServedState L) → side.taken s ≡ sink.taken s.link) where
  pub whole-left : (world : WorldState) (stream : StreamState) (end : SessionEnd (ServedState L)) (session : LiveSession L)
      → TracesAreFound sample session.config (writes_of world.plan) → IsTrue (lacks_rundown sample) → AreOfThreads session.marks
      → TookTraced side (before_of world stream.id) world.facts.info sample stream.config (writes_of world.plan) stream.marks end.sink
      → session.id ≡ stream.id → session.config ≡ stream.config → session.marks ≡ stream.marks
      → IsLeftOf gave sink end session → IsTrue (sink.tells_taken session.link) → TookTrace sink world session
  whole-left world stream end session laws lacks threads took id config marks left told =
      let tells : IsTrue (side.tells_taken end.sink) = subst IsTrue (left.tells ∙ sym (tells_is end.sink)) told in
      let t : TookTraced side (before_of world stream.id) world.facts.info sample session.config (writes_of world.plan) session.marks end.sink =
      subst (λ (m : List Marks). TookTraced side (before_of world stream.id) world.facts.info sample session.config (writes_of world.plan) m end.sink) (sym marks)
      (subst (λ (c : Config). TookTraced side (before_of world stream.id) world.facts.info sample c (writes_of world.plan) stream.marks end.sink) (sym config) took)
      in
      let bytes = t.stream tells in
      record {
        stream = bytes.0;
        trace = laws world.facts.info session.marks t.entries bytes.0 lacks threads bytes.1 t.traced;
        took = left.taken ∙ sym (taken_is end.sink) ∙ bytes.2 ∙ ap (λ (i : ℕ). before_of world i ++ bytes.0) (sym id);
      }

  pub part-left : (world : WorldState) (stream : StreamState) (end : SessionEnd (ServedState L)) (session : LiveSession L)
      → PartsAreFound sample session.config (writes_of world.plan)
      → TookTracedPart side (before_of world stream.id) world.facts.info sample stream.config (writes_of world.plan) stream.marks end.sink
      → session.id ≡ stream.id → session.config ≡ stream.config → session.marks ≡ stream.marks
      → IsLeftOf gave sink end session → IsTrue (sink.tells_taken session.link) → TookPart sink world session
  part-left world stream end session laws took id config marks left told =
      let tells : IsTrue (side.tells_taken end.sink) = subst IsTrue (left.tells ∙ sym (tells_is end.sink)) told in
      let t : TookTracedPart side (before_of world stream.id) world.facts.info sample session.config (writes_of world.plan) session.marks end.sink =
      subst (λ (m : List Marks). TookTracedPart side (before_of world stream.id) world.facts.info sample session.config (writes_of world.plan) m end.sink) (sym marks)
      (subst (λ (c : Config). TookTracedPart side (before_of world stream.id) world.facts.info sample c (writes_of world.plan) stream.marks end.sink) (sym config) took)
      in
      let bytes = t.stream tells in
      record {
        part = bytes.1;
        trace = laws world.facts.info session.marks t.entries t.told bytes.1 bytes.0 t.front bytes.2 bytes.3 t.part;
        took = left.taken ∙ sym (taken_is end.sink) ∙ bytes.4 ∙ ap (λ (i : ℕ). before_of world i ++ bytes.1) (sym id);
      }

  -- ---- all of it

  of-world : (world : WorldState) (rows : ℕ) (events : List EventDef) (writes : ℕ → List Write) (setting : Setting) (facts : Facts) (greeting : List ℕ)
      (stream : StreamState) (handed : Fate) (end : SessionEnd (ServedState L))
      → IsWorldOf world rows events writes setting facts greeting
      → HasEnded side (watch_of rows events writes setting stream.config stream.id) rows setting.lives (setting.faults stream.id) stream handed end
      → HasEnded side (watch_of world.plan.threads sample (writes_of world.plan) (setting_of world) stream.config stream.id) world.plan.threads world.options.lives 0 stream handed end
  of-world world rows events writes setting facts greeting stream handed end w h =
      subst (λ (st : Setting). HasEnded side (watch_of world.plan.threads sample (writes_of world.plan) st stream.config stream.id) world.plan.threads st.lives (st.faults stream.id) stream handed end) w.setting_is
      (subst (λ (ws : ℕ → List Write). HasEnded side (watch_of world.plan.threads sample ws setting stream.config stream.id) world.plan.threads setting.lives (setting.faults stream.id) stream handed end) w.writes_are
      (subst (λ (es : List EventDef). HasEnded side (watch_of world.plan.threads es writes setting stream.config stream.id) world.plan.threads setting.lives (setting.faults stream.id) stream handed end) w.events_are
      (subst (λ (r : ℕ). HasEnded side (watch_of r events writes setting stream.config stream.id) r setting.lives (setting.faults stream.id) stream handed end) w.rows_are h)))

  pub is-end : (gave_is : (s : ServedState L) → side.read_side s ≡ gave s.link) (faults_are : (s : ServedState L) → side.write_faults s ≡ sink.write_faults s.link)
      (world : WorldState) (rows : ℕ) (events : List EventDef) (writes : ℕ → List Write) (setting : Setting) (facts : Facts) (greeting : List ℕ)
      (stream : StreamState) (handed : Fate) (end : SessionEnd (ServedState L)) (session : LiveSession L)
      → IsWorldOf world rows events writes setting facts greeting
      → TracesAreFound sample session.config (writes_of world.plan) → PartsAreFound sample session.config (writes_of world.plan) → IsTrue (lacks_rundown sample)
      → HasAsked stream.gave (request.Collect stream.config)
      → handed ≢ fate.TooLong → (is_fault handed ≡ false → is_complete stream ≡ true) → (handed ≡ fate.ProgramEnd → AllByRecursion (IsDone writes) stream.marks)
      → HasEnded side (watch_of rows events writes setting stream.config stream.id) rows setting.lives (setting.faults stream.id) stream handed end
      → IsLeftOf gave sink end session → IsSpent session.config session.marks session.seat → IsEnd gave sink world session
  is-end gave_is faults_are world rows events writes setting facts greeting stream handed end session w traces parts lacks asked own complete done h left spent =
      record {
        asked = asked-left gave sink stream end session asked (sym (gave_is end.sink) ∙ e.gave_is) e.config_is left;
        marks = subst (AreMarksOf world session.config) (sym marks)
            (subst (λ (c : Config). AreMarksOf world c stream.marks) (sym config)
            (record {
              ascending = e.served.ascending;
              threads = all-marks (IsThread world) stream.marks (is-thread world stream.places (threads_in stream.marks) e.served e.few);
              counted = e.outcome.marks_are.counted;
            }));
        spent = spent;
        every = λ sound. subst (HasEachRow world) (sym marks) (each-row world stream.places stream.marks e.served e.count e.few (complete (sound-handed sound)));
        whole = λ sound. whole-left world stream end session traces lacks (subst AreOfThreads (sym marks) (of-threads world stream.places stream.marks e.served)) (e.outcome.whole (end-sound sound) few_writes) id config marks left;
        part = λ bad. part-left world stream end session parts e.outcome.part id config marks left;
        ended = λ is. subst (AllByRecursion (λ mark. mark.to ≡ world.plan.writes)) (sym marks) (all-done world.plan stream.marks (all (handed-is is)));
        link_fault = λ is. risen (sink.write_faults session.link) (subst (HasRisen 0) (faults_are end.sink ∙ sym left.faults) (e.link_fault (sym left.fate_is ∙ is)));
        too_long = λ is. subst (λ (ms : List Marks). FRAMED_EVENTS < taken_of ms) (sym marks) (e.outcome.too_long own (sym left.fate_is ∙ is));
      }
    where
      e : HasEnded side (watch_of world.plan.threads sample (writes_of world.plan) (setting_of world) stream.config stream.id) world.plan.threads world.options.lives 0 stream handed end
      e = of-world world rows events writes setting facts greeting stream handed end w h

      id : session.id ≡ stream.id
      id = left.id_is ∙ e.id_is

      config : session.config ≡ stream.config
      config = left.config_is ∙ e.config_is

      marks : session.marks ≡ stream.marks
      marks = left.marks_are ∙ e.marks_are

      few_writes : (thread : ℕ) → length (writes_of world.plan thread) ≤ WRITES
      few_writes thread = let long = count-writes world.plan thread in omega (arith, long, w.few_writes)

      end-sound : is_fault session.fate ≡ false → is_fault end.fate ≡ false
      end-sound sound = ap is_fault (sym left.fate_is) ∙ sound

      sound-handed : is_fault session.fate ≡ false → is_fault handed ≡ false
      sound-handed sound = ap is_fault (sym (e.fate_is (end-sound sound))) ∙ end-sound sound

      handed-is : session.fate ≡ fate.ProgramEnd → handed ≡ fate.ProgramEnd
      handed-is is = sym (e.fate_is (end-sound (ap is_fault is))) ∙ sym left.fate_is ∙ is

      all : handed ≡ fate.ProgramEnd → AllByRecursion (IsDone (writes_of world.plan)) stream.marks
      all is = subst (λ (ws : ℕ → List Write). AllByRecursion (IsDone ws) stream.marks) w.writes_are (done is)

      risen : (n : ℕ) → HasRisen 0 n → 0 < n
      risen n (inl is) = is
      risen n (inr is) = omega (arith, is)

  -- What is left is that of whoever has the session, with its last stage.
  pub is-over : (world : WorldState) (rows : ℕ) (events : List EventDef) (writes : ℕ → List Write) (setting : Setting) (facts : Facts) (greeting : List ℕ)
      (hold : Hold) (stream : StreamState) (handed : Fate) (end : SessionEnd (ServedState L)) (session left_over : LiveSession L) (kept : Kept)
      → IsWorldOf world rows events writes setting facts greeting
      → (is_fault handed ≡ false → is_complete stream ≡ true) → IsStreamOf hold stream
      → HasEnded side (watch_of rows events writes setting stream.config stream.id) rows setting.lives (setting.faults stream.id) stream handed end
      → IsLeftOf gave sink end session → kept ≡ fate_as session.fate → left_over ≡ session → IsOver world (record hold { stage = stage.Over kept }) left_over
  is-over world rows events writes setting facts greeting hold stream handed end session left_over kept w complete last h left kept_is same =
      subst (λ (s : LiveSession L). IsOver world (record hold { stage = stage.Over kept }) s) (sym same)
      (record {
        id_is = left.id_is ∙ e.id_is ∙ last.id_is;
        conn_is = left.conn_is ∙ e.conn_is ∙ last.conn_is;
        stage_is = ap (λ (k : Kept). stage.Over k) kept_is;
        early = λ was.
            subst (λ (ms : List Marks). is_early world ms ≡ true) (sym (left.marks_are ∙ e.marks_are))
            (early-marks world stream.places stream.marks (e.early (last.early was)) e.count (last.complete ∙ early-opened hold.opened was));
        complete = λ sound.
            let end_sound : is_fault end.fate ≡ false = ap is_fault (sym left.fate_is) ∙ sound in
            let handed_sound : is_fault handed ≡ false = ap is_fault (sym (e.fate_is end_sound)) ∙ end_sound in
            sym last.complete ∙ complete handed_sound;
      })
    where
      e : HasEnded side (watch_of world.plan.threads sample (writes_of world.plan) (setting_of world) stream.config stream.id) world.plan.threads world.options.lives 0 stream handed end
      e = of-world world rows events writes setting facts greeting stream handed end w h
