-- A session that was just started.
use Rattle.std.proofs.Common.{◌≡◌, ◌∙◌, ℕ, ◌<◌, true, false, List, [], ◌++◌, Option, None, refl, sym, ap, subst, arith}
use Rattle.std.specs.Prelude.{Bool, IsTrue, replicate}
use Rattle.std.specs.List.{AllByRecursion, sum_by}
use Rattle.std.proofs.lemmas.Bool.{true≢false}
use Rattle.std.proofs.lemmas.Option.{none-some}
use Rattle.ep_defs.specs.Definitions.{definition_at}
use Rattle.ep_defs.specs.declared.event.EventDef.{EventDef}
use Rattle.ep_defs.specs.declared.session.Config.{Config}
use Rattle.ep_defs.specs.declared.session.TraceInfo.{TraceInfo}
use Rattle.ep_defs.specs.declared.session.Write.{Write}
use Rattle.ep_defs.specs.Entry.{Entry}
use Rattle.nt_write.specs.declared.writer.TraceWriter.{TraceWriter}
use Rattle.nt_write.specs.Writer.{IsWriting, sink_of as writer_sink}
use Rattle.pt_io.specs.declared.sink.Sink.{Ghosts as Sink}
use Rattle.ep_stream.specs.declared.session.Seat.{Seat}
use Rattle.ep_stream.specs.declared.session.Session.{Session}
use Rattle.ep_stream.specs.Session.{Rest, Started, fault_of, hand_on, new_rest, opened_count, rest_of, sink_of, writer_of}
use Rattle.ep_stream.specs.Telling.{IsTelling}
use Rattle.ep_live.specs.RowSet.{AreFresh, LiveRowsState}
use Rattle.ep_live_laws.specs.Calls.{IsNew}
use Rattle.ep_live_laws.specs.Tracing.{IsTracing}
use Rattle.pt_stream.specs.declared.place.Place.{Place}
use Rattle.pt_stream.specs.Setting.{Setting, watch_of}
use Rattle.pt_stream.specs.State.{no_place, place_at}
use Rattle.pt_stream.specs.End.{AreServed, IsFromFirst}
use Rattle.pt_stream.specs.Kept.{IsEarlyOn, IsFirstHand, IsKept}
use Rattle.pt_stream.proofs.Hands.{places-none}
use Rattle.pt_stream.proofs.Places.{place-none}
use Rattle.pt_stream.proofs.Told.{faults-sound}

-- ---- what its sink had taken

-- A writer whose sink does not tell what it takes stands behind any bytes.
any-writing : {S : Type 0} (tells : S → Bool) (taken : S → List ℕ) (before other : List ℕ) (defs : ℕ → Option EventDef) (info : TraceInfo) (told : List Entry) (writer : TraceWriter S) → tells (writer_sink writer) ≡ false
    → IsWriting tells taken before defs info told writer → IsWriting tells taken other defs info told writer
any-writing tells taken before other defs info told writer silent w =
    record {
      sound = w.sound;
      at =
          record {
            kept =
                record {
                  output =
                      record {
                        took = record { all = λ tells_so. absurd (true≢false (sym tells_so ∙ silent)) };
                        alignment = w.at.kept.output.alignment;
                      };
                  pending = w.at.kept.pending;
                  ids = w.at.kept.ids;
                  flushes = w.at.kept.flushes;
                };
            known = w.at.known;
            few = w.at.few;
          };
      framed_are = w.framed_are;
      info_fits = w.info_fits;
      can_tell = w.can_tell;
      stacks_fit = w.stacks_fit;
    }

any-telling : {S : Type 0} (tells : S → Bool) (taken : S → List ℕ) (before other : List ℕ) (defs : ℕ → Option EventDef) (info : TraceInfo) (told : List Entry) (writer : TraceWriter S) → tells (writer_sink writer) ≡ false
    → IsTelling tells taken before defs info told writer → IsTelling tells taken other defs info told writer
any-telling tells taken before other defs info told writer silent t =
    record {
      sound = λ none. any-writing tells taken before other defs info told writer silent (t.sound none);
      failed = λ fault is tells_so. absurd (true≢false (sym tells_so ∙ silent));
      spent = t.spent;
    }

-- It stands behind these bytes, where its sink had taken them if it tells so.
behind : {S : Type 0} (tells : S → Bool) (taken : S → List ℕ) (before other had : List ℕ) (defs : ℕ → Option EventDef) (info : TraceInfo) (told : List Entry) (sink : S) (writer : TraceWriter S) → tells (writer_sink writer) ≡ tells sink
    → (IsTrue (tells sink) → before ≡ had) → (IsTrue (tells sink) → had ≡ other)
    → IsTelling tells taken before defs info told writer → IsTelling tells taken other defs info told writer
behind tells taken before other had defs info told sink writer same begins is t =
    elim (tells sink) as (λ v. tells sink ≡ v → IsTelling tells taken other defs info told writer) [
      | true ↦ λ e. subst (λ (bytes : List ℕ). IsTelling tells taken bytes defs info told writer) (begins e ∙ is e) t
      | false ↦ λ e. any-telling tells taken before other defs info told writer (same ∙ e) t
    ]
    refl

-- ---- all of it

module _ {S : Type 0} (side : Sink S) (rows : ℕ) (events : List EventDef) (writes : ℕ → List Write) (setting : Setting) where
  -- It is a new session behind these bytes.
  pub is-new : (sink : S) (session : Session S) (seat : Seat) (config : Config) (reply : List ℕ) (info : TraceInfo) → info ≡ setting.info
      → Started side.tells_taken side.taken reply info sink session → side.tells_taken (sink_of session) ≡ side.tells_taken sink
      → (IsTrue (side.tells_taken sink) → side.taken sink ++ reply ≡ setting.before seat.id)
      → ((row : ℕ) → hand_on session row ≡ None) → rest_of session ≡ new_rest seat config
      → IsNew side (watch_of rows events writes setting config seat.id) session
  is-new sink session seat config reply info info_is started told had shut rest =
      let telling : (es : List EventDef) → IsTelling side.tells_taken side.taken (setting.before seat.id) (definition_at es) setting.info [] (writer_of session) = λ es.
      subst (λ (i : TraceInfo). IsTelling side.tells_taken side.taken (setting.before seat.id) (definition_at es) i [] (writer_of session)) info_is
      (behind side.tells_taken side.taken started.before (setting.before seat.id) (side.taken sink ++ reply) (definition_at es) info [] sink (writer_of session) told started.reply_is had (started.telling es))
      in
      record {
        reply = reply;
        sink = sink;
        seat = seat;
        started = record { before = setting.before seat.id; reply_is = λ tells_so. sym (had tells_so); telling = telling };
        before = refl;
        shut = shut;
        rest = rest;
      }

  pub kept-new : (set : LiveRowsState) (session : Session S) (seat : Seat) (config : Config) (lives : List ℕ)
      → set.slot ≡ seat.slot → set.grant.config ≡ config → AreFresh rows seat.slot set.grant set.seat None lives set → set.seat.dry ≡ 0
      → ((row : ℕ) → hand_on session row ≡ None) → rest_of session ≡ new_rest seat config → opened_count session ≡ 0
      → IsTracing side (watch_of rows events writes setting config seat.id) [] [] session
      → fault_of session ≡ None → side.write_faults (sink_of session) ≡ setting.faults seat.id
      → IsKept side rows events writes setting set session 0 seat (replicate rows no_place) true
  kept-new set session seat config lives slot_is config_is fresh dry shut rest counted tracing sound wrote =
      let seat_of = ap (λ (r : Rest). r.seat) rest in
      let config_of = ap (λ (r : Rest). r.config) rest in
      let empty = ap (λ (r : Rest). r.in_hand) rest in
      record {
        seat_is = seat_of;
        count = counted;
        few = omega arith;
        rows_are =
            record {
              slot_is = slot_is ∙ sym (ap (λ (s : Seat). s.slot) seat_of);
              config_is = config_is ∙ sym config_of;
              own =
                  record {
                    hands = λ row. fresh.closed row _ ∙ sym (shut row);
                    configs = λ row hand is. absurd (none-some hand (sym (shut row) ∙ is));
                    chunks = fresh.given _ ∙ sym empty;
                  };
              count = fresh.count;
              no_hands = λ row s not. fresh.closed row s;
              none_out = λ s not. fresh.given s;
              spent = dry ∙ sym (ap (λ (r : Rest). sum_by (λ mark. mark.refused) r.marks) rest);
            };
        empty = empty;
        places_are = places-none rows setting.lives (hand_on session) shut;
        opened = [];
        served = served-none;
        early_is = λ is. early-none;
        told = record { told = []; tracing = subst (λ (c : Config). IsTracing side (watch_of rows events writes setting c seat.id) [] [] session) (sym config_of) tracing; says = faults-sound side.write_faults (setting.faults seat.id) session sound wrote };
      }
    where
      nowhere : (row : ℕ) → 0 < (place_at (replicate rows no_place) row).next → ⊥
      nowhere row up = let none : 0 < 0 = subst (λ (p : Place). 0 < p.next) (place-none rows row) up in absurd (omega (arith, none))

      served-none : AreServed rows (replicate rows no_place) []
      served-none =
          record {
            ascending = tt;
            each = λ thread is. absurd (true≢false (sym is));
            all = λ row some up. absurd (nowhere row up);
          }

      early-none : IsEarlyOn rows (replicate rows no_place) [] session
      early-none =
          record {
            first = λ row some up. absurd (nowhere row up);
            hands = λ row. subst (IsFirstHand rows) (sym (shut row)) tt;
            marks = subst (AllByRecursion (IsFromFirst rows)) (sym (ap (λ (r : Rest). r.marks) rest)) tt;
          }
