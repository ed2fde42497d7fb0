-- What the command `trace` comes to by how its session ended.
use Rattle.std.proofs.Common.{◌≡◌, ◌≢◌, List, refl, inl, inr, arith}
use Rattle.ep_defs.specs.declared.session.Config.{Config}
use Rattle.ep_defs.specs.declared.session.Marks.{Marks}
use Rattle.ep_defs.specs.Session.{standard_info_of}
use Rattle.ep_stream.specs.declared.session.Fate.{Fate}
use Rattle.ep_stream.specs.declared.session.Fate.TheVariants as fates
use Rattle.pt_io.specs.declared.sink.Sink.{Ghosts as Sink}
use Rattle.pt_command.specs.declared.end.End.{End}
use Rattle.pt_live.specs.declared.trace.TraceEnd.{TraceEnd}
use Rattle.pt_load.specs.declared.plan.Plan.{Plan}
use Rattle.pt_live.specs.Trace.{AreWhole, HasMarks, Traced}
use Rattle.pt_asked.specs.declared.words.Asked.{Asked}
use Rattle.pt_cli.specs.Traced.{IsEndOf, TracesTo}

-- The session had each thread whole where its output took a beginning of a stream.
whole-marks : (plan : Plan) (config : Config) (fate : Fate) (marks : List Marks) → fate ≢ fates.LinkFault → HasMarks plan config fate marks → AreWhole plan config marks
whole-marks plan config fate marks sound (inl whole) = whole
whole-marks plan config fate marks sound (inr none) = absurd (sound none.0)

pub traces-to : {O : Type 0} (sink : Sink O) (asked : Asked) (old new : O) (run : TraceEnd) (fate : Fate) (end : End) → run.fate ≡ fate → IsEndOf fate end
    → Traced sink (standard_info_of 1 1) asked.plan asked.config old new run → TracesTo sink asked old new run.rows.items run.seat run.marks end
traces-to sink asked old new run fates.ProgramEnd end fate_is is traced =
    record {
      done = λ _. traced.whole fate_is;
      part = λ either. elim either [
        | inl other ↦ absurd (cc)
        | inr other ↦ absurd (cc)
      ];
      memory = λ other. absurd (cc);
      spent = traced.spent;
      written = λ _. traced.rows;
      whole = λ _. whole-marks asked.plan asked.config run.fate run.marks (λ failed. cc) traced.marks;
      whole_or_none = λ either. elim either [
        | inl other ↦ absurd (cc)
        | inr other ↦ absurd (cc)
      ];
      too_long = λ other. absurd (cc);
      short = λ few other. cc;
      write_fault = λ other. absurd (cc);
      all_written = λ _. traced.wrote (λ other. cc);
      ends = inl is;
    }
traces-to sink asked old new run fates.LinkFault end fate_is is traced =
    record {
      done = λ other. absurd (cc);
      part = λ _. traced.part (rw fate_is refl);
      memory = λ other. absurd (cc);
      spent = traced.spent;
      written = λ _. traced.rows;
      whole = λ either. elim either [
        | inl other ↦ absurd (cc)
        | inr other ↦ absurd (cc)
      ];
      whole_or_none = λ _. elim traced.marks [
        | inl whole ↦ inl whole
        | inr none ↦ inr none.1
      ];
      too_long = λ other. absurd (cc);
      short = λ few other. cc;
      write_fault = λ _. traced.link_fault fate_is;
      all_written = λ either. elim either [
        | inl other ↦ absurd (cc)
        | inr other ↦ absurd (cc)
      ];
      ends = inr (inl is);
    }
traces-to sink asked old new run fates.TooLong end fate_is is traced =
    let long = traced.too_long fate_is in
    record {
      done = λ other. absurd (cc);
      part = λ _. traced.part (rw fate_is refl);
      memory = λ other. absurd (cc);
      spent = traced.spent;
      written = λ _. traced.rows;
      whole = λ _. whole-marks asked.plan asked.config run.fate run.marks (λ failed. cc) traced.marks;
      whole_or_none = λ either. elim either [
        | inl other ↦ absurd (cc)
        | inr other ↦ absurd (cc)
      ];
      too_long = λ _. long;
      short = λ few _. omega (arith, few, long.taken, long.admitted, long.written);
      write_fault = λ other. absurd (cc);
      all_written = λ _. traced.wrote (λ other. cc);
      ends = inr (inr (inr is));
    }
traces-to sink asked old new run fates.OutOfMemory end fate_is is traced =
    record {
      done = λ other. absurd (cc);
      part = λ either. elim either [
        | inl other ↦ absurd (cc)
        | inr other ↦ absurd (cc)
      ];
      memory = λ _ tells. inl (traced.part (rw fate_is refl) tells);
      spent = traced.spent;
      written = λ other. absurd (other is);
      whole = λ either. elim either [
        | inl other ↦ absurd (cc)
        | inr other ↦ absurd (cc)
      ];
      whole_or_none = λ _. elim traced.marks [
        | inl whole ↦ inl whole
        | inr none ↦ inr none.1
      ];
      too_long = λ other. absurd (cc);
      short = λ few other. cc;
      write_fault = λ other. absurd (cc);
      all_written = λ either. elim either [
        | inl other ↦ absurd (cc)
        | inr other ↦ absurd (cc)
      ];
      ends = inr (inr (inl is));
    }
traces-to sink asked old new run (fates.Requested conn) end fate_is is traced = absurd is
