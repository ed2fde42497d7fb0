-- A stream goes on, whatever was pulled of it.
use Rattle.std.proofs.Common.{◌≡◌, ℕ, List, ◌++◌, ap, sym, ◌∙◌, subst, append_assoc, take, drop, take-append-drop}
use Rattle.ep_defs.specs.declared.session.TraceInfo.{TraceInfo}
use Rattle.ep_defs.specs.Entry.{Entry}
use Rattle.pt_io.specs.Taken.{IsPrefix}
use Rattle.nt_write.specs.declared.writer.TraceWriter.{TraceWriter}
use Rattle.nt_write.specs.Sinks.{with_sink}
use Rattle.nt_write.specs.Writer.{sink_of}
use Rattle.tp_c.specs.declared.recorder.Stage.{Stage}
use Rattle.tp_c.specs.declared.recorder.Recorder.{Recorder}
use Rattle.tp_c.specs.Outgoing.{Outgoing, all_of, after_pull}
use Rattle.tp_c.specs.Answering.{Begins}
use Rattle.tp_c.specs.Recording.{IsBegun, StandsFor, IsRecording, IsCut, bytes_of, outgoing_of, is_cut_stage}

-- What has come is the same after a pull.
pub all-after : (count : ℕ) (bytes : Outgoing) → all_of (after_pull count bytes) ≡ all_of bytes
all-after count bytes =
    append_assoc bytes.pulled (take count bytes.left) (drop count bytes.left) ∙ ap (λ (rest : List ℕ). bytes.pulled ++ rest) (take-append-drop count bytes.left)

-- The writer whose sink was pulled from.
pub pulled-writer : (old mid new : TraceWriter Outgoing) (empty before after : Outgoing) (count : ℕ) → mid ≡ with_sink old empty → before ≡ sink_of old → after ≡ after_pull count before → new ≡ with_sink mid after → new ≡ with_sink old (after_pull count (sink_of old))
pulled-writer old mid new empty before after count mid_is before_is after_is new_is =
    new_is ∙ ap (λ (w : TraceWriter Outgoing). with_sink w after) mid_is ∙ ap (λ (o : Outgoing). with_sink old o) (after_is ∙ ap (λ (o : Outgoing). after_pull count o) before_is)

-- What began a stream still does.
begun-after : (info : TraceInfo) (entries : List Entry) (old new : Outgoing) (count : ℕ) → new ≡ after_pull count old → IsBegun info entries old → IsBegun info entries new
begun-after info entries old new count e h =
    (h.0, h.1, subst (λ (bytes : List ℕ). IsPrefix bytes h.0) (sym (ap all_of e ∙ all-after count old)) h.2)

-- The bytes that were pulled, with some more.
pulled-more : (pulled out : List ℕ) (old new : Outgoing) (count : ℕ) → old.pulled ≡ pulled → new ≡ after_pull count old → take count out ≡ take count old.left → new.pulled ≡ pulled ++ take count out
pulled-more pulled out old new count was e front =
    ap (λ (o : Outgoing). o.pulled) e ∙ ap (λ (p : List ℕ). p ++ take count old.left) was ∙ ap (λ (rest : List ℕ). pulled ++ rest) (sym front)

-- A recorder that was pulled from stands for its entries.
pub recording-pulled : (info : TraceInfo) (entries : List Entry) (pulled out : List ℕ) (count : ℕ) (old : Recorder) (stage : Stage) → IsRecording info entries pulled old → StandsFor info entries old.definitions stage → bytes_of stage ≡ after_pull count (outgoing_of old) → take count out ≡ take count (outgoing_of old).left → IsRecording info entries (pulled ++ take count out) (record old { stage = stage })
recording-pulled info entries pulled out count old stage h stands bytes front =
    record {
      stands = stands;
      bytes = pulled-more pulled out (outgoing_of old) (bytes_of stage) count h.bytes bytes front;
      distinct = h.distinct;
      roll = h.roll;
      framed_are = h.framed_are;
    }

-- One whose stream was cut is as it was.
pub cut-pulled : (info : TraceInfo) (entries : List Entry) (pulled out : List ℕ) (count : ℕ) (old : Recorder) (stage : Stage) → IsCut info entries pulled old → is_cut_stage stage ≡ is_cut_stage old.stage → bytes_of stage ≡ after_pull count (outgoing_of old) → take count out ≡ take count (outgoing_of old).left → IsCut info entries (pulled ++ take count out) (record old { stage = stage })
cut-pulled info entries pulled out count old stage h same bytes front =
    record {
      cut = same ∙ h.cut;
      begun = begun-after info entries (outgoing_of old) (bytes_of stage) count bytes h.begun;
      bytes = pulled-more pulled out (outgoing_of old) (bytes_of stage) count h.bytes bytes front;
    }

-- What was pulled begins what the bytes began.
pub begins-with : (info : TraceInfo) (entries : List Entry) (pulled out : List ℕ) (count : ℕ) (bytes : Outgoing) → bytes.pulled ≡ pulled → take count out ≡ take count bytes.left → IsBegun info entries bytes → Begins info entries (pulled ++ take count out)
begins-with info entries pulled out count bytes was front h =
    let rest = h.2.0 in (
      h.0,
      h.1,
      (
        drop count bytes.left ++ rest,
        ap (λ (x : List ℕ). x ++ (drop count bytes.left ++ rest)) (ap (λ (t : List ℕ). pulled ++ t) front ∙ ap (λ (p : List ℕ). p ++ take count bytes.left) (sym was))
            ∙ sym (append_assoc (bytes.pulled ++ take count bytes.left) (drop count bytes.left) rest)
            ∙ ap (λ (x : List ℕ). x ++ rest) (all-after count bytes) ∙ h.2.1,
      ),
    )
