-- What a handle holds, and the codes of answers.
use Rattle.std.proofs.Common.{◌≡◌, ℕ, true, List, Result, Ok, Err, refl, ap, sym, ◌∙◌, subst, arith}
use Rattle.std.specs.Prelude.{OnOk}
use Rattle.ep_defs.specs.declared.session.TraceInfo.{TraceInfo}
use Rattle.ep_defs.specs.Entry.{Entry}
use Rattle.tp_c.specs.declared.codes.TheConstants.{OK, CUT}
use Rattle.tp_c.specs.declared.handle.Handle.{Handle}
use Rattle.tp_c.specs.declared.recorder.Recorder.{Recorder}
use Rattle.tp_c.specs.declared.refusal.Refusal.{Refusal}
use Rattle.tp_c.specs.declared.refusal.Refusal.TheVariants.{BadDefinition, BadNames, TooManyDefinitions, NoDefinition, BadFrames, LongPayload, TooManyThreads, TooManyEvents, TooManyStacks, Ended, OutOfMemory, Cut}
use Rattle.tp_c.specs.Answering.{Records, WasCut, answer_of, recorder_in}
use Rattle.tp_c.specs.Codes.{code_of}
use Rattle.tp_c.specs.Recording.{IsRecording, IsCut}

-- A live handle stands for what its recorder does.
pub records : (info : TraceInfo) (entries : List Entry) (pulled : List ℕ) (handle : Handle) (recorder : Recorder) → handle.live ≡ true → recorder_in handle ≡ recorder → IsRecording info entries pulled recorder → Records info entries pulled handle
records info entries pulled handle recorder live is h =
    record { live = live; recording = subst (λ (r : Recorder). IsRecording info entries pulled r) (sym is) h }

-- So does one whose stream was cut.
pub was-cut : (info : TraceInfo) (entries : List Entry) (pulled : List ℕ) (handle : Handle) (recorder : Recorder) → handle.live ≡ true → recorder_in handle ≡ recorder → IsCut info entries pulled recorder → WasCut info entries pulled handle
was-cut info entries pulled handle recorder live is h =
    record { live = live; cut = subst (λ (r : Recorder). IsCut info entries pulled r) (sym is) h }

-- No refusal has the code of an answer that is none.
not-ok : (refusal : Refusal) → code_of refusal ≡ OK → ⊥
not-ok BadDefinition e = omega arith
not-ok BadNames e = omega arith
not-ok TooManyDefinitions e = omega arith
not-ok NoDefinition e = omega arith
not-ok BadFrames e = omega arith
not-ok LongPayload e = omega arith
not-ok TooManyThreads e = omega arith
not-ok TooManyEvents e = omega arith
not-ok TooManyStacks e = omega arith
not-ok Ended e = omega arith
not-ok OutOfMemory e = omega arith
not-ok Cut e = omega arith

-- What holds where nothing was refused holds where the code says so.
pub at-ok : {A : Type 0} (P : Type 0) (r : Result A Refusal) (code : ℕ) → code ≡ answer_of r → code ≡ OK → OnOk r P → P
at-ok P (Ok x) code is ok h = h
at-ok P (Err refusal) code is ok h = absurd (not-ok refusal (sym is ∙ ok))

-- The code of a stream that was cut comes of no other refusal.
only-cut : (refusal : Refusal) → code_of refusal ≡ CUT → refusal ≡ Cut
only-cut BadDefinition e = absurd (let no : ⊥ = omega arith in no)
only-cut BadNames e = absurd (let no : ⊥ = omega arith in no)
only-cut TooManyDefinitions e = absurd (let no : ⊥ = omega arith in no)
only-cut NoDefinition e = absurd (let no : ⊥ = omega arith in no)
only-cut BadFrames e = absurd (let no : ⊥ = omega arith in no)
only-cut LongPayload e = absurd (let no : ⊥ = omega arith in no)
only-cut TooManyThreads e = absurd (let no : ⊥ = omega arith in no)
only-cut TooManyEvents e = absurd (let no : ⊥ = omega arith in no)
only-cut TooManyStacks e = absurd (let no : ⊥ = omega arith in no)
only-cut Ended e = absurd (let no : ⊥ = omega arith in no)
only-cut OutOfMemory e = absurd (let no : ⊥ = omega arith in no)
only-cut Cut e = refl

pub at-cut : {A : Type 0} (r : Result A Refusal) (code : ℕ) → code ≡ answer_of r → code ≡ CUT → r ≡ Err Cut
at-cut (Ok x) code is cut = absurd (no (sym is ∙ cut))
  where
    no : OK ≡ CUT → ⊥
    no e = omega arith
at-cut {A} (Err refusal) code is cut = ap (λ (x : Refusal). Err x) (only-cut refusal (sym is ∙ cut))
