use Rattle.std.proofs.Common.{◌≡◌, true, false, inl, inr, ap, sym, ◌∙◌, subst, arith}
use Rattle.std.proofs.lemmas.Bool.{cases_Bool}
use Rattle.std.specs.Prelude.{IsTrue}
use Rattle.tp_c.specs.declared.recorder.Recorder.{Recorder}
use Rattle.tp_c.specs.Recording.{IsRecording, IsCut, outgoing_of, is_cut, is_over}
use Rattle.tp_c.proofs.Handles.{records, was-cut}
use Rattle.tp_c.proofs.Pulling.{begins-with}
use Rattle.tp_c.proofs.Recordings.{pulled-whole}
use Rattle.tp_c.proofs.exports.tp_c_end.Goals as goal

pub returns-then-not-is_done-clause-goes_on : goal.returns-then-not-is_done-clause-goes_on
returns-then-not-is_done-clause-goes_on c info entries pulled h more =
    let was = c.deref_mut.ensures.value ∙ c.open-recorder.ensures.recorder in
    let recording = subst (λ (r : Recorder). IsRecording info entries pulled r) (sym was) h.recording in
    let mid = sym c.deref_mut-2.ensures.value in
    elim (cases_Bool (is_cut c.end.new.self)) [
      | inl e ↦
          inr (was-cut info entries _ c.shut.new.self c.pull.new.self c.shut.ensures.live c.shut.ensures.recorder
          (c.pull.ensures.cut info entries pulled (subst (λ (r : Recorder). IsCut info entries pulled r) mid (c.end.ensures.broken info entries pulled recording e))))
      | inr e ↦
          inl (records info entries _ c.shut.new.self c.pull.new.self c.shut.ensures.live c.shut.ensures.recorder
          (c.pull.ensures.goes_on info entries pulled (subst (λ (r : Recorder). IsRecording info entries pulled r) mid (c.end.ensures.whole info entries pulled recording e))))
    ]

pub returns-then-not-is_done-clause-cut : goal.returns-then-not-is_done-clause-cut
returns-then-not-is_done-clause-cut c info entries pulled h =
    let was = c.deref_mut.ensures.value ∙ c.open-recorder.ensures.recorder in
    let cut = subst (λ (r : Recorder). IsCut info entries pulled r) (sym was) h.cut in
    let mid = sym c.deref_mut-2.ensures.value in (
      λ ok. omega arith,
      λ more.
          was-cut info entries _ c.shut.new.self c.pull.new.self c.shut.ensures.live c.shut.ensures.recorder
          (c.pull.ensures.cut info entries pulled (subst (λ (r : Recorder). IsCut info entries pulled r) mid (c.end.ensures.cut info entries pulled cut))),
    )

pub returns-then-is_cut-clause-broken : goal.returns-then-is_cut-clause-broken
returns-then-is_cut-clause-broken c info entries pulled h told =
    let was = c.deref_mut.ensures.value ∙ c.open-recorder.ensures.recorder in
    let mid = sym c.deref_mut-2.ensures.value in
    elim h [
      | inl records ↦
          let recording = subst (λ (r : Recorder). IsRecording info entries pulled r) (sym was) records.recording in
          elim (cases_Bool (is_cut c.end.new.self)) [
            | inl e ↦
                let cut = subst (λ (r : Recorder). IsCut info entries pulled r) mid (c.end.ensures.broken info entries pulled recording e) in
                begins-with info entries pulled c.pull.new.out c.pull.result (outgoing_of c.deref_mut-2.result.now) cut.bytes c.pull.ensures.front cut.begun
            | inr e ↦
                let ended = subst (λ (r : Recorder). IsRecording info entries pulled r) mid (c.end.ensures.whole info entries pulled recording e) in
                begins-with info entries pulled c.pull.new.out c.pull.result (outgoing_of c.deref_mut-2.result.now) ended.bytes c.pull.ensures.front
                (c.pull.ensures.begun info entries pulled ended)
          ]
      | inr before ↦
          let cut = subst (λ (r : Recorder). IsCut info entries pulled r) mid (c.end.ensures.cut info entries pulled (subst (λ (r : Recorder). IsCut info entries pulled r) (sym was) before.cut)) in
          begins-with info entries pulled c.pull.new.out c.pull.result (outgoing_of c.deref_mut-2.result.now) cut.bytes c.pull.ensures.front cut.begun
    ]

pub returns-clause-whole : goal.returns-clause-whole
returns-clause-whole c info entries pulled h ok =
    let was = c.deref_mut.ensures.value ∙ c.open-recorder.ensures.recorder in
    let recording = subst (λ (r : Recorder). IsRecording info entries pulled r) (sym was) h.recording in
    let mid = sym c.deref_mut-2.ensures.value in
    let sound : is_cut c.end.new.self ≡ false = ap is_cut mid ∙ sym c.pull.ensures.is_cut ∙ ap is_cut (sym c.deref-2.ensures) ∙ sym c.is_cut.ensures ∙ c.if-is_cut.false in
    let done : IsTrue c.is_done.result = grind arith in
    let empty = c.is_done.ensures.0 done in
    let ended = subst (λ (r : Recorder). IsRecording info entries pulled r) mid (c.end.ensures.whole info entries pulled recording sound) in
    pulled-whole info entries _ c.pull.new.self (c.pull.ensures.goes_on info entries pulled ended)
    (ap is_over (sym c.deref.ensures) ∙ empty.0) (ap (λ (r : Recorder). (outgoing_of r).left) (sym c.deref.ensures) ∙ empty.1)

pub returns-clause-cut : goal.returns-clause-cut
returns-clause-cut c info entries pulled h =
    let was = c.deref_mut.ensures.value ∙ c.open-recorder.ensures.recorder in
    let cut = subst (λ (r : Recorder). IsCut info entries pulled r) (sym was) h.cut in
    let mid = sym c.deref_mut-2.ensures.value in
    let sound : is_cut c.end.new.self ≡ false = ap is_cut mid ∙ sym c.pull.ensures.is_cut ∙ ap is_cut (sym c.deref-2.ensures) ∙ sym c.is_cut.ensures ∙ c.if-is_cut.false in
    let broken = (c.end.ensures.cut info entries pulled cut).cut in (λ ok. differ (sym broken ∙ sound), λ more. absurd (let no : ⊥ = omega arith in no))
  where
    differ : true ≡ false → ⊥
    differ e = cc
