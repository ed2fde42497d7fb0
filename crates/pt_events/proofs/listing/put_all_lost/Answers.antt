use Rattle.std.proofs.Common.{◌≡◌, ℕ, ◌+◌, List, [], ◌∷◌, ◌++◌, take, get_or, refl, sym, ap, ◌∙◌, subst, add-one, append_assoc}
use Rattle.std.proofs.Math.Seq.{take-suc}
use Rattle.std.proofs.lemmas.List.{append-nil, map-append, take_all}
use Rattle.ep_defs.specs.Gaps.{Sighting, Known}
use Rattle.pt_lines.specs.Line.{Line, lost_if}
use Rattle.pt_events.specs.Lines.{known_by, last_of, left_out, lost_lines}
use Rattle.pt_lines.specs.Forms.{AreLines}
use Rattle.pt_lines.specs.Appends.{Appends}
use Rattle.pt_events.specs.state.Known.{HasSeen}
use Rattle.pt_events.proofs.Lines.{lost-more}
use Rattle.pt_lines.proofs.Lines.{lines-append}
use Rattle.pt_lines.proofs.Steps.{both, nothing}
use Rattle.pt_events.proofs.listing.put_all_lost.Goals as goal

pub loop-thread-init : goal.loop-thread-init
loop-thread-init c = λ past seen. (
  subst (λ (p : List (ℕ × Sighting)). HasSeen p c.args.lasts.now) (sym (append-nil past)) seen,
  nothing (AreLines c.args.form []) c.args.out.now.items refl,
)

pub loop-thread-preserved : goal.loop-thread-preserved
loop-thread-preserved c = λ past seen.
    let pairs = c.args.threads.now in
    let count = c.loop-thread.thread-index in
    let pair = get_or pairs count (0, 0) in
    let before = known_by (take count pairs) in
    let more : take (count + 1) pairs ≡ take count pairs ++ pair ∷ [] = rw add-one (take-suc pairs count (0, 0) c.loop-thread-test.true) in
    let all : known_by (take (count + 1) pairs) ≡ before ++ (pair.0, Known pair.1) ∷ [] =
    ap known_by more ∙ map-append (λ (t : ℕ × ℕ). (t.0, Known t.1)) (take count pairs) (pair ∷ []) in
    let had = c.loop-thread.invariant past seen in
    let lost = lost_if c.args.origin c.args.stamp pair.0 (left_out (last_of pair.0 (past ++ before)) (Known pair.1)) in
    let put : Appends (AreLines c.args.form lost) c.loop-thread.out.items c.put_lost.new.out.items =
    subst (λ (n : ℕ). Appends (AreLines c.args.form (lost_if c.args.origin c.args.stamp pair.0 n)) c.loop-thread.out.items c.put_lost.new.out.items) (c.in_ok-lost.ensures.count (past ++ before) had.0) c.in_ok-put_lost.ensures in (
      subst (λ (p : List (ℕ × Sighting)). HasSeen p c.know.new.self) (append_assoc past before ((pair.0, Known pair.1) ∷ []) ∙ ap (λ (p : List (ℕ × Sighting)). past ++ p) (sym all)) (c.in_ok-lost.ensures.seen (past ++ before) had.0),
      subst (λ (lines : List Line). Appends (AreLines c.args.form lines) c.args.out.now.items c.put_lost.new.out.items) (sym (ap (lost_lines c.args.origin c.args.stamp past) all ∙ lost-more c.args.origin c.args.stamp past before (pair.0, Known pair.1)))
          (both (AreLines c.args.form (lost_lines c.args.origin c.args.stamp past before)) (AreLines c.args.form lost) (AreLines c.args.form (lost_lines c.args.origin c.args.stamp past before ++ lost)) c.args.out.now.items c.loop-thread.out.items c.put_lost.new.out.items (lines-append c.args.form (lost_lines c.args.origin c.args.stamp past before) lost) had.1 put),
    )

pub returns : goal.returns
returns c =
    let all = take_all c.loop-thread.thread-index c.args.threads.now c.loop-thread-test.false in
    record {
      lines = λ past seen. subst (λ (threads : List (ℕ × ℕ)). Appends (AreLines c.args.form (lost_lines c.args.origin c.args.stamp past (known_by threads))) c.args.out.now.items c.loop-thread.out.items) all (c.loop-thread.invariant past seen).1;
      seen = λ past seen. subst (λ (threads : List (ℕ × ℕ)). HasSeen (past ++ known_by threads) c.loop-thread.lasts) all (c.loop-thread.invariant past seen).0;
    }
