use Rattle.std.proofs.Common.{ℕ, subst}
use Rattle.std.proofs.lemmas.Result.{on_ok_weaker}
use Rattle.ep_defs.specs.Gaps.{Seen}
use Rattle.pt_lines.specs.declared.origin.Origin.{Origin}
use Rattle.pt_lines.specs.Line.{Event, lost_if}
use Rattle.pt_lines.specs.Forms.{AreLines}
use Rattle.pt_lines.specs.Appends.{Appends}
use Rattle.pt_events.specs.Lines.{last_of, left_out}
use Rattle.pt_events.proofs.Items.{lines-put}
use Rattle.pt_events.proofs.listing.put_all.Goals as goal

pub returns-clause-lines : goal.returns-clause-lines
returns-clause-lines c = λ past seen origin processor thread entry tells.
    let form = c.args.form in
    let line = c.args.event.now in
    let old = c.args.out.now.items in
    let mid = c.put_lost.new.out.items in
    let Lost-at = λ (o : Origin) (s t n : ℕ). Appends (AreLines form (lost_if o s t (left_out (last_of t past) (Seen n)))) old mid in
    let put : Appends (AreLines form (lost_if line.origin line.stamp line.thread (left_out (last_of line.thread past) (Seen line.number)))) old mid =
    subst (λ (n : ℕ). Appends (AreLines form (lost_if line.origin line.stamp line.thread n)) old mid) (c.in_ok-lost.ensures.count past seen) c.in_ok-put_lost.ensures in
    let told : Appends (AreLines form (lost_if origin entry.stamp entry.thread (left_out (last_of entry.thread past) (Seen entry.number)))) old mid =
    subst (λ (n : ℕ). Lost-at origin entry.stamp entry.thread n) tells.number
    (subst (λ (t : ℕ). Lost-at origin entry.stamp t line.number) tells.thread
    (subst (λ (s : ℕ). Lost-at origin s line.thread line.number) tells.stamp (subst (λ (o : Origin). Lost-at o line.stamp line.thread line.number) tells.origin put))) in
    on_ok_weaker c.put_event.result
    (λ event.
    lines-put form (lost_if origin entry.stamp entry.thread (left_out (last_of entry.thread past) (Seen entry.number))) (Event origin processor thread entry) old mid
    c.put_event.new.out.items told event)
    (c.put_event.ensures origin processor thread entry tells)
