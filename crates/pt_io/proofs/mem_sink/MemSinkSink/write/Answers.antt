use Rattle.std.proofs.Common.{◌≡◌, ℕ, Bool, true, false, List, [], ◌++◌, take, drop, if◌then◌else◌, ◌∙◌, sym, refl}
use Rattle.std.proofs.lemmas.List.{append-nil, take-append-drop}
use Rattle.pt_io.specs.Taken.{TookPartOf}
use Rattle.pt_io.proofs.mem_sink.MemSinkSink.write.Goals as goal
use Rattle.pt_io.proofs.mem_sink.MemSinkSink.write.Goals.{then-count_call, else-count_call+else-is_ok}

-- What a write that fails adds begins the piece.
part_of : (n : ℕ) (piece taken now : List ℕ) (took : Bool) → now ≡ (if took then taken ++ take n piece else taken) → TookPartOf piece taken now
part_of n piece taken now true is = (take n piece, (drop n piece, take-append-drop n piece), is)
part_of n piece taken now false is = ([], (piece, refl), is ∙ sym (append-nil taken))

pub returns-clause-part : goal.returns-clause-part
returns-clause-part c = elim c.if-count_call.branch [
  | then-count_call w ↦
      let is : c.if-count_call.self-inside.taken.items ≡ w.extend_from_slice.new.self.items = rw w.self-inside-is refl in
      rw (← c.self.view_is) (part_of w.kept_count-kept.result _ _ _ _ (is ∙ w.extend_from_slice.ensures.items))
  | else-count_call+else-is_ok w ↦
      let is : c.if-count_call.self-inside.taken.items ≡ w.extend_from_slice-else-count_call.new.self.items = rw w.self-inside-is refl in
      let failed = sym w.is_ok.ensures.value ∙ w.if-is_ok.false in
      let same = rw failed at w.extend_from_slice-else-count_call.ensures.items in
      rw (← c.self.view_is) (part_of 0 _ _ _ false (is ∙ same))
]
