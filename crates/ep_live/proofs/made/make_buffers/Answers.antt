use Rattle.std.proofs.Common.{◌≡◌, ◌∙◌, ℕ, ◌+◌, List, [], ◌∷◌, ◌++◌, length, ap, sym, subst, arith, rules}
use Rattle.std.specs.Global.{Box}
use Rattle.ep_tie.specs.Tied.{Tied}
use Rattle.ep_guarded.specs.declared.agreed.Agreed.{Agreed}
use Rattle.ep_guarded.specs.Tied.{BufferState, buffer_number, buffer_place}
use Rattle.ep_live.specs.Made.{AreRowTies, AreHandTies, AreBuffers, IsRowTie, IsHandTie}
use Rattle.ep_live.proofs.Pushing.{each-push}
use Rattle.ep_live.proofs.made.make_buffers.Goals as goal

pub loop-slot-preserved : goal.loop-slot-preserved
loop-slot-preserved g c =
    let rows : ℕ = g.P.Program.rows in
    let row : ℕ = c.args.number in
    let slot : ℕ = c.loop-slot.slot in
    let inv = c.loop-slot.invariant in
    let made = c.in_ok-left.ensures in
    let left : Tied Agreed = c.in_ok-left.left in
    let buffer : Box BufferState = c.in_ok-left.buffer in
    let hand : Tied Agreed = c.in_ok-left.hand in
    let lefts : List (Tied Agreed) = c.loop-slot.lefts.items in
    let buffers : List (Box BufferState) = c.loop-slot.buffers.items in
    let hands : List (Tied Agreed) = c.loop-slot.hands.items in
    let left_len : length lefts ≡ slot = sym c.loop-slot.lefts.ok.0 ∙ inv.count in
    let buffer_len : length buffers ≡ buffer_number row slot = sym c.loop-slot.buffers.ok.0 ∙ inv.buffer_count in
    let hand_len : length hands ≡ buffer_number row slot = sym c.loop-slot.hands.ok.0 ∙ inv.hand_count in
    let grown : c.push.new.self.items ≡ lefts ++ left ∷ [] = c.in_ok-push.ensures.items in
    let grown_buffers : c.push-in-loop-slot.new.self.items ≡ buffers ++ buffer ∷ [] = c.in_ok-push-2.ensures.items in
    let grown_hands : c.push-in-loop-slot-2.new.self.items ≡ hands ++ hand ∷ [] = c.in_ok-push-3.ensures.items in
    let left_is : IsRowTie rows (buffer_number row (length lefts)) left =
    subst (λ (k : ℕ). IsRowTie rows (buffer_number row k) left) (sym left_len) (record { place = made.row.0 ∙ inv.made; nothing = made.row.1 })
    in
    let buffer_is : buffer.value.place ≡ buffer_place rows (length buffers) =
    subst (λ (k : ℕ). buffer.value.place ≡ buffer_place rows k) (sym buffer_len) (made.buffer ∙ inv.made)
    in
    let hand_is : IsHandTie rows (length hands) hand =
    subst (λ (k : ℕ). IsHandTie rows k hand) (sym hand_len) (record { place = made.hand.0 ∙ ap (λ (m : ℕ). m + 1) inv.made; nothing = made.hand.1 })
    in
    record {
      made = omega (arith, made.made, inv.made);
      places = made.places ∙ inv.places;
      count = search rules;
      buffer_count = omega (arith, c.in_ok-push-2.ensures.len, inv.buffer_count);
      hand_count = omega (arith, c.in_ok-push-3.ensures.len, inv.hand_count);
      lefts = subst (AreRowTies rows row) (sym grown) (each-push (λ s half. IsRowTie rows (buffer_number row s) half) lefts left inv.lefts left_is);
      buffers = subst (AreBuffers rows) (sym grown_buffers) (each-push (λ k b. b.value.place ≡ buffer_place rows k) buffers buffer inv.buffers buffer_is);
      hands = subst (AreHandTies rows) (sym grown_hands) (each-push (IsHandTie rows) hands hand inv.hands hand_is);
    }
