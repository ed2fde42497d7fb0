use Rattle.std.proofs.Common.{◌≡◌, ℕ, ◌-◌, List, length, take, drop, ◌∙◌, ap, arith}
use Rattle.std.proofs.Math.Seq.{take-add}
use Rattle.std.proofs.lemmas.List.{take_all, drop-drop, length-drop, take-append-drop}
use Rattle.pt_io.proofs.mem_source.MemSourceSource.read.Goals as goal

-- What is copied from the slice after a place is what is copied from the bytes that are left there.
front_is : (bytes seen buf : List ℕ) (i n : ℕ) → seen ≡ bytes → take n buf ≡ take n (take (length seen - i) (drop i seen)) → take n buf ≡ take n (drop i bytes)
front_is bytes seen buf i n is front =
    front ∙ ap (λ (l : List ℕ). take n l) (take_all _ _ (omega (arith, length-drop i seen))) ∙ ap (λ (l : List ℕ). take n (drop i l)) is

pub returns-clause-after : goal.returns-clause-after
returns-clause-after c = rw (← c.self.view_is) (rw (take-add, ← drop-drop, c.count_call.ensures.counted))

pub returns-clause-given : goal.returns-clause-given
returns-clause-given c =
    let copied = front_is _ _ _ _ _ c.deref-2.ensures.value c.copy_front-count.ensures.front in
    rw (← c.self.view_is, take-add) cc

pub returns-clause-left : goal.returns-clause-left
returns-clause-left c =
    let copied = front_is _ _ _ _ _ c.deref-2.ensures.value c.copy_front-count.ensures.front in
    let split = take-append-drop c.copy_front-count.result (drop c.self.inside.next c.self.inside.bytes.items) in
    rw (← c.self.view_is, ← drop-drop) cc
