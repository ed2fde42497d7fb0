-- Events in their order.
use Rattle.std.proofs.Common.{◌≡◌, List, [], ◌∷◌, ◌++◌, take, drop, refl, append_assoc}
use Rattle.ep_defs.specs.declared.event.EventDef.{EventDef}
use Rattle.pt_load.specs.Sample.{sample}

-- two events stand after those that stood there
pub pushed_two : (l m n : List EventDef) (a b x y : EventDef) → m ≡ l ++ a ∷ [] → n ≡ m ++ b ∷ [] → a ≡ x → b ≡ y → n ≡ l ++ x ∷ y ∷ []
pushed_two l m n a b x y first second is_a is_b = rw (second, first, is_a, is_b) (append_assoc l (x ∷ []) (y ∷ []))

-- three events stand after those that stood there
pub pushed_three : (l m n o : List EventDef) (a b c x y z : EventDef) → m ≡ l ++ a ∷ [] → n ≡ m ++ b ∷ [] → o ≡ n ++ c ∷ []
    → a ≡ x → b ≡ y → c ≡ z → o ≡ l ++ x ∷ y ∷ z ∷ []
pushed_three l m n o a b c x y z first second third is_a is_b is_c =
    rw (third, pushed_two l m n a b x y first second is_a is_b, is_c) (append_assoc l (x ∷ y ∷ []) (z ∷ []))

-- the events of the three providers are all events
pub sample_parts : (a b c d : List EventDef) → a ≡ [] → b ≡ a ++ take 3 sample → c ≡ b ++ take 3 (drop 3 sample) → d ≡ c ++ drop 6 sample → d ≡ sample
unfolding sample
sample_parts a b c d first second third fourth = rw (fourth, third, second, first) refl
