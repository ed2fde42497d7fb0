use Rattle.std.proofs.Common.{◌≡◌, Some, length, replicate}
use Rattle.ep_registry.specs.Places.{AreInPlace, values_of, numbered}
use Rattle.ep_registry.proofs.ends.Ends.new.Given as goal

-- the ties so far have their places, and all have this value
abbrev pub invariant-loop-made : goal.invariant-loop-made
invariant-loop-made g l =
    (l.maker.made ≡ l._made) × (l.maker.places ≡ l.fn.blank.places) × AreInPlace l.halves.items × (length l.halves.items ≡ l._made)
    × (values_of l.halves.items ≡ replicate l._made (Some l.value)) × (l.others.items ≡ numbered l._made l.value)
