-- Whether the innermost object was left.
use Rattle.std.proofs.Common.{◌≡◌, [], ◌-◌, length, Some, None, refl, sym, rules, arith}
use Rattle.std.specs.Prelude.{slice_get}
use Rattle.std.proofs.lemmas.Option.{slice_get_within}
use Rattle.pt_lines.proofs.Nests.{last-is, none-last, popped, stands-inside, stands-outermost}
use Rattle.pt_lines.proofs.json.nest.Nest.leave.Goals as goal

pub returns-in_default : goal.returns-in_default
returns-in_default c =
    let none : c.last.result ≡ None = search (rules, c.in_default.is) in
    let found = rw c.deref.ensures.value at c.last.ensures.value in
    let empty : c.args.self.now.depths.items ≡ [] = none-last c.args.self.now.depths.items (sym (rw none at found)) in
    (refl, λ text behind. rw empty (stands-outermost c.args.depth c.args.self.now.is_first text behind))

pub returns-then-last-depth : goal.returns-then-last-depth
returns-then-last-depth c =
    let nest = c.args.self.now in
    let found = rw c.deref.ensures.value at c.last.ensures.value in
    let last = last-is nest.depths.items c.in-Some.last.now (sym (rw c.in-Some.is at found)) in
    (refl, λ text behind. rw last.1 (stands-inside last.0 c.in-Some.last.now c.args.depth nest.is_first c.if-last-depth.true text behind))

pub returns : goal.returns
returns c =
    let nest = c.args.self.now in
    let found = rw c.deref.ensures.value at c.last.ensures.value in
    let last : slice_get nest.depths.items (length nest.depths.items - 1) ≡ Some c.in-Some.last.now = sym (rw c.in-Some.is at found) in
    popped nest.depths.items c.pop.new.self.items c.pop.result c.in-Some.last.now c.args.depth nest.is_first
    (c.pop.ensures.variant.1 (omega (arith, nest.depths.ok.0, slice_get_within nest.depths.items (length nest.depths.items - 1) c.in-Some.last.now last)))
    c.pop.ensures.items last c.if-last-depth.false
