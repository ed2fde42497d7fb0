use Rattle.std.proofs.Common.{refl, [], ◌∷◌, ◌++◌, subst}
use Rattle.std.specs.List.{flat_map}
use Rattle.ep_defs.specs.declared.item.ItemKind.TheVariants as item
use Rattle.nt_blocks.specs.Ordered.{no_names}
use Rattle.nt_check.specs.state.Took.{names_at}
use Rattle.pt_lines.specs.declared.origin.Origin.{Origin}
use Rattle.pt_lines.specs.Line.{Point}
use Rattle.pt_lines.specs.Forms.{AreLines}
use Rattle.pt_lines.specs.Appends.{Appends}
use Rattle.pt_events.specs.Lines.{known_by, sighted, lost_lines}
use Rattle.pt_events.proofs.Items.{listed-kind, lines-put}
use Rattle.pt_events.proofs.listing.Listing.point.Goals as goal

pub returns-clause-listed : goal.returns-clause-listed
returns-clause-listed c = λ kinds had.
    let threads = c.args.threads.now in
    listed-kind kinds (item.Point c.args.stamp threads) c.args.self.now _ had refl
    (c.clear_stacks.ensures (names_at no_names kinds) c.args.stamp threads had.names)
    (c.in_ok-put_all_lost.ensures.seen (flat_map sighted kinds) had.lasts) refl

pub returns-clause-lines : goal.returns-clause-lines
returns-clause-lines c = λ kinds had.
    let threads = c.args.threads.now in
    let past = flat_map sighted kinds in
    let origin = c.args.self.now.origin in
    subst
    (λ (o : Origin).
    Appends (AreLines c.args.form (lost_lines o c.args.stamp past (known_by threads) ++ Point o (record { stamp = c.args.stamp; threads = threads }) ∷ [])) c.args.out.now.items
    c.put_point.new.out.items)
    had.origin
    (lines-put c.args.form (lost_lines origin c.args.stamp past (known_by threads)) (Point origin (record { stamp = c.args.stamp; threads = threads })) c.args.out.now.items
    c.put_all_lost.new.out.items c.put_point.new.out.items (c.in_ok-put_all_lost.ensures.lines past had.lasts) c.in_ok-put_point.ensures)
