use Rattle.ep_live.proofs.live.Live.new.Goals as goal

pub new-requires : goal.new-requires
new-requires g c k value at =
    let row = c.in_ok-rows.ensures.rows k value at in
    (row.number_is, row.quiet)
