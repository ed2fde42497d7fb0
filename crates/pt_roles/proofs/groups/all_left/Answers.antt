use Rattle.std.proofs.Common.{◌∙◌, List, [], ◌∷◌, ◌++◌, ap, sym, subst, arith, length-append}
use Rattle.std.proofs.lemmas.List.{map-id}
use Rattle.std.proofs.lemmas.Iterator.Adapters.{YieldsList-from_vec}
use Rattle.std.proofs.lemmas.Iterator.Consumers.{YieldsList-end, YieldsList-turn}
use Rattle.ep_registry.specs.Registered.{AreLeft, RoleHalf}
use Rattle.pt_roles.proofs.groups.all_left.Goals as goal

pub push_reserved-requires : goal.push_reserved-requires
push_reserved-requires g c =
    let gives = c.into_iter-streamer-iterator.ensures.into_iter_gives in
    let turn = YieldsList-turn (YieldsList-from_vec {s = c.into_iter-streamer-iterator.result} c.args.streamers.items gives.0 (gives.1 ∙ c.args.streamers.ok.0)) c.loop-streamer.yielded c.loop-streamer.streamer-iterator c.loop-streamer.yielded_by c.next.result c.next.new.self c.in-Some.streamer c.in-Some.is c.next.ensures.steps in
    omega (arith, turn.0, c.loop-streamer.invariant.count, c.loop-streamer.invariant.room, c.requires.room, c.args.streamers.ok.0)

pub loop-streamer-preserved : goal.loop-streamer-preserved
loop-streamer-preserved g c =
    let inv = c.loop-streamer.invariant in
    record {
      count = omega (arith, c.push_reserved.ensures.len, inv.count, length-append c.loop-streamer.yielded (c.in-Some.streamer ∷ []));
      room = omega (arith, c.push_reserved.ensures.capacity, inv.room);
      roles = c.push_reserved.ensures.items
          ∙ ap (λ (rs : List RoleHalf). rs ++ c.into_role.result ∷ []) inv.roles
          ∙ ap (λ (r : RoleHalf). c.loop-streamer.yielded ++ r ∷ []) c.into_role.ensures;
    }

pub invariant_of-result : goal.invariant_of-result
invariant_of-result g c =
    let gives = c.into_iter-streamer-iterator.ensures.into_iter_gives in
    let end = YieldsList-end (YieldsList-from_vec {s = c.into_iter-streamer-iterator.result} c.args.streamers.items gives.0 (gives.1 ∙ c.args.streamers.ok.0)) c.loop-streamer.yielded c.loop-streamer.streamer-iterator c.loop-streamer.yielded_by c.next.result c.next.new.self c.in-None.is c.next.ensures.steps in
    record { left = subst AreLeft (sym (c.loop-streamer.invariant.roles ∙ sym (map-id c.loop-streamer.yielded) ∙ end.0)) c.requires.left }
