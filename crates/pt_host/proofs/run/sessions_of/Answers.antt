use Rattle.std.proofs.Common.{◌≡◌, ◌∙◌, ℕ, suc, ◌+◌, ◌≤◌, [], ◌∷◌, ◌++◌, length, refl, ap, arith}
use Rattle.std.proofs.lemmas.List.{length-append, length-take}
use Rattle.std.proofs.lemmas.Option.{slice_get_read}
use Rattle.std.proofs.lemmas.Iterator.Adapters.{YieldsList-from_vec}
use Rattle.std.proofs.lemmas.Iterator.Consumers.{YieldsList-end, YieldsList-turn}
use Rattle.ep_journal.specs.declared.limits.TheConstants.{CONNECTIONS}
use Rattle.ep_journal.specs.Items.{item}
use Rattle.pt_host.proofs.Ending.{left-empty, left-taken, left-whole, left-within, next-place, over-long}
use Rattle.pt_host.proofs.run.sessions_of.Goals as goal

pub at-gone-requires : goal.at-gone-requires
at-gone-requires g c =
    let gives = c.into_iter-place-iterator.ensures.into_iter_gives in
    let places = c.truncate.new.self in
    let turn = YieldsList-turn (YieldsList-from_vec {s = c.into_iter-place-iterator.result} places.items gives.0 (gives.1 ∙ places.ok.0)) c.loop-place.yielded c.loop-place.place-iterator c.loop-place.yielded_by c.next.result c.next.new.self c.in-Some.place c.in-Some.is c.next.ensures.steps in
    let at = slice_get_read places.items _ (length c.loop-place.yielded) c.in-Some.place refl turn.0 turn.1 in
    let known = next-place c.args.over.items places.items c.args.entries.now (length c.loop-place.yielded) c.in-Some.place c.requires.over c.truncate.ensures.items turn.0 at ∙ c.in-Some-place.is in
    let within = left-within c.args.entries.now (length c.loop-place.yielded) c.in-Some-place.finished known in
    (omega arith, omega (arith, within, c.loop-place.invariant.number))

pub loop-place-preserved-in-Some-place : goal.loop-place-preserved-in-Some-place
loop-place-preserved-in-Some-place g c =
    let gives = c.into_iter-place-iterator.ensures.into_iter_gives in
    let places = c.truncate.new.self in
    let turn = YieldsList-turn (YieldsList-from_vec {s = c.into_iter-place-iterator.result} places.items gives.0 (gives.1 ∙ places.ok.0)) c.loop-place.yielded c.loop-place.place-iterator c.loop-place.yielded_by c.next.result c.next.new.self c.in-Some.place c.in-Some.is c.next.ensures.steps in
    let n : ℕ = length c.loop-place.yielded in
    let at = slice_get_read places.items _ n c.in-Some.place refl turn.0 turn.1 in
    let known = next-place c.args.over.items places.items c.args.entries.now n c.in-Some.place c.requires.over c.truncate.ensures.items turn.0 at ∙ c.in-Some-place.is in
    let inv = c.loop-place.invariant in
    let more = length-append c.loop-place.yielded (c.in-Some.place ∷ []) in
    let up : length (c.loop-place.yielded ++ c.in-Some.place ∷ []) ≡ suc n = omega (arith, more) in
    let number : suc n ≡ c.loop-place.id + 1 = omega (arith, inv.number) in
    let entry = ap (λ (k : ℕ). item c.args.entries.now k) number ∙ c.at-gone.ensures in
    let session = c.session_with in
    record {
      number = omega (arith, inv.number, more);
      few = omega (arith, inv.few, more, c.push_reserved.ensures.len);
      room = omega (arith, inv.room, c.push_reserved.ensures.capacity);
      left = rw (up, c.push_reserved.ensures.items)
          (left-taken g.L.Sink.read_side g.L.Sink g.W.World.world c.args.entries.now n c.loop-place.sessions.items c.at-gone.result c.in-Some-place.finished session.result entry known session.ensures.over session.ensures.gone session.ensures.is_end inv.left);
    }

pub loop-place-preserved : goal.loop-place-preserved
loop-place-preserved g c =
    let gives = c.into_iter-place-iterator.ensures.into_iter_gives in
    let places = c.truncate.new.self in
    let turn = YieldsList-turn (YieldsList-from_vec {s = c.into_iter-place-iterator.result} places.items gives.0 (gives.1 ∙ places.ok.0)) c.loop-place.yielded c.loop-place.place-iterator c.loop-place.yielded_by c.next.result c.next.new.self c.in-Some.place c.in-Some.is c.next.ensures.steps in
    let n : ℕ = length c.loop-place.yielded in
    let at = slice_get_read places.items _ n c.in-Some.place refl turn.0 turn.1 in
    let known = next-place c.args.over.items places.items c.args.entries.now n c.in-Some.place c.requires.over c.truncate.ensures.items turn.0 at ∙ c.in_default.is in
    let inv = c.loop-place.invariant in
    let more = length-append c.loop-place.yielded (c.in-Some.place ∷ []) in
    let up : length (c.loop-place.yielded ++ c.in-Some.place ∷ []) ≡ suc n = omega (arith, more) in
    record {
      number = omega (arith, inv.number, more);
      few = omega (arith, inv.few, more);
      room = inv.room;
      left = rw up (left-empty g.L.Sink.read_side g.L.Sink g.W.World.world c.args.entries.now n c.loop-place.sessions.items c.requires.ended known inv.left);
    }

pub returns : goal.returns
returns g c =
    let gives = c.into_iter-place-iterator.ensures.into_iter_gives in
    let places = c.truncate.new.self in
    let ends = YieldsList-end (YieldsList-from_vec {s = c.into_iter-place-iterator.result} places.items gives.0 (gives.1 ∙ places.ok.0)) c.loop-place.yielded c.loop-place.place-iterator c.loop-place.yielded_by c.next.result c.next.new.self c.in-None.is c.next.ensures.steps in
    let long = over-long c.args.over.items c.args.entries.now c.requires.over in
    let all : length c.args.entries.now ≤ length c.loop-place.yielded =
    omega (arith, c.requires.few, ends.1, long, length-take CONNECTIONS c.args.over.items, ap length c.truncate.ensures.items)
    in
    left-whole g.L.Sink.read_side g.L.Sink g.W.World.world c.args.entries.now (length c.loop-place.yielded) c.loop-place.sessions.items all c.loop-place.invariant.left
