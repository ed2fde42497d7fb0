use Rattle.std.proofs.Common.{◌≡◌, ◌∙◌, ℕ, ◌<◌, List, [], ◌∷◌, Some, length, refl, sym, ap, subst, arith, length-append}
use Rattle.std.specs.Prelude.{slice_get}
use Rattle.std.specs.Iterator.Adapters.{zip_first, zip_second}
use Rattle.std.proofs.lemmas.Iterator.{YieldsList-from_zip}
use Rattle.std.proofs.lemmas.Iterator.Adapters.{YieldsList-from_vec}
use Rattle.std.proofs.lemmas.Iterator.Consumers.{YieldsList-turn}
use Rattle.std.proofs.lemmas.Option.{slice_get_read}
use Rattle.std.proofs.lemmas.Slice.Zip.{get_or-zip, length-zip}
use Rattle.ep_tie.specs.Tied.{Tied}
use Rattle.ep_guarded.specs.declared.agreed.Agreed.{Agreed}
use Rattle.ep_live.proofs.Pushing.{each-push}
use Rattle.pt_load.specs.Shape.{Drafted}
use Rattle.pt_writers.specs.state.Writers.{StandsAt, WriterState}
use Rattle.pt_writers.proofs.writers.writers_of.Goals as goal

pub loop-half-preserved : goal.loop-half-preserved
loop-half-preserved g c =
    let halves : List (Tied Agreed) = c.args.halves.items in
    let drafts : List Drafted = c.args.drafts.items in
    let n : ℕ = length c.loop-half.yielded in
    let zipped = c.zip-half-items.result in
    let gives = c.zip-half-items.ensures.second in
    let started = c.into_iter-half-iterator.result in
    let same : c.into_iter-half-iterator.result ≡ c.zip-half-items.result = c.into_iter-half-iterator.ensures.into_iter_gives in
    let front = ap zip_first same ∙ c.zip-half-items.ensures.first in
    let behind = ap zip_second same in
    let from_halves = YieldsList-from_vec {s = zip_first started} halves (first_of (rw (front, c.into_iter.ensures.rest), cc (front, c.into_iter.ensures.rest), grind (arith, front, c.into_iter.ensures.rest))) (first_of (rw (front, c.into_iter.ensures.len, c.args.halves.ok.0), cc (front, c.into_iter.ensures.len, c.args.halves.ok.0), grind (arith, front, c.into_iter.ensures.len, c.args.halves.ok.0))) in
    let from_drafts = YieldsList-from_vec {s = zip_second started} drafts (first_of (rw (behind, gives.0), cc (behind, gives.0), grind (arith, behind, gives.0))) (first_of (rw (behind, gives.1, c.args.drafts.ok.0), cc (behind, gives.1, c.args.drafts.ok.0), grind (arith, behind, gives.1, c.args.drafts.ok.0))) in
    let turn = YieldsList-turn (YieldsList-from_zip from_halves from_drafts) c.loop-half.yielded c.loop-half.half-iterator c.loop-half.yielded_by c.next.result c.next.new.self (c.in-Some.half, c.in-Some.draft) c.in-Some.is c.next.ensures.steps in
    let all = length-zip halves drafts in
    let low : n < length halves = let up = turn.0 in omega (arith, all, up) in
    let high : n < length drafts = let up = turn.0 in omega (arith, all, up) in
    let at = turn.1 ∙ get_or-zip halves drafts n (c.in-Some.half, c.in-Some.draft) low high in
    let half = c.requires.halves n c.in-Some.half (slice_get_read halves _ n c.in-Some.half refl low (ap (λ (p : Tied Agreed × Drafted). p.0) at)) in
    let draft = c.requires.drafts n c.in-Some.draft (slice_get_read drafts _ n c.in-Some.draft refl high (ap (λ (p : Tied Agreed × Drafted). p.1) at)) in
    let writers : List WriterState = c.loop-half.writers.items in
    let inv = c.loop-half.invariant in
    let long : length writers ≡ n = sym c.loop-half.writers.ok.0 ∙ inv.count in
    let writer : StandsAt g.P.SampleRun.plan (length writers) 0 (record { half = c.in-Some.half; draft = c.in-Some.draft }) =
    subst (λ (k : ℕ). StandsAt g.P.SampleRun.plan k 0 (record { half = c.in-Some.half; draft = c.in-Some.draft })) (sym long)
    (record { place = half.place; stands = half.stands; drafted = draft })
    in
    record {
      count = omega (arith, c.push_reserved.ensures.len, inv.count, length-append c.loop-half.yielded ((c.in-Some.half, c.in-Some.draft) ∷ []));
      room = omega (arith, c.push_reserved.ensures.capacity, inv.room);
      each = subst
          (λ (ws : List WriterState). (k : ℕ) (w : WriterState) → slice_get ws k ≡ Some w → StandsAt g.P.SampleRun.plan k 0 w)
          (sym c.push_reserved.ensures.items)
          (each-push (λ k w. StandsAt g.P.SampleRun.plan k 0 w) writers _ inv.each writer);
    }
