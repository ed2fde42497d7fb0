use Rattle.std.proofs.Common.{◌≡◌, ◌+◌, List, [], ◌∷◌, ◌++◌, length, refl, ap, sym, ◌∙◌, subst, arith, append_assoc, length-append}
use Rattle.std.proofs.lemmas.List.{append-nil, map-append}
use Rattle.std.proofs.lemmas.Option.{same_Some}
use Rattle.std.proofs.lemmas.Result.{err_from_is_err_and}
use Rattle.ep_chunk.specs.Record.{Record, size_of, total_size}
use Rattle.ep_chunk.proofs.Placed.{records_at-zero}
use Rattle.ep_listen.specs.Heard.{HeardEvent, heard_in, heard_of}
use Rattle.ep_listen.proofs.Chains.{heard-behind}
use Rattle.ep_listen.proofs.hand_over.hand_chunk.Goals as goal

pub loop-rec-init : goal.loop-rec-init
loop-rec-init g c =
    record {
      done = [];
      rest = c.args.chunk.now;
      split = refl;
      at = records_at-zero c.args.chunk.now;
      size = omega arith;
      count = refl;
      heard = λ before stands. subst (g.C.Callback.has_heard c.args.callback.now) (sym (append-nil before)) stands;
    }

pub overflow_add-count : goal.overflow_add-count
overflow_add-count g c =
    let inv = c.loop-rec.invariant in
    let t = c.in-Some.ensures.told in
    let rest_is : inv.rest ≡ t.told ∷ t.others = same_Some inv.rest (t.told ∷ t.others) (sym inv.at ∙ t.here) in
    let long : length c.args.chunk.now ≡ length inv.done + length inv.rest = ap length (sym inv.split) ∙ length-append inv.done inv.rest in
    let more : length inv.rest ≡ length (t.told ∷ t.others) = ap length rest_is in
    omega (arith, inv.count, long, more, c.requires)

pub loop-rec-preserved : goal.loop-rec-preserved
loop-rec-preserved g c =
    let inv = c.loop-rec.invariant in
    let t = c.in-Some.ensures.told in
    let rest_is : inv.rest ≡ t.told ∷ t.others = same_Some inv.rest (t.told ∷ t.others) (sym inv.at ∙ t.here) in
    let total : total_size inv.rest ≡ size_of t.told + total_size t.others = ap total_size rest_is in
    record {
      done = inv.done ++ t.told ∷ [];
      rest = t.others;
      split = append_assoc inv.done (t.told ∷ []) t.others ∙ ap (λ (rs : List Record). inv.done ++ rs) (sym rest_is) ∙ inv.split;
      at = t.behind;
      size = omega (arith, inv.size, t.next, total);
      count = omega (arith, inv.count, length-append inv.done (t.told ∷ []));
      heard = λ before stands.
          subst (g.C.Callback.has_heard c.heard.new.self)
          (ap (λ (e : HeardEvent). (before ++ heard_in inv.done) ++ e ∷ []) (c.event_of.ensures t.told t.parts) ∙ heard-behind before inv.done (t.told ∷ []))
          (c.in_ok-heard.ensures.heard (before ++ heard_in inv.done) (inv.heard before stands));
    }

pub returns-in_err-heard : goal.returns-in_err-heard
returns-in_err-heard g c =
    let inv = c.loop-rec.invariant in
    let p = err_from_is_err_and c.from_residual.result c.from_residual.ensures.1 in
    rw p.1
    (record {
      handed = record {
        done = heard_in inv.done;
        others = heard_in inv.rest;
        front = sym (map-append heard_of inv.done inv.rest) ∙ ap heard_in inv.split;
        heard = λ before stands. c.in_err-heard.ensures.unheard (before ++ heard_in inv.done) (inv.heard before stands);
        all = tt;
      };
      counted = tt;
    })

pub returns : goal.returns
returns g c =
    let inv = c.loop-rec.invariant in
    let rest_is : inv.rest ≡ [] = same_Some inv.rest [] (sym inv.at ∙ c.in_default.ensures.over) in
    let done_is : inv.done ≡ c.args.chunk.now = sym (append-nil inv.done) ∙ ap (λ (rs : List Record). inv.done ++ rs) (sym rest_is) ∙ inv.split in
    record {
      handed = record {
        done = heard_in inv.done;
        others = [];
        front = append-nil (heard_in inv.done) ∙ ap heard_in done_is;
        heard = inv.heard;
        all = ap heard_in done_is;
      };
      counted = inv.count ∙ ap length done_is;
    }
