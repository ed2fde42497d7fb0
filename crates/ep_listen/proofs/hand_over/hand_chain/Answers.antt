use Rattle.std.proofs.Common.{◌≡◌, ◌+◌, List, [], ◌++◌, length, refl, take, drop, ap, sym, ◌∙◌, subst, arith, append_assoc, length-append}
use Rattle.std.proofs.lemmas.List.{append-nil, map-append, take_all}
use Rattle.std.proofs.lemmas.Result.{err_from_is_err_and}
use Rattle.ep_chunk.specs.Record.{Record}
use Rattle.ep_slot.specs.Chain.{records_of}
use Rattle.ep_listen.specs.Heard.{HeardEvent, heard_in, heard_of}
use Rattle.ep_slot.proofs.Chains.{split_chain, take_chain}
use Rattle.ep_listen.proofs.Chains.{chunk-few, heard-behind}
use Rattle.ep_listen.proofs.hand_over.hand_chain.Goals as goal

pub loop-place-init : goal.loop-place-init
loop-place-init g c =
    record {
      count = refl;
      heard = λ before stands. subst (g.C.Callback.has_heard c.args.callback.now) (sym (append-nil before)) stands;
    }

pub hand_chunk-requires : goal.hand_chunk-requires
hand_chunk-requires g c =
    let long = chunk-few c.args.chain.now c.loop-place.place c.in-Some.chunk.now (sym c.in-Some.ensures) in
    omega (arith, long, c.requires)

pub overflow_add-count : goal.overflow_add-count
overflow_add-count g c =
    let long = chunk-few c.args.chain.now c.loop-place.place c.in-Some.chunk.now (sym c.in-Some.ensures) in
    omega (arith, long, c.requires, c.loop-place.invariant.count, c.in_ok-count.ensures.counted)

pub loop-place-preserved : goal.loop-place-preserved
loop-place-preserved g c =
    let inv = c.loop-place.invariant in
    let chain = c.args.chain.now in
    let place = c.loop-place.place in
    let chunk : List Record = c.in-Some.chunk.now in
    let first : List Record = records_of (take place chain) in
    let now : records_of (take (place + 1) chain) ≡ first ++ chunk = take_chain chain place chunk (sym c.in-Some.ensures) in
    let handed = c.in_ok-count.ensures.handed in
    record {
      count = omega (arith, inv.count, c.in_ok-count.ensures.counted, ap length now, length-append first chunk);
      heard = λ before stands.
          subst (g.C.Callback.has_heard c.hand_chunk.new.callback)
          (ap (λ (es : List HeardEvent). (before ++ heard_in first) ++ es) handed.all ∙ heard-behind before first chunk ∙ ap (λ (rs : List Record). before ++ heard_in rs) (sym now))
          (handed.heard (before ++ heard_in first) (inv.heard before stands));
    }

pub returns-in_err-count : goal.returns-in_err-count
returns-in_err-count g c =
    let inv = c.loop-place.invariant in
    let chain = c.args.chain.now in
    let place = c.loop-place.place in
    let chunk : List Record = c.in-Some.chunk.now in
    let first : List Record = records_of (take place chain) in
    let after : List Record = records_of (drop (place + 1) chain) in
    let handed = c.in_err-count.ensures.handed in
    let p = err_from_is_err_and c.from_residual.result c.from_residual.ensures.1 in
    let whole : (heard_in first ++ handed.done) ++ (handed.others ++ heard_in after) ≡ heard_in (records_of chain) =
    append_assoc (heard_in first) handed.done (handed.others ++ heard_in after)
    ∙ ap (λ (es : List HeardEvent). heard_in first ++ es) (sym (append_assoc handed.done handed.others (heard_in after)) ∙ ap (λ (es : List HeardEvent). es ++ heard_in after) handed.front ∙ sym (map-append heard_of chunk after))
    ∙ sym (map-append heard_of first (chunk ++ after))
    ∙ ap heard_in (sym (split_chain chain place chunk (sym c.in-Some.ensures)))
    in
    rw p.1
    (record {
      handed = record {
        done = heard_in first ++ handed.done;
        others = handed.others ++ heard_in after;
        front = whole;
        heard = λ before stands.
            subst (g.C.Callback.has_heard c.hand_chunk.new.callback) (append_assoc before (heard_in first) handed.done)
            (handed.heard (before ++ heard_in first) (inv.heard before stands));
        all = tt;
      };
      counted = tt;
    })

pub returns : goal.returns
returns g c =
    let inv = c.loop-place.invariant in
    let chain = c.args.chain.now in
    let all : take c.loop-place.place chain ≡ chain = take_all c.loop-place.place chain (omega (arith, c.loop-place-test.false, c.count-place-end.ensures)) in
    record {
      handed = record {
        done = heard_in (records_of (take c.loop-place.place chain));
        others = [];
        front = append-nil (heard_in (records_of (take c.loop-place.place chain))) ∙ ap (λ (cs : List (List Record)). heard_in (records_of cs)) all;
        heard = inv.heard;
        all = ap (λ (cs : List (List Record)). heard_in (records_of cs)) all;
      };
      counted = inv.count ∙ ap (λ (cs : List (List Record)). length (records_of cs)) all;
    }
