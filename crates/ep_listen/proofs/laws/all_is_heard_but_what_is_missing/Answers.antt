use Rattle.std.proofs.Common.{◌-◌, length, refl, arith}
use Rattle.ep_listen.specs.Shares.{heard_by}
use Rattle.ep_listen.proofs.Less.{all-less, rising-count}
use Rattle.ep_listen.proofs.laws.all_is_heard_but_what_is_missing.Goals as goal

pub returns : goal.returns
returns c admitted account refused failed thread heard of within sum =
    let few = rising-count 0 account.last (heard_by thread heard) of.rising in
    record {
      missing = length admitted - length (heard_by thread heard);
      less = all-less (length admitted - length (heard_by thread heard)) 1 0 account.last admitted (heard_by thread heard) refl of.rising (omega (arith, within)) of.in_place (omega (arith, few, within));
      all = λ sound. let whole = of.all sound in omega (arith, whole, sum);
    }
