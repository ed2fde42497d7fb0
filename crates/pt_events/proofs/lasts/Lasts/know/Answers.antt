use Rattle.std.proofs.Common.{refl}
use Rattle.ep_defs.specs.Gaps.{Known}
use Rattle.pt_events.proofs.Seen.{seen-more}
use Rattle.pt_events.proofs.lasts.Lasts.know.Goals as goal

pub returns-clause-seen : goal.returns-clause-seen
returns-clause-seen c = λ past seen. seen-more past c.args.thread c.args.number (Known c.args.number) c.args.self.now (record { numbers = c.put.new.self.numbers }) refl seen c.in_ok-last.ensures.put
