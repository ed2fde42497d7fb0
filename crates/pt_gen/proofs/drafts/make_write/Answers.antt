-- The write that the thread's draft lends is the round's, and so are the sessions that get it.
use Rattle.std.proofs.Common.{◌≡◌, ◌<◌, ◌-◌, ◌+◌, ◌∙◌, ℕ, List, sym, ap, subst, arith}
use Rattle.std.specs.Prelude.{filter}
use Rattle.std.proofs.lemmas.Option.{slice_get_read}
use Rattle.ep_defs.specs.Session.{standard_info_of}
use Rattle.ep_defs.specs.declared.session.Write.{Write}
use Rattle.ep_model.specs.Lawful.{IsLawful}
use Rattle.ep_core.specs.Machine.{Follows}
use Rattle.ep_core.specs.Writes.{with_write}
use Rattle.pt_load.specs.Sample.{nth, sample}
use Rattle.pt_load.specs.Shape.{Drafted}
use Rattle.pt_gen.specs.declared.limits.TheConstants.{THREADS}
use Rattle.pt_gen.specs.Schedule.{gets, plan_of, sessions, thread_at, write_at}
use Rattle.pt_gen.proofs.drafts.make_write.Goals as goal

pub write-requires-clause-few : goal.write-requires-clause-few
write-requires-clause-few c = omega (arith, c.getters.ensures.few, c.requires.few)

pub returns-clause-writes : goal.returns-clause-writes
returns-clause-writes c past follows lawful =
    let seed = c.args.rounds.seed in
    let round = c.args.round in
    let thread = c.thread_at-thread.result in
    let turn : thread ≡ thread_at seed round = c.thread_at-thread.ensures in
    let within : thread - 1 < THREADS = omega (arith, turn) in
    let back : thread - 1 + 1 ≡ thread_at seed round = omega (arith, turn) in
    let at = slice_get_read c.args.drafts.now.items THREADS (thread - 1) c.index_mut.result.now (sym c.requires.drafts.count) within c.index_mut.ensures.value in
    let is : c.nth-write.result.now ≡ write_at seed round =
    c.nth-write.ensures.write
    ∙ ap (λ (d : Drafted). nth d.plan d.thread c.writes_before.result) (c.requires.drafts.each (thread - 1) c.index_mut.result.now at)
    ∙ ap (λ (t : ℕ). nth (plan_of seed) t c.writes_before.result) back
    ∙ ap (λ (n : ℕ). nth (plan_of seed) (thread_at seed round) n) c.writes_before.ensures in
    let got : c.getters.result.now ≡ filter (gets (write_at seed round)) sessions = c.getters.ensures.got seed round (ap (λ (w : Write). w.event) (sym is)) in
    let At : ℕ → ℕ → Write → List ℕ → Type 0 = λ t stamp w gotten. IsLawful sample (with_write t stamp w gotten past) → Follows sample (standard_info_of 1 1) (with_write t stamp w gotten past) c.write.new.self in
    let made : At thread c.from.result c.nth-write.result.now c.getters.result.now = c.write.ensures.made sample (standard_info_of 1 1) past follows in
    subst (λ t. At t round (write_at seed round) (filter (gets (write_at seed round)) sessions)) turn
    (subst (λ stamp. At thread stamp (write_at seed round) (filter (gets (write_at seed round)) sessions)) c.from.ensures
    (subst (λ w. At thread c.from.result w (filter (gets (write_at seed round)) sessions)) is
    (subst (λ gotten. At thread c.from.result c.nth-write.result.now gotten) got made))) lawful
