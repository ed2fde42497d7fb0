use Rattle.std.proofs.Common.{ℕ, List, [], ◌++◌, ◌∙◌, ap, subst, inl, IsTrue}
use Rattle.std.proofs.lemmas.List.{append-nil}
use Rattle.pt_io.specs.Taken.{TookPartOf}
use Rattle.ipc_body.specs.Answering.{session_reply}
use Rattle.pt_server.specs.Connection.{TookStart}
use Rattle.pt_server_tests.proofs.tests.unstarted.Goals as goal

pub unstarted-requires-in-Ok-clause-start : goal.unstarted-requires-in-Ok-clause-start
unstarted-requires-in-Ok-clause-start g c =
    let reply = session_reply c.args.id in
    let link = c.write.new.self.link in
    let h = rw (c.new-served.ensures.value, c.session_reply.ensures) at c.in-Ok.ensures.taken in
    let told = rw c.new-served.ensures.value at c.in-Ok.ensures.told in
    let fact : TookStart g.N.Process.facts.info g.N.Process.greeting (g.L.Sink.tells_taken link) (g.L.Sink.taken link) = record {
      id = c.args.id;
      part = λ t. let u = subst IsTrue told t in
          inl (reply, ([], append-nil reply), h u ∙ ap (λ (xs : List ℕ). xs ++ reply) (c.new-served.ensures.greeted u));
    } in
    search fact

pub unstarted-requires-in-Err-clause-start : goal.unstarted-requires-in-Err-clause-start
unstarted-requires-in-Err-clause-start g c =
    let reply = session_reply c.args.id in
    let link = c.write.new.self.link in
    let h = rw (c.new-served.ensures.value, c.session_reply.ensures) at c.in-Err.ensures.part in
    let told = rw c.new-served.ensures.value at c.in-Err.ensures.told in
    let P : List ℕ → Type 0 = λ xs. TookPartOf reply xs (g.L.Sink.taken link) in
    let fact : TookStart g.N.Process.facts.info g.N.Process.greeting (g.L.Sink.tells_taken link) (g.L.Sink.taken link) =
    record { id = c.args.id; part = λ t. let u = subst IsTrue told t in inl (subst P (c.new-served.ensures.greeted u) (h u)) } in
    search fact
