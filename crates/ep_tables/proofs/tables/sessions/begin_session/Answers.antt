use Rattle.std.proofs.Common.{ap, ◌∙◌, subst, ◌++◌, List, [], true, ℕ, refl}
use Rattle.std.specs.Map.{lookup}
use Rattle.std.specs.Ordering.{nat_cmp, is_eq}
use Rattle.ep_defs.specs.Definitions.{definition_at}
use Rattle.ep_defs.specs.declared.event.EventDef.{EventDef}
use Rattle.pt_io.specs.Memory.{SinkState}
use Rattle.ep_stream.specs.Telling.{IsTelling}
use Rattle.ep_stream.specs.Session.{new_rest, writer_of}
use Rattle.ep_tables.proofs.tables.sessions.begin_session.Goals as goal

pub returns-clause-begun : goal.returns-clause-begun
returns-clause-begun c =
    let Telling : List EventDef → List ℕ → Type 0 = λ events before. IsTelling (λ (s : SinkState). true) (λ (s : SinkState). s.taken) before (definition_at events) c.args.info.now [] (writer_of c.in-Ok.begun) in
    let nothing = c.in-Ok.ensures.started.reply_is refl ∙ ap (λ (s : SinkState). s.taken ++ []) c.new-sink.ensures in
    record {
      number = refl;
      slot_is = refl;
      rest = c.in-Ok.ensures.rest ∙ ap (λ (n : ℕ). new_rest (record { slot = c.args.slot; id = n; conn = 0 }) c.args.config) c.from.ensures;
      hands = c.in-Ok.ensures.hands;
      count = c.in-Ok.ensures.count;
      sound = c.in-Ok.ensures.sound;
      ever = λ t. ap (lookup (λ k. is_eq (nat_cmp t k))) c.new-2.ensures.empty;
      len = c.new-2.ensures.len;
      begun = λ events. subst (Telling events) nothing (c.in-Ok.ensures.started.telling events);
    }
