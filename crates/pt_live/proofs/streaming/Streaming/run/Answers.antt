use Rattle.std.proofs.Common.{List, sym, subst}
use Rattle.ep_defs.specs.declared.event.EventDef.{EventDef}
use Rattle.pt_stream.specs.State.{AreEvents}
use Rattle.pt_live.proofs.streaming.Streaming.run.Goals as goal

pub sweep-swept-requires : goal.sweep-swept-requires
sweep-swept-requires g c =
    let sound = c.sample_events_are_valid.ensures in
    record {
      events = subst (λ (es : List EventDef). AreEvents es) (sym c.args.around.now.is_run.events_are)
          (record { few = sound.few; valid = sound.valid; distinct = sound.distinct; lacks = sound.lacks });
    }
