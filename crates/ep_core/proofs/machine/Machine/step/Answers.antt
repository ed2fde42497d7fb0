use Rattle.std.proofs.Common.{◌≡◌, ◌∷◌, None, sym, ◌∙◌, subst}
use Rattle.std.proofs.Math.Logic.{∥∥₁_map}
use Rattle.ep_model.specs.declared.step.Step.{Step}
use Rattle.ep_model.specs.Lawful.{objection_to}
use Rattle.ep_tables.specs.Can.{CanMake}
use Rattle.ep_tables.specs.Judged.{step_of}
use Rattle.ep_core.proofs.Machines.{can_found, went_well}
use Rattle.ep_core.proofs.machine.Machine.step.Goals as goal

pub make-requires : goal.make-requires
make-requires c =
    let judged = c.in-Ok.judged in
    let found = c.in-Ok.ensures.judges.found in
    let tables = c.args.self.now.work.tables in
    let stands = c.args.self.now.stands c.if-self.false in
    record {
      ready = record {
        there = found.there;
        can = can_found (step_of judged) tables (∥∥₁_map stands (λ h. subst (λ (s : Step). CanMake s tables) (sym found.step_is) (c.in-Ok.ensures.can h.events h.past h.works.follow)));
      };
      goes = ∥∥₁_map stands (λ h. record {
        events = h.events;
        info = c.args.self.now.info;
        past = h.past;
        before = record {
          lawful = (h.works.lawful, subst (λ (s : Step). objection_to h.events h.past s ≡ None) (sym found.step_is) (sym (c.in-Ok.ensures.judges.kind_is h.events h.past h.works.follow)));
          works = h.works;
        };
      });
    }

pub invariant_of-self-2 : goal.invariant_of-self-2
invariant_of-self-2 c =
    let judged = c.in-Ok.judged in
    let found = c.in-Ok.ensures.judges.found in
    record {
      stands = λ _. ∥∥₁_map (c.args.self.now.stands c.if-self.false) (λ h.
          record {
            events = h.events;
            past = step_of judged ∷ h.past;
            works = went_well c.make.result (sym c.is_err.ensures.value ∙ c.if-is_err.false) c.make.ensures.works h.events h.past
                (record {
                  lawful = (h.works.lawful, subst (λ (s : Step). objection_to h.events h.past s ≡ None) (sym found.step_is) (sym (c.in-Ok.ensures.judges.kind_is h.events h.past h.works.follow)));
                  works = h.works;
                });
          });
    }
