use Rattle.std.proofs.Common.{◌≡◌, ℕ, cond, eqb, sym, ap, ◌∙◌, subst, Some}
use Rattle.std.specs.Ordering.{nat_cmp}
use Rattle.std.specs.Cmp.Lexicographic.{slice_cmp}
use Rattle.std.specs.BTreeMap.{get}
use Rattle.nt_check.specs.state.Ids.{value_at}
use Rattle.pt_report.specs.declared.events.EventPlaces.{EventPlaces}
use Rattle.pt_report.specs.declared.events.Events.{Events}
use Rattle.pt_report.specs.Keys.{key_of, key_order}
use Rattle.pt_report.specs.state.Events.{provider_of}
use Rattle.pt_report.proofs.Steps.{name-at, placed-more}
use Rattle.pt_report.proofs.events.Events.define.Goals as goal

pub returns : goal.returns
returns c = λ defs uses named h.
    let def = c.args.def.now in
    let key = c.in_ok-key.key in
    let key-is : key ≡ key_of def = c.in_ok-key.ensures in
    let name-is : c.in_ok-copy.field-0 ≡ def.provider = c.in_ok-copy.ensures ∙ ap (λ k. k.provider) key-is in
    let places : EventPlaces = record { provider = c.in_ok-provider.provider; event = c.in_ok-event.event } in
    let new : Events = record { metadata = c.insert.new.self; providers = c.name.new.self; events = c.name-2.new.self } in
    record {
      found = λ q d is.
          placed-more c.args.id q def d named places c.args.self.now new (subst (λ (i : ℕ). value_at new.metadata q ≡ cond (eqb i q) (Some places) (value_at c.args.self.now.metadata q)) c.from.ensures (c.in_ok-insert.ensures.ok q))
          (ap (get (slice_cmp nat_cmp) new.providers.places) (sym name-is) ∙ c.in_ok-provider.ensures.place)
          (ap (get key_order new.events.places) (sym key-is) ∙ c.in_ok-event.ensures.place)
          c.in_ok-provider.ensures.kept c.in_ok-event.ensures.kept (h.found q) is;
      providers = name-at (slice_cmp nat_cmp) provider_of defs _ def c.in_ok-copy.field-0 new.providers name-is (c.in_ok-provider.ensures.ok _ _ h.providers);
      events_are = name-at key_order key_of defs _ def key new.events key-is (c.in_ok-event.ensures.ok _ _ h.events_are);
    }
