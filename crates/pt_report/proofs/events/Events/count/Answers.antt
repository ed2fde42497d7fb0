use Rattle.std.proofs.Common.{◌≡◌, Option, Some, None, refl, sym, ap, ◌∙◌}
use Rattle.std.specs.Ordering.{nat_cmp}
use Rattle.std.specs.Cmp.Lexicographic.{slice_cmp}
use Rattle.std.specs.BTreeMap.{get}
use Rattle.nt_check.specs.state.Ids.{value_at}
use Rattle.pt_report.specs.declared.events.EventPlaces.{EventPlaces}
use Rattle.pt_report.specs.Keys.{key_of, key_order}
use Rattle.pt_report.specs.state.Events.{provider_of}
use Rattle.pt_report.proofs.Steps.{use-at}
use Rattle.pt_report.proofs.events.Events.count.Goals as goal

pub returns-in-Some : goal.returns-in-Some
returns-in-Some c = λ defs uses named def h is.
    let placed = h.found c.args.id def is in
    let same : c.in-Some.places.now ≡ placed.places =
    let both : ◌≡◌ {A = Option EventPlaces} (Some c.in-Some.places.now) (Some placed.places) = sym c.in-Some.ensures ∙ ap (value_at c.args.self.now.metadata) c.from.ensures ∙ placed.there in cc in
    record {
      found = λ q d known.
          let was = h.found q d known in
          record {
            places = was.places;
            there = was.there;
            provider = ap (λ m. get (slice_cmp nat_cmp) m d.provider) c.count.ensures.places ∙ was.provider;
            event = ap (λ m. get key_order m (key_of d)) c.count-in-Some.ensures.places ∙ was.event;
          };
      providers = use-at (slice_cmp nat_cmp) provider_of _ uses def def.provider c.count.new.self refl (c.count.ensures.counted _ _ def.provider h.providers (placed.provider ∙ ap (λ (p : EventPlaces). Some p.provider) (sym same)));
      events_are = use-at key_order key_of _ uses def (key_of def) c.count-in-Some.new.self refl (c.count-in-Some.ensures.counted _ _ (key_of def) h.events_are (placed.event ∙ ap (λ (p : EventPlaces). Some p.event) (sym same)));
    }

pub returns-in_default : goal.returns-in_default
returns-in_default c = λ defs uses named def h is.
    let placed = h.found c.args.id def is in
    let none : ◌≡◌ {A = Option EventPlaces} (Some placed.places) None = sym placed.there ∙ ap (value_at c.args.self.now.metadata) (sym c.from.ensures) ∙ c.in_default.ensures in absurd (cc)
