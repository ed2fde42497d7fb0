-- What ordered items say of a thread's numbers is what their entries say.
use Rattle.std.proofs.Common.{◌≡◌, ℕ, Ok, Option, Some, None, List, [], ◌∷◌, ◌++◌, refl, sym, ap, ◌∙◌, append_assoc}
use Rattle.std.proofs.lemmas.List.{append-nil}
use Rattle.std.specs.List.{flat_map}
use Rattle.ep_defs.specs.declared.item.ItemKind.{ItemKind}
use Rattle.ep_defs.specs.declared.item.ItemKind.TheVariants as item
use Rattle.ep_defs.specs.Entry.{Entry}
use Rattle.ep_defs.specs.Gaps.{Sighting, sightings_in}
use Rattle.pt_num.specs.Steps.{or_fault}
use Rattle.pt_num.proofs.Steps.{bind_inv, ok-same}
use Rattle.nt_blocks.specs.Ordered.{Disorder, UnknownMetadata, UnknownStack, Names, lookup, stack_of, unless_there, tell, names_after, told_after}
use Rattle.nt_blocks.specs.Seen.{seen_in}

flat_map-append : (thread : ℕ) (a b : List Entry) → flat_map (sightings_in thread) (a ++ b) ≡ flat_map (sightings_in thread) a ++ flat_map (sightings_in thread) b
flat_map-append thread [] b = refl
flat_map-append thread (x ∷ a) b =
    ap (λ (more : List Sighting). sightings_in thread x ++ more) (flat_map-append thread a b)
    ∙ sym (append_assoc (sightings_in thread x) (flat_map (sightings_in thread) a) (flat_map (sightings_in thread) b))

none-told : {A : Type 0} (named : Option A) (fault : Disorder) (first : List Entry) → unless_there named fault ≡ Ok first → [] ≡ first
none-told (Some x) fault first e = absurd (cc)
none-told None fault first e = ok-same [] first e

-- One item.
tell-seen : (thread : ℕ) (names : Names) (kind : ItemKind) (first : List Entry) → tell names kind ≡ Ok first → seen_in thread kind ≡ flat_map (sightings_in thread) first
tell-seen thread names (item.Trace info) first e = ap (flat_map (sightings_in thread)) (ok-same [] first e)
tell-seen thread names (item.Meta id def) first e =
    ap (flat_map (sightings_in thread)) (none-told (lookup id names.definitions) _ first e)
tell-seen thread names (item.Stack id bytes) first e =
    ap (flat_map (sightings_in thread)) (none-told (lookup id names.stacks) _ first e)
tell-seen thread names (item.Event metadata number capture processor other stack stamp activity related payload) first e =
    let defined = bind_inv (or_fault (lookup metadata names.definitions) (UnknownMetadata metadata)) _ first e in
    let stacked = bind_inv (or_fault (stack_of names stack) (UnknownStack stack)) _ first defined.2 in
    sym (append-nil _) ∙ ap (flat_map (sightings_in thread)) (ok-same _ first stacked.2)
tell-seen thread names (item.Point stamp threads) first e =
    sym (append-nil _) ∙ ap (flat_map (sightings_in thread)) (ok-same _ first e)

-- All items.
pub told-seen : (thread : ℕ) (names : Names) (kinds : List ItemKind) (entries : List Entry) → told_after names kinds ≡ Ok entries → flat_map (seen_in thread) kinds ≡ flat_map (sightings_in thread) entries
told-seen thread names [] entries e = ap (flat_map (sightings_in thread)) (ok-same [] entries e)
told-seen thread names (kind ∷ kinds) entries e =
    let first = bind_inv (tell names kind) _ entries e in
    let rest = bind_inv (told_after (names_after names kind) kinds) _ entries first.2 in
    ap (λ (s : List Sighting). s ++ flat_map (seen_in thread) kinds) (tell-seen thread names kind first.0 first.1)
    ∙ ap (λ (s : List Sighting). flat_map (sightings_in thread) first.0 ++ s) (told-seen thread (names_after names kind) kinds rest.0 rest.1)
    ∙ sym (flat_map-append thread first.0 rest.0)
    ∙ ap (flat_map (sightings_in thread)) (ok-same _ entries rest.2)
