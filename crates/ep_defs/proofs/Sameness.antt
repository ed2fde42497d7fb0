-- The tests of sameness tell texts and definitions apart.
use Rattle.std.proofs.Common.{◌≡◌, ℕ, true, eqb, List, refl, ap, sym, ◌∙◌}
use Rattle.std.specs.Prelude.{◌&&◌, Option, Some}
use Rattle.std.specs.Cmp.Lexicographic.{pointwise, bytes_decides, pointwise_decides}
use Rattle.std.proofs.lemmas.Bool.{and_parts, and_from, eqb-true, eq-eqb}
use Rattle.ep_defs.specs.declared.event.EventDef.{EventDef}
use Rattle.ep_defs.specs.declared.event.FieldDef.{FieldDef}
use Rattle.ep_defs.specs.Definitions.{AreDistinct}
use Rattle.ep_defs.specs.Event.{is_same_text, is_same_field, is_same_event}

-- Texts that the test calls the same are the same.
pub text-means : (a b : List ℕ) → is_same_text a b ≡ true → a ≡ b
text-means a b e = (bytes_decides a b).0 e

-- A text is the same as itself.
pub text-itself : (a : List ℕ) → is_same_text a a ≡ true
text-itself a = (bytes_decides a a).1 refl

-- Fields that the test calls the same are the same.
field-means : (a b : FieldDef) → is_same_field a b ≡ true → a ≡ b
field-means a b e =
    let last = and_parts (eqb a.depth b.depth && eqb a.code b.code) (is_same_text a.name b.name) e in
    let first = and_parts (eqb a.depth b.depth) (eqb a.code b.code) last.0 in
    let depth = eqb-true a.depth b.depth first.0 in
    let code = eqb-true a.code b.code first.1 in
    let name = text-means a.name b.name last.1 in
    λ i. record { depth = depth i; code = code i; name = name i }

-- A field is the same as itself.
field-itself : (a : FieldDef) → is_same_field a a ≡ true
field-itself a =
    and_from (eqb a.depth a.depth && eqb a.code a.code) (is_same_text a.name a.name)
    (and_from (eqb a.depth a.depth) (eqb a.code a.code) (eq-eqb a.depth a.depth refl) (eq-eqb a.code a.code refl))
    (text-itself a.name)

-- Lists of fields are told apart as their fields are.
fields-decide : (xs ys : List FieldDef) → (pointwise is_same_field xs ys ≡ true → xs ≡ ys) × (xs ≡ ys → pointwise is_same_field xs ys ≡ true)
fields-decide = pointwise_decides (λ x y. (field-means x y, λ e. ap (λ (z : FieldDef). is_same_field x z) (sym e) ∙ field-itself x))

-- Definitions that the test calls the same are the same.
pub event-means : (a b : EventDef) → is_same_event a b ≡ true → a ≡ b
event-means a b e =
    let provider_is = is_same_text a.provider b.provider in
    let id_is = eqb a.id b.id in
    let version_is = eqb a.version b.version in
    let level_is = eqb a.level b.level in
    let keywords_is = eqb a.keywords b.keywords in
    let name_is = is_same_text a.name b.name in
    let p7 = and_parts (provider_is && id_is && version_is && level_is && keywords_is && name_is) (pointwise is_same_field a.fields b.fields) e in
    let p6 = and_parts (provider_is && id_is && version_is && level_is && keywords_is) name_is p7.0 in
    let p5 = and_parts (provider_is && id_is && version_is && level_is) keywords_is p6.0 in
    let p4 = and_parts (provider_is && id_is && version_is) level_is p5.0 in
    let p3 = and_parts (provider_is && id_is) version_is p4.0 in
    let p2 = and_parts provider_is id_is p3.0 in
    let provider = text-means a.provider b.provider p2.0 in
    let id = eqb-true a.id b.id p2.1 in
    let version = eqb-true a.version b.version p3.1 in
    let level = eqb-true a.level b.level p4.1 in
    let keywords = eqb-true a.keywords b.keywords p5.1 in
    let name = text-means a.name b.name p6.1 in
    let fields = (fields-decide a.fields b.fields).0 p7.1 in
    λ i. record { provider = provider i; id = id i; version = version i; level = level i; keywords = keywords i; name = name i; fields = fields i }

-- A definition is the same as itself.
pub event-itself : (a : EventDef) → is_same_event a a ≡ true
event-itself a =
    let provider_is = is_same_text a.provider a.provider in
    let id_is = eqb a.id a.id in
    let version_is = eqb a.version a.version in
    let level_is = eqb a.level a.level in
    let keywords_is = eqb a.keywords a.keywords in
    let name_is = is_same_text a.name a.name in
    and_from (provider_is && id_is && version_is && level_is && keywords_is && name_is) (pointwise is_same_field a.fields a.fields)
    (and_from (provider_is && id_is && version_is && level_is && keywords_is) name_is
    (and_from (provider_is && id_is && version_is && level_is) keywords_is
    (and_from (provider_is && id_is && version_is) level_is
    (and_from (provider_is && id_is) version_is
    (and_from provider_is id_is (text-itself a.provider) (eq-eqb a.id a.id refl))
    (eq-eqb a.version a.version refl))
    (eq-eqb a.level a.level refl))
    (eq-eqb a.keywords a.keywords refl))
    (text-itself a.name))
    ((fields-decide a.fields a.fields).1 refl)

-- Where no definition stands twice, those at two numbers that the test calls the same stand at one.
pub distinct-same : (definitions : ℕ → Option EventDef) → AreDistinct definitions → (i j : ℕ) (a b : EventDef) → definitions i ≡ Some a → definitions j ≡ Some b → is_same_event a b ≡ true → i ≡ j
distinct-same definitions distinct i j a b at-i at-j same =
    distinct i j a at-i (at-j ∙ ap (λ (x : EventDef). Some x) (sym (event-means a b same)))
