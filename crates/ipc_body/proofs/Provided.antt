-- Providers, read one after another.
use Rattle.std.proofs.Common.{◌≡◌, ℕ, suc, ◌+◌, ◌-◌, ◌<◌, ◌≤◌, true, List, [], ◌∷◌, ◌++◌, length, take, drop, Result, Ok, Err, nat_lt, refl, ap, sym, ◌∙◌, arith, append_assoc, append-nil, length-drop, length-append, subst, ◌*◌}
use Rattle.std.specs.Int.{w32, w64}
use Rattle.std.proofs.lemmas.Grind.{common_steps}
use Rattle.std.proofs.lemmas.List.{drop_all, length-take-le, drop-drop}
use Rattle.pt_num.specs.Fields.{Field, Fault, fixed_at, text_c_at}
use Rattle.pt_num.specs.Steps.{◌>>=◌}
use Rattle.pt_num.proofs.Joined.{rest_is}
use Rattle.ep_defs.specs.Text.{units_in}
use Rattle.ep_defs.specs.declared.session.Rule.{Rule}
use Rattle.ipc_body.specs.declared.request.RequestFault.{RequestFault}
use Rattle.ipc_body.specs.declared.request.RequestFault.TheVariants as fault
use Rattle.ipc_body.proofs.Texts.{some_unit}
use Rattle.ipc_body.specs.Request.{name_at, rule_of, provider_at, providers_at, with_provider, whole_providers, is_empty, hold, are_named}

-- A name that is there.
pub name-is : (bytes name rest : List ℕ) → text_c_at bytes ≡ Ok (name, rest) → 0 < length name → name_at bytes ≡ Ok (name, rest)
name-is bytes name rest e some = let t : nat_lt 0 (length name) ≡ true = grind arith in rw (e, t) refl

-- A name that was read has a unit.
pub name-some : (bytes name : List ℕ) (count used : ℕ) → used ≤ length bytes → 4 + 2 * count ≤ used → 0 < count
    → name ≡ units_in (take (4 + 2 * count - 4) (drop 4 bytes)) → 0 < length name
name-some bytes name count used within least some n =
    let k : 4 + 2 * count - 4 ≡ 2 * count = omega arith in
    let text : List ℕ = take (2 * count) (drop 4 bytes) in
    let long : length text ≡ 2 * count = length-take-le (2 * count) (drop 4 bytes) (omega (arith, length-drop 4 bytes)) in
    let same : name ≡ units_in text = n ∙ ap (λ (m : ℕ). units_in (take m (drop 4 bytes))) k in
    rw same (some_unit text (omega arith))

-- A text is a name where it has a unit.
pub name-read : (bytes name : List ℕ) (count used : ℕ) → used ≤ length bytes → 4 + 2 * count ≤ used → 0 < count
    → text_c_at bytes ≡ Ok (units_in (take (2 * count) (drop 4 bytes)), drop used bytes)
    → name ≡ units_in (take (4 + 2 * count - 4) (drop 4 bytes)) → name_at bytes ≡ Ok (name, drop used bytes)
name-read bytes name count used within least some e n =
    let k : 4 + 2 * count - 4 ≡ 2 * count = omega arith in
    let same : name ≡ units_in (take (2 * count) (drop 4 bytes)) = n ∙ ap (λ (m : ℕ). units_in (take m (drop 4 bytes))) k in
    let there = name-some bytes name count used within least some n in
    name-is bytes name (drop used bytes) (e ∙ ap (λ (u : List ℕ). let f : Field (List ℕ) = Ok (u, drop used bytes) in f) (sym same)) there

-- The parts of a provider up to its filter: `from_level` are the bytes from the level on, and so on.
pub record HasParts (bytes from_level from_name from_filter name : List ℕ) (keywords level used : ℕ) : Type 0 where
  pub level_there : from_level ≡ drop 8 bytes
  pub name_there : from_name ≡ drop 12 bytes
  pub filter_there : from_filter ≡ drop (12 + used) bytes
  pub keywords_read : fixed_at w64 bytes ≡ Ok (keywords, drop 8 bytes)
  pub level_read : fixed_at w32 from_level ≡ Ok (level, drop 4 from_level)
  pub name_read : name_at from_name ≡ Ok (name, drop used from_name)

-- The parts of a provider as they are read, each from the bytes that are left.
pub parts-there : (bytes name : List ℕ) (keywords level used : ℕ) → fixed_at w64 bytes ≡ Ok (keywords, drop 8 bytes) →
    fixed_at w32 (take (length bytes - 8) (drop 8 bytes)) ≡ Ok (level, drop 4 (take (length bytes - 8) (drop 8 bytes))) →
    name_at (take (length bytes - 12) (drop 12 bytes)) ≡ Ok (name, drop used (take (length bytes - 12) (drop 12 bytes))) →
    HasParts bytes (take (length bytes - 8) (drop 8 bytes)) (take (length bytes - 12) (drop 12 bytes)) (take (length bytes - (12 + used)) (drop (12 + used) bytes)) name keywords level used
parts-there bytes name keywords level used keywords_read level_read name_read =
    record {
      level_there = rest_is 8 bytes;
      name_there = rest_is 12 bytes;
      filter_there = rest_is (12 + used) bytes;
      keywords_read = keywords_read;
      level_read = level_read;
      name_read = name_read;
    }

-- A provider of which all parts are there.
pub provider-is : (bytes from_level from_name from_filter name filter : List ℕ) (keywords level used more : ℕ) →
    HasParts bytes from_level from_name from_filter name keywords level used → text_c_at from_filter ≡ Ok (filter, drop more from_filter) →
    provider_at bytes ≡ Ok (rule_of keywords level name, drop (12 + used + more) bytes)
provider-is bytes from_level from_name from_filter name filter keywords level used more p f =
    let l : fixed_at w32 (drop 8 bytes) ≡ Ok (level, drop 4 (drop 8 bytes)) = subst (λ (r : List ℕ). fixed_at w32 r ≡ Ok (level, drop 4 r)) p.level_there p.level_read in
    let n : name_at (drop 12 bytes) ≡ Ok (name, drop used (drop 12 bytes)) = subst (λ (r : List ℕ). name_at r ≡ Ok (name, drop used r)) p.name_there p.name_read in
    let g : text_c_at (drop (12 + used) bytes) ≡ Ok (filter, drop more (drop (12 + used) bytes)) = subst (λ (r : List ℕ). text_c_at r ≡ Ok (filter, drop more r)) p.filter_there f in
    let k = p.keywords_read in
    let e : drop 4 (drop 8 bytes) ≡ drop 12 bytes = drop-drop 4 8 bytes in
    let d : drop used (drop 12 bytes) ≡ drop (12 + used) bytes = drop-drop used 12 bytes in
    rw (k, l, e, n, d, g, drop-drop more (12 + used) bytes) refl

-- A provider without its filter.
pub provider-lacks : (bytes from_level from_name from_filter name : List ℕ) (keywords level used : ℕ) (e : Fault) →
    HasParts bytes from_level from_name from_filter name keywords level used → text_c_at from_filter ≡ Err e → provider_at bytes ≡ Err fault.BadEncoding
provider-lacks bytes from_level from_name from_filter name keywords level used e p f =
    let l : fixed_at w32 (drop 8 bytes) ≡ Ok (level, drop 4 (drop 8 bytes)) = subst (λ (r : List ℕ). fixed_at w32 r ≡ Ok (level, drop 4 r)) p.level_there p.level_read in
    let n : name_at (drop 12 bytes) ≡ Ok (name, drop used (drop 12 bytes)) = subst (λ (r : List ℕ). name_at r ≡ Ok (name, drop used r)) p.name_there p.name_read in
    let g : text_c_at (drop (12 + used) bytes) ≡ Err e = subst (λ (r : List ℕ). text_c_at r ≡ Err e) p.filter_there f in
    let k = p.keywords_read in
    let a : drop 4 (drop 8 bytes) ≡ drop 12 bytes = drop-drop 4 8 bytes in
    let d : drop used (drop 12 bytes) ≡ drop (12 + used) bytes = drop-drop used 12 bytes in
    rw (k, l, a, n, d, g) refl

-- Providers that were read, before those that follow.
abbrev pub onto : List Rule → Result (List Rule × List ℕ) RequestFault → Result (List Rule × List ℕ) RequestFault
onto rules (Ok later) = Ok (rules ++ later.0, later.1)
onto rules (Err e) = Err e

-- So many providers of the whole were read, up to this offset; each has a name.
pub record AreRead (count place used : ℕ) (whole : List ℕ) (rules : List Rule) : Type 0 where
  pub within : used ≤ length whole
  pub so_far : providers_at count whole ≡ onto rules (providers_at (count - place) (drop used whole))
  pub many : length rules ≡ place
  pub named : are_named rules ≡ true

onto-push : (rules : List Rule) (rule : Rule) (later : Result (List Rule × List ℕ) RequestFault) →
    onto (rules ++ rule ∷ []) later ≡ onto rules (with_provider rule later)
onto-push rules rule (Ok later) =
    ap (λ (all : List Rule). let r : Result (List Rule × List ℕ) RequestFault = Ok (all, later.1) in r) (append_assoc rules (rule ∷ []) later.0)
onto-push rules rule (Err e) = refl

named-push : (rules : List Rule) (rule : Rule) → are_named rules ≡ true → nat_lt 0 (length rule.name) ≡ true → are_named (rules ++ rule ∷ []) ≡ true
named-push [] rule h n = rw n refl
named-push (first ∷ rules) rule h n = grind (arith, common_steps, named-push rules rule)

-- One provider more was read.
pub read-more : (count place used more : ℕ) (whole rest : List ℕ) (rules : List Rule) (rule : Rule) → place < count → AreRead count place used whole rules →
    rest ≡ drop used whole → more ≤ length rest → provider_at rest ≡ Ok (rule, drop more rest) → 0 < length rule.name →
    AreRead count (place + 1) (used + more) whole (rules ++ rule ∷ [])
unfolding providers_at
read-more count place used more whole rest rules rule less r there le first some =
    let one : provider_at (drop used whole) ≡ Ok (rule, drop more (drop used whole)) = subst (λ (xs : List ℕ). provider_at xs ≡ Ok (rule, drop more xs)) there first in
    let e : count - place ≡ suc (count - (place + 1)) = omega arith in
    record {
      within = let w : used ≤ length whole = r.within in omega (arith, length-drop used whole, ap length there);
      so_far = r.so_far ∙ rw (e, one, drop-drop more used whole) (sym (onto-push rules rule (providers_at (count - (place + 1)) (drop (used + more) whole))));
      many = let m : length rules ≡ place = r.many in omega (arith, length-append rules (rule ∷ []));
      named = named-push rules rule r.named (grind arith);
    }

-- The next provider is none.
pub read-none : (count place used : ℕ) (whole rest : List ℕ) (rules : List Rule) (e : RequestFault) → place < count → AreRead count place used whole rules →
    rest ≡ drop used whole → provider_at rest ≡ Err e → whole_providers count whole ≡ Err e
unfolding providers_at
read-none count place used whole rest rules e less r there first =
    let none : provider_at (drop used whole) ≡ Err e = subst (λ (xs : List ℕ). provider_at xs ≡ Err e) there first in
    let m : count - place ≡ suc (count - (place + 1)) = omega arith in
    let f : providers_at count whole ≡ Err e = r.so_far ∙ rw (m, none) refl in rw f refl

-- All were read, and the bytes end.
pub read-all : (count place used : ℕ) (whole : List ℕ) (rules : List Rule) → count ≤ place → AreRead count place used whole rules → used ≡ length whole →
    whole_providers count whole ≡ Ok rules
unfolding providers_at
read-all count place used whole rules done r e =
    let n : count - place ≡ 0 = omega arith in
    let d : drop used whole ≡ [] = drop_all used whole (omega arith) in
    let f : providers_at count whole ≡ Ok (rules ++ [], []) = r.so_far ∙ rw (n, d) refl in rw f (ap Ok (append-nil rules))

-- Some bytes are left.
left : (rest : List ℕ) (rules : List Rule) → 0 < length rest →
    (hold (is_empty rest) >>= λ _. let r : Result (List Rule) RequestFault = Ok rules in r) ≡ Err fault.BadEncoding
left [] rules h = absurd (omega arith)
left (b ∷ rest) rules h = refl

-- All were read, and bytes are left.
pub read-over : (count place used : ℕ) (whole : List ℕ) (rules : List Rule) → count ≤ place → AreRead count place used whole rules → used < length whole →
    whole_providers count whole ≡ Err fault.BadEncoding
unfolding providers_at
read-over count place used whole rules done r l =
    let n : count - place ≡ 0 = omega arith in
    let f : providers_at count whole ≡ Ok (rules ++ [], drop used whole) = r.so_far ∙ rw n refl in rw f (left (drop used whole) (rules ++ []) (omega (arith, length-drop used whole)))
