-- How many bytes requests have.
use Rattle.std.proofs.Common.{◌≡◌, ℕ, ◌+◌, ◌*◌, ◌<◌, ◌≤◌, List, [], ◌∷◌, ◌++◌, length, take, ap, sym, ◌∙◌, arith, length-append, append_assoc, append-nil, get_or, subst}
use Rattle.std.specs.List.{flat_map, concat}
use Rattle.std.specs.Int.{w16, w32}
use Rattle.std.proofs.lemmas.List.{take_all}
use Rattle.std.proofs.lemmas.List.Concat.{length-flat_map}
use Rattle.std.proofs.lemmas.List.Sums.{sum_by_more, sum_by_more_le}
use Rattle.ipc_frame.specs.declared.limits.TheConstants.{HEADER_BYTES, MESSAGE_BYTES}
use Rattle.pt_num.specs.Numbers.{fixed}
use Rattle.pt_num.specs.Texts.{text_c, units_bytes}
use Rattle.pt_num.proofs.TextForms.{units_long}
use Rattle.ep_defs.specs.declared.session.Rule.{Rule}
use Rattle.ipc_body.specs.Asking.{provider_bytes, collect_body, collect_request}

pub text-length : (units : List ℕ) → length (text_c units) ≡ 6 + 2 * length units
unfolding fixed
text-length units = omega (arith, length-append (units_bytes units) (fixed w16 0), units_long units)

pub provider-length : (rule : Rule) → length (provider_bytes rule) ≡ 22 + 2 * length rule.name
unfolding fixed
provider-length rule = omega (arith, length-append (text_c rule.name) (fixed w32 0), text-length rule.name)

-- The whole request: its header and its body.
pub collect-size : (megabytes : ℕ) (rules : List Rule) → length (collect_request megabytes rules) ≡ HEADER_BYTES + length (collect_body megabytes rules)
unfolding fixed
collect-size megabytes rules = omega arith

pub collect-length : (megabytes : ℕ) (rules : List Rule) → length (collect_request megabytes rules) ≡ 33 + length (flat_map provider_bytes rules)
unfolding fixed
collect-length megabytes rules = omega (arith, length-append (flat_map provider_bytes rules) [])

-- The pieces of one item more.
pub flat_map-more : (f : Rule → List ℕ) (rules : List Rule) (i : ℕ) (rule : Rule) → i < length rules → rule ≡ get_or rules i rule
    → length (flat_map f (take (i + 1) rules)) ≡ length (flat_map f (take i rules)) + length (f rule)
flat_map-more f rules i rule l e =
    let own : length (f rule) ≡ length (f (get_or rules i rule)) = ap (λ (r : Rule). length (f r)) e in
    omega (arith, length-flat_map f (take (i + 1) rules), length-flat_map f (take i rules), sum_by_more (λ r. length (f r)) rules i rule l, own)

-- One item more is no more than all.
pub flat_map-next : (f : Rule → List ℕ) (rules : List Rule) (i : ℕ) (rule : Rule) → i < length rules → rule ≡ get_or rules i rule
    → length (flat_map f (take i rules)) + length (f rule) ≤ length (flat_map f rules)
flat_map-next f rules i rule l e =
    let own : length (f rule) ≡ length (f (get_or rules i rule)) = ap (λ (r : Rule). length (f r)) e in
    omega (arith, length-flat_map f rules, length-flat_map f (take i rules), sum_by_more_le (λ r. length (f r)) rules i rule l, own)

-- Each provider takes some bytes.
pub few-rules : (rules : List Rule) → length rules ≤ length (flat_map provider_bytes rules)
few-rules [] = omega arith
few-rules (rule ∷ rules) = omega (arith, provider-length rule, length-append (provider_bytes rule) (flat_map provider_bytes rules), few-rules rules)

not_both : (before piece all whole units : ℕ) → before + piece ≤ all → piece ≡ 22 + 2 * units → whole ≡ 33 + all → MESSAGE_BYTES < 33 + before + (22 + 2 * units) → whole ≤ MESSAGE_BYTES → ⊥
not_both before piece all whole units n o w l f = omega arith

-- A request that is too long with one provider more is too long.
pub too_long : (megabytes : ℕ) (rules : List Rule) (i : ℕ) (rule : Rule) → i < length rules → rule ≡ get_or rules i rule →
    MESSAGE_BYTES < 33 + length (flat_map provider_bytes (take i rules)) + (22 + 2 * length rule.name) → ¬ (length (collect_request megabytes rules) ≤ MESSAGE_BYTES)
too_long megabytes rules i rule l e long = λ fits.
    let next = flat_map-next provider_bytes rules i rule l e in
    let own = provider-length rule in
    let whole = collect-length megabytes rules in
    not_both (length (flat_map provider_bytes (take i rules))) (length (provider_bytes rule)) (length (flat_map provider_bytes rules)) (length (collect_request megabytes rules)) (length rule.name) next own whole long fits

-- The size of all providers.
pub whole-size : (megabytes : ℕ) (rules : List Rule) (i size : ℕ) → length rules ≤ i → size ≡ 33 + length (flat_map provider_bytes (take i rules)) → size ≤ MESSAGE_BYTES →
    (length (collect_request megabytes rules) ≤ MESSAGE_BYTES) × (size ≡ length (collect_request megabytes rules))
whole-size megabytes rules i size l e fits =
    let same : size ≡ length (collect_request megabytes rules) = e ∙ ap (λ (rs : List Rule). 33 + length (flat_map provider_bytes rs)) (take_all i rules l) ∙ sym (collect-length megabytes rules) in
    (subst (λ (n : ℕ). n ≤ MESSAGE_BYTES) same fits, same)

pub fits_few : (before piece whole most : ℕ) → before + piece ≤ whole → whole ≤ most → piece ≤ most
fits_few before piece whole most p w = omega arith

pub fits_room : (first now before piece whole room left : ℕ) → now ≡ first + before → left ≡ room → before + piece ≤ whole → first + whole ≤ room → now + piece ≤ left
fits_room first now before piece whole room left n l p w = omega arith

-- Four pieces that were put in turn.
pub four-put : (old a b c d n1 n2 n3 n4 : List ℕ) → n1 ≡ old ++ a → n2 ≡ n1 ++ b → n3 ≡ n2 ++ c → n4 ≡ n3 ++ d → n4 ≡ old ++ concat (a ∷ b ∷ c ∷ d ∷ [])
four-put old a b c d n1 n2 n3 n4 e1 e2 e3 e4 = rw (e4, e3, e2, e1) (simp (append_assoc, append-nil))

-- A header and five pieces that were put in turn.
pub six-put : (old h a b c d e n1 n2 n3 n4 n5 n6 : List ℕ) → n1 ≡ old ++ h → n2 ≡ n1 ++ a → n3 ≡ n2 ++ b → n4 ≡ n3 ++ c → n5 ≡ n4 ++ d → n6 ≡ n5 ++ e →
    n6 ≡ old ++ (h ++ concat (a ∷ b ∷ c ∷ d ∷ e ∷ []))
six-put old h a b c d e n1 n2 n3 n4 n5 n6 e1 e2 e3 e4 e5 e6 = rw (e6, e5, e4, e3, e2, e1) (simp (append_assoc, append-nil))
