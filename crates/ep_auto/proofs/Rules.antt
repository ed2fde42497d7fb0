-- Reading the rules of the parts in turn.
use Rattle.std.proofs.Common.{◌≡◌, ◌+◌, ℕ, suc, Bool, true, false, ◌&&◌, cond, List, [], ◌∷◌, ◌++◌, length, drop, Option, Some, None, option_map, refl, sym, ap, ◌∙◌, arith, nat_lt, nat_le, ◌≤◌, ◌==◌, count_by, ◌⊎◌, Result, Ok, Err, inl, inr, subst, unwrap_or}
use Rattle.std.specs.List.{list_all}
use Rattle.std.proofs.lemmas.Bool.{cases_Bool, and_from, and_parts, ltb-false, le-leb}
use Rattle.std.proofs.lemmas.List.Splits.{length-slice_split}
use Rattle.std.specs.Int.{is_in_range}
use Rattle.ep_defs.specs.declared.limits.TheConstants.{CHUNKS, RULES}
use Rattle.ep_defs.specs.Session.{is_valid_config}
use Rattle.std.proofs.lemmas.List.{append-nil, at_drop_all}
use Rattle.std.specs.Prelude.{IfErr, IsErrAnd}
use Rattle.ep_defs.specs.declared.session.Rule.{Rule}
use Rattle.ep_defs.specs.declared.session.Config.{Config}
use Rattle.ep_plan.specs.Words.{comma, parts_at, is_name, is_name_byte, provider_in, rule_of, with_first, all_in}
use Rattle.ep_plan.proofs.RuleWords.{behind-first}
use Rattle.ep_auto.specs.declared.fault.AutoKind.TheVariants.{Count}
use Rattle.ep_auto.specs.declared.fault.AutoFault.{AutoFault}
use Rattle.ep_auto.specs.declared.fault.AutoFault.TheVariants.{Bad, OutOfMemory}
use Rattle.ep_auto.specs.Fields.{field_at, keywords_in, level_in, rule_in, fields_at, first_wrong}
use Rattle.ep_auto.proofs.Wrong.{wrong-here}
use Rattle.ep_auto.specs.StartUp.{has_too_many, session_of, config_in, fields_from, fault_in}

-- The rules so far, and those of the parts that are left.
abbrev pub read_and_rest : List Rule → List (List ℕ) → Option (List Rule)
read_and_rest rules parts = option_map (λ more. rules ++ more) (all_in rule_in parts)

pub read-more : (rules : List Rule) (rule : Rule) (part : List ℕ) (parts : List (List ℕ)) → Some rule ≡ rule_in part → read_and_rest rules (part ∷ parts) ≡ read_and_rest (rules ++ rule ∷ []) parts
read-more rules rule part parts is =
    ap (λ o. option_map (λ more. rules ++ more) (with_first o (all_in rule_in parts))) (sym is) ∙ behind-first rules rule (all_in rule_in parts)

pub read-all : (rules : List Rule) → read_and_rest rules [] ≡ Some rules
read-all rules = ap Some (append-nil rules)

-- ---- what is read is valid

name-some : (word name : List ℕ) → provider_in word ≡ Some name → nat_lt 0 (length name) ≡ true
unfolding provider_in
name-some word name is =
    elim (cases_Bool (is_name word)) [
      | inl good ↦
          let same : Some word ≡ Some name = sym (ap (λ b. cond b (Some word) None) good) ∙ is in
          let some = (and_parts (nat_lt 0 (length word)) (list_all is_name_byte word) good).0 in
          ap (λ (o : Option (List ℕ)). lengthy o) (sym same) ∙ some
      | inr bad ↦ cc (sym (ap (λ b. cond b (Some word) None) bad) ∙ is)
    ]
  where
    lengthy : Option (List ℕ) → Bool
    lengthy None = false
    lengthy (Some text) = nat_lt 0 (length text)

rule-name : (name : Option (List ℕ)) (keywords level : Option ℕ) (rule : Rule) → Some rule ≡ rule_of name keywords level → name ≡ Some rule.name
rule-name None None None rule is = cc
rule-name None None (Some z) rule is = cc
rule-name None (Some y) None rule is = cc
rule-name None (Some y) (Some z) rule is = cc
rule-name (Some x) None None rule is = cc
rule-name (Some x) None (Some z) rule is = cc
rule-name (Some x) (Some y) None rule is = cc
rule-name (Some x) (Some y) (Some z) rule is = ap (option_map (λ r. r.name)) (sym is)

pub rule-named : (part : List ℕ) (rule : Rule) → Some rule ≡ rule_in part → nat_lt 0 (length rule.name) ≡ true
rule-named part rule is = name-some (field_at 0 part) rule.name (rule-name (provider_in (field_at 0 part)) (keywords_in (field_at 1 part)) (level_in (field_at 2 part)) rule is)

first-rule : (rule : Rule) (rules all : List Rule) → Some (rule ∷ rules) ≡ Some all → rule ∷ rules ≡ all
first-rule rule rules all is = ap (λ (o : Option (List Rule)). unwrap_or o []) is

-- As many rules as parts, each with a name.
abbrev pub Named : List (List ℕ) → List Rule → Type 0
Named parts rules = (length rules ≡ length parts) × (list_all (λ rule. nat_lt 0 (length rule.name)) rules ≡ true)

named-more : (part : List ℕ) (parts : List (List ℕ)) (rules : List Rule) (a : Option Rule) (b : Option (List Rule)) → rule_in part ≡ a → ((others : List Rule) → b ≡ Some others → Named parts others)
    → with_first a b ≡ Some rules → Named (part ∷ parts) rules
named-more part parts rules None None one more both = cc
named-more part parts rules None (Some others) one more both = cc
named-more part parts rules (Some rule) None one more both = cc
named-more part parts rules (Some rule) (Some others) one more both =
    let rest = more others refl in
    let first : nat_lt 0 (length rule.name) ≡ true = rule-named part rule (sym one) in
    subst (Named (part ∷ parts)) (first-rule rule others rules both) (
      ap suc rest.0,
      and_from (nat_lt 0 (length rule.name)) (list_all (λ rule. nat_lt 0 (length rule.name)) others) first rest.1,
    )

-- There is a rule for each part, and each has a name.
pub all-named : (parts : List (List ℕ)) (rules : List Rule) → all_in rule_in parts ≡ Some rules → Named parts rules
all-named [] rules is = subst (λ (o : Option (List Rule)). Named [] (unwrap_or o [])) is (refl, refl)
all-named (part ∷ parts) rules is = named-more part parts rules (rule_in part) (all_in rule_in parts) refl (all-named parts) is

-- ---- the whole text

pub is-config : (chunks : ℕ) (text : List ℕ) (rules : List Rule) → has_too_many text ≡ false → all_in rule_in (parts_at comma text) ≡ Some rules → Some (session_of chunks rules) ≡ config_in chunks text
is-config chunks text rules few read =
    sym (ap (λ b. cond b None (option_map (session_of chunks) (all_in rule_in (parts_at comma text)))) few ∙ ap (option_map (session_of chunks)) read)

pub is-fault : (text : List ℕ) (fault : AutoFault) → has_too_many text ≡ false → Some fault ≡ first_wrong (fields_from 1 (parts_at comma text)) → Some fault ≡ fault_in text
is-fault text fault few wrong = wrong ∙ sym (ap (λ b. cond b (Some (Bad 1 Count)) (first_wrong (fields_from 1 (parts_at comma text)))) few)

-- The fault of a part is that of the text, where the parts before it are rules.
pub fault-in-part : (text : List ℕ) (column : ℕ) (part : List ℕ) (rest : List (List ℕ)) (fault : AutoFault) → has_too_many text ≡ false
    → first_wrong (fields_from 1 (parts_at comma text)) ≡ first_wrong (fields_from column (part ∷ rest))
    → (fault ≡ OutOfMemory) ⊎ (Some fault ≡ first_wrong (fields_at column part)) → (fault ≡ OutOfMemory) ⊎ (Some fault ≡ fault_in text)
fault-in-part text column part rest fault few before (inl memory) = inl memory
fault-in-part text column part rest fault few before (inr wrong) =
    inr (is-fault text fault few (wrong-here (fields_at column part) (fields_from (column + length part + 1) rest) fault wrong ∙ sym before))

pub fault-kept : (result : Result Config AutoFault) (fault : AutoFault) (P : AutoFault → Type 0) → IsErrAnd result (λ e. e ≡ fault) → P fault → IfErr result P
fault-kept (Ok config) fault P is p = tt
fault-kept (Err e) fault P is p = subst P (sym is) p

-- What the last part leaves is nothing.
pub read-end : (rules : List Rule) (all : List (List ℕ)) (place : ℕ) → place ≡ length all → all_in rule_in all ≡ read_and_rest rules (drop place all) → all_in rule_in all ≡ Some rules
read-end rules all place is read = read ∙ at_drop_all (read_and_rest rules) all place (omega (arith, is)) ∙ read-all rules

pub valid-config : (chunks : ℕ) (text : List ℕ) (rules : List Rule) → 1 ≤ chunks → chunks ≤ CHUNKS → has_too_many text ≡ false → all_in rule_in (parts_at comma text) ≡ Some rules
    → is_valid_config (session_of chunks rules) ≡ true
valid-config chunks text rules some few not_many read =
    let named = all-named (parts_at comma text) rules read in
    let many : length (parts_at comma text) ≤ RULES = ltb-false RULES (length (parts_at comma text)) not_many in
    let one : length (parts_at comma text) ≡ count_by (λ byte. byte == comma) text + 1 = length-slice_split (λ byte. byte == comma) text in
    and_from (is_in_range 1 RULES (length rules) && list_all (λ rule. nat_lt 0 (length rule.name)) rules) (is_in_range 1 CHUNKS chunks)
    (and_from (is_in_range 1 RULES (length rules)) (list_all (λ rule. nat_lt 0 (length rule.name)) rules)
    (and_from (nat_le 1 (length rules)) (nat_le (length rules) RULES) (le-leb 1 (length rules) (omega (arith, named.0, one))) (le-leb (length rules) RULES (omega (arith, named.0, many)))) named.1)
    (and_from (nat_le 1 chunks) (nat_le chunks CHUNKS) (le-leb 1 chunks some) (le-leb chunks CHUNKS few))
