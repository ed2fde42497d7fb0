-- What is put is read back.
use Rattle.std.proofs.Common.{◌≡◌, ℕ, suc, ◌+◌, ◌-◌, ◌^◌, ◌<◌, true, false, List, [], ◌∷◌, ◌++◌, length, Ok, nat_lt, refl, ap, sym, ◌∙◌, arith, append_assoc, append-nil, inl, inr}
use Rattle.std.specs.List.{flat_map, list_all}
use Rattle.std.specs.Int.{w32, w64, is_in_range}
use Rattle.std.proofs.lemmas.Grind.{common_steps}
use Rattle.std.proofs.lemmas.Bool.{and_parts}
use Rattle.pt_num.specs.Numbers.{fixed}
use Rattle.pt_num.specs.Texts.{text_c, are_wide, IsTextC}
use Rattle.pt_num.specs.Fields.{fixed_at, text_c_at}
use Rattle.ep_defs.specs.declared.limits.TheConstants.{RULES}
use Rattle.ep_defs.specs.declared.session.Rule.{Rule}
use Rattle.ipc_body.specs.declared.commands.TheConstants.{EVENT_PIPE, STOP_TRACING, NETTRACE}
use Rattle.ipc_body.specs.declared.request.Request.TheVariants as request
use Rattle.ipc_body.specs.Asked.{can_ask, can_collect, asked_config, SaysWhatIsAsked}
use Rattle.ipc_body.specs.Asking.{provider_bytes}
use Rattle.ipc_body.specs.Request.{name_at, rule_of, provider_at, providers_at, wish_of, wish_at, can_grant, request_of, collect_of}
use Rattle.ipc_body.proofs.Provided.{name-is}

-- What holds of the fields below.
pub record AreTaken : Type 0 where
  pub fixed32 : (n : ℕ) (rest : List ℕ) → n < 2 ^ 32 → fixed_at w32 (fixed w32 n ++ rest) ≡ Ok (n, rest)
  pub fixed64 : (n : ℕ) (rest : List ℕ) → n < 2 ^ 64 → fixed_at w64 (fixed w64 n ++ rest) ≡ Ok (n, rest)
  pub text : (units bytes rest : List ℕ) → IsTextC units bytes → text_c_at (bytes ++ rest) ≡ Ok (units, rest)

-- What is known of a rule that can be asked for.
record Asks (rule : Rule) : Type 0 where
  pub few : rule.keywords < 2 ^ 64
  pub low : rule.level < 2 ^ 32
  pub some : 0 < length rule.name
  pub counted : length rule.name + 1 < 2 ^ 32
  pub wide : are_wide rule.name ≡ true

asks : (rule : Rule) → can_ask rule ≡ true → Asks rule
asks rule h =
    let e = and_parts _ (are_wide rule.name) h in
    let d = and_parts _ (nat_lt (length rule.name + 1) (2 ^ 32)) e.0 in
    let c = and_parts _ (nat_lt 0 (length rule.name)) d.0 in
    let b = and_parts (nat_lt rule.keywords (2 ^ 64)) (nat_lt rule.level (2 ^ 32)) c.0 in
    record {
      few = let t = b.0 in grind arith;
      low = let t = b.1 in grind arith;
      some = let t = c.1 in grind arith;
      counted = let t = d.1 in grind arith;
      wide = e.1;
    }

-- A provider whose fields stand one after another.
provider-from : (b0 b1 b2 b3 rest name filter : List ℕ) (keywords level : ℕ) → fixed_at w64 b0 ≡ Ok (keywords, b1) →
    fixed_at w32 b1 ≡ Ok (level, b2) → name_at b2 ≡ Ok (name, b3) → text_c_at b3 ≡ Ok (filter, rest) →
    provider_at b0 ≡ Ok (rule_of keywords level name, rest)
provider-from b0 b1 b2 b3 rest name filter keywords level k l n f = rw (k, l, n, f) refl

-- The fields of a provider, one after another.
in_turn : (a b c d rest : List ℕ) → ((a ++ (b ++ (c ++ (d ++ [])))) ++ rest) ≡ a ++ (b ++ (c ++ (d ++ rest)))
in_turn a b c d rest = simp (append_assoc, append-nil) refl

provider-back : AreTaken → (rule : Rule) (rest : List ℕ) → can_ask rule ≡ true → provider_at (provider_bytes rule ++ rest) ≡ Ok (rule, rest)
provider-back t rule rest h =
    let a = asks rule h in
    let b3 : List ℕ = fixed w32 0 ++ rest in
    let b2 : List ℕ = text_c rule.name ++ b3 in
    let b1 : List ℕ = fixed w32 rule.level ++ b2 in
    let b0 : List ℕ = fixed w64 rule.keywords ++ b1 in
    let f : text_c_at b3 ≡ Ok ([], rest) = t.text [] (fixed w32 0) rest (inl (refl, refl)) in
    let n : name_at b2 ≡ Ok (rule.name, b3) = name-is b2 rule.name b3 (t.text rule.name (text_c rule.name) b3 (inr (refl, a.counted, a.wide))) a.some in
    ap provider_at (in_turn (fixed w64 rule.keywords) (fixed w32 rule.level) (text_c rule.name) (fixed w32 0) rest)
    ∙ provider-from b0 b1 b2 b3 rest rule.name [] rule.keywords rule.level (t.fixed64 rule.keywords b1 a.few) (t.fixed32 rule.level b2 a.low) n f

first-read : (rule : Rule) (rules : List Rule) (whole later rest : List ℕ) → provider_at whole ≡ Ok (rule, later) →
    providers_at (length rules) later ≡ Ok (rules, rest) → providers_at (suc (length rules)) whole ≡ Ok (rule ∷ rules, rest)
unfolding providers_at
first-read rule rules whole later rest f l = rw (f, l) refl

providers-back : AreTaken → (rules : List Rule) (rest : List ℕ) → list_all can_ask rules ≡ true →
    providers_at (length rules) (flat_map provider_bytes rules ++ rest) ≡ Ok (rules, rest)
unfolding providers_at
providers-back t [] rest h = refl
providers-back t (rule ∷ rules) rest h =
    let b = and_parts (can_ask rule) (list_all can_ask rules) h in
    let later : List ℕ = flat_map provider_bytes rules ++ rest in
    ap (providers_at (length (rule ∷ rules))) (append_assoc (provider_bytes rule) (flat_map provider_bytes rules) rest)
    ∙ first-read rule rules (provider_bytes rule ++ later) later rest (provider-back t rule later b.0) (providers-back t rules rest b.1)

-- What stands before the providers, one after another.
wish-from : (b0 b1 b3 rest : List ℕ) (megabytes format count : ℕ) → fixed_at w32 b0 ≡ Ok (megabytes, b1) →
    fixed_at w32 b1 ≡ Ok (format, 0 ∷ b3) → fixed_at w32 b3 ≡ Ok (count, rest) →
    wish_at true false b0 ≡ Ok (wish_of megabytes format false true count, rest)
wish-from b0 b1 b3 rest megabytes format count m f c = rw (m, f, c) refl

-- A body whose parts are read.
collect-from : (body rest : List ℕ) (megabytes : ℕ) (rules : List Rule) →
    wish_at true false body ≡ Ok (wish_of megabytes NETTRACE false true (length rules), rest) →
    can_grant (wish_of megabytes NETTRACE false true (length rules)) ≡ true → providers_at (length rules) rest ≡ Ok (rules, []) →
    collect_of true false body ≡ Ok (request.Collect (asked_config megabytes rules))
collect-from body rest megabytes rules w g p = rw (w, g, p) refl

-- What is asked for can be granted.
granted : (megabytes count : ℕ) → is_in_range 1 (2 ^ 32 - 1) megabytes ≡ true → is_in_range 1 RULES count ≡ true →
    can_grant (wish_of megabytes NETTRACE false true count) ≡ true
granted megabytes count m c = grind (arith, common_steps)

pub collect-back : AreTaken → (megabytes : ℕ) (rules : List Rule) → can_collect megabytes rules ≡ true → SaysWhatIsAsked megabytes rules
collect-back t megabytes rules h =
    let b = and_parts _ (list_all can_ask rules) h in
    let a = and_parts (is_in_range 1 (2 ^ 32 - 1) megabytes) (is_in_range 1 RULES (length rules)) b.0 in
    let b4 : List ℕ = flat_map provider_bytes rules ++ [] in
    let b3 : List ℕ = fixed w32 (length rules) ++ b4 in
    let b1 : List ℕ = fixed w32 NETTRACE ++ (0 ∷ b3) in
    let b0 : List ℕ = fixed w32 megabytes ++ b1 in
    let m : megabytes < 2 ^ 32 = let t = a.0 in grind (arith, common_steps) in
    let c : length rules < 2 ^ 32 = let t = a.1 in grind (arith, common_steps) in
    let w = wish-from b0 b1 b3 b4 megabytes NETTRACE (length rules) (t.fixed32 megabytes b1 m) (t.fixed32 NETTRACE (0 ∷ b3) (omega arith)) (t.fixed32 (length rules) b4 c) in
    collect-from b0 b4 megabytes rules w (granted megabytes (length rules) a.0 a.1) (providers-back t rules [] b.1)

stop-from : (body : List ℕ) (id : ℕ) → fixed_at w64 (body ++ []) ≡ Ok (id, []) → request_of EVENT_PIPE STOP_TRACING body ≡ Ok (request.Stop id)
stop-from body id e =
    let f : fixed_at w64 body ≡ Ok (id, []) = ap (fixed_at w64) (sym (append-nil body)) ∙ e in rw f refl

pub stop-back : AreTaken → (id : ℕ) → id < 2 ^ 64 → request_of EVENT_PIPE STOP_TRACING (fixed w64 id) ≡ Ok (request.Stop id)
stop-back t id h = stop-from (fixed w64 id) id (t.fixed64 id [] h)
