-- The name of an object's type.
use Rattle.std.proofs.Common.{◌≡◌, ◌≢◌, ℕ, ◌+◌, ◌-◌, List, take, drop, get_or, Option, Some, refl, ap, ◌∙◌, sym, arith}
use Rattle.std.proofs.lemmas.Bool.{eq-eqb, ne_eqb}
use Rattle.nt_object.specs.declared.head.ObjectKind.{ObjectKind}
use Rattle.nt_object.specs.declared.head.ObjectHead.TheVariants as head
use Rattle.nt_object.specs.Reading.{after_name, kind_named, named_at, versions_at}

-- A known name whose type doesn't end.
pub named_open : (n : ℕ) (bytes : List ℕ) (kind : ObjectKind) → kind_named (take (15 + n - 15) (drop 15 bytes)) ≡ Some kind → get_or bytes (15 + n) 0 ≢ 6 → head.BadObject 15 ≡ named_at n bytes
named_open n bytes kind known open_ =
    let same : 15 + n - 15 ≡ n = omega arith in
    let is = rw same at known in
    let judged : head.BadObject 15 ≡ after_name (Some kind) n bytes = rw (ne_eqb (get_or bytes (15 + n) 0) 6 open_) refl in
    judged ∙ ap (λ (found : Option ObjectKind). after_name found n bytes) (sym is)

-- A known name whose type ends.
pub named_ended : (n : ℕ) (bytes : List ℕ) (kind : ObjectKind) → kind_named (take (15 + n - 15) (drop 15 bytes)) ≡ Some kind → get_or bytes (15 + n) 0 ≡ 6 → versions_at kind (16 + n) bytes ≡ named_at n bytes
named_ended n bytes kind known ended =
    let same : 15 + n - 15 ≡ n = omega arith in
    let is = rw same at known in
    let judged : versions_at kind (16 + n) bytes ≡ after_name (Some kind) n bytes = rw (eq-eqb (get_or bytes (15 + n) 0) 6 ended) refl in
    judged ∙ ap (λ (found : Option ObjectKind). after_name found n bytes) (sym is)
