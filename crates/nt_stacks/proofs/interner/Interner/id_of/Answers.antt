use Rattle.std.proofs.Common.{◌≡◌, ◌∙◌, ◌≢◌, ℕ, Bool, true, false, List, [], ◌∷◌, length, ◌==◌, Some, sym, arith}
use Rattle.std.proofs.lemmas.Bool.Decides.{nat_tests}
use Rattle.nt_stacks.specs.Interning.{id_at}
use Rattle.nt_stacks.proofs.Ids.{plain, with_known, recent-stack, IsGiven}
use Rattle.nt_stacks.proofs.interner.Interner.id_of.Goals as goal

some-bytes : (bytes : List ℕ) (empty : Bool) → empty ≡ (length bytes == 0) → empty ≡ false → length bytes ≢ 0
some-bytes [] empty is holds = λ _. let wrong : true ≡ false = sym is ∙ holds in cc
some-bytes (b ∷ bytes) empty is holds = λ e. omega arith

pub returns-in-Some : goal.returns-in-Some
returns-in-Some c =
    let some : length c.args.bytes.now ≢ 0 = some-bytes c.args.bytes.now c.is_empty.result c.is_empty.ensures c.if-is_empty.false in
    let there : id_at c.args.bytes.now (plain (λ k. k.items) c.self.inside.ids.entries) ≡ Some c.in-Some.id = c.in-Some.ensures (plain (λ k. k.items) c.self.inside.ids.entries) c.self.invariant.1 in
    let known : IsGiven c.args.self.now c.args.bytes.now c.in-Some.id = recent-stack (λ k. k.items) c.self.inside.ids.entries c.args.self.now c.args.bytes.now c.in-Some.id c.self.invariant.0 c.self.view_is some there in
    record {
      ok = sym (with_known c.args.self.now c.args.bytes.now c.in-Some.id known);
      id = sym known.id_is;
      is_new = grind (arith, nat_tests, known.high);
      count = omega arith;
      small = known.high;
      equal = known.no_other;
      err = tt;
    }
