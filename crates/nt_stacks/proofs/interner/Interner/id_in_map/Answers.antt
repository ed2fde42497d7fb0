use Rattle.std.proofs.Common.{◌≡◌, ◌∙◌, ◌≢◌, suc, ◌+◌, length, sym, ap, subst, arith}
use Rattle.std.proofs.lemmas.Bool.Decides.{nat_tests}
use Rattle.nt_stacks.specs.Interning.{stacks_of, AreKnown}
use Rattle.nt_stacks.proofs.Ids.{plain, known-stack, new-stack, as-many, with_known, map-knows, now-known, still-known, IsGiven, Gives}
use Rattle.nt_stacks.proofs.interner.Interner.id_in_map.Goals as goal

pub invariant_of-self : goal.invariant_of-self
invariant_of-self c = (
  c.self.invariant.0,
  c.keep.ensures (plain (λ k. k.items) c.self.inside.ids.entries) c.self.invariant.1
      (map-knows (λ k. k.items) c.self.inside.ids.entries c.args.bytes.now c.in-Some.id.now c.in-Some.ensures.value),
)

pub returns-in-Some : goal.returns-in-Some
returns-in-Some c =
    let some : length c.args.bytes.now ≢ 0 = λ e. omega (arith, c.requires.some, e) in
    let given : IsGiven c.args.self.now c.args.bytes.now c.in-Some.id.now = known-stack (λ k. k.items) c.self.inside.ids.entries c.args.self.now c.args.bytes.now c.in-Some.id.now c.self.invariant.0 c.self.view_is some c.in-Some.ensures.value in
    let is : stacks_of (plain (λ k. k.items) c.self.inside.ids.entries) ≡ c.args.self.now = c.self.view_is in
    let known : IsGiven (stacks_of (plain (λ k. k.items) c.self.inside.ids.entries)) c.args.bytes.now c.in-Some.id.now = subst (λ stacks. IsGiven stacks c.args.bytes.now c.in-Some.id.now) (sym is) given in
    record {
      ok = is ∙ sym (with_known c.args.self.now c.args.bytes.now c.in-Some.id.now given);
      id = sym known.id_is;
      is_new = grind (arith, nat_tests, given.high);
      count = ap length is ∙ (omega arith);
      small = known.high;
      equal = known.no_other;
      err = tt;
    }

pub overflow_add-id : goal.overflow_add-id
overflow_add-id c =
    omega (arith, as-many (λ k. k.items) c.self.inside.ids.entries c.args.self.now c.self.view_is, c.len.ensures.len)

pub overflow_cast-id : goal.overflow_cast-id
overflow_cast-id c =
    omega (arith, as-many (λ k. k.items) c.self.inside.ids.entries c.args.self.now c.self.view_is, c.len.ensures.len)

pub invariant_of-self-2 : goal.invariant_of-self-2
invariant_of-self-2 c =
    let some : length c.args.bytes.now ≢ 0 = λ e. omega (arith, c.requires.some, e) in
    let gives : Gives c.args.self.now (plain (λ k. k.items) c.insert.new.self.entries) c.args.bytes.now = new-stack (λ k. k.items) c.self.inside.ids.entries c.insert.new.self.entries c.args.self.now c.args.bytes.now c.in_ok-stack.stack (c.len.result + 1) c.self.invariant.0 c.self.view_is some c.in_default.ensures.value c.in_ok-stack.ensures.items (ap (λ n. n + 1) c.len.ensures.len) c.in_ok-insert.ensures.entries in
    let still : AreKnown (plain (λ k. k.items) c.insert.new.self.entries) c.self.inside.recent = still-known (λ k. k.items) c.self.inside.ids.entries c.insert.new.self.entries c.self.inside.recent c.args.bytes.now c.in_ok-stack.stack (c.len.result + 1) c.in_default.ensures.value c.in_ok-stack.ensures.items c.in_ok-insert.ensures.entries c.self.invariant.1 in (
      gives.interned,
      c.keep-2.ensures (plain (λ k. k.items) c.insert.new.self.entries) still
          (now-known (λ k. k.items) c.self.inside.ids.entries c.insert.new.self.entries c.args.bytes.now c.in_ok-stack.stack (c.len.result + 1) c.in_default.ensures.value c.in_ok-stack.ensures.items c.in_ok-insert.ensures.entries),
    )

pub returns : goal.returns
returns c =
    let some : length c.args.bytes.now ≢ 0 = λ e. omega (arith, c.requires.some, e) in
    let gives : Gives c.args.self.now (plain (λ k. k.items) c.insert.new.self.entries) c.args.bytes.now = new-stack (λ k. k.items) c.self.inside.ids.entries c.insert.new.self.entries c.args.self.now c.args.bytes.now c.in_ok-stack.stack (c.len.result + 1) c.self.invariant.0 c.self.view_is some c.in_default.ensures.value c.in_ok-stack.ensures.items (ap (λ n. n + 1) c.len.ensures.len) c.in_ok-insert.ensures.entries in
    let many = as-many (λ k. k.items) c.self.inside.ids.entries c.args.self.now c.self.view_is in
    let id-is : suc (length c.args.self.now) ≡ c.len.result + 1 = omega (arith, many, c.len.ensures.len) in
    let given : IsGiven (stacks_of (plain (λ k. k.items) c.insert.new.self.entries)) c.args.bytes.now (c.len.result + 1) = subst (IsGiven (stacks_of (plain (λ k. k.items) c.insert.new.self.entries)) c.args.bytes.now) id-is gives.given in
    record {
      ok = gives.stacks;
      id = sym given.id_is;
      is_new = grind (arith, nat_tests, id-is);
      count = ap length gives.stacks ∙ gives.longer;
      small = given.high;
      equal = given.no_other;
      err = tt;
    }
