-- What the machine has come to after several steps.
use Rattle.std.proofs.Common.{◌≡◌, ℕ, ◌+◌, ◌-◌, false, List, [], ◌∷◌, ◌++◌, length, reverse, take, Some, None, refl, ap, sym, subst, ◌∙◌, arith, append_assoc, length-append}
use Rattle.std.proofs.lemmas.List.{reverse-append, length-reverse, append-nil}
use Rattle.std.proofs.Math.Seq.{take-append_seam}
use Rattle.ep_defs.specs.declared.event.EventDef.{EventDef}
use Rattle.ep_defs.specs.declared.session.TraceInfo.{TraceInfo}
use Rattle.ep_model.specs.declared.step.Step.{Step}
use Rattle.ep_model.specs.declared.step.Unlawful.{Unlawful}
use Rattle.ep_model.specs.History.{Past}
use Rattle.ep_model.specs.Lawful.{first_unlawful, unlawful, objection_to}
use Rattle.ep_core.specs.declared.machine.Machine.{Machine}
use Rattle.ep_core.specs.Machine.{Follows, steps_of, has_failed}

-- The machine has made these steps, each of which could be made.
pub record Ran (old : Machine) (made : List Step) (new : Machine) : Type 0 where
  pub follows : (events : List EventDef) (info : TraceInfo) (past : Past) → Follows events info past old → Follows events info (reverse made ++ past) new
  pub lawful : (events : List EventDef) (info : TraceInfo) (past : Past) (more : List Step) → Follows events info past old
      → first_unlawful events (length past + 1) past (made ++ more) ≡ first_unlawful events (length past + length made + 1) (reverse made ++ past) more
  pub count : steps_of new ≡ steps_of old + length made
  pub working : has_failed new ≡ false

-- It has made none.
pub ran_none : (machine : Machine) → has_failed machine ≡ false → Ran machine [] machine
ran_none machine working =
    record {
      follows = λ events info past h. h;
      lawful = λ events info past more h. let same : length past + 1 ≡ length past + 0 + 1 = omega arith in ap (λ n. first_unlawful events n past more) same;
      count = omega arith;
      working = working;
    }

reverse_more : (made : List Step) (s : Step) (past : Past) → reverse (made ++ s ∷ []) ++ past ≡ s ∷ (reverse made ++ past)
reverse_more made s past = ap (λ xs. xs ++ past) (reverse-append made (s ∷ []))

-- It makes one more.
pub ran_more : (old new next : Machine) (made : List Step) (s : Step) → Ran old made new
    → ((events : List EventDef) (info : TraceInfo) (past : Past) → Follows events info past new → (objection_to events past s ≡ None) × Follows events info (s ∷ past) next)
    → steps_of next ≡ steps_of new + 1 → has_failed next ≡ false → Ran old (made ++ s ∷ []) next
ran_more old new next made s ran makes count working =
    record {
      follows = λ events info past h.
          let P : Past → Type 0 = λ xs. Follows events info xs next in
          subst P (sym (reverse_more made s past)) (makes events info (reverse made ++ past) (ran.follows events info past h)).1;
      lawful = λ events info past more h.
          let lawful = (makes events info (reverse made ++ past) (ran.follows events info past h)).0 in
          let number : length past + length made + 1 + 1 ≡ length past + length (made ++ s ∷ []) + 1 = omega (arith, length-append made (s ∷ [])) in
          ap (λ xs. first_unlawful events (length past + 1) past xs) (append_assoc made (s ∷ []) more)
          ∙ ran.lawful events info past (s ∷ more) h
          ∙ ap (λ kind. unlawful (length past + length made + 1) kind (first_unlawful events (length past + length made + 1 + 1) (s ∷ (reverse made ++ past)) more)) lawful
          ∙ ap (λ n. first_unlawful events n (s ∷ (reverse made ++ past)) more) number
          ∙ ap (λ xs. first_unlawful events (length past + length (made ++ s ∷ []) + 1) xs more) (sym (reverse_more made s past));
      count = omega (arith, ran.count, count, length-append made (s ∷ []));
      working = working;
    }

-- It can't make the next one.
pub ran_refused : (old new after : Machine) (made : List Step) (s : Step) (more steps : List Step) (events : List EventDef) (info : TraceInfo) (past : Past) (why : Unlawful) → Ran old made new
    → steps ≡ made ++ s ∷ more → Follows events info past old
    → (Follows events info (reverse made ++ past) new → (objection_to events (reverse made ++ past) s ≡ Some why.kind) × (why.step ≡ length (reverse made ++ past) + 1)) → after ≡ new
    → (first_unlawful events (length past + 1) past steps ≡ Some why) × Follows events info (reverse (take (why.step - length past - 1) steps) ++ past) after
ran_refused old new after made s more steps events info past why ran all h refused unchanged =
    let follows = ran.follows events info past h in
    let why_not = refused follows in
    let number : length past + length made + 1 ≡ why.step = omega (arith, why_not.1, length-append (reverse made) past, length-reverse made) in
    let place : why.step - length past - 1 ≡ length made = omega (arith, number) in
    let taken : take (why.step - length past - 1) steps ≡ made = ap (λ n. take n steps) place ∙ ap (λ xs. take (length made) xs) all ∙ take-append_seam made (s ∷ more) in
    let P : List Step → Type 0 = λ xs. Follows events info (reverse xs ++ past) after in
    let Q : Machine → Type 0 = λ machine. Follows events info (reverse made ++ past) machine in
    let first : first_unlawful events (length past + 1) past steps ≡ Some (record { step = length past + length made + 1; kind = why.kind }) =
    ap (λ xs. first_unlawful events (length past + 1) past xs) all
    ∙ ran.lawful events info past (s ∷ more) h
    ∙ ap (λ kind. unlawful (length past + length made + 1) kind (first_unlawful events (length past + length made + 1 + 1) (s ∷ (reverse made ++ past)) more)) why_not.0 in
    (first ∙ ap (λ (n : ℕ). let w : Unlawful = record { step = n; kind = why.kind } in Some w) number, subst P (sym taken) (subst Q (sym unchanged) follows))

-- It has made all of them.
pub ran_all : (old new : Machine) (made steps : List Step) (events : List EventDef) (info : TraceInfo) (past : Past) → Ran old made new → steps ≡ made → Follows events info past old
    → (first_unlawful events (length past + 1) past steps ≡ None) × Follows events info (reverse steps ++ past) new
ran_all old new made steps events info past ran all h =
    let P : List Step → Type 0 = λ xs. Follows events info (reverse xs ++ past) new in
    (ap (λ xs. first_unlawful events (length past + 1) past xs) (all ∙ sym (append-nil made)) ∙ ran.lawful events info past [] h, subst P (sym all) (ran.follows events info past h))

-- A list of no length has no steps.
pub no_more : (steps : List Step) → length steps ≡ 0 → steps ≡ []
no_more [] none = refl
no_more (s ∷ steps) none = absurd (omega arith)
