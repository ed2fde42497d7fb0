-- The threads that a row serves, and the row where one leaves it and the next enters.
use Rattle.std.proofs.Common.{◌≡◌, ℕ, ◌+◌, ◌*◌, ◌<◌, true, false, inl, inr, List, length, take, Option, None, Some, refl, ap, sym, ◌∙◌, subst, arith}
use Rattle.std.specs.Prelude.{option_map, slice_index_or, is_some, IsNone, nat_lt}
use Rattle.std.specs.List.{All}
use Rattle.std.proofs.Math.Nat.{add-mul, eq_of_mul-eq-mul_right, le-mul_of_pos_right}
use Rattle.std.proofs.lemmas.Bool.{cases_Bool, ltb-false, ltb-true, true≢false}
use Rattle.std.proofs.lemmas.List.{get_or_past}
use Rattle.std.proofs.lemmas.Option.{none-some}
use Rattle.ep_defs.specs.declared.event.EventDef.{EventDef}
use Rattle.ep_defs.specs.declared.session.Write.{Write}
use Rattle.ep_row.specs.declared.row.Opening.{Opening}
use Rattle.ep_row.specs.Row.{RowState}
use Rattle.ep_row.specs.AtRest.{KeepsRest, KeepsRestAnew}
use Rattle.ep_tie.specs.Tied.{Tied}
use Rattle.ep_guarded.specs.declared.agreed.Told.{Told}
use Rattle.ep_guarded.specs.declared.agreed.Agreed.{Agreed}
use Rattle.ep_guarded.specs.declared.agreed.Agreed.TheVariants as agreed
use Rattle.ep_guarded.specs.Tied.{told_in, thread_of}
use Rattle.ep_guarded.specs.Resting.{RowRests, stand_of}
use Rattle.ep_guarded.proofs.Resting.{told-kept}

-- ---- threads

-- A row serves its own thread first.
pub first-life : (rows number : ℕ) → thread_of rows number 0 ≡ number + 1
unfolding thread_of
first-life rows number = omega arith

more : (life rows : ℕ) → (life + 1) * rows ≡ life * rows + rows
more life rows =
    let each = add-mul life 1 rows in
    omega (arith, each)

-- The thread of the next life is as many further on as there are rows.
pub next-life : (rows number life : ℕ) → thread_of rows number life + rows ≡ thread_of rows number (life + 1)
unfolding thread_of
next-life rows number life =
    let one = more life rows in
    omega (arith, one)

-- There are no more lives than threads.
pub few-lives : (rows number life : ℕ) → 0 < rows → life < thread_of rows number life
unfolding thread_of
few-lives rows number life some =
    let least = le-mul_of_pos_right {m = rows} life some in
    omega (arith, least)

-- A thread tells the life of its row.
pub one-life : (rows number a b : ℕ) → 0 < rows → thread_of rows number a ≡ thread_of rows number b → a ≡ b
unfolding thread_of
one-life rows number a b some is = eq_of_mul-eq-mul_right rows some a b (omega (arith, is))

-- ---- a row that is left

pub row-left : (rows : ℕ) (events : List EventDef) (writes : ℕ → List Write) (life : ℕ) (old new : RowState) (buffers : List (Tied Agreed)) (writer now : Tied Agreed) → RowRests rows events writes life old buffers writer → KeepsRest old new → new ≡ record old { left = true } → old.index ≡ length (writes old.thread) → now.place ≡ writer.place → now.value ≡ Some (agreed.Left (stand_of old)) → RowRests rows events writes life new buffers now
row-left rows events writes life old new buffers writer now rests keeps is all place tells =
    let gone : RowState = record old { left = true } in
    subst (λ (r : RowState). RowRests rows events writes life r buffers now) (sym is)
    (record {
      configs = rests.configs;
      over =
          record {
            events_are = rests.over.events_are;
            rest = subst (KeepsRest old) is keeps events rests.configs (take old.index (writes old.thread)) rests.over.events_are rests.over.rest;
            left = λ _. all;
          };
      count = rests.count;
      places = λ s half at. subst (λ (p : ℕ). half.place ≡ rows + 2 * (p * 64 + s)) (sym place) (rests.places s half at);
      told = λ s half at. told-kept old gone (rests.configs s) s half.value refl refl (rests.told s half at);
      stands = tells;
      thread_is = rests.thread_is ∙ ap (λ (p : ℕ). thread_of rows p life) (sym place);
    })

-- ---- a row that is entered

none-of : (x : Option Opening) → is_some x ≡ false → x ≡ None
none-of None none = refl
none-of (Some x) none = absurd (true≢false none)

none-told : (told : Option Told) → option_map (λ t. t.opening) told ≡ None → told ≡ None
none-told None none = refl
none-told (Some told) none = absurd (none-some told.opening (sym none))

pub row-entered : (rows : ℕ) (events : List EventDef) (writes : ℕ → List Write) (life : ℕ) (old new : RowState) (buffers : List (Tied Agreed)) (writer now : Tied Agreed) → RowRests rows events writes life old buffers writer → KeepsRestAnew old new → new ≡ record old { thread = old.thread + rows; index = 0; left = false } → All IsNone old.slots → now.place ≡ writer.place → now.value ≡ Some (agreed.Stand (record { thread = old.thread + rows; index = 0 })) → RowRests rows events writes (life + 1) new buffers now
row-entered rows events writes life old new buffers writer now rests keeps is free place tells =
    let entered : RowState = record old { thread = old.thread + rows; index = 0; left = false } in
    subst (λ (r : RowState). RowRests rows events writes (life + 1) r buffers now) (sym is)
    (record {
      configs = rests.configs;
      over =
          record {
            events_are = rests.over.events_are;
            rest = subst (KeepsRestAnew old) is keeps events rests.configs (take old.index (writes old.thread)) rests.over.events_are rests.over.rest;
            left = λ gone. absurd (true≢false (sym gone));
          };
      count = rests.count;
      places = λ s half at. subst (λ (p : ℕ). half.place ≡ rows + 2 * (p * 64 + s)) (sym place) (rests.places s half at);
      told =
          λ s half at.
          let was = rests.told s half at in
          let none = none-told (told_in half.value) (sym was.slot_is ∙ nothing_on s) in
          record {
            slot_is = was.slot_is;
            thread = λ t told. absurd (none-some t (sym none ∙ told));
            config_is = was.config_is;
          };
      stands = tells;
      thread_is = ap (λ (t : ℕ). t + rows) rests.thread_is ∙ next-life rows writer.place life ∙ ap (λ (p : ℕ). thread_of rows p (life + 1)) (sym place);
    })
  where
    nothing_on : (s : ℕ) → slice_index_or old.slots s None ≡ None
    nothing_on s =
        none-of (slice_index_or old.slots s None)
        (elim (cases_Bool (nat_lt s (length old.slots))) [
          | inl within ↦ free s None (ltb-true s (length old.slots) within)
          | inr past ↦ ap is_some (get_or_past old.slots s None (ltb-false s (length old.slots) past))
        ])
