-- The lines of threads in a report.
use Rattle.std.proofs.Common.{◌≡◌, ℕ, Bool, true, false, eqb, inl, inr, List, [], ◌∷◌, ◌++◌, map, filter, Option, Some, None, is_some, refl, sym, ap, ◌∙◌}
use Rattle.std.specs.Prelude.{◌||◌}
use Rattle.std.specs.List.{flat_map, AllByRecursion}
use Rattle.std.specs.Ordering.{nat_cmp}
use Rattle.std.proofs.lemmas.Bool.{cases_Bool, eq-eqb, or_left, or_right}
use Rattle.std.proofs.lemmas.List.Folds.{list_any-append}
use Rattle.ep_defs.specs.declared.item.ItemKind.{ItemKind}
use Rattle.ep_defs.specs.declared.item.ItemKind.TheVariants as item
use Rattle.ep_defs.specs.Gaps.{Sighting, Known}
use Rattle.nt_blocks.specs.Seen.{seen_in}
use Rattle.nt_check.specs.declared.threads.Numbers.{Numbers}
use Rattle.nt_check.specs.Numbers.{told, numbers_of}
use Rattle.pt_report.specs.Report.{threads_in, numbers_line, thread_line, thread_lines}
use Rattle.pt_report.specs.Order.{in_order}
use Rattle.ep_model.proofs.Ascending.{IsAscending}
use Rattle.ep_model.proofs.Lists.{has}
use Rattle.pt_report.proofs.Ascending.{one_order, in_order-ascends, has-in_order}

-- ---- which threads have lines

some-append : (a b : List Sighting) → is_some (told (a ++ b)) ≡ (is_some (told a) || is_some (told b))
some-append [] b = refl
some-append (sighting ∷ a) b = refl

some-named : (thread : ℕ) (named : List (ℕ × ℕ)) → is_some (told (map (λ (t : ℕ × ℕ). Known t.1) (filter (λ (t : ℕ × ℕ). eqb t.0 thread) named))) ≡ has thread (map (λ (t : ℕ × ℕ). t.0) named)
some-named thread [] = refl
some-named thread (pair ∷ named) =
    elim (cases_Bool (eqb pair.0 thread)) [ inl same ↦ rw same refl | inr other ↦ rw other (some-named thread named) ]

some-in : (thread : ℕ) (kind : ItemKind) → is_some (told (seen_in thread kind)) ≡ has thread (threads_in kind)
some-in thread (item.Trace info) = refl
some-in thread (item.Meta id def) = refl
some-in thread (item.Stack id bytes) = refl
some-in thread (item.Event metadata number capture processor other stack stamp activity related payload) =
    elim (cases_Bool (eqb capture thread)) [ inl same ↦ rw same refl | inr apart ↦ rw apart refl ]
some-in thread (item.Point stamp threads) = some-named thread threads

-- A thread has numbers where some item speaks of it.
some-told : (thread : ℕ) (kinds : List ItemKind) → is_some (numbers_of thread kinds) ≡ has thread (flat_map threads_in kinds)
some-told thread [] = refl
some-told thread (kind ∷ kinds) =
    some-append (seen_in thread kind) (flat_map (seen_in thread) kinds)
    ∙ ap (λ b. b || is_some (numbers_of thread kinds)) (some-in thread kind)
    ∙ ap (λ b. has thread (threads_in kind) || b) (some-told thread kinds)
    ∙ sym (list_any-append (λ t. eqb t thread) (threads_in kind) (flat_map threads_in kinds))

-- ---- the lines

lines-same : (told_of : ℕ → Option Numbers) (numbers : ℕ → Numbers) (threads : List ℕ) → AllByRecursion (λ thread. told_of thread ≡ Some (numbers thread)) threads → flat_map (λ thread. numbers_line thread (told_of thread)) threads ≡ flat_map (λ thread. thread_line thread (numbers thread)) threads
lines-same told_of numbers [] all = refl
lines-same told_of numbers (thread ∷ threads) all =
    ap (λ line. numbers_line thread line ++ flat_map (λ t. numbers_line t (told_of t)) threads) all.0
    ∙ ap (λ (more : List ℕ). thread_line thread (numbers thread) ++ more) (lines-same told_of numbers threads all.1)

each-has : (P : ℕ → Type 0) (threads : List ℕ) → ((thread : ℕ) → has thread threads ≡ true → P thread) → AllByRecursion P threads
each-has P [] all = tt
each-has P (thread ∷ threads) all =
    (all thread (or_left (eqb thread thread) (has thread threads) (eq-eqb thread thread refl)), each-has P threads (λ t there. all t (or_right (eqb thread t) (has t threads) there)))

-- Where these ascending threads have these numbers, and no other thread has some, these are the lines.
pub lines-are : (kinds : List ItemKind) (threads : List ℕ) (numbers : ℕ → Numbers) → IsAscending threads → ((thread : ℕ) → has thread threads ≡ true → numbers_of thread kinds ≡ Some (numbers thread)) → ((thread : ℕ) → has thread threads ≡ false → numbers_of thread kinds ≡ None) → thread_lines kinds ≡ flat_map (λ thread. thread_line thread (numbers thread)) threads
lines-are kinds threads numbers ascends these none =
    ap (flat_map (λ thread. numbers_line thread (numbers_of thread kinds))) order
    ∙ lines-same (λ thread. numbers_of thread kinds) numbers threads (each-has (λ thread. numbers_of thread kinds ≡ Some (numbers thread)) threads these)
  where
    there : (thread : ℕ) (b : Bool) → has thread threads ≡ b → is_some (numbers_of thread kinds) ≡ b
    there thread true e = ap is_some (these thread e)
    there thread false e = ap is_some (none thread e)

    same : (thread : ℕ) → has thread (in_order nat_cmp (flat_map threads_in kinds)) ≡ has thread threads
    same thread = has-in_order thread (flat_map threads_in kinds) ∙ sym (some-told thread kinds) ∙ there thread (has thread threads) refl

    order : in_order nat_cmp (flat_map threads_in kinds) ≡ threads
    order = one_order _ threads (in_order-ascends (flat_map threads_in kinds)) ascends same
