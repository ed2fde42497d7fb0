-- One number more of a thread, and the numbers after more items.
use Rattle.std.proofs.Common.{◌≡◌, ℕ, ◌+◌, Bool, true, false, cond, eqb, inl, inr, List, [], ◌∷◌, ◌++◌, Option, Some, refl, sym, ◌∙◌, ap, arith, add_assoc, append_assoc, zero-add}
use Rattle.std.proofs.lemmas.Bool.{cases_Bool, eqb-true}
use Rattle.std.proofs.lemmas.List.{append-nil}
use Rattle.std.proofs.lemmas.List.Concat.{flat_map-append}
use Rattle.std.proofs.lemmas.List.Sums.{sum_by-append}
use Rattle.std.specs.List.{count_by, flat_map}
use Rattle.ep_defs.specs.declared.item.ItemKind.{ItemKind}
use Rattle.ep_defs.specs.Gaps.{Sighting, Seen, Known, distance, missing, last_number}
use Rattle.nt_blocks.specs.Seen.{seen_in}
use Rattle.nt_check.specs.declared.threads.Numbers.{Numbers}
use Rattle.nt_check.specs.Numbers.{held, is_event, tally, told, numbers_of}
use Rattle.nt_check.specs.state.Counting.{in_room, step, after, after_all, point_sightings}

-- ---- sightings in turn

last_number-append : (last : ℕ) (a b : List Sighting) → last_number last (a ++ b) ≡ last_number (last_number last a) b
last_number-append last [] b = refl
last_number-append last (Seen number ∷ a) b = last_number-append number a b
last_number-append last (Known number ∷ a) b = last_number-append number a b

missing-append : (last : ℕ) (a b : List Sighting) → missing last (a ++ b) ≡ missing last a + missing (last_number last a) b
missing-append last [] b = sym (zero-add (missing last b))
missing-append last (Seen number ∷ a) b =
    ap (λ m. distance (last + 1) number + m) (missing-append number a b) ∙ sym (add_assoc (distance (last + 1) number) (missing number a) (missing (last_number number a) b))
missing-append last (Known number ∷ a) b =
    ap (λ m. distance last number + m) (missing-append number a b) ∙ sym (add_assoc (distance last number) (missing number a) (missing (last_number number a) b))

events-append : (a b : List Sighting) → count_by is_event (a ++ b) ≡ count_by is_event a + count_by is_event b
events-append a b = sum_by-append (λ sighting. cond (is_event sighting) 1 0) a b

held-add : (count more : ℕ) → held (count + more) ≡ held (held count + more)
held-add count more = omega arith

held-held : (count : ℕ) → held (count + 0) ≡ held count
held-held count = omega arith

abbrev make : ℕ → ℕ → ℕ → Numbers
make events last gaps = record { events = events; last = last; gaps = gaps }

-- Numbers that are the same one by one.
pub same_numbers : (a b : Numbers) → a.events ≡ b.events → a.last ≡ b.last → a.gaps ≡ b.gaps → a ≡ b
same_numbers a b events last gaps =
    ap (λ n. make n a.last a.gaps) events ∙ ap (λ n. make b.events n a.gaps) last ∙ ap (λ n. make b.events b.last n) gaps

tally-more : (sightings : List Sighting) (sighting : Sighting) → tally (sightings ++ sighting ∷ []) ≡ step (tally sightings) sighting
tally-more sightings (Seen number) =
    same_numbers (tally (sightings ++ Seen number ∷ [])) (step (tally sightings) (Seen number))
    (ap held (events-append sightings (Seen number ∷ [])) ∙ held-add (count_by is_event sightings) 1)
    (last_number-append 0 sightings (Seen number ∷ []))
    (ap held (missing-append 0 sightings (Seen number ∷ [])) ∙ held-gap (missing 0 sightings) (distance (last_number 0 sightings + 1) number))
  where
    held-gap : (count gap : ℕ) → held (count + (gap + 0)) ≡ held (held count + gap)
    held-gap count gap = omega arith
tally-more sightings (Known number) =
    same_numbers (tally (sightings ++ Known number ∷ [])) (step (tally sightings) (Known number))
    (ap held (events-append sightings (Known number ∷ [])) ∙ held-held (count_by is_event sightings))
    (last_number-append 0 sightings (Known number ∷ []))
    (ap held (missing-append 0 sightings (Known number ∷ [])) ∙ held-gap (missing 0 sightings) (distance (last_number 0 sightings) number))
  where
    held-gap : (count gap : ℕ) → held (count + (gap + 0)) ≡ held (held count + gap)
    held-gap count gap = omega arith

told-more : (sightings : List Sighting) (sighting : Sighting) → told (sightings ++ sighting ∷ []) ≡ after (told sightings) sighting
told-more [] sighting = ap Some (tally-more [] sighting)
told-more (first ∷ sightings) sighting = ap Some (tally-more (first ∷ sightings) sighting)

told-all : (sightings more : List Sighting) → told (sightings ++ more) ≡ after_all (told sightings) more
told-all sightings [] = ap told (append-nil sightings)
told-all sightings (sighting ∷ more) =
    ap told (sym (append_assoc sightings (sighting ∷ []) more))
    ∙ told-all (sightings ++ sighting ∷ []) more
    ∙ ap (λ numbers. after_all numbers more) (told-more sightings sighting)

-- The numbers of a thread after one item more.
pub numbers_of-more : (thread : ℕ) (kinds : List ItemKind) (kind : ItemKind) → numbers_of thread (kinds ++ kind ∷ []) ≡ after_all (numbers_of thread kinds) (seen_in thread kind)
numbers_of-more thread kinds kind =
    ap told (flat_map-append (seen_in thread) kinds (kind ∷ []) ∙ ap (λ (more : List Sighting). flat_map (seen_in thread) kinds ++ more) (append-nil (seen_in thread kind)))
    ∙ told-all (flat_map (seen_in thread) kinds) (seen_in thread kind)

-- The numbers of a thread after one event more, of its own or of another thread.
pub event-step : (now : ℕ → Option Numbers) (thread other number : ℕ) → cond (eqb thread other) (after (now thread) (Seen number)) (now other) ≡ after_all (now other) (cond (eqb thread other) (Seen number ∷ []) [])
event-step now thread other number =
    elim (cases_Bool (eqb thread other)) [
      | inl own ↦ rw own (ap (λ t. after (now t) (Seen number)) (eqb-true thread other own))
      | inr apart ↦ rw apart refl
    ]

-- ---- the threads of a point in turn

after_all-append : (numbers : Option Numbers) (a b : List Sighting) → after_all numbers (a ++ b) ≡ after_all (after_all numbers a) b
after_all-append numbers [] b = refl
after_all-append numbers (sighting ∷ a) b = after_all-append (after numbers sighting) a b

sightings-append : (thread : ℕ) (a b : List (ℕ × ℕ)) → point_sightings thread (a ++ b) ≡ point_sightings thread a ++ point_sightings thread b
sightings-append thread [] b = refl
sightings-append thread (pair ∷ a) b =
    elim (cases_Bool (eqb pair.0 thread)) [
      | inl e ↦ rw e (ap (λ (more : List Sighting). Known pair.1 ∷ more) (sightings-append thread a b))
      | inr e ↦ rw e (sightings-append thread a b)
    ]

-- One thread of a point more.
pub point-more : (numbers : Option Numbers) (thread : ℕ) (pairs : List (ℕ × ℕ)) (pair : ℕ × ℕ) → after_all numbers (point_sightings thread (pairs ++ pair ∷ [])) ≡ cond (eqb pair.0 thread) (after (after_all numbers (point_sightings thread pairs)) (Known pair.1)) (after_all numbers (point_sightings thread pairs))
point-more numbers thread pairs pair =
    ap (after_all numbers) (sightings-append thread pairs (pair ∷ []))
    ∙ after_all-append numbers (point_sightings thread pairs) (point_sightings thread (pair ∷ []))
    ∙ last-one (eqb pair.0 thread) refl
  where
    last-one : (b : Bool) → eqb pair.0 thread ≡ b → after_all (after_all numbers (point_sightings thread pairs)) (point_sightings thread (pair ∷ [])) ≡ cond (eqb pair.0 thread) (after (after_all numbers (point_sightings thread pairs)) (Known pair.1)) (after_all numbers (point_sightings thread pairs))
    last-one true e = rw e refl
    last-one false e = rw e refl

in_room-cond : (b : Bool) (numbers : Option Numbers) (room : Option (Option Numbers)) → in_room (cond b (Some numbers) room) ≡ cond b numbers (in_room room)
in_room-cond true numbers room = refl
in_room-cond false numbers room = refl

-- The numbers of a thread after one thread of a point more, which changes its own numbers and no others.
pub point-step : (now : ℕ → Option Numbers) (was : Option Numbers) (room : Option (Option Numbers)) (thread : ℕ) (pairs : List (ℕ × ℕ)) (pair : ℕ × ℕ) (new : Option (Option Numbers)) → new ≡ cond (eqb pair.0 thread) (Some (after (now pair.0) (Known pair.1))) room → in_room room ≡ now thread → now thread ≡ after_all was (point_sightings thread pairs) → in_room new ≡ after_all was (point_sightings thread (pairs ++ pair ∷ []))
point-step now was room thread pairs pair new is here before =
    ap in_room is
    ∙ in_room-cond (eqb pair.0 thread) (after (now pair.0) (Known pair.1)) room
    ∙ one (eqb pair.0 thread) refl
    ∙ sym (point-more was thread pairs pair)
  where
    one : (b : Bool) → eqb pair.0 thread ≡ b → cond b (after (now pair.0) (Known pair.1)) (in_room room) ≡ cond (eqb pair.0 thread) (after (after_all was (point_sightings thread pairs)) (Known pair.1)) (after_all was (point_sightings thread pairs))
    one true e = rw e (ap (λ numbers. after numbers (Known pair.1)) (ap now (eqb-true pair.0 thread e) ∙ before))
    one false e = rw e (here ∙ before)
