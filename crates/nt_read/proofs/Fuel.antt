-- What bounds the objects of a stream: any bound of at least the number of bytes will do.
use Rattle.std.proofs.Common.{◌≡◌, ℕ, zero, suc, ◌+◌, ◌≤◌, Bool, true, false, inl, inr, cond, Result, Ok, Err, List, [], ◌∷◌, ◌++◌, length, take, drop, refl, ap, arith, length-drop}
use Rattle.std.specs.Prelude.{◌&&◌, nat_eq, nat_le, nat_lt, slice_index, ◌==◌}
use Rattle.std.specs.Cmp.Lexicographic.{pointwise}
use Rattle.std.proofs.lemmas.Bool.{cases_Bool}
use Rattle.ep_defs.specs.declared.item.Item.{Item}
use Rattle.pt_num.specs.Steps.{◌>>=◌, check, or_fault}
use Rattle.nt_object.specs.declared.head.ObjectKind.{ObjectKind}
use Rattle.nt_object.specs.declared.head.ObjectKind.TheVariants as kind
use Rattle.nt_object.specs.Object.{to_multiple_of_4}
use Rattle.nt_object.specs.Reading.{is_name_length, kind_named, number_in, version_of}
use Rattle.nt_blocks.specs.declared.limits.TheConstants.{READ_BYTES}
use Rattle.nt_blocks.specs.Refusals.{BadObject, BadVersion, TooLarge, body_at}
use Rattle.nt_blocks.specs.Verdict.{Object, Stop, Cut, closed, may_stand, named_at, object_at, objects_at, or_refused, payload_at, refused, unit}

-- What is left after an object is no more than this.
record Leaves (most : ℕ) (read : Result Object Stop) : Type 0 where
  few : (object : Object) → read ≡ Ok object → length object.rest ≤ most

leaves-next : {A : Type 0} (most : ℕ) (step : Result A Stop) (next : A → Result Object Stop) → ((x : A) → step ≡ Ok x → Leaves most (next x)) → Leaves most (step >>= next)
leaves-next most (Ok x) next few = few x refl
leaves-next most (Err stop) next few = record { few = λ object e. absurd (cc) }

leaves-end : (most : ℕ) (object : Object) → length object.rest ≤ most → Leaves most (Ok object)
leaves-end most object within = record {
  few = λ other e.
      let same : object ≡ other = cc in
      omega (arith, ap (λ (o : Object). length o.rest) same, within);
}

-- After a unit no more is left than was there.
pub unit-leaves : (n : ℕ) (bytes : List ℕ) (found : List ℕ × List ℕ) → unit n bytes ≡ Ok found → length found.1 ≤ length bytes
unit-leaves n bytes found e = by-test (nat_lt (length bytes) n) e
  where
    by-test : (short : Bool) → (let read : Result (List ℕ × List ℕ) Stop = cond short (Err Cut) (Ok (take n bytes, drop n bytes)) in read ≡ Ok found) → length found.1 ≤ length bytes
    by-test true f = absurd (cc)
    by-test false f =
        let same : (take n bytes, drop n bytes) ≡ found = cc in
        omega (arith, ap (λ (p : List ℕ × List ℕ). length p.1) same, length-drop n bytes)

leaves-unit : (most n : ℕ) (bytes : List ℕ) (next : List ℕ × List ℕ → Result Object Stop) → length bytes ≤ most → ((found : List ℕ × List ℕ) → length found.1 ≤ most → Leaves most (next found)) → Leaves most (unit n bytes >>= next)
leaves-unit most n bytes next within few =
    leaves-next most (unit n bytes) next (λ found e. few found (omega (arith, unit-leaves n bytes found e)))

closed-leaves : (most : ℕ) (items : List Item) (at : ℕ) (bytes : List ℕ) → length bytes ≤ most → Leaves most (closed items at bytes)
closed-leaves most items at bytes within =
    leaves-unit most 1 bytes _ within (λ tag left.
    leaves-next {A = Unit {0}} most (check (slice_index tag.0 0 == 6) (refused at BadObject)) _ (λ ended e.
    leaves-end most _ left))

payload-leaves : (most : ℕ) (object : ObjectKind) (at : ℕ) (bytes : List ℕ) → length bytes ≤ most → Leaves most (payload_at object at bytes)
payload-leaves most kind.Trace at bytes within =
    leaves-unit most 48 bytes _ within (λ payload left.
    closed-leaves most _ (at + 48) payload.1 left)
payload-leaves most (kind.Block block) at bytes within =
    leaves-unit most 4 bytes _ within (λ size left.
    leaves-next {A = Unit {0}} most (check (nat_le (number_in size.0 0) READ_BYTES) (refused at (TooLarge (number_in size.0 0)))) _ (λ fits e.
    leaves-unit most (to_multiple_of_4 (at + 4)) size.1 _ left (λ padding padded.
    leaves-unit most (number_in size.0 0) padding.1 _ padded (λ body behind.
    leaves-next {A = List Item} most (or_refused (body_at block (at + 4 + length padding.0) body.0)) _ (λ items f.
    closed-leaves most items (at + 4 + length padding.0 + length body.0) body.1 behind)))))

named-leaves : (most : ℕ) (has_trace : Bool) (n at : ℕ) (head bytes : List ℕ) → length bytes ≤ most → Leaves most (named_at has_trace n at head bytes)
named-leaves most has_trace n at head bytes within =
    leaves-unit most (n + 1) bytes _ within (λ name left.
    leaves-next {A = ObjectKind} most (or_fault (kind_named (take n name.0)) (refused (at + 14) BadObject)) _ (λ object is.
    leaves-next {A = Unit {0}} most (check (pointwise nat_eq (drop n name.0) (6 ∷ []) && may_stand has_trace object) (refused (at + 14) BadObject)) _ (λ ended e.
    leaves-next {A = Unit {0}} most (check (number_in head 2 == version_of object) (refused (at + 2) BadVersion)) _ (λ version f.
    leaves-next {A = Unit {0}} most (check (number_in head 6 == version_of object) (refused (at + 6) BadVersion)) _ (λ least g.
    payload-leaves most object (at + 14 + n + 1) name.1 left)))))

object-leaves : (most : ℕ) (has_trace : Bool) (at : ℕ) (bytes : List ℕ) → length bytes ≤ most → Leaves most (object_at has_trace at bytes)
object-leaves most has_trace at bytes within =
    leaves-unit most 14 bytes _ within (λ head left.
    leaves-next {A = Unit {0}} most (check (pointwise nat_eq (take 2 head.0) (5 ∷ 1 ∷ []) && is_name_length (number_in head.0 10)) (refused at BadObject)) _ (λ begun e.
    named-leaves most has_trace (number_in head.0 10) at head.0 head.1 left))

-- After an object no more is left than was there.
pub object-left : (has_trace : Bool) (at : ℕ) (bytes : List ℕ) (object : Object) → object_at has_trace at bytes ≡ Ok object → length object.rest ≤ length bytes
object-left has_trace at bytes object e = (object-leaves (length bytes) has_trace at bytes (omega arith)).few object e

-- Two bounds are alike after a tag, where they are after each object.
turn-same : (n m : ℕ) (has_trace : Bool) (items : List Item) (at tag : ℕ) (bytes : List ℕ) → ((object : Object) → length object.rest ≤ length bytes → objects_at n true (items ++ object.items) object.next object.rest ≡ objects_at m true (items ++ object.items) object.next object.rest) → objects_at (suc n) has_trace items at (tag ∷ bytes) ≡ objects_at (suc m) has_trace items at (tag ∷ bytes)
unfolding objects_at
turn-same n m has_trace items at tag bytes later =
    elim (cases_Bool (tag == 5)) [
      | inl opens ↦ rw (opens, objects_at) (by-object (object_at has_trace (at + 1) bytes) refl)
      | inr other ↦ rw (other, objects_at) refl
    ]
  where
    by-object : (read : Result Object Stop) → object_at has_trace (at + 1) bytes ≡ read → objects_at (suc n) has_trace items at (5 ∷ bytes) ≡ objects_at (suc m) has_trace items at (5 ∷ bytes)
    by-object (Ok object) e = rw (e, objects_at) (later object (object-left has_trace (at + 1) bytes object e))
    by-object (Err stop) e = rw (e, objects_at) refl

pub objects-same : (n m : ℕ) (has_trace : Bool) (items : List Item) (at : ℕ) (bytes : List ℕ) → length bytes ≤ n → length bytes ≤ m → objects_at n has_trace items at bytes ≡ objects_at m has_trace items at bytes
unfolding objects_at
objects-same zero zero has_trace items at bytes few less = refl
objects-same zero (suc m) has_trace items at [] few less = refl
objects-same (suc n) zero has_trace items at [] few less = refl
objects-same (suc n) (suc m) has_trace items at [] few less = refl
objects-same zero (suc m) has_trace items at (tag ∷ bytes) few less = absurd (omega arith)
objects-same (suc n) zero has_trace items at (tag ∷ bytes) few less = absurd (omega arith)
objects-same (suc n) (suc m) has_trace items at (tag ∷ bytes) few less =
    turn-same n m has_trace items at tag bytes (λ object left. objects-same n m true (items ++ object.items) object.next object.rest (omega arith) (omega arith))
