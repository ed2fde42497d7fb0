-- However the bytes go on, the items of the objects that ended stand first.
use Rattle.std.proofs.Common.{◌≡◌, ℕ, zero, suc, ◌+◌, Bool, true, false, inl, inr, cond, Result, Ok, Err, List, [], ◌∷◌, ◌++◌, length, refl, sym, ◌∙◌, append_assoc}
use Rattle.std.specs.Prelude.{◌==◌, ◌&&◌, nat_eq}
use Rattle.std.specs.Cmp.Lexicographic.{pointwise}
use Rattle.std.proofs.lemmas.Bool.{cases_Bool}
use Rattle.std.proofs.lemmas.List.{append-nil}
use Rattle.ep_defs.specs.declared.item.Item.{Item}
use Rattle.nt_object.specs.Stream.{stream_head}
use Rattle.nt_blocks.specs.Refusals.{refusal, BadObject}
use Rattle.nt_blocks.specs.Verdict.{Object, Stop, Cut, Refused, Bad, Good, end_at, object_at, objects_at, stopped, unit}
use Rattle.nt_read.specs.declared.stage.Stage.{Stage}
use Rattle.nt_read.specs.declared.stage.Stage.TheVariants as stage
use Rattle.nt_read.specs.Answers.{items_of}
use Rattle.nt_read.specs.Stages.{after_head, after_magic, goes_on, objects_after}
use Rattle.nt_read.specs.state.Reads.{Begins}

begins-all : (told items : List Item) → items ≡ told → Begins told items
begins-all told items e = record { rest = []; is = e ∙ sym (append-nil told) }

stopped-begins : (stop : Stop) (told : List Item) → Begins told (items_of (stopped stop told))
stopped-begins Cut told = begins-all told told refl
stopped-begins (Refused why) told = begins-all told told refl

end-begins : (has_trace : Bool) (at : ℕ) (told : List Item) (tag : ℕ) (bytes : List ℕ) → Begins told (items_of (end_at has_trace at told tag bytes))
end-begins has_trace at told tag bytes = by-tag ((tag == 1) && has_trace)
  where
    by-rest : (last : Bool) → Begins told (items_of (cond last (Good told) (Bad (refusal (at + 1) BadObject) told)))
    by-rest true = begins-all told told refl
    by-rest false = begins-all told told refl

    by-tag : (ends : Bool) → Begins told (items_of (cond ends (cond (length bytes == 0) (Good told) (Bad (refusal (at + 1) BadObject) told)) (Bad (refusal at BadObject) told)))
    by-tag true = by-rest (length bytes == 0)
    by-tag false = begins-all told told refl

-- The items of an object stand after those before it.
begins-more : (told items all : List Item) → Begins (told ++ items) all → Begins told all
begins-more told items all begins = record {
  rest = items ++ begins.rest;
  is = begins.is ∙ append_assoc told items begins.rest;
}

turn-begins : (n : ℕ) (has_trace : Bool) (told : List Item) (at tag : ℕ) (bytes : List ℕ) → ((object : Object) → Begins (told ++ object.items) (items_of (objects_at n true (told ++ object.items) object.next object.rest))) → Begins told (items_of (objects_at (suc n) has_trace told at (tag ∷ bytes)))
unfolding objects_at
turn-begins n has_trace told at tag bytes later =
    elim (cases_Bool (tag == 5)) [
      | inl opens ↦ rw (opens, objects_at) (by-object (object_at has_trace (at + 1) bytes) refl)
      | inr other ↦ rw (other, objects_at) (end-begins has_trace at told tag bytes)
    ]
  where
    by-object : (read : Result Object Stop) → object_at has_trace (at + 1) bytes ≡ read → Begins told (items_of (objects_at (suc n) has_trace told at (5 ∷ bytes)))
    by-object (Ok object) e = rw (e, objects_at) (begins-more told object.items _ (later object))
    by-object (Err stop) e = rw (e, objects_at) (stopped-begins stop told)

objects-begin : (n : ℕ) (has_trace : Bool) (told : List Item) (at : ℕ) (bytes : List ℕ) → Begins told (items_of (objects_at n has_trace told at bytes))
unfolding objects_at
objects-begin zero has_trace told at bytes = begins-all told told refl
objects-begin (suc n) has_trace told at [] = begins-all told told refl
objects-begin (suc n) has_trace told at (tag ∷ bytes) = turn-begins n has_trace told at tag bytes (λ object. objects-begin n true (told ++ object.items) object.next object.rest)

after-begins : (told : List Item) (read : Result Object Stop) → Begins told (items_of (objects_after told read))
after-begins told (Ok object) = begins-more told object.items _ (objects-begin (length object.rest) true (told ++ object.items) object.next object.rest)
after-begins told (Err stop) = stopped-begins stop told

magic-begins : (is : Bool) (at : ℕ) (told : List Item) (bytes : List ℕ) → Begins told (items_of (after_magic is at told bytes))
magic-begins true at told bytes = objects-begin (length bytes) false told (at + 32) bytes
magic-begins false at told bytes = begins-all told told refl

head-begins : (at : ℕ) (told : List Item) (read : Result (List ℕ × List ℕ) Stop) → Begins told (items_of (after_head at told read))
head-begins at told (Ok head) = magic-begins (pointwise nat_eq head.0 stream_head) at told head.1
head-begins at told (Err stop) = stopped-begins stop told

ended-begins : (last : Bool) (at : ℕ) (told : List Item) → Begins told (items_of (cond last (Good told) (Bad (refusal at BadObject) told)))
ended-begins true at told = begins-all told told refl
ended-begins false at told = begins-all told told refl

pub goes-begins : (here : Stage) (at : ℕ) (pending told : List Item) (bytes : List ℕ) → Begins told (items_of (goes_on here at pending told bytes))
goes-begins stage.Head at pending told bytes = head-begins at told (unit 32 bytes)
goes-begins (stage.Tag has_trace) at pending told bytes = objects-begin (length bytes) has_trace told at bytes
goes-begins (stage.Begun has_trace) at pending told bytes = after-begins told _
goes-begins (stage.Name has_trace n version least) at pending told bytes = after-begins told _
goes-begins stage.Trace at pending told bytes = after-begins told _
goes-begins (stage.Size block) at pending told bytes = after-begins told _
goes-begins (stage.Padding block size) at pending told bytes = after-begins told _
goes-begins (stage.Body block size) at pending told bytes = after-begins told _
goes-begins stage.Close at pending told bytes = after-begins told _
goes-begins stage.Ended at pending told bytes = ended-begins (length bytes == 0) at told
