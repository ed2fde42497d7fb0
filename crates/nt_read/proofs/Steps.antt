-- What each unit comes to, once it is whole.
use Rattle.std.proofs.Common.{◌≡◌, ◌≢◌, ℕ, suc, ◌+◌, ◌<◌, ◌≤◌, ◌==◌, Bool, true, false, inl, inr, Some, None, Result, Ok, Err, List, [], ◌∷◌, ◌++◌, length, take, drop, get_or, refl, sym, arith, drop-cons, eq-eqb}
use Rattle.std.specs.Prelude.{◌&&◌, nat_eq}
use Rattle.std.specs.Cmp.Lexicographic.{pointwise}
use Rattle.std.proofs.lemmas.Bool.{cases_Bool, le-leb, lt-leb, ne_eqb, and_left}
use Rattle.std.proofs.lemmas.List.{append-nil, drop_all}
use Rattle.ep_defs.specs.declared.item.Item.{Item}
use Rattle.ep_defs.specs.declared.item.ItemKind.TheVariants as item
use Rattle.nt_object.specs.declared.object.BlockKind.{BlockKind}
use Rattle.nt_object.specs.declared.head.ObjectKind.{ObjectKind}
use Rattle.nt_object.specs.declared.head.ObjectKind.TheVariants as object
use Rattle.nt_object.specs.Object.{to_multiple_of_4}
use Rattle.nt_object.specs.Stream.{stream_head}
use Rattle.nt_object.specs.Reading.{is_name_length, kind_named, number_in, version_of}
use Rattle.nt_blocks.specs.declared.limits.TheConstants.{READ_BYTES}
use Rattle.nt_blocks.specs.declared.take.BodyFault.{BodyFault}
use Rattle.nt_blocks.specs.declared.take.BodyFault.TheVariants as body
use Rattle.nt_blocks.specs.Refusals.{Refusal, refusal, BadMagic, BadObject, BadVersion, BadBlock, BadHead, BadMeta, Uncompressed, TooLarge, body_at}
use Rattle.nt_blocks.specs.Taking.{IsFault}
use Rattle.nt_blocks.specs.Verdict.{Object, Stop, Verdict, info_in, may_stand, object_at, objects_at, payload_at, stopped, unit, verdict}
use Rattle.nt_read.specs.declared.fault.ReadFault.TheVariants as fault
use Rattle.nt_read.specs.declared.fault.ReadKind.TheVariants as kind
use Rattle.nt_read.specs.declared.stage.Stage.{Stage}
use Rattle.nt_read.specs.declared.stage.Stage.TheVariants as stage
use Rattle.nt_read.specs.declared.stage.Version.{Version}
use Rattle.nt_read.specs.Answers.{fault_of}
use Rattle.nt_read.specs.Stages.{goes_on, needs, objects_after, waiting}
use Rattle.nt_read.specs.state.Units.{Faults, Refuses, Turns, body_fault, payload_stage, turns_left}
use Rattle.nt_read.proofs.Fuel.{object-left, objects-same, unit-leaves}
use Rattle.nt_read.proofs.Unit.{unit-cut, unit-there}

-- ---- the head

pub head-turns : (at : ℕ) (pending : List Item) (here : List ℕ) → length here ≡ 32 → pointwise nat_eq here stream_head ≡ true → Turns stage.Head at pending here (stage.Tag false) pending
head-turns at pending here whole is = record {
  falls = omega arith;
  goes = λ told more. rw (unit-there 32 here more whole, is, whole, append-nil told) refl;
}

pub head-refused : (at : ℕ) (pending : List Item) (here : List ℕ) → length here ≡ 32 → pointwise nat_eq here stream_head ≡ false → Refuses stage.Head at pending here (fault.Bad at kind.BadMagic)
head-refused at pending here whole other = record {
  why = refusal at BadMagic;
  is = refl;
  goes = λ told more. rw (unit-there 32 here more whole, other) refl;
}

-- The whole verdict is that from the head on.
pub verdict-starts : (bytes : List ℕ) → verdict bytes ≡ goes_on stage.Head 0 [] [] bytes
verdict-starts bytes = by-head (unit 32 bytes) refl
  where
    by-head : (read : Result (List ℕ × List ℕ) Stop) → unit 32 bytes ≡ read → verdict bytes ≡ goes_on stage.Head 0 [] [] bytes
    by-head (Err stop) e = rw (e, verdict) refl
    by-head (Ok head) e =
        rw (e, verdict)
        (elim (cases_Bool (pointwise nat_eq head.0 stream_head)) [
          | inl is ↦ rw is (objects-same (length bytes) (length head.1) false [] 32 head.1 (unit-leaves 32 bytes head e) (omega arith))
          | inr other ↦ rw other refl
        ])

-- ---- a tag

-- After the tag of an object the bound is the number of bytes again.
after-tag : (most : ℕ) (has_trace : Bool) (told : List Item) (at : ℕ) (bytes : List ℕ) → length bytes ≤ most → elim (object_at has_trace at bytes) as (λ (read : Result Object Stop). Verdict) [ Ok found ↦ objects_at most true (told ++ found.items) found.next found.rest | Err stop ↦ stopped stop told ] ≡ objects_after told (object_at has_trace at bytes)
after-tag most has_trace told at bytes within = by-object (object_at has_trace at bytes) refl
  where
    by-object : (read : Result Object Stop) → object_at has_trace at bytes ≡ read → elim read as (λ (read : Result Object Stop). Verdict) [ Ok found ↦ objects_at most true (told ++ found.items) found.next found.rest | Err stop ↦ stopped stop told ] ≡ objects_after told read
    by-object (Ok found) e = objects-same most (length found.rest) true (told ++ found.items) found.next found.rest (omega (arith, object-left has_trace at bytes found e)) (omega arith)
    by-object (Err stop) e = refl

pub tag-opens : (has_trace : Bool) (at : ℕ) (pending : List Item) (here : List ℕ) → length here ≡ 1 → get_or here 0 0 ≡ 5 → Turns (stage.Tag has_trace) at pending here (stage.Begun has_trace) pending
unfolding objects_at
tag-opens has_trace at pending [] whole is = absurd (omega arith)
tag-opens has_trace at pending (b ∷ []) whole is = record {
  falls = omega arith;
  goes = λ told more. rw (eq-eqb b 5 is, objects_at, append-nil told) (after-tag (length more) has_trace told (at + 1) more (omega arith));
}
tag-opens has_trace at pending (b ∷ c ∷ here) whole is = absurd (omega arith)

pub tag-ends : (has_trace : Bool) (at : ℕ) (pending : List Item) (here : List ℕ) → length here ≡ 1 → get_or here 0 0 ≡ 1 → has_trace ≡ true → Turns (stage.Tag has_trace) at pending here stage.Ended pending
unfolding objects_at
tag-ends has_trace at pending [] whole is has = absurd (omega arith)
tag-ends has_trace at pending (b ∷ []) whole is has = record {
  falls = omega arith;
  goes = λ told more. rw (is, has, append-nil told) refl;
}
tag-ends has_trace at pending (b ∷ c ∷ here) whole is has = absurd (omega arith)

pub tag-refused : (has_trace : Bool) (at : ℕ) (pending : List Item) (here : List ℕ) → length here ≡ 1 → get_or here 0 0 ≢ 5 → ((get_or here 0 0 == 1) && has_trace) ≡ false → Refuses (stage.Tag has_trace) at pending here (fault.Bad at kind.BadObject)
unfolding objects_at
tag-refused has_trace at pending [] whole other ends = absurd (omega arith)
tag-refused has_trace at pending (b ∷ []) whole other ends = record {
  why = refusal at BadObject;
  is = refl;
  goes = λ told more. rw (ne_eqb b 5 other, objects_at, ends) refl;
}
tag-refused has_trace at pending (b ∷ c ∷ here) whole other ends = absurd (omega arith)

-- ---- what an object begins with

pub begun-turns : (has_trace : Bool) (at : ℕ) (pending : List Item) (here : List ℕ) → length here ≡ 14 → (pointwise nat_eq (take 2 here) (5 ∷ 1 ∷ []) && is_name_length (number_in here 10)) ≡ true → Turns (stage.Begun has_trace) at pending here (stage.Name has_trace (number_in here 10) (record { at = at + 2; number = number_in here 2 }) (record { at = at + 6; number = number_in here 6 })) pending
begun-turns has_trace at pending here whole is = record {
  falls = omega arith;
  goes = λ told more. rw (unit-there 14 here more whole, is, whole, append-nil told) refl;
}

pub begun-refused : (has_trace : Bool) (at : ℕ) (pending : List Item) (here : List ℕ) → length here ≡ 14 → (pointwise nat_eq (take 2 here) (5 ∷ 1 ∷ []) && is_name_length (number_in here 10)) ≡ false → Refuses (stage.Begun has_trace) at pending here (fault.Bad at kind.BadObject)
begun-refused has_trace at pending here whole other = record {
  why = refusal at BadObject;
  is = refl;
  goes = λ told more. rw (unit-there 14 here more whole, other) refl;
}

-- ---- the name

-- The last byte of the unit is the tag.
name-ends : (n : ℕ) (here : List ℕ) → length here ≡ n + 1 → drop n here ≡ get_or here n 0 ∷ []
name-ends n here whole =
    let there : n < length here = omega arith in
    rw (drop-cons here n 0 there, drop_all (suc n) here (omega arith)) refl

name-ended : (n : ℕ) (here : List ℕ) → length here ≡ n + 1 → get_or here n 0 ≡ 6 → pointwise nat_eq (drop n here) (6 ∷ []) ≡ true
name-ended n here whole is = rw (name-ends n here whole, is) refl

name-open : (n : ℕ) (here : List ℕ) → length here ≡ n + 1 → get_or here n 0 ≢ 6 → pointwise nat_eq (drop n here) (6 ∷ []) ≡ false
name-open n here whole other = rw (name-ends n here whole, ne_eqb (get_or here n 0) 6 other) refl

-- A payload is read from its first unit on.
payload-goes : (found : ObjectKind) (at : ℕ) (pending told : List Item) (bytes : List ℕ) → goes_on (payload_stage found) at pending told bytes ≡ objects_after told (payload_at found at bytes)
payload-goes object.Trace at pending told bytes = refl
payload-goes (object.Block block) at pending told bytes = refl

payload-falls : (found : ObjectKind) → turns_left (payload_stage found) ≡ 0
payload-falls object.Trace = refl
payload-falls (object.Block block) = refl

pub name-turns : (has_trace : Bool) (n : ℕ) (version least : Version) (at : ℕ) (pending : List Item) (here : List ℕ) (found : ObjectKind) → length here ≡ n + 1 → kind_named (take n here) ≡ Some found → get_or here n 0 ≡ 6 → may_stand has_trace found ≡ true → version.number ≡ version_of found → least.number ≡ version_of found → Turns (stage.Name has_trace n version least) at pending here (payload_stage found) pending
name-turns has_trace n version least at pending here found whole named ends stands first second = record {
  falls = omega (arith, payload-falls found);
  goes = λ told more.
      let next : at + length here ≡ at + n + 1 = omega arith in
      rw (unit-there (n + 1) here more whole, named, name-ended n here whole ends, stands, eq-eqb version.number (version_of found) first, eq-eqb least.number (version_of found) second, next, append-nil told) (sym (payload-goes found (at + n + 1) _ told more));
}

pub name-unknown : (has_trace : Bool) (n : ℕ) (version least : Version) (at : ℕ) (pending : List Item) (here : List ℕ) → length here ≡ n + 1 → kind_named (take n here) ≡ None → Refuses (stage.Name has_trace n version least) at pending here (fault.Bad at kind.BadObject)
name-unknown has_trace n version least at pending here whole none = record {
  why = refusal at BadObject;
  is = refl;
  goes = λ told more. rw (unit-there (n + 1) here more whole, none) refl;
}

pub name-refused : (has_trace : Bool) (n : ℕ) (version least : Version) (at : ℕ) (pending : List Item) (here : List ℕ) (found : ObjectKind) → length here ≡ n + 1 → kind_named (take n here) ≡ Some found → (pointwise nat_eq (drop n here) (6 ∷ []) && may_stand has_trace found) ≡ false → Refuses (stage.Name has_trace n version least) at pending here (fault.Bad at kind.BadObject)
name-refused has_trace n version least at pending here found whole named other = record {
  why = refusal at BadObject;
  is = refl;
  goes = λ told more. rw (unit-there (n + 1) here more whole, named, other) refl;
}

-- The two tests that follow a known name, the first of which fails, or the second.
pub name-tests : (has_trace : Bool) (n : ℕ) (here : List ℕ) (found : ObjectKind) → length here ≡ n + 1 → get_or here n 0 ≢ 6 → (pointwise nat_eq (drop n here) (6 ∷ []) && may_stand has_trace found) ≡ false
name-tests has_trace n here found whole other = and_left _ _ (name-open n here whole other)

pub name-version : (has_trace : Bool) (n : ℕ) (version least : Version) (at : ℕ) (pending : List Item) (here : List ℕ) (found : ObjectKind) → length here ≡ n + 1 → kind_named (take n here) ≡ Some found → get_or here n 0 ≡ 6 → may_stand has_trace found ≡ true → version.number ≢ version_of found → Refuses (stage.Name has_trace n version least) at pending here (fault.Bad version.at kind.BadVersion)
name-version has_trace n version least at pending here found whole named ends stands first = record {
  why = refusal version.at BadVersion;
  is = refl;
  goes = λ told more. rw (unit-there (n + 1) here more whole, named, name-ended n here whole ends, stands, ne_eqb version.number (version_of found) first) refl;
}

pub name-least : (has_trace : Bool) (n : ℕ) (version least : Version) (at : ℕ) (pending : List Item) (here : List ℕ) (found : ObjectKind) → length here ≡ n + 1 → kind_named (take n here) ≡ Some found → get_or here n 0 ≡ 6 → may_stand has_trace found ≡ true → version.number ≡ version_of found → least.number ≢ version_of found → Refuses (stage.Name has_trace n version least) at pending here (fault.Bad least.at kind.BadVersion)
name-least has_trace n version least at pending here found whole named ends stands first second = record {
  why = refusal least.at BadVersion;
  is = refl;
  goes = λ told more. rw (unit-there (n + 1) here more whole, named, name-ended n here whole ends, stands, eq-eqb version.number (version_of found) first, ne_eqb least.number (version_of found) second) refl;
}

-- ---- payloads

pub trace-turns : (at : ℕ) (before after : List Item) (here : List ℕ) → length here ≡ 48 → after ≡ record { at = at; kind = item.Trace (info_in here) } ∷ [] → Turns stage.Trace at before here stage.Close after
trace-turns at before after here whole is = record {
  falls = omega arith;
  goes = λ told more. rw (unit-there 48 here more whole, whole, is, append-nil told) refl;
}

pub size-turns : (block : BlockKind) (at : ℕ) (pending : List Item) (here : List ℕ) → length here ≡ 4 → number_in here 0 ≤ READ_BYTES → Turns (stage.Size block) at pending here (stage.Padding block (number_in here 0)) pending
size-turns block at pending here whole fits = record {
  falls = omega arith;
  goes = λ told more. rw (unit-there 4 here more whole, le-leb (number_in here 0) READ_BYTES fits, whole, append-nil told) refl;
}

pub size-refused : (block : BlockKind) (at : ℕ) (pending : List Item) (here : List ℕ) → length here ≡ 4 → READ_BYTES < number_in here 0 → Refuses (stage.Size block) at pending here (fault.Bad at (kind.TooLarge (number_in here 0)))
size-refused block at pending here whole over = record {
  why = refusal at (TooLarge (number_in here 0));
  is = refl;
  goes = λ told more. rw (unit-there 4 here more whole, lt-leb (number_in here 0) READ_BYTES over) refl;
}

pub padding-turns : (block : BlockKind) (size at : ℕ) (pending : List Item) (here : List ℕ) → length here ≡ to_multiple_of_4 at → Turns (stage.Padding block size) at pending here (stage.Body block size) pending
padding-turns block size at pending here whole = record {
  falls = omega arith;
  goes = λ told more. rw (unit-there (to_multiple_of_4 at) here more whole, append-nil told) refl;
}

pub body-turns : (block : BlockKind) (size at : ℕ) (before after : List Item) (here : List ℕ) (found : List Item) → length here ≡ size → body_at block at here ≡ Ok found → after ≡ found → Turns (stage.Body block size) at before here stage.Close after
body-turns block size at before after here found whole reads is = record {
  falls = omega arith;
  goes = λ told more. rw (unit-there size here more whole, reads, is, append-nil told) refl;
}

body-stops : (block : BlockKind) (size at : ℕ) (before : List Item) (here : List ℕ) (why : Refusal) → length here ≡ size → body_at block at here ≡ Err why → Refuses (stage.Body block size) at before here (fault_of why)
body-stops block size at before here why whole reads = record {
  why = why;
  is = refl;
  goes = λ told more. rw (unit-there size here more whole, reads) refl;
}

pub body-refused : (block : BlockKind) (size at : ℕ) (before : List Item) (here : List ℕ) (found : BodyFault) → length here ≡ size → IsFault (body_at block at here) at found → Faults (stage.Body block size) at before here (body_fault at found)
body-refused block size at before here (body.BadBlock place) whole reads = body-stops block size at before here (refusal (at + place) BadBlock) whole reads
body-refused block size at before here (body.BadHead place) whole reads = body-stops block size at before here (refusal (at + place) BadHead) whole reads
body-refused block size at before here (body.BadMeta place) whole reads = body-stops block size at before here (refusal (at + place) BadMeta) whole reads
body-refused block size at before here (body.Uncompressed place) whole reads = body-stops block size at before here (refusal (at + place) Uncompressed) whole reads
body-refused block size at before here body.OutOfMemory whole reads = tt

-- ---- the last tag, and the end

pub close-turns : (at : ℕ) (pending : List Item) (here : List ℕ) → length here ≡ 1 → get_or here 0 0 ≡ 6 → Turns stage.Close at pending here (stage.Tag true) pending
close-turns at pending [] whole is = absurd (omega arith)
close-turns at pending (b ∷ []) whole is = record {
  falls = omega arith;
  goes = λ told more. rw (unit-there 1 (b ∷ []) more refl, is) refl;
}
close-turns at pending (b ∷ c ∷ here) whole is = absurd (omega arith)

pub close-refused : (at : ℕ) (pending : List Item) (here : List ℕ) → length here ≡ 1 → get_or here 0 0 ≢ 6 → Refuses stage.Close at pending here (fault.Bad at kind.BadObject)
close-refused at pending [] whole other = absurd (omega arith)
close-refused at pending (b ∷ []) whole other = record {
  why = refusal at BadObject;
  is = refl;
  goes = λ told more. rw (unit-there 1 (b ∷ []) more refl, ne_eqb b 6 other) refl;
}
close-refused at pending (b ∷ c ∷ here) whole other = absurd (omega arith)

pub ended-refused : (at : ℕ) (pending : List Item) (here : List ℕ) → length here ≡ 1 → Refuses stage.Ended at pending here (fault.Bad at kind.BadObject)
ended-refused at pending [] whole = absurd (omega arith)
ended-refused at pending (b ∷ here) whole = record {
  why = refusal at BadObject;
  is = refl;
  goes = λ told more. rw (ne_eqb (suc (length (here ++ more))) 0 (λ e. omega arith)) refl;
}

-- ---- a unit that is cut

pub waits : (here : Stage) (at : ℕ) (pending told : List Item) (bytes : List ℕ) → length bytes < needs here at → goes_on here at pending told bytes ≡ waiting here told
unfolding objects_at
waits stage.Head at pending told bytes short = rw (unit-cut 32 bytes short) refl
waits (stage.Tag has_trace) at pending told [] short = refl
waits (stage.Tag has_trace) at pending told (b ∷ bytes) short = absurd (omega arith)
waits (stage.Begun has_trace) at pending told bytes short = rw (unit-cut 14 bytes short) refl
waits (stage.Name has_trace n version least) at pending told bytes short = rw (unit-cut (n + 1) bytes short) refl
waits stage.Trace at pending told bytes short = rw (unit-cut 48 bytes short) refl
waits (stage.Size block) at pending told bytes short = rw (unit-cut 4 bytes short) refl
waits (stage.Padding block size) at pending told bytes short = rw (unit-cut (to_multiple_of_4 at) bytes short) refl
waits (stage.Body block size) at pending told bytes short = rw (unit-cut size bytes short) refl
waits stage.Close at pending told bytes short = rw (unit-cut 1 bytes short) refl
waits stage.Ended at pending told [] short = refl
waits stage.Ended at pending told (b ∷ bytes) short = absurd (omega arith)
