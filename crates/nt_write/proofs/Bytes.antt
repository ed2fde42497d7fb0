-- What is written is bytes: numbers below 256.
use Rattle.std.proofs.Common.{ℕ, zero, suc, ◌^◌, ◌<◌, ◌≤◌, Bool, true, false, List, [], ◌∷◌, ◌++◌, length, inl, inr, arith}
use Rattle.std.specs.Prelude.{nat_lt, is_some, ◌==◌, if◌then◌else◌}
use Rattle.std.specs.List.{concat, flat_map, AllByRecursion}
use Rattle.std.specs.Int.{w16, w32, w64}
use Rattle.std.specs.Bool.{then_some}
use Rattle.std.proofs.lemmas.Bool.{cases_Bool, ltb-true}
use Rattle.std.proofs.lemmas.List.Elements.{All-nil, All-cons, All-head, All-tail}
use Rattle.ep_defs.specs.declared.event.EventDef.{EventDef}
use Rattle.ep_defs.specs.declared.event.FieldDef.{FieldDef}
use Rattle.ep_defs.specs.declared.event.TheConstants.{OBJECT_CODE}
use Rattle.ep_defs.specs.Ranges.{AreBytes}
use Rattle.pt_num.specs.Numbers.{fixed, short_groups, short_var}
use Rattle.pt_num.specs.Texts.{units_bytes, text_z}
use Rattle.nt_head.specs.declared.flags.TheConstants.{ACTIVITY, METADATA, RELATED, SEQUENCE, SIZE, SORTED, STACK, THREAD}
use Rattle.nt_head.specs.declared.head.HeadState.{HeadState}
use Rattle.nt_head.specs.Head.{HeadFields, flag, flag_byte, Sequence}
use Rattle.nt_head.specs.Fewest.{fewest_fields, has_sequence, sequence_of, sequence_bytes, if_there, head_bytes}
use Rattle.nt_meta.specs.Meta.{inside, after, inside_count, fields_bytes, outermost_count, meta_payload}
use Rattle.nt_blocks.specs.Bodies.{stack_bytes, stack_body, thread_bytes, point_body}
use Rattle.nt_blocks.specs.Drafts.{Draft, drafts_bytes, stamps, least, greatest}

-- Each is below 256.
abbrev pub AreLow : List ℕ → Type 0
AreLow bytes = AllByRecursion (λ byte. byte < 256) bytes

pub bytes-of : (bytes : List ℕ) → AreLow bytes → AreBytes bytes
bytes-of [] h = All-nil (λ byte. byte < 2 ^ 8)
bytes-of (b ∷ bytes) h = All-cons (λ byte. byte < 2 ^ 8) b bytes h.0 (bytes-of bytes h.1)

pub low-of : (bytes : List ℕ) → AreBytes bytes → AreLow bytes
low-of [] h = tt
low-of (b ∷ bytes) h = (All-head (λ byte. byte < 2 ^ 8) b bytes h, low-of bytes (All-tail (λ byte. byte < 2 ^ 8) b bytes h))

-- So are those of both lists.
pub low-append : (xs ys : List ℕ) → AreLow xs → AreLow ys → AreLow (xs ++ ys)
low-append [] ys h g = g
low-append (x ∷ xs) ys h g = (h.0, low-append xs ys h.1 g)

-- Numbers of fixed width.
low-fixed-16 : (n : ℕ) → AreLow (fixed w16 n)
unfolding fixed
low-fixed-16 n = (omega arith, (omega arith, tt))

pub low-fixed-32 : (n : ℕ) → AreLow (fixed w32 n)
unfolding fixed
low-fixed-32 n = (omega arith, (omega arith, (omega arith, (omega arith, tt))))

pub low-fixed-64 : (n : ℕ) → AreLow (fixed w64 n)
unfolding fixed
low-fixed-64 n = (omega arith, (omega arith, (omega arith, (omega arith, (omega arith, (omega arith, (omega arith, (omega arith, tt))))))))

-- Texts.
low-units : (units : List ℕ) → AreLow (units_bytes units)
low-units [] = tt
low-units (unit ∷ units) = low-append (fixed w16 unit) (units_bytes units) (low-fixed-16 unit) (low-units units)

low-text : (units : List ℕ) → AreLow (text_z units)
low-text units = low-append (units_bytes units) (fixed w16 0) (low-units units) (low-fixed-16 0)

-- Groups of seven bits.
low-groups : (more value : ℕ) → AreLow (short_groups more value)
unfolding short_groups
low-groups zero value = tt
low-groups (suc more) value =
    elim (cases_Bool (nat_lt value 128)) [
      | inl e ↦ rw e (last (ltb-true value 128 e), tt)
      | inr e ↦ rw e (omega arith, low-groups more _)
    ]
  where
    last : value < 128 → value < 256
    last h = omega arith

-- ---- definitions

low-inside : (object : Bool) (xs ys : List ℕ) → AreLow xs → AreLow ys → AreLow (if object then xs ++ ys else [])
low-inside true xs ys h g = low-append xs ys h g
low-inside false xs ys h g = tt

low-fields : (more : ℕ) (fields : List FieldDef) → AreLow (fields_bytes more fields)
low-fields zero fields = tt
low-fields (suc more) [] = tt
low-fields (suc more) (field ∷ fields) =
    low-append (fixed w32 field.code ++ (if field.code == OBJECT_CODE then fixed w32 (inside_count field fields) ++ fields_bytes more (inside field fields) else []) ++ text_z field.name) (fields_bytes more (after field fields))
    (low-append (fixed w32 field.code ++ (if field.code == OBJECT_CODE then fixed w32 (inside_count field fields) ++ fields_bytes more (inside field fields) else [])) (text_z field.name)
    (low-append (fixed w32 field.code) (if field.code == OBJECT_CODE then fixed w32 (inside_count field fields) ++ fields_bytes more (inside field fields) else [])
    (low-fixed-32 field.code)
    (low-inside (field.code == OBJECT_CODE) (fixed w32 (inside_count field fields)) (fields_bytes more (inside field fields)) (low-fixed-32 (inside_count field fields)) (low-fields more (inside field fields))))
    (low-text field.name))
    (low-fields more (after field fields))

-- The payload of a definition.
pub low-meta : (id : ℕ) (def : EventDef) → AreLow (meta_payload id def)
low-meta id def =
    let p1 : List ℕ = fixed w32 id ++ text_z def.provider in
    let p2 : List ℕ = p1 ++ fixed w32 def.id in
    let p3 : List ℕ = p2 ++ text_z def.name in
    let p4 : List ℕ = p3 ++ fixed w64 def.keywords in
    let p5 : List ℕ = p4 ++ fixed w32 def.version in
    let p6 : List ℕ = p5 ++ fixed w32 def.level in
    let p7 : List ℕ = p6 ++ fixed w32 (outermost_count def.fields) in
    let l1 : AreLow p1 = low-append (fixed w32 id) (text_z def.provider) (low-fixed-32 id) (low-text def.provider) in
    let l2 : AreLow p2 = low-append p1 (fixed w32 def.id) l1 (low-fixed-32 def.id) in
    let l3 : AreLow p3 = low-append p2 (text_z def.name) l2 (low-text def.name) in
    let l4 : AreLow p4 = low-append p3 (fixed w64 def.keywords) l3 (low-fixed-64 def.keywords) in
    let l5 : AreLow p5 = low-append p4 (fixed w32 def.version) l4 (low-fixed-32 def.version) in
    let l6 : AreLow p6 = low-append p5 (fixed w32 def.level) l5 (low-fixed-32 def.level) in
    let l7 : AreLow p7 = low-append p6 (fixed w32 (outermost_count def.fields)) l6 (low-fixed-32 (outermost_count def.fields)) in
    low-append p7 (fields_bytes (length def.fields) def.fields) l7 (low-fields (length def.fields) def.fields)

-- ---- headers

-- Each flag is worth what it is, and stands once.
low-flag : (worth : ℕ) (set : Bool) → flag worth set ≤ worth
low-flag worth true = omega arith
low-flag worth false = omega arith

low-flags : (fields : HeadFields) → flag_byte fields < 256
low-flags fields =
    omega (arith, low-flag METADATA (is_some fields.metadata), low-flag SEQUENCE (is_some fields.sequence), low-flag THREAD (is_some fields.thread), low-flag STACK (is_some fields.stack), low-flag ACTIVITY (is_some fields.activity), low-flag RELATED (is_some fields.related), low-flag SORTED fields.sorted, low-flag SIZE (is_some fields.size))

-- A field that may be absent.
low-there : {A : Type 0} (bytes_of : A → List ℕ) (set : Bool) (x : A) → AreLow (bytes_of x) → AreLow (if_there bytes_of (then_some set x))
low-there bytes_of true x h = h
low-there bytes_of false x h = tt

-- Pieces one after another.
low-concat : (pieces : List (List ℕ)) → AllByRecursion AreLow pieces → AreLow (concat pieces)
low-concat [] h = tt
low-concat (piece ∷ pieces) h = low-append piece (concat pieces) h.0 (low-concat pieces h.1)

low-sequence : (s : Sequence) → AreLow (sequence_bytes s)
low-sequence s = low-concat (short_var w32 s.increment ∷ short_var w64 s.capture ∷ short_var w32 s.processor ∷ []) (low-groups _ s.increment, (low-groups _ s.capture, (low-groups _ s.processor, tt)))

-- The header of a blob whose ids are bytes.
pub low-head : (before now : HeadState) → AreLow now.activity → AreLow now.related → AreLow (head_bytes before now)
low-head before now activity related =
    let f : HeadFields = fewest_fields before now in
    low-concat
    ((flag_byte f ∷ [])
    ∷ if_there (short_var w32) f.metadata
    ∷ if_there sequence_bytes f.sequence
    ∷ if_there (short_var w64) f.thread
    ∷ if_there (short_var w32) f.stack
    ∷ short_var w64 f.stamp_increment
    ∷ if_there (λ id. id) f.activity
    ∷ if_there (λ id. id) f.related
    ∷ if_there (short_var w32) f.size
    ∷ []) (
      (low-flags f, tt),
      (
        low-there (short_var w32) _ now.metadata (low-groups _ now.metadata),
        (
          low-there sequence_bytes (has_sequence before now) (sequence_of before now) (low-sequence (sequence_of before now)),
          (
            low-there (short_var w64) _ now.thread (low-groups _ now.thread),
            (
              low-there (short_var w32) _ now.stack (low-groups _ now.stack),
              (
                low-groups _ f.stamp_increment,
                (
                  low-there (λ id. id) _ now.activity activity,
                  (
                    low-there (λ id. id) _ now.related related,
                    (low-there (short_var w32) _ now.size (low-groups _ now.size), tt),
                  ),
                ),
              ),
            ),
          ),
        ),
      ),
    )

-- ---- bodies

-- A draft whose ids and whose payload are bytes.
pub record IsLow (draft : Draft) : Type 0 where
  pub activity : AreLow draft.state.activity
  pub related : AreLow draft.state.related
  pub payload : AreLow draft.payload

low-drafts : (before : HeadState) (drafts : List Draft) → AllByRecursion IsLow drafts → AreLow (drafts_bytes before drafts)
low-drafts before [] h = tt
low-drafts before (draft ∷ drafts) h =
    low-append (head_bytes before draft.state ++ draft.payload) (drafts_bytes draft.state drafts)
    (low-append (head_bytes before draft.state) draft.payload (low-head before draft.state h.0.activity h.0.related) h.0.payload)
    (low-drafts draft.state drafts h.1)

-- A body of blobs.
pub low-body : (before : HeadState) (drafts : List Draft) → AllByRecursion IsLow drafts → AreLow (concat (fixed w16 20 ∷ fixed w16 1 ∷ fixed w64 (least (stamps drafts)) ∷ fixed w64 (greatest (stamps drafts)) ∷ drafts_bytes before drafts ∷ []))
low-body before drafts h =
    low-concat (fixed w16 20 ∷ fixed w16 1 ∷ fixed w64 (least (stamps drafts)) ∷ fixed w64 (greatest (stamps drafts)) ∷ drafts_bytes before drafts ∷ [])
    (low-fixed-16 20, (low-fixed-16 1, (low-fixed-64 (least (stamps drafts)), (low-fixed-64 (greatest (stamps drafts)), (low-drafts before drafts h, tt)))))

-- A body of stacks.
low-stacks : (stacks : List (List ℕ)) → AllByRecursion AreLow stacks → AreLow (flat_map stack_bytes stacks)
low-stacks [] h = tt
low-stacks (stack ∷ stacks) h =
    low-append (stack_bytes stack) (flat_map stack_bytes stacks) (low-append (fixed w32 (length stack)) stack (low-fixed-32 (length stack)) h.0) (low-stacks stacks h.1)

pub low-stack_body : (first : ℕ) (stacks : List (List ℕ)) → AllByRecursion AreLow stacks → AreLow (stack_body first stacks)
low-stack_body first stacks h =
    low-append (fixed w32 first ++ fixed w32 (length stacks)) (flat_map stack_bytes stacks) (low-append (fixed w32 first) (fixed w32 (length stacks)) (low-fixed-32 first) (low-fixed-32 (length stacks))) (low-stacks stacks h)

-- A body of a point.
low-threads : (threads : List (ℕ × ℕ)) → AreLow (flat_map thread_bytes threads)
low-threads [] = tt
low-threads (thread ∷ threads) =
    low-append (thread_bytes thread) (flat_map thread_bytes threads) (low-append (fixed w64 thread.0) (fixed w32 thread.1) (low-fixed-64 thread.0) (low-fixed-32 thread.1)) (low-threads threads)

pub low-point_body : (stamp : ℕ) (threads : List (ℕ × ℕ)) → AreLow (point_body stamp threads)
low-point_body stamp threads =
    low-append (fixed w64 stamp ++ fixed w32 (length threads)) (flat_map thread_bytes threads) (low-append (fixed w64 stamp) (fixed w32 (length threads)) (low-fixed-64 stamp) (low-fixed-32 (length threads))) (low-threads threads)
