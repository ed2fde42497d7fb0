-- How what a link gave grows by a read, and which of its bytes are a message's own.
use Rattle.std.proofs.Common.{◌≡◌, ℕ, ◌+◌, ◌-◌, ◌≤◌, ◌⊎◌, inl, inr, Bool, List, [], ◌++◌, length, take, IsTrue, sym, ◌∙◌, ap, subst, append_assoc, arith, length-append, length-take, Result, Ok, Err}
use Rattle.std.proofs.lemmas.List.{append-nil, take_all}
use Rattle.std.proofs.Math.Seq.{take-append_seam, take-append-add}
use Rattle.pt_io.specs.Taken.{IsPrefix}
use Rattle.ipc_frame.specs.declared.limits.TheConstants.{HEADER_BYTES}
use Rattle.ipc_frame.specs.Message.{Message, Gap, found}
use Rattle.ipc_frame.specs.Message as messages
use Rattle.ipc_take.specs.Own.{said_size, own_size, own_bytes}
use Rattle.ipc_take.specs.Given.{Gave, GavePart, IsFull}

-- The front of what a link had, where this many bytes came or all.
pub front-taken : (bytes rest : List ℕ) (count : ℕ) → length bytes ≤ count → (length bytes ≡ count) ⊎ (rest ≡ []) → take count (bytes ++ rest) ≡ bytes
front-taken bytes rest count few (inl e) = rw (← e) (take-append_seam bytes rest)
front-taken bytes rest count few (inr e) = rw (e, append-nil bytes) (take_all count bytes few)

-- This many bytes were read and this many are lacking.
pub record HasRead {L : Type 0} (tells : L → Bool) (given left : L → List ℕ) (old now : L) (before bytes : List ℕ) (count lacking : ℕ) : Type 0 where
  pub more : List ℕ
  pub grown : bytes ≡ before ++ more
  pub counted : length more + lacking ≡ count
  pub gave : Gave tells given left old now more

-- A header was read, or all that came before the link ended, so that its message has this many bytes.
said-is : {L : Type 0} (tells : L → Bool) (given left : L → List ℕ) (old mid : L) (head head' : List ℕ) (lacking : ℕ)
    → Gave tells given left old mid head → IsFull tells left old mid head HEADER_BYTES
    → head' ≡ head → length head' + lacking ≡ said_size head' (found head') → IsTrue (tells old)
    → own_size (left old) ≡ length head + lacking
said-is tells given left old mid head head' lacking gave full same size t =
    let came : left old ≡ head ++ left mid = (gave t).1 in
    let front : take HEADER_BYTES (left old) ≡ head =
    ap (λ (xs : List ℕ). take HEADER_BYTES xs) came ∙ front-taken head (left mid) HEADER_BYTES full.0 (full.1 t) in
    let P : List ℕ → Type 0 = λ h. length head + lacking ≡ said_size h (found h) in
    let Q : List ℕ → Type 0 = λ h. length h + lacking ≡ said_size h (found h) in
    sym (subst P (sym front) (subst Q same size))

-- What fills both counts fills their sum.
both-full : (head more rest : List ℕ) (lacking : ℕ) → (length more ≡ lacking) ⊎ (rest ≡ []) → (length (head ++ more) ≡ length head + lacking) ⊎ (rest ≡ [])
both-full head more rest lacking (inl e) = inl (omega (arith, length-append head more, e))
both-full head more rest lacking (inr e) = inr e

-- What was given in two steps.
both-gave : {L : Type 0} (tells : L → Bool) (given left : L → List ℕ) (old mid new : L) (head more : List ℕ)
    → Gave tells given left old mid head → tells mid ≡ tells old → Gave tells given left mid new more
    → Gave tells given left old new (head ++ more)
both-gave tells given left old mid new head more gave told gave' t =
    let u : IsTrue (tells mid) = rw told t in (
      (gave' u).0 ∙ ap (λ (xs : List ℕ). xs ++ more) (gave t).0 ∙ append_assoc (given old) head more,
      (gave t).1 ∙ ap (λ (xs : List ℕ). head ++ xs) (gave' u).1 ∙ sym (append_assoc head more (left new)),
    )

-- A header was read, or all that came before the link ended, and then as many bytes as its message has after it.
pub own-is : {L : Type 0} (tells : L → Bool) (given left : L → List ℕ) (old mid new : L) (head head' more bytes : List ℕ) (lacking : ℕ)
    → Gave tells given left old mid head → IsFull tells left old mid head HEADER_BYTES → tells mid ≡ tells old
    → Gave tells given left mid new more → IsFull tells left mid new more lacking
    → head' ≡ head → length head' + lacking ≡ said_size head' (found head') → bytes ≡ head ++ more
    → IsTrue (tells old) → bytes ≡ own_bytes (left old)
own-is tells given left old mid new head head' more bytes lacking gave full told gave' full' same size all t =
    let u : IsTrue (tells mid) = rw told t in
    let said = said-is tells given left old mid head head' lacking gave full same size t in
    let whole : left old ≡ (head ++ more) ++ left new = (both-gave tells given left old mid new head more gave told gave' t).1 in
    let taken = front-taken (head ++ more) (left new) (length head + lacking) (omega (arith, length-append head more, full'.0))
    (both-full head more (left new) lacking (full'.1 u)) in
    all ∙ sym (ap (λ (n : ℕ). take n (left old)) said ∙ ap (λ (xs : List ℕ). take (length head + lacking) xs) whole ∙ taken)

-- ---- no byte past the message

-- What has no more bytes than a front begins it.
begins-front : (bytes rest : List ℕ) (count : ℕ) → length bytes ≤ count → IsPrefix bytes (take count (bytes ++ rest))
begins-front bytes rest count few =
    let split : count ≡ length bytes + (count - length bytes) = omega (arith, few) in
    (take (count - length bytes) rest, sym (ap (λ (n : ℕ). take n (bytes ++ rest)) split ∙ take-append-add bytes rest (count - length bytes)))

-- What was given begins the message where it has no more bytes than that.
pub part-is : {L : Type 0} (tells : L → Bool) (given left : L → List ℕ) (old new : L) (bytes : List ℕ)
    → Gave tells given left old new bytes → (IsTrue (tells old) → length bytes ≤ own_size (left old))
    → GavePart tells given left old new (own_bytes (left old))
part-is tells given left old new bytes gave few t =
    let P : List ℕ → Type 0 = λ xs. IsPrefix bytes (take (own_size (left old)) xs) in
    (bytes, subst P (sym (gave t).1) (begins-front bytes (left new) (own_size (left old)) (few t)), (gave t).0, (gave t).1)

-- A message has at least the bytes of its header that are there.
said-at_least : (head : List ℕ) (r : Result Message Gap) → length head ≤ said_size head r
said-at_least head (Err (messages.Lacks more)) = omega arith
said-at_least head (Err messages.OtherMagic) = omega arith
said-at_least head (Err (messages.SmallSize size)) = omega arith
said-at_least head (Ok message) = omega arith

-- A first part of the header is one of the message.
pub header-part : {L : Type 0} (tells : L → Bool) (given left : L → List ℕ) (old new : L) (bytes : List ℕ)
    → Gave tells given left old new bytes → length bytes ≤ HEADER_BYTES
    → GavePart tells given left old new (own_bytes (left old))
header-part tells given left old new bytes gave few =
    part-is tells given left old new bytes gave
    (λ t. omega (
      arith,
      said-at_least (take HEADER_BYTES (left old)) (found (take HEADER_BYTES (left old))),
      length-take HEADER_BYTES (left old),
      ap (λ (xs : List ℕ). length xs) (gave t).1,
      length-append bytes (left new),
      few,
    ))

-- The header and a first part of what comes after it are one of the message.
pub later-part : {L : Type 0} (tells : L → Bool) (given left : L → List ℕ) (old mid new : L) (head head' more : List ℕ) (lacking : ℕ)
    → Gave tells given left old mid head → IsFull tells left old mid head HEADER_BYTES → tells mid ≡ tells old
    → Gave tells given left mid new more → length more ≤ lacking
    → head' ≡ head → length head' + lacking ≡ said_size head' (found head')
    → GavePart tells given left old new (own_bytes (left old))
later-part tells given left old mid new head head' more lacking gave full told gave' few same size =
    part-is tells given left old new (head ++ more) (both-gave tells given left old mid new head more gave told gave')
    (λ t. omega (arith, said-is tells given left old mid head head' lacking gave full same size t, length-append head more, few))

-- What it gave then and what it has left is what it had, where it gave a part of some bytes.
pub part-whole : {L : Type 0} (tells : L → Bool) (given left : L → List ℕ) (old new : L) (bytes : List ℕ) → GavePart tells given left old new bytes
    → IsTrue (tells old) → given new ++ left new ≡ given old ++ left old
part-whole tells given left old new bytes gave t =
    let part = gave t in
    ap (λ (xs : List ℕ). xs ++ left new) part.2 ∙ append_assoc (given old) part.0 (left new) ∙ ap (λ (xs : List ℕ). given old ++ xs) (sym part.3)
