-- How what a link gave, and what an output took of it, grows by a read.
use Rattle.std.proofs.Common.{◌≡◌, ℕ, Bool, List, ◌++◌, take, drop, IsTrue, sym, ◌∙◌, ap, append_assoc}
use Rattle.std.proofs.lemmas.List.{take-append-drop, append_cancel_left}
use Rattle.pt_io.specs.Taken.{TookPartOf, TookAll, TookPart}
use Rattle.ipc_take.specs.Own.{own_size, own_bytes, later_bytes}
use Rattle.ipc_take.specs.Given.{Gave}

-- What a link gave and what it gave then.
pub gave-more : {L : Type 0} (tells : L → Bool) (given left : L → List ℕ) (old now new : L) (bytes more : List ℕ) → tells now ≡ tells old
    → Gave tells given left old now bytes
    → (IsTrue (tells now) → given new ≡ given now ++ more) → (IsTrue (tells now) → left now ≡ more ++ left new)
    → Gave tells given left old new (bytes ++ more)
gave-more tells given left old now new bytes more told gave g l t =
    let u : IsTrue (tells now) = rw told t in (
      g u ∙ ap (λ (xs : List ℕ). xs ++ more) (gave t).0 ∙ append_assoc (given old) bytes more,
      (gave t).1 ∙ ap (λ (xs : List ℕ). bytes ++ xs) (l u) ∙ sym (append_assoc bytes more (left new)),
    )

-- The output took what the link gave.
pub record HasCopied {L O : Type 0} (tells : L → Bool) (given left : L → List ℕ) (old now : L) (tells_taken : O → Bool) (taken : O → List ℕ) (out out' : O) : Type 0 where
  pub more : List ℕ
  pub gave : Gave tells given left old now more
  pub took : TookAll tells_taken taken out out' more

-- What took all and then a part took a part.
pub took-part-more : {O : Type 0} (tells : O → Bool) (taken : O → List ℕ) (old now new : O) (bytes piece : List ℕ) → tells now ≡ tells old
    → TookAll tells taken old now bytes → (IsTrue (tells now) → TookPartOf piece (taken now) (taken new)) → TookPart tells taken old new (bytes ++ piece)
took-part-more tells taken old now new bytes piece told all wrote t =
    let u : IsTrue (tells now) = rw told t in
    let p = wrote u in (
      bytes ++ p.0,
      (p.1.0, append_assoc bytes p.0 p.1.0 ∙ ap (λ (xs : List ℕ). bytes ++ xs) p.1.1),
      p.2 ∙ ap (λ (xs : List ℕ). xs ++ p.0) (all t) ∙ append_assoc (taken old) bytes p.0,
    )

-- What stands after the front is the rest.
rest-is : (bytes rest : List ℕ) (n : ℕ) → bytes ≡ take n bytes ++ rest → rest ≡ drop n bytes
rest-is bytes rest n e = append_cancel_left (take n bytes) rest (drop n bytes) (sym e ∙ sym (take-append-drop n bytes))

-- An output that took a part of what the link gave after the reply took a part of all that comes after it.
pub part-later : {L O : Type 0} (tells : L → Bool) (given left : L → List ℕ) (old mid new : L) (tells_taken : O → Bool) (taken : O → List ℕ) (out out' : O) (more : List ℕ)
    → Gave tells given left old mid (own_bytes (left old)) → tells mid ≡ tells old → Gave tells given left mid new more
    → TookPart tells_taken taken out out' more → IsTrue (tells old) → TookPart tells_taken taken out out' (later_bytes (left old))
part-later tells given left old mid new tells_taken taken out out' more gave told gave' took t s =
    let u : IsTrue (tells mid) = rw told t in
    let later : left mid ≡ later_bytes (left old) = rest-is (left old) (left mid) (own_size (left old)) (gave t).1 in
    let p = took s in
    (p.0, (p.1.0 ++ left new, sym (append_assoc p.0 p.1.0 (left new)) ∙ ap (λ (xs : List ℕ). xs ++ left new) p.1.1 ∙ sym (gave' u).1 ∙ later), p.2)
