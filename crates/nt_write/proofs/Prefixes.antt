-- What a sink took, and what is a part of it.
use Rattle.std.proofs.Common.{◌≡◌, ℕ, Bool, List, [], ◌++◌, refl, ap, sym, ◌∙◌, subst, append_assoc}
use Rattle.std.proofs.lemmas.List.{append-nil}
use Rattle.std.specs.Prelude.{IsTrue}
use Rattle.pt_io.specs.Taken.{IsPrefix, TookPartOf}
use Rattle.nt_write.specs.Writing.{TookAll, TookSome}

-- A list begins itself.
pub prefix-same : (bytes : List ℕ) → IsPrefix bytes bytes
prefix-same bytes = ([], append-nil bytes)

-- A list begins what it becomes by more at its end.
pub prefix-more : (bytes more : List ℕ) → IsPrefix bytes (bytes ++ more)
prefix-more bytes more = (more, refl)

-- What begins the beginning begins the whole.
pub prefix-longer : (part bytes more : List ℕ) → IsPrefix part bytes → IsPrefix bytes more → IsPrefix part more
prefix-longer part bytes more p q =
    (p.0 ++ q.0, sym (append_assoc part p.0 q.0) ∙ ap (λ x. x ++ q.0) p.1 ∙ q.1)

-- The same bytes may stand before both.
pub prefix-behind : (first part bytes : List ℕ) → IsPrefix part bytes → IsPrefix (first ++ part) (first ++ bytes)
prefix-behind first part bytes p = (p.0, append_assoc first part p.0 ∙ ap (λ x. first ++ x) p.1)

-- All is some.
pub some-all : {S : Type 0} (tells : S → Bool) (taken : S → List ℕ) (start bytes : List ℕ) (sink : S) → TookAll tells taken start bytes sink → TookSome tells taken start bytes sink
some-all tells taken start bytes sink t = record { some = λ h. (bytes, prefix-same bytes, t.all h) }

-- A part of the beginning is a part of the whole.
pub some-longer : {S : Type 0} (tells : S → Bool) (taken : S → List ℕ) (start bytes more : List ℕ) (sink : S) → IsPrefix bytes more → TookSome tells taken start bytes sink → TookSome tells taken start more sink
some-longer tells taken start bytes more sink p t =
    record { some = λ h. let s = t.some h in (s.0, prefix-longer s.0 bytes more s.1 p, s.2) }

-- A piece that the sink took whole.
pub took-more : {S : Type 0} (tells : S → Bool) (taken : S → List ℕ) (start bytes piece : List ℕ) (old new : S) → TookAll tells taken start bytes old → tells new ≡ tells old → (IsTrue (tells old) → taken new ≡ taken old ++ piece) → TookAll tells taken start (bytes ++ piece) new
took-more tells taken start bytes piece old new t told e =
    record {
      all =
          λ h. let k = subst (λ (b : Bool). IsTrue b) told h in e k ∙ ap (λ x. x ++ piece) (t.all k) ∙ append_assoc start bytes piece;
    }

-- A piece of which the sink took a part.
pub took-part : {S : Type 0} (tells : S → Bool) (taken : S → List ℕ) (start bytes piece : List ℕ) (old new : S) → TookAll tells taken start bytes old → tells new ≡ tells old → (IsTrue (tells old) → TookPartOf piece (taken old) (taken new)) → TookSome tells taken start (bytes ++ piece) new
took-part tells taken start bytes piece old new t told e =
    record {
      some =
          λ h.
          let k = subst (λ (b : Bool). IsTrue b) told h in
          let p = e k in
          (bytes ++ p.0, prefix-behind bytes p.0 piece p.1, p.2 ∙ ap (λ x. x ++ p.0) (t.all k) ∙ append_assoc start bytes p.0);
    }

-- A sink that took nothing took a part of anything.
pub some-none : {S : Type 0} (tells : S → Bool) (taken : S → List ℕ) (bytes : List ℕ) (sink : S) → TookSome tells taken (taken sink) bytes sink
some-none tells taken bytes sink =
    record { some = λ h. ([], (bytes, refl), sym (append-nil (taken sink))) }
