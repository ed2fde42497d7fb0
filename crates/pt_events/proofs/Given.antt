-- What an input gives in several reads.
use Rattle.std.proofs.Common.{◌≡◌, ℕ, ◌+◌, List, [], ◌++◌, length, refl, sym, ap, ◌∙◌, subst, append_assoc, length-append, arith}
use Rattle.std.specs.Prelude.{IsTrue}
use Rattle.std.proofs.lemmas.List.{append-nil}
use Rattle.pt_io.specs.declared.source.Source.{Ghosts as Source}
use Rattle.pt_command.specs.Input.{ReadWhole}
use Rattle.pt_events.specs.Command.{Gave}

-- It gave nothing yet.
pub gave-nothing : {I : Type 0} (source : Source I) (old : I) → Gave source old old []
gave-nothing source old =
    record {
      given = λ tells. sym (append-nil (source.given old));
      left = λ tells. refl;
      counted = omega arith;
    }

-- It gave a piece more.
pub gave-more : {I : Type 0} (source : Source I) (old mid new : I) (bytes piece : List ℕ)
    → source.tells_given mid ≡ source.tells_given old → Gave source old mid bytes
    → (IsTrue (source.tells_given mid) → source.given new ≡ source.given mid ++ piece)
    → (IsTrue (source.tells_given mid) → source.left mid ≡ piece ++ source.left new)
    → source.may_give new + length piece ≡ source.may_give mid
    → Gave source old new (bytes ++ piece)
gave-more source old mid new bytes piece told gave given left counted =
    record {
      given = λ tells.
          given (subst (λ b. IsTrue b) (sym told) tells)
          ∙ ap (λ (all : List ℕ). all ++ piece) (gave.given tells)
          ∙ append_assoc (source.given old) bytes piece;
      left = λ tells.
          gave.left tells
          ∙ ap (λ (rest : List ℕ). bytes ++ rest) (left (subst (λ b. IsTrue b) (sym told) tells))
          ∙ sym (append_assoc bytes piece (source.left new));
      counted = omega (arith, gave.counted, counted, length-append bytes piece);
    }

-- A read that found the end gave nothing more.
pub gave-end : {I : Type 0} (source : Source I) (old new : I) (bytes piece : List ℕ) → piece ≡ [] → Gave source old new (bytes ++ piece) → Gave source old new bytes
gave-end source old new bytes piece none gave =
    subst (λ (all : List ℕ). Gave source old new all) (ap (λ (p : List ℕ). bytes ++ p) none ∙ append-nil bytes) gave

-- A read that gave nothing changed nothing that it tells.
pub gave-same : {I : Type 0} (source : Source I) (old mid new : I) (bytes : List ℕ)
    → source.tells_given mid ≡ source.tells_given old → Gave source old mid bytes
    → (IsTrue (source.tells_given mid) → source.given new ≡ source.given mid)
    → (IsTrue (source.tells_given mid) → source.left new ≡ source.left mid)
    → source.may_give new ≡ source.may_give mid
    → Gave source old new (bytes ++ [])
gave-same source old mid new bytes told gave given left counted =
    subst (λ (all : List ℕ). Gave source old new all) (sym (append-nil bytes))
    (record {
      given = λ tells. given (subst (λ b. IsTrue b) (sym told) tells) ∙ gave.given tells;
      left = λ tells. gave.left tells ∙ ap (λ (rest : List ℕ). bytes ++ rest) (sym (left (subst (λ b. IsTrue b) (sym told) tells)));
      counted = omega (arith, gave.counted, counted);
    })

-- Where a read found the end and gave nothing, nothing is left.
pub nothing-left : {I : Type 0} (source : Source I) (mid new : I) (piece : List ℕ) → piece ≡ [] → source.left mid ≡ [] → source.left mid ≡ piece ++ source.left new → source.left new ≡ []
nothing-left source mid new piece nothing none left = sym (ap (λ (p : List ℕ). p ++ source.left new) nothing) ∙ sym left ∙ none

-- It was read to its end.
pub whole-gave : {I : Type 0} (source : Source I) (old new : I) (bytes : List ℕ) → Gave source old new bytes → (IsTrue (source.tells_given old) → source.left new ≡ []) → ReadWhole source old new bytes
whole-gave source old new bytes gave end =
    record {
      told = λ tells. (
        gave.left tells ∙ ap (λ (rest : List ℕ). bytes ++ rest) (end tells) ∙ append-nil bytes,
        end tells,
        gave.given tells,
      );
      counted = gave.counted;
    }

pub gave-whole : {I : Type 0} (source : Source I) (old new : I) (bytes : List ℕ) → ReadWhole source old new bytes → Gave source old new (bytes ++ [])
gave-whole source old new bytes whole =
    subst (λ (all : List ℕ). Gave source old new all) (sym (append-nil bytes))
    (record {
      given = λ tells. (whole.told tells).2;
      left = λ tells.
          (whole.told tells).0
          ∙ sym (append-nil bytes)
          ∙ ap (λ (rest : List ℕ). bytes ++ rest) (sym (whole.told tells).1);
      counted = whole.counted;
    })
