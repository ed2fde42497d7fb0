-- What an output takes in several writes.
use Rattle.std.proofs.Common.{◌≡◌, ℕ, List, [], ◌++◌, refl, sym, ap, ◌∙◌, subst, append_assoc}
use Rattle.std.specs.Prelude.{Bool, IsTrue}
use Rattle.std.proofs.lemmas.List.{append-nil}
use Rattle.pt_io.specs.declared.sink.Sink.{Ghosts as Sink}
use Rattle.pt_io.specs.Faults.{HasRisen}
use Rattle.pt_command.specs.Says.{TookText, BrokeOff}
use Rattle.pt_lines.specs.declared.form.Form.{Form}
use Rattle.pt_lines.specs.Around.{shown}

-- It took nothing yet.
pub took-nothing : {O : Type 0} (sink : Sink O) (old : O) → TookText sink old old []
took-nothing sink old = record { took = λ tells. sym (append-nil (sink.taken old)); sound = refl }

-- It took a text and then another.
pub took-more : {O : Type 0} (sink : Sink O) (old mid new : O) (first second : List ℕ) → sink.tells_taken mid ≡ sink.tells_taken old → TookText sink old mid first → TookText sink mid new second → TookText sink old new (first ++ second)
took-more sink old mid new first second told one two =
    record {
      took = λ tells.
          two.took (subst (λ b. IsTrue b) (sym told) tells)
          ∙ ap (λ (taken : List ℕ). taken ++ second) (one.took tells)
          ∙ append_assoc (sink.taken old) first second;
      sound = two.sound ∙ one.sound;
    }

-- It took a text, and then a write failed.
pub broke-more : {O : Type 0} (sink : Sink O) (old mid new : O) (first second : List ℕ) → sink.tells_taken mid ≡ sink.tells_taken old → TookText sink old mid first → BrokeOff sink mid new second → BrokeOff sink old new (first ++ second)
broke-more sink old mid new first second told one two =
    record {
      part = λ tells.
          let took = two.part (subst (λ b. IsTrue b) (sym told) tells) in (
            first ++ took.0,
            (took.1.0, append_assoc first took.0 took.1.0 ∙ ap (λ (rest : List ℕ). first ++ rest) took.1.1),
            took.2
                ∙ ap (λ (taken : List ℕ). taken ++ took.0) (one.took tells)
                ∙ append_assoc (sink.taken old) first took.0,
          );
      fault = subst (λ (n : ℕ). HasRisen n (sink.write_faults new)) one.sound two.fault;
    }

-- Lines that were put behind none that were kept.
pub more-is : {given out kept more : List ℕ} → given ≡ out → out ≡ kept ++ more → kept ≡ [] → given ≡ more
more-is {given} {out} {kept} {more} is put none = is ∙ put ∙ ap (λ (xs : List ℕ). xs ++ more) none

-- What is shown of them.
pub shown-is : (form : Form) {is-first first : Bool} {given more text : List ℕ} → text ≡ shown form is-first given → is-first ≡ first → given ≡ more → text ≡ shown form first more
shown-is form {is-first} {first} {given} {more} {text} is begun same =
    is
    ∙ ap (λ (b : Bool). shown form b given) begun
    ∙ ap (λ (xs : List ℕ). shown form first xs) same

-- Some bytes that are none were taken where nothing was written.
pub took-none : {O : Type 0} (sink : Sink O) (old : O) (text : List ℕ) → text ≡ [] → TookText sink old old text
took-none sink old text none = subst (λ (t : List ℕ). TookText sink old old t) (sym none) (took-nothing sink old)
