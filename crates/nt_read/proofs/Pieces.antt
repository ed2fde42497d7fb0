-- Units that are cut, refusals, and what is answered of them.
use Rattle.std.proofs.Common.{◌≡◌, ◌≢◌, ℕ, Ok, Err, List, [], ◌++◌, length, take, drop, refl, sym, ap, ◌∙◌, append_assoc}
use Rattle.std.proofs.lemmas.List.{append-nil, take-append-drop}
use Rattle.ep_defs.specs.declared.item.Item.{Item}
use Rattle.nt_blocks.specs.Refusals.{Refusal}
use Rattle.nt_blocks.specs.Verdict.{Bad, More, verdict}
use Rattle.nt_read.specs.declared.fault.ReadFault.{ReadFault}
use Rattle.nt_read.specs.declared.stage.Stage.{Stage}
use Rattle.nt_read.specs.declared.stage.Stage.TheVariants as stage
use Rattle.nt_read.specs.Answers.{answer_of, end_answer, items_of}
use Rattle.nt_read.specs.Objects.{IsRefused}
use Rattle.nt_read.specs.Stages.{waiting}

-- The unit whose last bytes are these, before what follows it.
pub unit-front : (kept bytes more : List ℕ) (lacking : ℕ) → kept ++ (bytes ++ more) ≡ (kept ++ take lacking bytes) ++ (drop lacking bytes ++ more)
unit-front kept bytes more lacking =
    ap (λ (l : List ℕ). kept ++ (l ++ more)) (sym (take-append-drop lacking bytes))
    ∙ ap (λ (l : List ℕ). kept ++ l) (append_assoc (take lacking bytes) (drop lacking bytes) more)
    ∙ sym (append_assoc kept (take lacking bytes) (drop lacking bytes ++ more))

-- ---- a unit that is cut

pub items-waiting : (here : Stage) (told : List Item) → items_of (waiting here told) ≡ told
items-waiting stage.Head told = refl
items-waiting (stage.Tag has_trace) told = refl
items-waiting (stage.Begun has_trace) told = refl
items-waiting (stage.Name has_trace n version least) told = refl
items-waiting stage.Trace told = refl
items-waiting (stage.Size block) told = refl
items-waiting (stage.Padding block size) told = refl
items-waiting (stage.Body block size) told = refl
items-waiting stage.Close told = refl
items-waiting stage.Ended told = refl

pub answer-waiting : (here : Stage) (told : List Item) → answer_of (waiting here told) ≡ Ok tt
answer-waiting stage.Head told = refl
answer-waiting (stage.Tag has_trace) told = refl
answer-waiting (stage.Begun has_trace) told = refl
answer-waiting (stage.Name has_trace n version least) told = refl
answer-waiting stage.Trace told = refl
answer-waiting (stage.Size block) told = refl
answer-waiting (stage.Padding block size) told = refl
answer-waiting (stage.Body block size) told = refl
answer-waiting stage.Close told = refl
answer-waiting stage.Ended told = refl

pub waiting-more : (here : Stage) (told : List Item) → here ≢ stage.Ended → waiting here told ≡ More told
waiting-more stage.Head told other = refl
waiting-more (stage.Tag has_trace) told other = refl
waiting-more (stage.Begun has_trace) told other = refl
waiting-more (stage.Name has_trace n version least) told other = refl
waiting-more stage.Trace told other = refl
waiting-more (stage.Size block) told other = refl
waiting-more (stage.Padding block size) told other = refl
waiting-more (stage.Body block size) told other = refl
waiting-more stage.Close told other = refl
waiting-more stage.Ended told other = absurd (other refl)

pub waiting-not-bad : (here : Stage) (told items : List Item) (why : Refusal) → waiting here told ≡ Bad why items → ⊥
waiting-not-bad stage.Head told items why e = cc
waiting-not-bad (stage.Tag has_trace) told items why e = cc
waiting-not-bad (stage.Begun has_trace) told items why e = cc
waiting-not-bad (stage.Name has_trace n version least) told items why e = cc
waiting-not-bad stage.Trace told items why e = cc
waiting-not-bad (stage.Size block) told items why e = cc
waiting-not-bad (stage.Padding block size) told items why e = cc
waiting-not-bad (stage.Body block size) told items why e = cc
waiting-not-bad stage.Close told items why e = cc
waiting-not-bad stage.Ended told items why e = cc

-- ---- a unit that is refused

pub refused-verdict : (bytes : List ℕ) (refused : ReadFault) (is : IsRefused bytes refused) → verdict bytes ≡ Bad is.why is.told
refused-verdict bytes refused is = ap verdict (sym (append-nil bytes)) ∙ is.goes []

pub refused-answer : (bytes : List ℕ) (refused : ReadFault) → IsRefused bytes refused → Err refused ≡ answer_of (verdict bytes)
refused-answer bytes refused is = ap (λ (f : ReadFault). Err f) is.is ∙ sym (ap answer_of (refused-verdict bytes refused is))

pub ends-refused : (bytes : List ℕ) (refused : ReadFault) → IsRefused bytes refused → Err refused ≡ end_answer (length bytes) (verdict bytes)
ends-refused bytes refused is =
    ap (λ (f : ReadFault). Err f) is.is ∙ sym (ap (end_answer (length bytes)) (refused-verdict bytes refused is))

pub same-refusal : (why other : Refusal) (told items : List Item) → Bad why told ≡ Bad other items → why ≡ other
same-refusal why other told items e = cc
