-- What was read of a text, with a byte more and at its end.
use Rattle.std.proofs.Common.{◌≡◌, ℕ, ◌+◌, ◌<◌, ◌≤◌, true, List, [], ◌∷◌, ◌++◌, length, Option, Some, None, refl, sym, ap, ◌∙◌, subst, inl, inr, append_assoc, arith, length-append}
use Rattle.std.specs.Prelude.{IsTrue, ◌≢◌, is_some}
use Rattle.std.proofs.lemmas.Bool.{lt-ltb}
use Rattle.std.proofs.lemmas.List.{append-nil}
use Rattle.std.proofs.lemmas.List.Folds.{list_all-append}
use Rattle.ep_plan.specs.declared.line.Line.{Line}
use Rattle.ep_plan.specs.Lines.{bad_of}
use Rattle.ep_plan.specs.declared.line.LineKind.TheVariants.{Long}
use Rattle.pt_replay.specs.declared.errors.Refusal.{Refusal}
use Rattle.pt_replay.specs.declared.errors.Reason.TheVariants as reason
use Rattle.pt_replay.specs.declared.schedule.Schedule.{Schedule}
use Rattle.ep_plan.specs.declared.limits.TheConstants.{LINE_BYTES}
use Rattle.pt_replay.specs.Text.{lines_of}
use Rattle.pt_replay.specs.Schedule.{bad_after, Takes, Refuses, AreGood, HaveRefused, IsSchedule, IsRefused}
use Rattle.pt_replay.specs.Reading.{HasTaken, IsLineJudged, is_line, AreGoodSoFar, IsSoFar, IsJudgedAs}
use Rattle.pt_replay.proofs.TextLines.{Begins, lines_of-feed, lines_of-begins, lines_of-one}

-- Where no line is refused the bytes are good so far.
pub so_far-good : (bytes : List ℕ) (schedule : Schedule) (part : List ℕ) (refusal : Option Refusal) → refusal ≡ None → IsSoFar bytes schedule part refusal → AreGoodSoFar bytes schedule part
so_far-good bytes schedule part None none so_far = so_far
so_far-good bytes schedule part (Some refusal) none so_far = cc

-- Where no line is refused the bytes are a schedule.
pub good-judged : (bytes : List ℕ) (schedule : Schedule) (refusal : Option Refusal) → refusal ≡ None → (lines : List Line) → IsSchedule bytes lines → HasTaken lines schedule → IsJudgedAs bytes schedule refusal
good-judged bytes schedule None none lines is stands = (lines, is, stands)
good-judged bytes schedule (Some refusal) none lines is stands = cc

-- And back.
pub judged-good : (bytes : List ℕ) (schedule : Schedule) (refusal : Option Refusal) → refusal ≡ None → IsJudgedAs bytes schedule refusal → (lines : List Line) × IsSchedule bytes lines × HasTaken lines schedule
judged-good bytes schedule None none judged = judged
judged-good bytes schedule (Some refusal) none judged = cc

-- At the end what was refused stays so.
pub refused-judged : (bytes : List ℕ) (schedule : Schedule) (part : List ℕ) (refusal : Option Refusal) → is_some refusal ≡ true → IsSoFar bytes schedule part refusal → IsJudgedAs bytes schedule refusal
refused-judged bytes schedule part None some so_far = cc
refused-judged bytes schedule part (Some refusal) some so_far = subst (λ bs. IsRefused bs refusal) (append-nil bytes) (so_far [])

-- The lines of bytes that begin with a part of a line.
lines_of-part : (part rest : List ℕ) → IsTrue (is_line part) → 0 < length part → Begins part (lines_of (part ++ rest))
lines_of-part [] rest no_feed some = let not : ⊥ = omega arith in absurd not
lines_of-part (b ∷ part) rest no_feed some = lines_of-begins b part rest no_feed

-- A line that is too long is refused for that, whatever it is.
long-bad : (lines : List Line) (text : List ℕ) → LINE_BYTES < length text → bad_after lines text ≡ Some (record { column = 1; kind = Long })
unfolding bad_of
long-bad lines text long = rw (lt-ltb LINE_BYTES (length text) long) refl

module _ (bytes : List ℕ) (schedule : Schedule) (part : List ℕ) (so_far : AreGoodSoFar bytes schedule part) where
  -- A text behind the bytes is the first of what follows.
  good-more : (text rest : List ℕ) (after : List Line) → AreGood so_far.lines (lines_of (part ++ (text ++ rest))) after → IsSchedule ((bytes ++ text) ++ rest) after
  good-more text rest after good =
      subst (λ bs. IsSchedule bs after) (sym (append_assoc bytes text rest)) (so_far.good (text ++ rest) after good)

  refused-more : (text rest : List ℕ) (refusal : Refusal) → HaveRefused so_far.lines (lines_of (part ++ (text ++ rest))) refusal → IsRefused ((bytes ++ text) ++ rest) refusal
  refused-more text rest refusal refused =
      subst (λ bs. IsRefused bs refusal) (sym (append_assoc bytes text rest)) (so_far.refused (text ++ rest) refusal refused)

  -- More of the part.
  no_feed-more : (text : List ℕ) → IsTrue (is_line text) → IsTrue (is_line (part ++ text))
  no_feed-more text line = rw (list_all-append, so_far.no_feed, line) refl

  pub read-text : (text : List ℕ) → IsTrue (is_line text) → length part + length text ≤ LINE_BYTES → AreGoodSoFar (bytes ++ text) schedule (part ++ text)
  read-text text line short =
      record {
        lines = so_far.lines;
        stands = so_far.stands;
        good = λ rest after good. good-more text rest after (subst (λ bs. AreGood so_far.lines (lines_of bs) after) (append_assoc part text rest) good);
        refused = λ rest refusal refused. refused-more text rest refusal (subst (λ bs. HaveRefused so_far.lines (lines_of bs) refusal) (append_assoc part text rest) refused);
        no_feed = no_feed-more text line;
        short = omega (arith, length-append part text);
      }

  -- A part that is too long is refused, whatever follows.
  pub read-long : (text : List ℕ) → IsTrue (is_line text) → LINE_BYTES < length part + length text → (rest : List ℕ) → IsRefused ((bytes ++ text) ++ rest) (record { line = schedule.lines + 1; column = 1; reason = reason.Line Long })
  read-long text line long rest =
      let some : 0 < length (part ++ text) = omega (arith, length-append part text) in
      let begins = lines_of-part (part ++ text) rest (no_feed-more text line) some in
      let split : lines_of (part ++ (text ++ rest)) ≡ ((part ++ text) ++ begins.rest) ∷ begins.later =
      ap lines_of (sym (append_assoc part text rest)) ∙ begins.are in
      let above : LINE_BYTES < length ((part ++ text) ++ begins.rest) =
      omega (arith, length-append part text, length-append (part ++ text) begins.rest) in
      let refusal : Refusal = record { line = schedule.lines + 1; column = 1; reason = reason.Line Long } in
      let number : schedule.lines + 1 ≡ length so_far.lines + 1 = ap (λ n. n + 1) so_far.stands.count in
      refused-more text rest refusal
      (subst (λ ls. HaveRefused so_far.lines ls refusal) (sym split)
      (inl (record { number = number; why = long-bad so_far.lines ((part ++ text) ++ begins.rest) above })))

  -- A line feed ends a good line.
  pub read-line : (line : Line) (next : Schedule) → Takes so_far.lines part line → HasTaken (line ∷ so_far.lines) next → AreGoodSoFar (bytes ++ 10 ∷ []) next []
  read-line line next takes stands =
      record {
        lines = line ∷ so_far.lines;
        stands = stands;
        good = λ rest after good. good-more (10 ∷ []) rest after (subst (λ ls. AreGood so_far.lines ls after) (sym (lines_of-feed part rest so_far.no_feed)) (line, takes, good));
        refused = λ rest refusal refused. refused-more (10 ∷ []) rest refusal (subst (λ ls. HaveRefused so_far.lines ls refusal) (sym (lines_of-feed part rest so_far.no_feed)) (inr (line, takes, refused)));
        no_feed = refl;
        short = omega arith;
      }

  -- A line feed ends a line that is refused.
  pub read-refused : (refusal : Refusal) → Refuses so_far.lines part refusal → (rest : List ℕ) → IsRefused (bytes ++ 10 ∷ [] ++ rest) refusal
  read-refused refusal refuses rest =
      refused-more (10 ∷ []) rest refusal (subst (λ ls. HaveRefused so_far.lines ls refusal) (sym (lines_of-feed part rest so_far.no_feed)) (inl refuses))

  -- A line feed ends a line that is judged.
  pub read-judged : (next : Schedule) (refusal : Option Refusal) → IsLineJudged so_far.lines part next refusal → IsSoFar (bytes ++ 10 ∷ []) next [] refusal
  read-judged next None judged = read-line judged.0 next judged.1 judged.2
  read-judged next (Some refusal) refuses = read-refused refusal refuses

  -- The end of the text ends a line.
  last-line : part ≢ [] → lines_of (part ++ []) ≡ part ∷ []
  last-line some = ap lines_of (append-nil part) ∙ lines_of-one part so_far.no_feed some

  pub last-good : (line : Line) → part ≢ [] → Takes so_far.lines part line → IsSchedule bytes (line ∷ so_far.lines)
  last-good line some takes =
      subst (λ bs. IsSchedule bs (line ∷ so_far.lines)) (append-nil bytes)
      (so_far.good [] (line ∷ so_far.lines) (subst (λ ls. AreGood so_far.lines ls (line ∷ so_far.lines)) (sym (last-line some)) (line, takes, refl)))

  pub last-refused : (refusal : Refusal) → part ≢ [] → Refuses so_far.lines part refusal → IsRefused bytes refusal
  last-refused refusal some refuses =
      subst (λ bs. IsRefused bs refusal) (append-nil bytes)
      (so_far.refused [] refusal (subst (λ ls. HaveRefused so_far.lines ls refusal) (sym (last-line some)) (inl refuses)))

  pub last-judged : (next : Schedule) (refusal : Option Refusal) → part ≢ [] → IsLineJudged so_far.lines part next refusal → IsJudgedAs bytes next refusal
  last-judged next None some judged = (judged.0 ∷ so_far.lines, last-good judged.0 some judged.1, judged.2)
  last-judged next (Some refusal) some refuses = last-refused refusal some refuses

  -- The end of the text behind a line feed.
  pub last-none : part ≡ [] → IsSchedule bytes so_far.lines
  last-none none =
      subst (λ bs. IsSchedule bs so_far.lines) (append-nil bytes)
      (so_far.good [] so_far.lines (subst (λ bs. AreGood so_far.lines (lines_of (bs ++ [])) so_far.lines) (sym none) refl))

-- A line that came at once, behind a line feed.
pub read-whole : (bytes : List ℕ) (schedule : Schedule) (so_far : AreGoodSoFar bytes schedule []) (text : List ℕ) → IsTrue (is_line text) → length text ≤ LINE_BYTES → (next : Schedule) (refusal : Option Refusal) → IsLineJudged so_far.lines text next refusal
    → IsSoFar ((bytes ++ text) ++ 10 ∷ []) next [] refusal
unfolding read-text
read-whole bytes schedule so_far text line short next refusal judged =
    let fits : 0 + length text ≤ LINE_BYTES = omega (arith, short) in
    read-judged (bytes ++ text) schedule text (read-text bytes schedule [] so_far text line fits) next refusal judged

-- What was refused stays so.
pub refused-on : (bytes text : List ℕ) (schedule : Schedule) (part : List ℕ) (refusal : Option Refusal) → is_some refusal ≡ true → IsSoFar bytes schedule part refusal → IsSoFar (bytes ++ text) schedule part refusal
refused-on bytes text schedule part None some so_far = cc
refused-on bytes text schedule part (Some refusal) some so_far = λ rest. subst (λ bs. IsRefused bs refusal) (sym (append_assoc bytes text rest)) (so_far (text ++ rest))
