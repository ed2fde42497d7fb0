-- What stands before a line feed was taken, and then what stands behind the last one.
use Rattle.std.proofs.Common.{◌≡◌, [], ◌∷◌, ◌++◌, length, take, drop, ◌-◌, ◌+◌, Some, None, List, ℕ, ap, ◌∙◌, subst, append_assoc, arith, OnOk}
use Rattle.std.specs.Prelude.{IsTrue}
use Rattle.std.proofs.Math.Seq.{take-length}
use Rattle.memchr.specs.Find.{IsFirstByte, is_byte}
use Rattle.pt_replay.specs.Reading.{HasRead, is_line, used}
use Rattle.pt_replay.proofs.TextLines.{line-before, rest-behind, counted-behind}
use Rattle.pt_replay.proofs.text.ReaderReads.take.Goals as goal

pub take_line-requires-clause-no_feed : goal.take_line-requires-clause-no_feed
take_line-requires-clause-no_feed c =
    let found : IsFirstByte (is_byte 10) c.lines.rest.now (Some c.in-Some.end) = c.in-Some.ensures in
    line-before c.lines.rest.now c.in-Some.end (omega (arith, found.0.high)) found.0.before

pub lines-preserved : goal.lines-preserved
lines-preserved c =
    let rest = c.lines.rest.now in
    let end = c.in-Some.end in
    let before = c.lines.invariant in
    let found : IsFirstByte (is_byte 10) rest (Some end) = c.in-Some.ensures in
    let first : List ℕ = take end rest in
    let behind : List ℕ = take (length rest - (end + 1)) (drop (end + 1) rest) in
    record {
      some = ((before.some.0 ++ first) ++ 10 ∷ [], c.in_ok-take_line.ensures.read before.some.0 before.some.1);
      read = λ bytes read.
          let was = before.read bytes read in
          let now = c.in_ok-take_line.ensures.read (bytes ++ was.0) was.2 in (
            was.0 ++ (first ++ 10 ∷ []),
            append_assoc was.0 (first ++ 10 ∷ []) behind ∙ ap (λ (r : List ℕ). was.0 ++ r) (rest-behind rest end found) ∙ was.1,
            subst (λ bs. HasRead bs c.take_line.new.self) (append_assoc (bytes ++ was.0) first (10 ∷ []) ∙ append_assoc bytes was.0 (first ++ 10 ∷ [])) now,
          );
      counted = counted-behind rest end found (used c.lines.self) (used c.take_line.new.self) _ before.counted c.in_ok-take_line.ensures.counted;
    }

pub take_part-requires-clause-no_feed : goal.take_part-requires-clause-no_feed
take_part-requires-clause-no_feed c =
    let rest = c.lines.rest.now in
    let none : IsFirstByte (is_byte 10) rest None = rw c.in_default.is at c.memchr.ensures in
    subst (λ text. IsTrue (is_line text)) (take-length rest) (line-before rest (length rest) (omega arith) none)

pub returns-clause-read : goal.returns-clause-read
returns-clause-read c = λ bytes read.
    let was = c.lines.invariant.read bytes read in
    subst (λ bs. OnOk c.take_part.result (HasRead bs c.take_part.new.self)) (append_assoc bytes was.0 c.lines.rest.now ∙ ap (λ (r : List ℕ). bytes ++ r) was.1)
    (c.take_part.ensures.read (bytes ++ was.0) was.2)
