use Rattle.std.proofs.Common.{◌≡◌, ℕ, ◌-◌, List, length, take, drop, ap, arith}
use Rattle.std.proofs.lemmas.List.{take_all, length-drop}
use Rattle.std.specs.Prelude.{is_err}
use Rattle.pt_num.specs.Steps.{or_else_fault}
use Rattle.pt_num.specs.Fields.{Field}
use Rattle.nt_meta.specs.Reading.{Cut, text_at}
use Rattle.nt_meta.proofs.cursor.Cursor.text.Goals as goal

pub returns-in_ok-units-in-Units : goal.returns-in_ok-units-in-Units
unfolding text_at
returns-in_ok-units-in-Units c =
    let bytes : List ℕ = c.args.self.now.rest.now in
    let all : take (length bytes - c.in-Units.used) (drop c.in-Units.used bytes) ≡ drop c.in-Units.used bytes = take_all (length bytes - c.in-Units.used) (drop c.in-Units.used bytes) (omega (arith, length-drop c.in-Units.used bytes)) in
    rw (all, c.in_ok-units-in-Units.ensures) (ap (λ (field : Field (List ℕ)). or_else_fault field Cut) (c.in-Units.ensures.read.2))

pub returns-in-Short : goal.returns-in-Short
unfolding text_at
returns-in-Short c =
    ap (λ (field : Field (List ℕ)). is_err (or_else_fault field Cut)) c.in-Short.ensures.read
