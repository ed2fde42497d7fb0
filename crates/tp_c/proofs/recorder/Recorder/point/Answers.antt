use Rattle.std.proofs.Common.{◌≡◌, ℕ, List, [], ◌∷◌, ◌++◌, Some, refl, ap, sym, subst, ◌∙◌}
use Rattle.ep_defs.specs.Definitions.{definition_at}
use Rattle.ep_defs.specs.Entry.{Point}
use Rattle.nt_write.specs.Writer.{IsWriting, TookPart, point_of, sink_of}
use Rattle.tp_c.specs.declared.refusal.Refusal.TheVariants.{Cut}
use Rattle.tp_c.specs.Outgoing.{all_of}
use Rattle.tp_c.proofs.Recordings.{tells, by_writer, at-its-own, never-cut, pointed, broke-off}
use Rattle.tp_c.proofs.recorder.Recorder.point.Goals as goal

pub returns-in-Ok-clause-ok : goal.returns-in-Ok-clause-ok
returns-in-Ok-clause-ok c info entries pulled h =
    let old = c.args.self.now in
    let before = c.in-Open.writer in
    let after = c.point.new.self in
    let standing = by_writer info entries old.definitions old.stage before c.in-Open.is h.stands in
    pointed info entries pulled (point_of c.args.stamp old.threads) old _ before after h c.in-Open.is refl refl refl refl
    (λ table distinct has.
    subst (λ (ts : List (ℕ × ℕ)). IsWriting tells all_of [] table info (entries ++ Point (point_of c.args.stamp ts) ∷ []) after)
    (c.deref.ensures.value ∙ c.in_ok-roll.ensures.roll) (c.in-Ok.ensures.ok [] table info entries (standing table distinct has)))
    c.point.ensures.other_side

pub returns-in-Open-clause-cut : goal.returns-in-Open-clause-cut
returns-in-Open-clause-cut c info entries pulled h is_cut =
    let old = c.args.self.now in
    let before = c.in-Open.writer in
    let after = c.point.new.self in
    let standing = by_writer info entries old.definitions old.stage before c.in-Open.is h.stands in
    broke-off info entries (entries ++ Point (point_of c.args.stamp old.threads) ∷ []) pulled c.in-Err.field-0 old _ before after h c.in-Open.is refl c.in-Err.ensures.fails
    (subst (λ (ts : List (ℕ × ℕ)). TookPart tells all_of [] info (entries ++ Point (point_of c.args.stamp ts) ∷ []) (sink_of after))
    (c.deref.ensures.value ∙ c.in_ok-roll.ensures.roll)
    (c.in-Err.ensures.part [] (definition_at old.definitions) info entries (at-its-own info entries old.definitions before h.distinct standing)))
    c.point.ensures.other_side

pub returns-in-Some-clause-cut : goal.returns-in-Some-clause-cut
returns-in-Some-clause-cut c info entries pulled h is =
    let cut : c.in-Some.refusal ≡ Cut = cc in
    never-cut info entries pulled c.args.self.now h (sym c.in-Some.ensures ∙ ap Some cut)
