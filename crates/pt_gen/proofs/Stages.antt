-- Each step is the first of those to come, and what comes then is the rest.
use Rattle.std.proofs.Common.{sym, ◌≡◌, ℕ, suc, ◌+◌, ◌-◌, ◌<◌, cond, List, [], ◌∷◌, ◌++◌, map, append_assoc, refl, ap, ◌∙◌, arith}
use Rattle.std.specs.Prelude.{filter}
use Rattle.std.specs.List.{flat_map, range_with_len}
use Rattle.ep_model.specs.declared.step.Step.{Step}
use Rattle.ep_model.specs.declared.step.Step.TheVariants as step
use Rattle.pt_gen.specs.declared.limits.TheConstants.{NARROW, WIDE}
use Rattle.pt_gen.specs.declared.session.Session.TheVariants.{Wide}
use Rattle.pt_gen.specs.declared.stage.Stage.TheVariants as stage
use Rattle.pt_gen.specs.Schedule.{closing, gets, made, round_at, sweep_after, thread_at, write_at}
use Rattle.pt_gen.specs.state.ToCome.{rounds_from, to_come}
use Rattle.pt_gen.proofs.Turns.{wide_gets}

-- the first of some numbers in a row
range_first : (first end count rest : ℕ) → count ≡ end - first → first < end → rest ≡ end - (first + 1)
    → range_with_len first count ≡ first ∷ range_with_len (first + 1) rest
range_first first end count rest is inside is_rest = rw (let e : count ≡ suc rest = omega arith in e) refl

-- a round in its parts
round_parts : (begin show end : Step) (shows swept more last : List Step)
    → (((begin ∷ show ∷ shows ++ end ∷ []) ++ swept) ++ more) ++ last ≡ begin ∷ show ∷ shows ++ (end ∷ swept ++ (more ++ last))
round_parts begin show end shows swept more last = simp append_assoc

-- The first session is shown each write.
pub begin_next : (seed rounds round : ℕ) → round < rounds
    → to_come seed rounds (stage.Begin round) ≡ step.Begin (thread_at seed round) round (write_at seed round) ∷ to_come seed rounds (stage.Show round Wide)
begin_next seed rounds round inside =
    ap (λ rs. flat_map (round_at seed) rs ++ closing rounds) (range_first round rounds (rounds - round) (rounds - (round + 1)) refl inside refl)
    ∙ ap
    (λ first.
    (((step.Begin (thread_at seed round) round (write_at seed round) ∷ []
    ++ map (λ s. step.Show (thread_at seed round) s) (cond first (WIDE ∷ filter (gets (write_at seed round)) (NARROW ∷ [])) (filter (gets (write_at seed round)) (NARROW ∷ []))))
    ++ step.End (thread_at seed round) ∷ [])
    ++ sweep_after (round + 1)
    ++ flat_map (round_at seed) (range_with_len (round + 1) (rounds - (round + 1))))
    ++ closing rounds)
    (wide_gets seed round)
    ∙ round_parts _ _ _ _ _ _ _

-- the steps of a write, and what comes behind them
write_parts : (whole swept more last : List Step) → ((whole ++ swept) ++ more) ++ last ≡ whole ++ (swept ++ (more ++ last))
write_parts whole swept more last = simp append_assoc

-- All steps of a write come at once.
pub write_next : (seed rounds round : ℕ) (later : List Step) → round < rounds → later ≡ sweep_after (round + 1) ++ rounds_from seed rounds (round + 1)
    → to_come seed rounds (stage.Begin round) ≡ made (thread_at seed round) round (write_at seed round) ++ later
write_next seed rounds round later inside is =
    ap (λ rs. flat_map (round_at seed) rs ++ closing rounds) (range_first round rounds (rounds - round) (rounds - (round + 1)) refl inside refl)
    ∙ write_parts (made (thread_at seed round) round (write_at seed round)) (sweep_after (round + 1)) (flat_map (round_at seed) (range_with_len (round + 1) (rounds - (round + 1)))) (closing rounds)
    ∙ ap (λ xs. made (thread_at seed round) round (write_at seed round) ++ xs) (sym is)
