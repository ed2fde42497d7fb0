-- What the threads of the examples come to, with a rundown and without.
use Rattle.std.proofs.Common.{Bool, ◌∷◌, [], refl}
use Rattle.ep_defs.specs.Samples.{config_p}
use Rattle.ep_model.specs.Schedules.{told_by, point_at, two_levels}
use Rattle.ep_live_laws.specs.Traced.{AreTraced}
use Rattle.ep_live_laws.specs.TwoThreads.{two_threads, two_marks, two_told}

pub are-traced : (rundown : Bool) → AreTraced two_levels (record (config_p 1) { rundown = rundown }) two_threads two_marks two_told
are-traced rundown =
    record {
      faithful = record {
        complete = (refl, (refl, tt));
        alone = (refl, (refl, (refl, (refl, (refl, tt)))));
        missing = (refl, (refl, tt));
        told = (refl, (refl, tt));
        front = told_by 1 1 100 [] ∷ point_at 150 ((1, 1) ∷ (2, 0) ∷ []) ∷ told_by 1 3 160 [] ∷ told_by 2 1 155 [] ∷ [];
        last = record { stamp = 200; threads = (1, 3) ∷ (2, 1) ∷ [] };
        ended = refl;
      };
      taken = (refl, (refl, tt));
      refused = (refl, (refl, tt));
    }
