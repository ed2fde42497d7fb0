-- What is answered of such a command, as texts.
use Rattle.std.specs.Prelude.{ℕ, List, Option, Some, None, option_map, codes}
use Rattle.pt_words.specs.Run.{RunTexts}
use Rattle.pt_words.specs.declared.run.Run.{Run}

-- The texts of a parsed line.
abbrev pub texts_of : Run → RunTexts
texts_of run =
    record {
      threads = run.threads.now;
      writes = run.writes.now;
      seed = option_map (λ text. text.now) run.seed;
      wait = option_map (λ text. text.now) run.wait;
      streamers = option_map (λ text. text.now) run.streamers;
      lives = option_map (λ text. text.now) run.lives;
      reverse = option_map (λ text. text.now) run.reverse;
      calls = option_map (λ text. text.now) run.calls;
    }

-- Two texts, where each is there, with those of the options.
abbrev pub texts_from : (threads writes seed wait streamers lives reverse calls : Option (List ℕ)) → Option RunTexts
texts_from (Some threads) (Some writes) seed wait streamers lives reverse calls =
    Some (record {
      threads = threads;
      writes = writes;
      seed = seed;
      wait = wait;
      streamers = streamers;
      lives = lives;
      reverse = reverse;
      calls = calls;
    })
texts_from threads writes seed wait streamers lives reverse calls = None

-- The same by the text that is found of each name.
abbrev pub run_from : (List ℕ → Option (List ℕ)) → Option RunTexts
run_from found =
    texts_from (found (codes "one")) (found (codes "two")) (found (codes "seed")) (found (codes "wait")) (found (codes "streamers")) (found (codes "lives"))
    (found (codes "reverse")) (found (codes "calls"))
