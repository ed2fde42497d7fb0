-- What is answered of such a command, as texts.
use Rattle.std.specs.Prelude.{ℕ, List, Option, Some, None, option_map, codes}
use Rattle.pt_words.specs.Trace.{TraceTexts}
use Rattle.pt_words.specs.declared.trace.Trace.{Trace}

-- The texts of a parsed line.
abbrev pub texts_of : Trace → TraceTexts
texts_of trace =
    record {
      threads = trace.threads.now;
      writes = trace.writes.now;
      text = trace.text.now;
      seed = option_map (λ text. text.now) trace.seed;
      megabytes = option_map (λ text. text.now) trace.megabytes;
    }

-- Three texts, where each is there, with those of the options.
abbrev pub texts_from : Option (List ℕ) → Option (List ℕ) → Option (List ℕ) → Option (List ℕ) → Option (List ℕ) → Option TraceTexts
texts_from (Some threads) (Some writes) (Some text) seed megabytes =
    Some (record { threads = threads; writes = writes; text = text; seed = seed; megabytes = megabytes })
texts_from threads writes text seed megabytes = None

-- The same by the text that is found of each name.
abbrev pub trace_from : (List ℕ → Option (List ℕ)) → Option TraceTexts
trace_from found = texts_from (found (codes "one")) (found (codes "two")) (found (codes "three")) (found (codes "seed")) (found (codes "mb"))
