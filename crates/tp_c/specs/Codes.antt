-- The code of each refusal (this project's C interface).
use Rattle.std.specs.Prelude.{ℕ}
use Rattle.tp_c.specs.declared.codes.TheConstants as code
use Rattle.tp_c.specs.declared.refusal.Refusal.{Refusal}
use Rattle.tp_c.specs.declared.refusal.Refusal.TheVariants.{BadDefinition, BadNames, TooManyDefinitions, NoDefinition, BadFrames, LongPayload, TooManyThreads, TooManyEvents, TooManyStacks, Ended, OutOfMemory, Cut}

abbrev pub code_of : Refusal → ℕ
code_of BadDefinition = code.BAD_DEFINITION
code_of BadNames = code.BAD_NAMES
code_of TooManyDefinitions = code.TOO_MANY_DEFINITIONS
code_of NoDefinition = code.NO_DEFINITION
code_of BadFrames = code.BAD_FRAMES
code_of LongPayload = code.LONG_PAYLOAD
code_of TooManyThreads = code.TOO_MANY_THREADS
code_of TooManyEvents = code.TOO_MANY_EVENTS
code_of TooManyStacks = code.TOO_MANY_STACKS
code_of Ended = code.ENDED
code_of OutOfMemory = code.OUT_OF_MEMORY
code_of Cut = code.CUT
