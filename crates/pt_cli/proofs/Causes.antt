-- A fault has its cause, whatever the command is.
use Rattle.std.proofs.Common.{◌≡◌, ℕ, ◌⊎◌, refl, ap, inl, inr, Option, Some, None}
use Rattle.std.specs.Prelude.{Bool, List, true, false, ◌≢◌}
use Rattle.pt_io.specs.declared.caller.Caller.{Ghosts as Caller}
use Rattle.pt_io.specs.declared.sink.Sink.{Ghosts as Sink}
use Rattle.pt_io.specs.declared.source.Source.{Ghosts as Source}
use Rattle.pt_io.specs.Faults.{HasRisen}
use Rattle.pt_command.specs.declared.end.End.{End}
use Rattle.pt_command.specs.declared.end.End.TheVariants as ends
use Rattle.pt_command.specs.Answers.{HasCauses}
use Rattle.pt_command.specs.Says.{SaysLine}
use Rattle.pt_io.specs.declared.dock.Dock.{Ghosts as Dock}
use Rattle.pt_io.specs.Sides.{ReadSide, WriteSide}
use Rattle.ep_defs.specs.declared.session.Facts.{Facts}
use Rattle.pt_roles.specs.declared.live_end.LiveEnd.{LiveEnd}
use Rattle.pt_run.specs.Command.{RunsTo, end_of, text_of}
use Rattle.pt_run.specs.declared.words.Asked.{Asked as RunAsked}
use Rattle.pt_run.specs.declared.words.Reverse.{Reverse}
use Rattle.pt_run.specs.Reverse.{RunsBy, called}
use Rattle.ipc_reverse.specs.Advert.{advert_of}
use Rattle.ipc_reverse.specs.Calls.{dock_of, uncalled}
use Rattle.pt_cli.specs.declared.words.Command.{Command}
use Rattle.pt_cli.specs.declared.words.Command.TheVariants as command
use Rattle.pt_cli.specs.Errors.{words_error}
use Rattle.pt_cli.specs.Program.{Around, ComesTo, HasFaults, PlainComesTo}
use Rattle.pt_cli.specs.Words.{is_plain, reads_input}

-- A command that left the input alone.
unread-causes : {I O : Type 0} (source : Source I) (sink : Sink O) (input_old input_new : I) (old new : O) (end : End)
    → input_new ≡ input_old → end ≢ ends.ReadFault
    → (end ≡ ends.WriteFault → HasRisen (sink.write_faults old) (sink.write_faults new))
    → (end ≢ ends.WriteFault → sink.write_faults new ≡ sink.write_faults old)
    → HasCauses source sink input_old input_new old new end
unread-causes source sink input_old input_new old new end same read fault sound =
    record { read_fault = λ is. absurd (read is); all_read = λ _. ap source.read_faults same; write_fault = fault; all_written = sound }

line-unread : {O : Type 0} (sink : Sink O) (old new : O) (end : End) → SaysLine sink old new words_error ends.Words end → end ≢ ends.ReadFault
line-unread sink old new end (inl (inl said)) other = let is = said.0 in cc
line-unread sink old new end (inl (inr broke)) other = let is = broke.0 in cc
line-unread sink old new end (inr none) other = let is = none.0 in cc

line-fault : {O : Type 0} (sink : Sink O) (old new : O) (end : End) → SaysLine sink old new words_error ends.Words end
    → end ≡ ends.WriteFault → HasRisen (sink.write_faults old) (sink.write_faults new)
line-fault sink old new end (inl (inl said)) other = let is = said.0 in absurd (cc)
line-fault sink old new end (inl (inr broke)) other = broke.1.fault
line-fault sink old new end (inr none) other = let is = none.0 in absurd (cc)

line-sound : {O : Type 0} (sink : Sink O) (old new : O) (end : End) → SaysLine sink old new words_error ends.Words end
    → end ≢ ends.WriteFault → sink.write_faults new ≡ sink.write_faults old
line-sound sink old new end (inl (inl said)) other = said.1.sound
line-sound sink old new end (inl (inr broke)) other = absurd (other broke.0)
line-sound sink old new end (inr none) other = ap sink.write_faults none.1

line-causes : {I O : Type 0} (source : Source I) (sink : Sink O) (input_old input_new : I) (old new : O) (end : End)
    → input_new ≡ input_old → SaysLine sink old new words_error ends.Words end → HasCauses source sink input_old input_new old new end
line-causes source sink input_old input_new old new end same line =
    unread-causes source sink input_old input_new old new end same (line-unread sink old new end line) (line-fault sink old new end line) (line-sound sink old new end line)

gen-unread : (end : End) → (end ≡ ends.Done) ⊎ (end ≡ ends.WriteFault) ⊎ (end ≡ ends.OutOfMemory) → end ≢ ends.ReadFault
gen-unread end (inl is) other = cc
gen-unread end (inr (inl is)) other = cc
gen-unread end (inr (inr is)) other = cc

pub plain-causes : {I O : Type 0} (source : Source I) (sink : Sink O) (asked : Option Command) (input_old input_new : I) (old new : O) (end : End)
    → PlainComesTo source sink asked input_old input_new old new end → (reads_input asked ≡ false → input_new ≡ input_old)
    → HasCauses source sink input_old input_new old new end
plain-causes source sink (Some (command.Replay session)) input_old input_new old new end comes alone = comes.answers.causes
plain-causes source sink (Some command.Report) input_old input_new old new end comes alone = comes.answers.causes
plain-causes source sink (Some (command.Events form)) input_old input_new old new end comes alone = comes.causes
plain-causes source sink (Some (command.Gen asked)) input_old input_new old new end comes alone =
    unread-causes source sink input_old input_new old new end (alone refl) (gen-unread end comes.ends) comes.write_fault comes.all_written
plain-causes source sink (Some (command.Trace asked)) input_old input_new old new end comes alone = line-causes source sink input_old input_new old new end (alone refl) comes
plain-causes source sink (Some (command.Watch asked)) input_old input_new old new end comes alone = line-causes source sink input_old input_new old new end (alone refl) comes
plain-causes source sink (Some (command.Run asked)) input_old input_new old new end comes alone = line-causes source sink input_old input_new old new end (alone refl) comes
plain-causes source sink (Some (command.Client asked)) input_old input_new old new end comes alone = line-causes source sink input_old input_new old new end (alone refl) comes
plain-causes source sink (Some (command.Greet target)) input_old input_new old new end comes alone = line-causes source sink input_old input_new old new end (alone refl) comes
plain-causes source sink None input_old input_new old new end comes alone = line-causes source sink input_old input_new old new end (alone refl) comes

-- A command that waits for somebody is refused there.
pub plain-words : {I O : Type 0} (source : Source I) (sink : Sink O) (asked : Option Command) (input_old input_new : I) (old new : O) (end : End)
    → is_plain asked ≡ false → PlainComesTo source sink asked input_old input_new old new end → SaysLine sink old new words_error ends.Words end
plain-words source sink (Some (command.Replay session)) input_old input_new old new end is comes = absurd (cc)
plain-words source sink (Some command.Report) input_old input_new old new end is comes = absurd (cc)
plain-words source sink (Some (command.Events form)) input_old input_new old new end is comes = absurd (cc)
plain-words source sink (Some (command.Gen asked)) input_old input_new old new end is comes = absurd (cc)
plain-words source sink (Some (command.Trace asked)) input_old input_new old new end is comes = comes
plain-words source sink (Some (command.Watch asked)) input_old input_new old new end is comes = comes
plain-words source sink (Some (command.Run asked)) input_old input_new old new end is comes = comes
plain-words source sink (Some (command.Client asked)) input_old input_new old new end is comes = comes
plain-words source sink (Some (command.Greet target)) input_old input_new old new end is comes = comes
plain-words source sink None input_old input_new old new end is comes = comes

trace-unread : (end : End) → (end ≡ ends.Done) ⊎ (end ≡ ends.WriteFault) ⊎ (end ≡ ends.OutOfMemory) ⊎ (end ≡ ends.TooLong) → end ≢ ends.ReadFault
trace-unread end (inl is) other = cc
trace-unread end (inr (inl is)) other = cc
trace-unread end (inr (inr (inl is))) other = cc
trace-unread end (inr (inr (inr is))) other = cc

-- A run that did not end for want of memory, nor with a fault of the output.
trace-written : {X : Type 0} (end : End) → (end ≡ ends.Done) ⊎ (end ≡ ends.WriteFault) ⊎ (end ≡ ends.OutOfMemory) ⊎ (end ≡ ends.TooLong)
    → ((end ≡ ends.Done) ⊎ (end ≡ ends.TooLong) → X) → (true ≡ false) ⊎ (end ≢ ends.OutOfMemory) → end ≢ ends.WriteFault → X
trace-written end comes wrote (inl runs) written = absurd (cc)
trace-written end (inl is) wrote (inr memory) written = wrote (inl is)
trace-written end (inr (inl is)) wrote (inr memory) written = absurd (written is)
trace-written end (inr (inr (inl is))) wrote (inr memory) written = absurd (memory is)
trace-written end (inr (inr (inr is))) wrote (inr memory) written = wrote (inr is)

client-unread : (end : End) → (end ≡ ends.Done) ⊎ (end ≡ ends.WriteFault) ⊎ (end ≡ ends.LinkFault)
    ⊎ ((code : ℕ) × (end ≡ ends.PeerError code)) ⊎ ((at : ℕ) × (end ≡ ends.BadReply at)) ⊎ (end ≡ ends.OutOfMemory) → end ≢ ends.ReadFault
client-unread end (inl is) other = cc
client-unread end (inr (inl is)) other = cc
client-unread end (inr (inr (inl is))) other = cc
client-unread end (inr (inr (inr (inl error)))) other = let is = error.1 in cc
client-unread end (inr (inr (inr (inr (inl bad))))) other = let is = bad.1 in cc
client-unread end (inr (inr (inr (inr (inr is))))) other = cc

greet-unread : (end : End) → (end ≡ ends.Done) ⊎ (end ≡ ends.WriteFault) ⊎ (end ≡ ends.LinkFault) ⊎ (end ≡ ends.Refused 0)
    ⊎ ((code : ℕ) × (end ≡ ends.PeerError code)) ⊎ ((at : ℕ) × (end ≡ ends.BadReply at)) ⊎ (end ≡ ends.OutOfMemory) → end ≢ ends.ReadFault
greet-unread end (inl is) other = cc
greet-unread end (inr (inl is)) other = cc
greet-unread end (inr (inr (inl is))) other = cc
greet-unread end (inr (inr (inr (inl is)))) other = cc
greet-unread end (inr (inr (inr (inr (inl error))))) other = let is = error.1 in cc
greet-unread end (inr (inr (inr (inr (inr (inl bad)))))) other = let is = bad.1 in cc
greet-unread end (inr (inr (inr (inr (inr (inr is)))))) other = cc

-- The causes of a command that reads the input, or leaves it alone.
reading-faults : {I O : Type 0} (source : Source I) (sink : Sink O) (asked : Option Command) (input_old input_new : I) (old new : O) (end : End)
    → (end ≡ ends.ReadFault → reads_input asked ≡ true) → HasCauses source sink input_old input_new old new end → HasFaults source sink asked input_old input_new old new end
reading-faults source sink asked input_old input_new old new end reads causes =
    record { reads = reads; read_fault = causes.read_fault; all_read = causes.all_read; write_fault = causes.write_fault; all_written = λ _. causes.all_written }

-- What is said of a run ends with the run's own end, or with a fault of the output, or for want of memory.
saying-causes : {O : Type 0} (sink : Sink O) (old new : O) (text : List ℕ) (failed : Bool) (end : End) → SaysLine sink old new text (end_of failed) end
    → (end ≢ ends.ReadFault) × (end ≡ ends.WriteFault → HasRisen (sink.write_faults old) (sink.write_faults new)) × (end ≢ ends.WriteFault → sink.write_faults new ≡ sink.write_faults old)
saying-causes sink old new text true end (inl (inl said)) = let is = said.0 in ((λ read. cc), (λ fault. absurd (cc)), (λ _. said.1.sound))
saying-causes sink old new text false end (inl (inl said)) = let is = said.0 in ((λ read. cc), (λ fault. absurd (cc)), (λ _. said.1.sound))
saying-causes sink old new text failed end (inl (inr broke)) = let is = broke.0 in ((λ read. cc), (λ _. broke.1.fault), (λ other. absurd (other is)))
saying-causes sink old new text failed end (inr none) = let is = none.0 in ((λ read. cc), (λ fault. absurd (cc)), (λ _. ap sink.write_faults none.1))

runs-causes : {O D L : Type 0} (sink : Sink O) (dock : Dock D L) (takes : Sink L) (gave : L → ReadSide) (took : L → WriteSide) (asked : RunAsked) (facts : Facts)
    (old new : O) (dock_old dock_new : D) (live : Option (LiveEnd L)) (end : End) → RunsTo sink dock takes gave took asked facts old new dock_old dock_new live end
    → (end ≢ ends.ReadFault) × (end ≡ ends.WriteFault → HasRisen (sink.write_faults old) (sink.write_faults new)) × (end ≢ ends.WriteFault → sink.write_faults new ≡ sink.write_faults old)
runs-causes sink dock takes gave took asked facts old new dock_old dock_new (Some live) end runs =
    saying-causes sink old new (text_of asked.plan live) live.dock_failed end runs.ran.told
runs-causes sink dock takes gave took asked facts old new dock_old dock_new None end runs =
    let none = runs.unrun refl in
    let is = none.0 in
    ((λ read. cc), (λ fault. absurd (cc)), (λ _. ap sink.write_faults none.1))

-- The same of a run with peers that came in, or with links to a tool.
runs-causes-by : {O D K L : Type 0} (sink : Sink O) (dock : Dock D L) (caller : Caller K L) (takes : Sink L) (gave : L → ReadSide) (took : L → WriteSide) (asked : RunAsked) (facts : Facts)
    (old new : O) (dock_old dock_new : D) (caller_old caller_new : K) (peer : Option L) (live : Option (LiveEnd L)) (end : End) (reverse : Option Reverse)
    → RunsBy sink dock caller takes gave took asked facts old new dock_old dock_new caller_old caller_new peer live end reverse
    → (end ≢ ends.ReadFault) × (end ≡ ends.WriteFault → HasRisen (sink.write_faults old) (sink.write_faults new)) × (end ≢ ends.WriteFault → sink.write_faults new ≡ sink.write_faults old)
runs-causes-by sink dock caller takes gave took asked facts old new dock_old dock_new caller_old caller_new peer live end None runs =
    runs-causes sink dock takes gave took asked facts old new dock_old dock_new live end runs.0
runs-causes-by sink dock caller takes gave took asked facts old new dock_old dock_new caller_old caller_new peer live end (Some reverse) runs =
    runs-causes sink (dock_of caller takes (advert_of facts) reverse.calls) takes gave took asked facts old new (uncalled caller_old) (called caller_new runs.0.given peer) live end runs.0.runs

pub comes-faults : {I O D K L : Type 0} (source : Source I) (sink : Sink O) (dock : Dock D L) (caller : Caller K L) (reads : Source L) (takes : Sink L) (gave : L → ReadSide) (took : L → WriteSide)
    (facts : Facts) (asked : Option Command) (a : Around I O D K L) (end : End)
    → ComesTo source sink dock caller reads takes gave took facts asked a end → (reads_input asked ≡ false → a.input_new ≡ a.input_old)
    → HasFaults source sink asked a.input_old a.input_new a.output_old a.output_new end
comes-faults source sink dock caller reads takes gave took facts (Some (command.Replay session)) a end comes alone =
    reading-faults source sink (Some (command.Replay session)) a.input_old a.input_new a.output_old a.output_new end (λ _. refl) comes.answers.causes
comes-faults source sink dock caller reads takes gave took facts (Some command.Report) a end comes alone =
    reading-faults source sink (Some command.Report) a.input_old a.input_new a.output_old a.output_new end (λ _. refl) comes.answers.causes
comes-faults source sink dock caller reads takes gave took facts (Some (command.Events form)) a end comes alone =
    reading-faults source sink (Some (command.Events form)) a.input_old a.input_new a.output_old a.output_new end (λ _. refl) comes.causes
comes-faults source sink dock caller reads takes gave took facts (Some (command.Gen asked)) a end comes alone =
    let read = gen-unread end comes.ends in
    reading-faults source sink (Some (command.Gen asked)) a.input_old a.input_new a.output_old a.output_new end (λ is. absurd (read is))
    (unread-causes source sink a.input_old a.input_new a.output_old a.output_new end (alone refl) read comes.write_fault comes.all_written)
comes-faults source sink dock caller reads takes gave took facts (Some (command.Watch asked)) a end comes alone =
    let read = gen-unread end comes.ends in
    reading-faults source sink (Some (command.Watch asked)) a.input_old a.input_new a.output_old a.output_new end (λ is. absurd (read is))
    (unread-causes source sink a.input_old a.input_new a.output_old a.output_new end (alone refl) read comes.write_fault comes.all_written)
comes-faults source sink dock caller reads takes gave took facts (Some (command.Trace asked)) a end comes alone =
    let read = trace-unread end comes.ends in
    record {
      reads = λ is. absurd (read is);
      read_fault = λ is. absurd (read is);
      all_read = λ _. ap source.read_faults (alone refl);
      write_fault = comes.write_fault;
      all_written = λ memory written. trace-written end comes.ends comes.all_written memory written;
    }
comes-faults source sink dock caller reads takes gave took facts (Some (command.Run asked)) a end comes alone =
    let of_run = runs-causes-by sink dock caller takes gave took asked facts a.output_old a.output_new a.dock_old a.dock_new a.caller_old a.caller_new a.peer a.live end asked.reverse comes in
    reading-faults source sink (Some (command.Run asked)) a.input_old a.input_new a.output_old a.output_new end (λ is. absurd (of_run.0 is))
    (unread-causes source sink a.input_old a.input_new a.output_old a.output_new end (alone refl) of_run.0 of_run.1 of_run.2)
comes-faults source sink dock caller reads takes gave took facts (Some (command.Client asked)) a end comes alone =
    let read = client-unread end comes.ends in
    reading-faults source sink (Some (command.Client asked)) a.input_old a.input_new a.output_old a.output_new end (λ is. absurd (read is))
    (unread-causes source sink a.input_old a.input_new a.output_old a.output_new end (alone refl) read comes.write_fault comes.all_written)
comes-faults source sink dock caller reads takes gave took facts (Some (command.Greet target)) a end comes alone =
    let read = greet-unread end comes.ends in
    reading-faults source sink (Some (command.Greet target)) a.input_old a.input_new a.output_old a.output_new end (λ is. absurd (read is))
    (unread-causes source sink a.input_old a.input_new a.output_old a.output_new end (alone refl) read comes.write_fault comes.all_written)
comes-faults source sink dock caller reads takes gave took facts None a end comes alone =
    reading-faults source sink None a.input_old a.input_new a.output_old a.output_new end (λ is. absurd (line-unread sink a.output_old a.output_new end comes is))
    (line-causes source sink a.input_old a.input_new a.output_old a.output_new end (alone refl) comes)
