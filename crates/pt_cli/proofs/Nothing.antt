-- A command that found no memory before it began has touched nothing.
use Rattle.std.proofs.Common.{ℕ, List, refl, inl, inr, arith, Option, Some, None}
use Rattle.pt_io.specs.declared.sink.Sink.{Ghosts as Sink}
use Rattle.pt_io.specs.declared.source.Source.{Ghosts as Source}
use Rattle.pt_command.specs.declared.end.End.TheVariants as ends
use Rattle.pt_command.specs.Answers.{Answers}
use Rattle.pt_command.proofs.Answering.{unanswered, no-refusal, no-done}
use Rattle.pt_events.specs.Command.{Lists}
use Rattle.pt_lines.specs.declared.form.Form.{Form}
use Rattle.ep_defs.specs.declared.session.Facts.{Facts}
use Rattle.pt_client.specs.Greeting.{Greets}
use Rattle.pt_io.specs.declared.caller.Caller.{Ghosts as Caller}
use Rattle.pt_io.specs.declared.dock.Dock.{Ghosts as Dock}
use Rattle.pt_io.specs.Sides.{ReadSide, WriteSide}
use Rattle.pt_run.specs.declared.words.Asked.{Asked as RunAsked}
use Rattle.pt_run.specs.declared.words.Reverse.{Reverse}
use Rattle.pt_run.specs.Reverse.{RunsBy}
use Rattle.pt_cli.specs.declared.words.Command.{Command}
use Rattle.pt_cli.specs.declared.words.Command.TheVariants as command
use Rattle.pt_cli.specs.Program.{PlainComesTo}

no-answer : {I O : Type 0} (source : Source I) (sink : Sink O) (IsDone : List ℕ → List ℕ → Type 0) (IsError : List ℕ → ℕ → List ℕ → Type 0) (input : I) (output : O)
    → Answers source sink IsDone IsError input input output output ends.OutOfMemory
no-answer source sink IsDone IsError input output =
    unanswered source sink IsDone IsError input input output output ends.OutOfMemory (inr refl) (λ is. absurd (cc)) (λ _. refl) refl

-- No line was written.
pub unlisted : {I O : Type 0} (source : Source I) (sink : Sink O) (form : Form) (input : I) (output : O) → Lists source sink form input input output output ends.OutOfMemory
unlisted source sink form input output =
    record {
      done = λ is. absurd (cc);
      refused = λ at is. absurd (cc);
      unread = λ is. absurd (cc);
      written_part = λ is. absurd (cc);
      memory = λ _. inl (refl, refl);
      causes = record { read_fault = λ is. absurd (cc); all_read = λ _. refl; write_fault = λ is. absurd (cc); all_written = λ _. refl };
      whole = λ tells whole at is. cc;
      not_whole = λ tells none is. cc;
      ends = inr (inr (inr (inr refl)));
    }

-- No program was waited for.
pub ungreeted : {O D L : Type 0} (sink : Sink O) (dock : Dock D L) (source : Source L) (takes : Sink L) (output : O) (old : D) → Greets sink dock source takes output output old old None ends.OutOfMemory
ungreeted sink dock source takes output old =
    record {
      answered = tt;
      peer_line = λ code is. absurd (cc);
      reply_line = λ at is. absurd (cc);
      asked = λ is. absurd (cc);
      asked_part = tt;
      came = tt;
      none = refl;
      nobody = inr (inr (refl, refl, refl));
      refused = λ at is. absurd (cc);
      link_fault = λ is. absurd (cc);
      sound = λ _. (refl, tt);
      write_fault = λ is. absurd (cc);
      all_written = λ _. refl;
      ends = inr (inr (inr (inr (inr (inr refl)))));
    }

-- Nobody was let in, and no tool called.
pub unran : {O D K L : Type 0} (sink : Sink O) (dock : Dock D L) (caller : Caller K L) (takes : Sink L) (gave : L → ReadSide) (took : L → WriteSide) (asked : RunAsked) (facts : Facts)
    (output : O) (old : D) (calls : K) (reverse : Option Reverse) → RunsBy sink dock caller takes gave took asked facts output output old old calls calls None None ends.OutOfMemory reverse
unran sink dock caller takes gave took asked facts output old calls None = (record { ran = tt; unrun = λ _. (refl, refl, refl) }, refl, refl)
unran sink dock caller takes gave took asked facts output old calls (Some reverse) = (
  record {
    given = 0;
    runs = record { ran = tt; unrun = λ _. (refl, refl, refl) };
    links = omega arith;
    few = omega arith;
    cut = λ link is. absurd (cc);
    fault = λ is. absurd (cc);
  },
  refl,
)

pub plain-nothing : {I O : Type 0} (source : Source I) (sink : Sink O) (asked : Option Command) (input : I) (output : O)
    → PlainComesTo source sink asked input input output output ends.OutOfMemory
plain-nothing source sink (Some (command.Replay session)) input output =
    record {
      answers = no-answer source sink _ _ input output;
      refused_exactly = λ refusal tells refused done. no-done ends.OutOfMemory (inr refl) done;
      unfinished = λ tells unfinished done. no-done ends.OutOfMemory (inr refl) done;
      taken = λ tells finishes at refused. no-refusal ends.OutOfMemory at (inr refl) refused;
    }
plain-nothing source sink (Some command.Report) input output =
    record {
      answers = no-answer source sink _ _ input output;
      whole = λ tells whole at refused. no-refusal ends.OutOfMemory at (inr refl) refused;
      not_whole = λ tells none done. no-done ends.OutOfMemory (inr refl) done;
    }
plain-nothing source sink (Some (command.Events form)) input output = unlisted source sink form input output
plain-nothing source sink (Some (command.Gen asked)) input output =
    record {
      done = λ is. absurd (cc);
      written_part = λ is. absurd (cc);
      memory = λ _. refl;
      write_fault = λ is. absurd (cc);
      all_written = λ _. refl;
      ends = inr (inr refl);
    }
plain-nothing source sink (Some (command.Trace asked)) input output = inr (refl, refl)
plain-nothing source sink (Some (command.Watch asked)) input output = inr (refl, refl)
plain-nothing source sink (Some (command.Run asked)) input output = inr (refl, refl)
plain-nothing source sink (Some (command.Client asked)) input output = inr (refl, refl)
plain-nothing source sink (Some (command.Greet target)) input output = inr (refl, refl)
plain-nothing source sink None input output = inr (refl, refl)
