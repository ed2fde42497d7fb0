-- The lines of a piece are written, and no longer kept.
use Rattle.std.proofs.Common.{◌≡◌, ℕ, eqb, ◌&&◌, List, [], ◌++◌, length, take, refl, sym, ap, ◌∙◌, subst, arith, rules}
use Rattle.std.specs.Prelude.{Bool, IsTrue}
use Rattle.std.proofs.lemmas.List.{append-nil, length-take-le}
use Rattle.pt_command.specs.declared.limits.TheConstants.{PIECE_BYTES}
use Rattle.pt_command.specs.Says.{TookText, BrokeOff}
use Rattle.pt_lines.specs.Around.{opened, shown}
use Rattle.pt_lines.proofs.Around.{opened-more, none-more}
use Rattle.pt_events.specs.Command.{Gave}
use Rattle.pt_events.proofs.Given.{gave-nothing, gave-more, gave-end, gave-same, nothing-left, whole-gave}
use Rattle.pt_events.proofs.Writes.{took-more, broke-more, more-is, shown-is}
use Rattle.pt_events.proofs.Read.{so-far}
use Rattle.pt_events.proofs.command.write_pieces.Goals as goal

pub returns-in_err-write_head-clause-part : goal.returns-in_err-write_head-clause-part
returns-in_err-write_head-clause-part g c = λ _. (
  opened c.args.form [],
  record {
    bytes = [];
    last = [];
    gave = gave-nothing g.I.Source c.args.input.now;
    few = omega arith;
    lines = [];
    is_lines = so-far c.args.form [] [] c.args.reading.now c.requires.fresh;
    text_is = refl;
  },
  c.in_err-write_head.ensures.err.1,
)

pub loop-count-init : goal.loop-count-init
loop-count-init g c =
    record {
      bytes = [];
      lines = [];
      read = c.requires.fresh;
      first = refl;
      none = c.new-lines.ensures.items;
      told = refl;
      faults = refl;
      gave = gave-nothing g.I.Source c.args.input.now;
      tells = c.write_head.ensures.told;
      took = c.in_ok-write_head.ensures.ok;
      few = λ few. omega (arith, c.requires.unused, few);
      room = search rules;
    }

pub returns-then-count-eq0-clause-all : goal.returns-then-count-eq0-clause-all
returns-then-count-eq0-clause-all g c =
    let source = g.I.Source in
    let before = c.loop-count.invariant in
    let piece = take c.in-Ok.count c.read.new.buf in
    let nothing : piece ≡ [] = ap (λ n. take n c.read.new.buf) c.if-count-eq0.true in
    let gave = gave-end source c.args.input.now c.read.new.self before.bytes piece nothing
    (gave-more source c.args.input.now c.loop-count.input c.read.new.self before.bytes piece before.told before.gave c.in-Ok.ensures.given c.in-Ok.ensures.left
    (omega (arith, c.in-Ok.ensures.falls, length-take-le c.in-Ok.count c.read.new.buf c.in-Ok.ensures.within))) in (
      before.bytes,
      before.lines,
      before.read,
      whole-gave source c.args.input.now c.read.new.self before.bytes gave
          (λ tells.
          let tells_now = subst (λ b. IsTrue b) (sym before.told) tells in
          nothing-left source c.loop-count.input c.read.new.self piece nothing (c.in-Ok.ensures.end tells_now c.if-count-eq0.true) (c.in-Ok.ensures.left tells_now)),
      before.took,
    )

pub loop-count-preserved : goal.loop-count-preserved
loop-count-preserved g c =
    let source = g.I.Source in
    let sink = g.O.Sink in
    let form = c.args.form in
    let before = c.loop-count.invariant in
    let piece = take c.in-Ok.count c.read.new.buf in
    let listed = c.in_ok-take.ensures.read before.bytes before.lines before.read in
    let lines-are = more-is c.as_slice-more.ensures.value listed.2 before.none in
    let shown-are = shown-is form c.shown.ensures before.first lines-are in
    record {
      bytes = before.bytes ++ piece;
      lines = before.lines ++ listed.0;
      read = listed.1;
      first = ap (λ (b : Bool). b && c.is_empty-is_first.result) before.first
          ∙ ap (λ (b : Bool). eqb (length before.lines) 0 && b) (c.is_empty-is_first.ensures ∙ ap (λ (xs : List ℕ). eqb (length xs) 0) lines-are)
          ∙ sym (none-more before.lines listed.0);
      none = c.clear.ensures.items;
      told = c.in-Ok.ensures.told ∙ before.told;
      faults = c.in-Ok.ensures.read ∙ before.faults;
      gave = gave-more source c.args.input.now c.loop-count.input c.read.new.self before.bytes piece before.told before.gave c.in-Ok.ensures.given c.in-Ok.ensures.left
          (omega (arith, c.in-Ok.ensures.falls, length-take-le c.in-Ok.count c.read.new.buf c.in-Ok.ensures.within));
      tells = c.write_lines.ensures.told ∙ before.tells;
      took = subst (λ (t : List ℕ). TookText sink c.args.output.now c.write_lines.new.output t) (sym (opened-more form before.lines listed.0))
          (took-more sink c.args.output.now c.loop-count.output c.write_lines.new.output (opened form before.lines) (shown form (eqb (length before.lines) 0) listed.0) before.tells before.took
          (subst (λ (t : List ℕ). TookText sink c.loop-count.output c.write_lines.new.output t) shown-are c.in_ok-write_lines.ensures.ok));
      few = λ few. omega (arith, before.few c.read.ensures.few, c.in_ok-take.ensures.used, c.in-Ok.ensures.falls, length-take-le c.in-Ok.count c.read.new.buf c.in-Ok.ensures.within);
      room = search rules;
    }

pub returns-in-Err-clause-unread : goal.returns-in-Err-clause-unread
returns-in-Err-clause-unread g c = λ _.
    let source = g.I.Source in
    let before = c.loop-count.invariant in (
      opened c.args.form before.lines,
      record {
        bytes = before.bytes;
        last = [];
        gave = gave-same source c.args.input.now c.loop-count.input c.read.new.self before.bytes before.told before.gave c.in-Err.ensures.given_err c.in-Err.ensures.left_err c.in-Err.ensures.falls_err;
        few = omega arith;
        lines = before.lines;
        is_lines = so-far c.args.form before.bytes before.lines c.loop-count.reading before.read;
        text_is = refl;
      },
      before.took,
    )

pub returns-in_err-take-clause-memory : goal.returns-in_err-take-clause-memory
returns-in_err-take-clause-memory g c = λ _.
    let source = g.I.Source in
    let before = c.loop-count.invariant in
    let piece = take c.in-Ok.count c.read.new.buf in
    let size = length-take-le c.in-Ok.count c.read.new.buf c.in-Ok.ensures.within in
    let room : length c.read.new.buf ≡ PIECE_BYTES = search rules in (
      opened c.args.form before.lines,
      record {
        bytes = before.bytes;
        last = piece;
        gave = gave-more source c.args.input.now c.loop-count.input c.read.new.self before.bytes piece before.told before.gave c.in-Ok.ensures.given c.in-Ok.ensures.left
            (omega (arith, c.in-Ok.ensures.falls, size));
        few = omega (arith, size, c.in-Ok.ensures.within, room);
        lines = before.lines;
        is_lines = so-far c.args.form before.bytes before.lines c.loop-count.reading before.read;
        text_is = refl;
      },
      before.took,
    )

pub returns-in_err-write_lines-clause-part : goal.returns-in_err-write_lines-clause-part
returns-in_err-write_lines-clause-part g c = λ _.
    let source = g.I.Source in
    let sink = g.O.Sink in
    let form = c.args.form in
    let before = c.loop-count.invariant in
    let piece = take c.in-Ok.count c.read.new.buf in
    let bytes = before.bytes ++ piece in
    let listed = c.in_ok-take.ensures.read before.bytes before.lines before.read in
    let lines-are = more-is c.as_slice-more.ensures.value listed.2 before.none in
    let shown-are = shown-is form c.shown.ensures before.first lines-are in
    let gave = gave-more source c.args.input.now c.loop-count.input c.read.new.self before.bytes piece before.told before.gave c.in-Ok.ensures.given c.in-Ok.ensures.left
    (omega (arith, c.in-Ok.ensures.falls, length-take-le c.in-Ok.count c.read.new.buf c.in-Ok.ensures.within)) in
    let broke = broke-more sink c.args.output.now c.loop-count.output c.write_lines.new.output (opened form before.lines) (shown form (eqb (length before.lines) 0) listed.0) before.tells before.took
    (subst (λ (t : List ℕ). BrokeOff sink c.loop-count.output c.write_lines.new.output t) shown-are c.in_err-write_lines.ensures.err.1) in (
      opened form (before.lines ++ listed.0),
      record {
        bytes = bytes;
        last = [];
        gave = subst (λ (all : List ℕ). Gave source c.args.input.now c.read.new.self all) (sym (append-nil bytes)) gave;
        few = omega arith;
        lines = before.lines ++ listed.0;
        is_lines = so-far form bytes (before.lines ++ listed.0) c.take.new.self listed.1;
        text_is = refl;
      },
      subst (λ (t : List ℕ). BrokeOff sink c.args.output.now c.write_lines.new.output t) (sym (opened-more form before.lines listed.0)) broke,
    )
