-- Units one after another, and pieces, where objects are told one by one. `Tells` says which items stand for what is told.
use Rattle.std.proofs.Common.{◌≡◌, ◌≢◌, ℕ, ◌+◌, ◌<◌, ◌≤◌, Option, Some, None, Result, Ok, Err, List, [], ◌∷◌, ◌++◌, length, take, drop, refl, sym, ap, subst, ◌∙◌, arith, append_assoc, length-append}
use Rattle.std.proofs.Math.Seq.{take-add}
use Rattle.std.proofs.lemmas.List.{append-nil, length-take-le, take-append-drop, take_all}
use Rattle.ep_defs.specs.declared.item.Item.{Item}
use Rattle.ep_defs.specs.declared.item.ItemKind.TheVariants as item
use Rattle.nt_object.specs.declared.object.BlockKind.{BlockKind}
use Rattle.nt_blocks.specs.Refusals.{Refusal, body_at}
use Rattle.nt_blocks.specs.Verdict.{Bad, Good, info_in, verdict}
use Rattle.nt_read.specs.declared.fault.ReadFault.{ReadFault}
use Rattle.nt_read.specs.declared.fault.ReadFault.TheVariants as fault
use Rattle.nt_read.specs.declared.fault.ReadKind.TheVariants as kind
use Rattle.nt_read.specs.declared.object_reader.ObjectReader.{ObjectReader}
use Rattle.nt_read.specs.declared.stage.Stage.{Stage}
use Rattle.nt_read.specs.declared.stage.Stage.TheVariants as stage
use Rattle.nt_read.specs.Answers.{IsKept, answer_of, end_answer, fault_of, items_of}
use Rattle.nt_read.specs.Objects.{GoesOn, HasJudged, HasRead, IsRefused, Takes, used}
use Rattle.nt_read.specs.Stages.{goes_on, needs, waiting}
use Rattle.nt_read.specs.Telling.{IsTold}
use Rattle.nt_read.specs.state.Objects.{Comes, Ends, JudgesTold, Refused, Steps, StopsObjects, TurnsAll, TurnsTold, from}
use Rattle.nt_read.specs.state.Units.{Faults, Judges, given, left, turns_left}
use Rattle.nt_read.specs.state.Reads.{Begins}
use Rattle.nt_read.proofs.Begins.{goes-begins}
use Rattle.nt_read.proofs.Pieces.{answer-waiting, items-waiting, refused-answer, refused-verdict, same-refusal, unit-front, waiting-more, waiting-not-bad}
use Rattle.nt_read.proofs.Steps.{body-turns, trace-turns, verdict-starts, waits}

-- Two units at most can follow at once.
pub turns-few : (here : Stage) → turns_left here ≤ 2
turns-few stage.Head = omega arith
turns-few (stage.Tag has_trace) = omega arith
turns-few (stage.Begun has_trace) = omega arith
turns-few (stage.Name has_trace n version least) = omega arith
turns-few stage.Trace = omega arith
turns-few (stage.Size kind) = omega arith
turns-few (stage.Padding kind size) = omega arith
turns-few (stage.Body kind size) = omega arith
turns-few stage.Close = omega arith
turns-few stage.Ended = omega arith

module _ {T : Type 0} (Tells : T → List Item → Type 0) where
  -- ---- a unit

  -- One that tells nothing.
  pub plain-judges : (here : Stage) (at : ℕ) (unit : List ℕ) (pending : T) (answer : Result Stage ReadFault) → ((held : List Item) → Judges here at held unit answer held) → JudgesTold Tells here at pending unit answer pending
  plain-judges here at unit pending (Ok next) judges = record {
    falls = (judges []).falls;
    told = λ held tells. record { items = held; tells = tells; turns = judges held };
  }
  plain-judges here at unit pending (Err refused) judges = judges

  pub trace-told : (at : ℕ) (here : List ℕ) (before after : T) → length here ≡ 48 → Tells after (record { at = at; kind = item.Trace (info_in here) } ∷ []) → TurnsAll Tells stage.Trace at before here stage.Close after
  trace-told at here before after whole tells = record {
    falls = omega arith;
    told = λ held was. record { items = record { at = at; kind = item.Trace (info_in here) } ∷ []; tells = tells; turns = trace-turns at held _ here whole refl };
  }

  pub body-told : (block : BlockKind) (size at : ℕ) (here : List ℕ) (before after : T) → length here ≡ size → IsTold (body_at block at here) (Tells after) → TurnsAll Tells (stage.Body block size) at before here stage.Close after
  body-told block size at here before after whole is = record {
    falls = omega arith;
    told = λ held was. record { items = is.found; tells = is.tells; turns = body-turns block size at held is.found here is.found whole is.reads refl };
  }

  pub objects-step : (before after : ObjectReader T) (held : List Item) (bytes : List ℕ) (lacking : ℕ) (next : Stage) → TurnsTold Tells before.stage before.at held (before.kept.items ++ take lacking bytes) next after.pending → after.stage ≡ next → after.at ≡ before.at + length (before.kept.items ++ take lacking bytes) → after.kept.items ≡ [] → Steps Tells before held bytes lacking after
  objects-step before after held bytes lacking next turns stage at kept = record {
    items = turns.items;
    tells = turns.tells;
    goes = λ told more.
        ap (goes_on before.stage before.at held told) (sym (append_assoc before.kept.items (take lacking bytes) more))
        ∙ turns.turns.goes told more
        ∙ rw (stage, at, kept) refl;
  }

  pub objects-stop : (before : ObjectReader T) (held : List Item) (bytes : List ℕ) (lacking : ℕ) (refused : ReadFault) → Faults before.stage before.at held (before.kept.items ++ take lacking bytes) refused → StopsObjects before held bytes refused
  objects-stop before held bytes lacking (fault.Bad at kind) refuses = record {
    why = refuses.why;
    is = refuses.is;
    goes = λ told more.
        ap (goes_on before.stage before.at held told) (unit-front before.kept.items bytes more lacking)
        ∙ refuses.goes told (drop lacking bytes ++ more);
  }
  objects-stop before held bytes lacking fault.OutOfMemory refuses = tt

  -- ---- part of a piece

  left-same : (here : Stage) (items : List Item) → here ≢ stage.Close → left here items ≡ items
  left-same stage.Head items apart = refl
  left-same (stage.Tag has_trace) items apart = refl
  left-same (stage.Begun has_trace) items apart = refl
  left-same (stage.Name has_trace n version least) items apart = refl
  left-same stage.Trace items apart = refl
  left-same (stage.Size kind) items apart = refl
  left-same (stage.Padding kind size) items apart = refl
  left-same (stage.Body kind size) items apart = refl
  left-same stage.Close items apart = absurd (apart refl)
  left-same stage.Ended items apart = refl

  given-none : (here : Stage) (items : List Item) → here ≢ stage.Close → given here items ≡ []
  given-none stage.Head items apart = refl
  given-none (stage.Tag has_trace) items apart = refl
  given-none (stage.Begun has_trace) items apart = refl
  given-none (stage.Name has_trace n version least) items apart = refl
  given-none stage.Trace items apart = refl
  given-none (stage.Size kind) items apart = refl
  given-none (stage.Padding kind size) items apart = refl
  given-none (stage.Body kind size) items apart = refl
  given-none stage.Close items apart = absurd (apart refl)
  given-none stage.Ended items apart = refl

  -- The first bytes of some, before those that follow them.
  two-fronts : (bytes more : List ℕ) (n m : ℕ) → take (n + m) bytes ++ more ≡ take n bytes ++ (take m (drop n bytes) ++ more)
  two-fronts bytes more n m =
      ap (λ (l : List ℕ). l ++ more) (take-add n m bytes) ∙ append_assoc (take n bytes) (take m (drop n bytes)) more

  whole-front : (bytes more : List ℕ) (n : ℕ) → bytes ++ more ≡ take n bytes ++ (drop n bytes ++ more)
  whole-front bytes more n =
      ap (λ (l : List ℕ). l ++ more) (sym (take-append-drop n bytes)) ∙ append_assoc (take n bytes) (drop n bytes) more

  pub comes-step : (a b c : ObjectReader T) (held : List Item) (bytes : List ℕ) (n m : ℕ) → Comes Tells a held bytes n b → ((now : List Item) → Tells b.pending now → Steps Tells b now (drop n bytes) m c) → b.stage ≢ stage.Close → Comes Tells a held bytes (n + m) c
  comes-step a b c held bytes n m comes step apart =
      let steps = step comes.items comes.tells in
      record {
        items = steps.items;
        tells = steps.tells;
        goes = λ told more.
            ap (from a held told) (two-fronts bytes more n m)
            ∙ comes.goes told (take m (drop n bytes) ++ more)
            ∙ steps.goes told more
            ∙ ap (λ (l : List Item). from c l (told ++ given b.stage steps.items) more) (left-same b.stage steps.items apart)
            ∙ ap (λ (l : List Item). from c steps.items (told ++ l) more) (given-none b.stage steps.items apart)
            ∙ ap (λ (l : List Item). from c steps.items l more) (append-nil told);
      }

  pub comes-close : (a b c after : ObjectReader T) (held : List Item) (bytes : List ℕ) (n m : ℕ) (given_to : T) → Comes Tells a held bytes n b → ((now : List Item) → Tells b.pending now → Steps Tells b now (drop n bytes) m c) → b.stage ≡ stage.Close → given_to ≡ c.pending → after.stage ≡ c.stage → after.at ≡ c.at → after.kept.items ≡ c.kept.items → Tells after.pending [] → Ends Tells a held bytes (n + m) after given_to
  comes-close a b c after held bytes n m given_to comes step closes swapped stage at kept none =
      let steps = step comes.items comes.tells in
      record {
        found = steps.items;
        gives = subst (λ (told : T). Tells told steps.items) (sym swapped) steps.tells;
        items = [];
        tells = none;
        goes = λ told more.
            ap (from a held told) (two-fronts bytes more n m)
            ∙ comes.goes told (take m (drop n bytes) ++ more)
            ∙ steps.goes told more
            ∙ ap (λ (s : Stage). from c (left s steps.items) (told ++ given s steps.items) more) closes
            ∙ sym (rw (stage, at, kept) refl);
      }

  pub comes-end : (a b after : ObjectReader T) (held : List Item) (bytes : List ℕ) (n : ℕ) (told : T) → Comes Tells a held bytes n b → after.stage ≡ b.stage → after.at ≡ b.at → after.pending ≡ b.pending → after.kept.items ≡ b.kept.items ++ drop n bytes → Tells told [] → Ends Tells a held bytes (length bytes) after told
  comes-end a b after held bytes n told comes stage at pending kept none = record {
    found = [];
    gives = none;
    items = comes.items;
    tells = subst (λ (p : T). Tells p comes.items) (sym pending) comes.tells;
    goes = λ earlier more.
        ap (λ (l : List ℕ). from a held earlier (l ++ more)) (take_all (length bytes) bytes (omega arith))
        ∙ ap (from a held earlier) (whole-front bytes more n)
        ∙ comes.goes earlier (drop n bytes ++ more)
        ∙ ap (goes_on b.stage b.at comes.items earlier) (sym (append_assoc b.kept.items (drop n bytes) more))
        ∙ sym (rw (stage, at, kept, append-nil earlier) refl);
  }

  pub comes-stop : (a b : ObjectReader T) (held : List Item) (bytes : List ℕ) (n : ℕ) (refused : ReadFault) → Comes Tells a held bytes n b → ((now : List Item) → Tells b.pending now → StopsObjects b now (drop n bytes) refused) → StopsObjects a held bytes refused
  comes-stop a b held bytes n (fault.Bad at kind) comes stop =
      let stops = stop comes.items comes.tells in
      record {
        why = stops.why;
        is = stops.is;
        goes = λ told more.
            ap (from a held told) (whole-front bytes more n)
            ∙ comes.goes told (drop n bytes ++ more)
            ∙ stops.goes told more;
      }
  comes-stop a b held bytes n fault.OutOfMemory comes stop = tt

  -- ---- pieces

  pub new-objects : (reader : ObjectReader T) → reader.fault ≡ None → reader.stage ≡ stage.Head → reader.at ≡ 0 → reader.kept.items ≡ [] → Tells reader.pending [] → HasRead Tells [] reader
  new-objects reader whole stage at kept none =
      let fresh : GoesOn Tells [] reader = record {
        before = [];
        held = [];
        tells = none;
        used = rw (at, kept) refl;
        few = rw (stage, kept) (omega arith);
        goes = λ more. rw (stage, at, kept) (verdict-starts more);
      } in
      subst (λ (f : Option ReadFault). HasJudged Tells [] reader f) (sym whole) fresh

  pub no-fault : (bytes : List ℕ) (reader : ObjectReader T) → reader.fault ≡ None → HasRead Tells bytes reader → GoesOn Tells bytes reader
  no-fault bytes reader e read = subst (λ (f : Option ReadFault). HasJudged Tells bytes reader f) e read

  pub with-fault : (bytes : List ℕ) (reader : ObjectReader T) (refused : ReadFault) → reader.fault ≡ Some refused → HasRead Tells bytes reader → IsRefused bytes refused
  with-fault bytes reader refused e read = subst (λ (f : Option ReadFault). HasJudged Tells bytes reader f) e read

  -- The verdict on the bytes that were read.
  objects-verdict : (bytes : List ℕ) (reader : ObjectReader T) (goes : GoesOn Tells bytes reader) → verdict bytes ≡ waiting reader.stage goes.before
  objects-verdict bytes reader goes =
      ap verdict (sym (append-nil bytes))
      ∙ goes.goes []
      ∙ ap (goes_on reader.stage reader.at goes.held goes.before) (append-nil reader.kept.items)
      ∙ waits reader.stage reader.at goes.held goes.before reader.kept.items goes.few

  objects-items : (bytes : List ℕ) (reader : ObjectReader T) (goes : GoesOn Tells bytes reader) → items_of (verdict bytes) ≡ goes.before
  objects-items bytes reader goes = ap items_of (objects-verdict bytes reader goes) ∙ items-waiting reader.stage goes.before

  pub objects-take : (before after : ObjectReader T) (bytes piece : List ℕ) (n : ℕ) (told : T) → before.fault ≡ None → after.fault ≡ before.fault → ((held : List Item) → Tells before.pending held → Ends Tells before held piece n after told) → length after.kept.items < needs after.stage after.at → used after ≡ used before + n → n ≤ length piece → HasRead Tells bytes before → Takes Tells bytes (take n piece) (Ok tt) after told
  objects-take before after bytes piece n told none same end few all within read =
      let goes = no-fault bytes before none read in
      let ends = end goes.held goes.tells in
      let later : GoesOn Tells (bytes ++ take n piece) after = record {
        before = goes.before ++ ends.found;
        held = ends.items;
        tells = ends.tells;
        used = omega (arith, length-append bytes (take n piece), length-take-le n piece within, goes.used, all);
        few = few;
        goes = λ more.
            ap verdict (append_assoc bytes (take n piece) more)
            ∙ goes.goes (take n piece ++ more)
            ∙ ends.goes goes.before more;
      } in
      record {
        read = subst (λ (f : Option ReadFault). HasJudged Tells (bytes ++ take n piece) after f) (sym (same ∙ none)) later;
        answered = sym (ap answer_of (objects-verdict (bytes ++ take n piece) after later) ∙ answer-waiting after.stage later.before);
        gives = record {
          found = ends.found;
          more = objects-items (bytes ++ take n piece) after later ∙ ap (λ (l : List Item). l ++ ends.found) (sym (objects-items bytes before goes));
          tells = ends.gives;
        };
      }

  kept-stops : (before : ObjectReader T) (held : List Item) (bytes : List ℕ) (refused : ReadFault) → IsKept (Err refused) → StopsObjects before held bytes refused → Refused before held bytes refused
  kept-stops before held bytes (fault.Bad at kind) kept stops = stops
  kept-stops before held bytes fault.OutOfMemory kept stops = absurd kept

  pub objects-refused : (before after : ObjectReader T) (bytes piece : List ℕ) (refused : ReadFault) (told : T) → before.fault ≡ None → after.fault ≡ Some refused → IsKept (Err refused) → ((held : List Item) → Tells before.pending held → StopsObjects before held piece refused) → Tells told [] → HasRead Tells bytes before → Takes Tells bytes piece (Err refused) after told
  objects-refused before after bytes piece refused told none same kept stop nothing read =
      let goes = no-fault bytes before none read in
      let stops = kept-stops before goes.held piece refused kept (stop goes.held goes.tells) in
      let later : IsRefused (bytes ++ piece) refused = record {
        why = stops.why;
        told = goes.before;
        is = stops.is;
        goes = λ more.
            ap verdict (append_assoc bytes piece more)
            ∙ goes.goes (piece ++ more)
            ∙ stops.goes goes.before more;
      } in
      record {
        read = subst (λ (f : Option ReadFault). HasJudged Tells (bytes ++ piece) after f) (sym same) later;
        answered = refused-answer (bytes ++ piece) refused later;
        gives = record {
          found = [];
          more =
              ap items_of (refused-verdict (bytes ++ piece) refused later)
              ∙ sym (objects-items bytes before goes)
              ∙ sym (append-nil (items_of (verdict bytes)));
          tells = nothing;
        };
      }

  -- After a refusal nothing changes it.
  pub objects-still : (reader : ObjectReader T) (bytes piece : List ℕ) (refused : ReadFault) (told : T) → reader.fault ≡ Some refused → Tells told [] → HasRead Tells bytes reader → Takes Tells bytes piece (Err refused) reader told
  objects-still reader bytes piece refused told e nothing read =
      let is = with-fault bytes reader refused e read in
      let later : IsRefused (bytes ++ piece) refused = record {
        why = is.why;
        told = is.told;
        is = is.is;
        goes = λ more. ap verdict (append_assoc bytes piece more) ∙ is.goes (piece ++ more);
      } in
      record {
        read = subst (λ (f : Option ReadFault). HasJudged Tells (bytes ++ piece) reader f) (sym e) later;
        answered = refused-answer (bytes ++ piece) refused later;
        gives = record {
          found = [];
          more =
              ap items_of (refused-verdict (bytes ++ piece) refused later)
              ∙ sym (ap items_of (refused-verdict bytes refused is))
              ∙ sym (append-nil (items_of (verdict bytes)));
          tells = nothing;
        };
      }

  -- ---- however the bytes go on

  -- A reader without a fault has refused nothing.
  pub none-refused : {A : Type 0} (bytes : List ℕ) (reader : ObjectReader T) (why : Refusal) (items : List Item) → reader.fault ≡ None → HasRead Tells bytes reader → verdict bytes ≡ Bad why items → A
  none-refused bytes reader why items none read bad =
      let goes = no-fault bytes reader none read in
      absurd (waiting-not-bad reader.stage goes.before items why (sym (objects-verdict bytes reader goes) ∙ bad))

  -- A fault is the refusal of the verdict.
  pub same-fault : (bytes : List ℕ) (reader : ObjectReader T) (refused : ReadFault) (why : Refusal) (items : List Item) → reader.fault ≡ Some refused → HasRead Tells bytes reader → verdict bytes ≡ Bad why items → refused ≡ fault_of why
  same-fault bytes reader refused why items some read bad =
      let is = with-fault bytes reader refused some read in
      is.is ∙ ap fault_of (same-refusal is.why why is.told items (sym (refused-verdict bytes refused is) ∙ bad))

  -- What is refused stays refused.
  pub still-bad : (bytes more : List ℕ) (reader : ObjectReader T) (why : Refusal) (items : List Item) → HasRead Tells bytes reader → verdict bytes ≡ Bad why items → verdict (bytes ++ more) ≡ Bad why items
  still-bad bytes more reader why items read bad = by-fault reader.fault refl
    where
      by-fault : (found : Option ReadFault) → reader.fault ≡ found → verdict (bytes ++ more) ≡ Bad why items
      by-fault None none = none-refused bytes reader why items none read bad
      by-fault (Some refused) some =
          let is = with-fault bytes reader refused some read in is.goes more ∙ sym (refused-verdict bytes refused is) ∙ bad

  -- The items of the objects that ended stand first.
  pub read-begins : (bytes more : List ℕ) (reader : ObjectReader T) → HasRead Tells bytes reader → Begins (items_of (verdict bytes)) (items_of (verdict (bytes ++ more)))
  read-begins bytes more reader read = by-fault reader.fault refl
    where
      by-fault : (found : Option ReadFault) → reader.fault ≡ found → Begins (items_of (verdict bytes)) (items_of (verdict (bytes ++ more)))
      by-fault None none =
          let goes = no-fault bytes reader none read in
          let begins = goes-begins reader.stage reader.at goes.held goes.before (reader.kept.items ++ more) in
          record {
            rest = begins.rest;
            is = ap items_of (goes.goes more) ∙ begins.is ∙ ap (λ (l : List Item). l ++ begins.rest) (sym (objects-items bytes reader goes));
          }
      by-fault (Some refused) some =
          let is = with-fault bytes reader refused some read in
          record {
            rest = [];
            is = ap items_of (is.goes more ∙ sym (refused-verdict bytes refused is)) ∙ sym (append-nil (items_of (verdict bytes)));
          }

  -- ---- the end

  pub objects-good : (bytes : List ℕ) (reader : ObjectReader T) → reader.stage ≡ stage.Ended → GoesOn Tells bytes reader → Ok tt ≡ end_answer (length bytes) (verdict bytes)
  objects-good bytes reader ended goes =
      let good : verdict bytes ≡ Good goes.before = rw ended at (objects-verdict bytes reader goes) in
      sym (ap (end_answer (length bytes)) good)

  pub objects-more : (bytes : List ℕ) (reader : ObjectReader T) → reader.stage ≢ stage.Ended → GoesOn Tells bytes reader → Err (fault.Bad (used reader) kind.Truncated) ≡ end_answer (length bytes) (verdict bytes)
  objects-more bytes reader other goes =
      let more = objects-verdict bytes reader goes ∙ waiting-more reader.stage goes.before other in
      ap (λ n. Err (fault.Bad n kind.Truncated)) (sym goes.used) ∙ sym (ap (end_answer (length bytes)) more)
