-- One object after another, where the items are given.
use Rattle.std.proofs.Common.{◌≡◌, ℕ, ◌+◌, Result, Ok, Err, List, [], ◌++◌, take, drop, sym, ap, subst, ◌∙◌, append_assoc}
use Rattle.std.proofs.Math.Seq.{take-add}
use Rattle.std.specs.Global.{Vec}
use Rattle.std.proofs.lemmas.List.{append-nil, take-append-drop}
use Rattle.ep_defs.specs.declared.item.Item.{Item}
use Rattle.nt_blocks.specs.Verdict.{verdict}
use Rattle.nt_read.specs.declared.fault.ReadFault.{ReadFault}
use Rattle.nt_read.specs.declared.object_reader.ObjectReader.{ObjectReader}
use Rattle.nt_read.specs.Answers.{GivesPart, answer_of, items_of}
use Rattle.nt_read.specs.Objects.{HasRead, Takes}
use Rattle.nt_read.specs.Telling.{TellsItems}
use Rattle.nt_read.specs.state.Reads.{Feeds}
use Rattle.nt_read.proofs.Objects.{read-begins}

-- The bytes before, and a piece in two parts.
joined : (bytes first last all : List ℕ) → first ++ last ≡ all → (bytes ++ first) ++ last ≡ bytes ++ all
joined bytes first last all joins = append_assoc bytes first last ∙ ap (λ (l : List ℕ). bytes ++ l) joins

-- Nothing was fed yet.
pub feeds-nothing : (reader : ObjectReader (Vec Item)) (bytes : List ℕ) (items : List Item) → HasRead TellsItems bytes reader → Feeds bytes [] reader items items
feeds-nothing reader bytes items read = record {
  read = subst (λ (l : List ℕ). HasRead TellsItems l reader) (sym (append-nil bytes)) read;
  gives = record {
    found = [];
    more = ap (λ (l : List ℕ). items_of (verdict l)) (append-nil bytes) ∙ sym (append-nil (items_of (verdict bytes)));
    given = sym (append-nil items);
  };
}

-- What is known of the reader, its items and its answer after all of some bytes.
pub record Fed (bytes all : List ℕ) (answer : Result (Unit {0}) ReadFault) (after : ObjectReader (Vec Item)) (old new : List Item) : Type 0 where
  pub feeds : Feeds bytes all after old new
  pub answered : answer ≡ answer_of (verdict (bytes ++ all))

-- What an object tells is given after the items of those before it.
pub feeds-more : (between after : ObjectReader (Vec Item)) (bytes first last all : List ℕ) (answer : Result (Unit {0}) ReadFault) (told : Vec Item) (old mid new : List Item) → first ++ last ≡ all → Feeds bytes first between old mid → ((earlier : List ℕ) → HasRead TellsItems earlier between → Takes TellsItems earlier last answer after told) → new ≡ mid ++ told.items → Fed bytes all answer after old new
feeds-more between after bytes first last all answer told old mid new joins feeds taking put =
    let whole = joined bytes first last all joins in
    let takes = taking (bytes ++ first) feeds.read in
    let found = takes.gives.found in
    record {
      feeds = record {
        read = subst (λ (l : List ℕ). HasRead TellsItems l after) whole takes.read;
        gives = record {
          found = feeds.gives.found ++ found;
          more =
              ap (λ (l : List ℕ). items_of (verdict l)) (sym whole)
              ∙ takes.gives.more
              ∙ ap (λ (l : List Item). l ++ found) feeds.gives.more
              ∙ append_assoc (items_of (verdict bytes)) feeds.gives.found found;
          given =
              put
              ∙ ap (λ (l : List Item). mid ++ l) (sym takes.gives.tells)
              ∙ ap (λ (l : List Item). l ++ found) feeds.gives.given
              ∙ append_assoc old feeds.gives.found found;
        };
      };
      answered = takes.answered ∙ ap (λ (l : List ℕ). answer_of (verdict l)) whole;
    }

-- Where the bytes behind this place are refused nothing more is given.
pub feeds-refused : (between after : ObjectReader (Vec Item)) (bytes piece : List ℕ) (here : ℕ) (refused : ReadFault) (told : Vec Item) (old mid : List Item) → Feeds bytes (take here piece) between old mid → ((earlier : List ℕ) → HasRead TellsItems earlier between → Takes TellsItems earlier (drop here piece) (Err refused) after told) → [] ≡ told.items → Fed bytes piece (Err refused) after old mid
feeds-refused between after bytes piece here refused told old mid feeds takes none =
    feeds-more between after bytes (take here piece) (drop here piece) piece (Err refused) told old mid mid (take-append-drop here piece) feeds takes (sym (append-nil mid) ∙ ap (λ (l : List Item). mid ++ l) none)

-- Behind this place an object ends, and is given.
pub feeds-object : (between after : ObjectReader (Vec Item)) (bytes piece : List ℕ) (here n : ℕ) (told : Vec Item) (old mid new : List Item) → Feeds bytes (take here piece) between old mid → ((earlier : List ℕ) → HasRead TellsItems earlier between → Takes TellsItems earlier (take n (drop here piece)) (Ok tt) after told) → new ≡ mid ++ told.items → Fed bytes (take (here + n) piece) (Ok tt) after old new
feeds-object between after bytes piece here n told old mid new feeds takes put =
    feeds-more between after bytes (take here piece) (take n (drop here piece)) (take (here + n) piece) (Ok tt) told old mid new (sym (take-add here n piece)) feeds takes put

-- What was given are the first of the items, however the bytes go on behind this place.
pub feeds-part : (reader : ObjectReader (Vec Item)) (bytes piece : List ℕ) (here : ℕ) (old mid : List Item) → Feeds bytes (take here piece) reader old mid → GivesPart (items_of (verdict bytes)) (items_of (verdict (bytes ++ piece))) old mid
feeds-part reader bytes piece here old mid feeds =
    let begins = read-begins TellsItems (bytes ++ take here piece) (drop here piece) reader feeds.read in
    record {
      found = feeds.gives.found;
      rest = begins.rest;
      more =
          ap (λ (l : List ℕ). items_of (verdict l)) (sym (joined bytes (take here piece) (drop here piece) piece (take-append-drop here piece)))
          ∙ begins.is
          ∙ ap (λ (l : List Item). l ++ begins.rest) feeds.gives.more
          ∙ append_assoc (items_of (verdict bytes)) feeds.gives.found begins.rest;
      given = feeds.gives.given;
    }
