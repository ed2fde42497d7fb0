-- Events by what they name.
use Rattle.std.specs.Prelude.{ℕ, List}
use Rattle.ep_defs.specs.declared.item.ItemKind.{ItemKind}
use Rattle.ep_defs.specs.declared.item.ItemKind.TheVariants as item
use Rattle.nt_check.specs.declared.checker.EventNames.{EventNames}

-- What else an event says.
pub record EventRest : Type 0 where
  pub processor : ℕ
  pub thread : ℕ
  pub stamp : ℕ
  pub activity : List ℕ
  pub related : List ℕ
  pub payload : List ℕ

-- The event with these names that says this besides.
abbrev pub event_item : EventNames → EventRest → ItemKind
event_item names rest =
    item.Event names.metadata names.number names.capture rest.processor rest.thread names.stack rest.stamp rest.activity rest.related rest.payload
