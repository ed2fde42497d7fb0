-- What a session's stream tells, whatever bytes it has: events and points, in order.
use Rattle.std.specs.Prelude.{ℕ, List}
use Rattle.ep_defs.specs.declared.event.EventDef.{EventDef}

-- An event as it was written, with its definition and its stack in place of their ids.
pub record EventEntry : Type 0 where
  pub thread : ℕ
  pub number : ℕ
  pub stamp : ℕ
  pub def : EventDef
  pub activity : List ℕ
  pub related : List ℕ
  pub stack : List ℕ
  pub payload : List ℕ

-- How far each thread had come.
pub record PointEntry : Type 0 where
  pub stamp : ℕ
  pub threads : List (ℕ × ℕ)

-- What a stream tells at one place: an event, or a point.
pub data Entry : Type 0 where
  Event : (event : EventEntry) → Entry
  Point : (point : PointEntry) → Entry
