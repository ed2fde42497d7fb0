-- What a callback hears of a write (this project's profile).
use Rattle.std.specs.Prelude.{ℕ, List, map}
use Rattle.ep_chunk.specs.Record.{Record, frame_bytes}
use Rattle.ep_listen.specs.declared.heard.Heard.{Heard}

-- An event that was heard.
pub record HeardEvent : Type 0 where
  -- the number of the event's definition
  pub event : ℕ
  -- the write's number among those of its thread that the session admits
  pub number : ℕ
  pub thread : ℕ
  pub stamp : ℕ
  pub activity : List ℕ
  pub related : List ℕ
  -- eight bytes for each frame, the low byte first
  pub frames : List ℕ
  pub payload : List ℕ

-- The event that is handed over.
abbrev pub event_of : Heard → HeardEvent
event_of heard =
    record {
      event = heard.event;
      number = heard.number;
      thread = heard.thread;
      stamp = heard.stamp;
      activity = heard.activity;
      related = heard.related;
      frames = heard.frames.now;
      payload = heard.payload.now;
    }

-- What is to be heard of a record.
abbrev pub heard_of : Record → HeardEvent
heard_of r =
    record {
      event = r.event;
      number = r.number;
      thread = r.thread;
      stamp = r.stamp;
      activity = r.activity;
      related = r.related;
      frames = frame_bytes r.frames;
      payload = r.payload;
    }

-- What is to be heard of records, in their order.
abbrev pub heard_in : List Record → List HeardEvent
heard_in records = map heard_of records
