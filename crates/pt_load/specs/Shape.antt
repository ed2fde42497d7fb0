-- What a draft keeps of the writes of a thread. All of it is this project's own.
use Rattle.std.specs.Prelude.{◌≡◌, ℕ, ◌%◌, List, length, drop, replicate, slice_get, Some}
use Rattle.ep_defs.specs.declared.session.Write.{Write}
use Rattle.pt_load.specs.declared.plan.Plan.{Plan}
use Rattle.pt_load.specs.Sample.{event_at, payload_of}

-- whose writes a draft gives
pub record Drafted : Type 0 where
  pub plan : Plan
  pub thread : ℕ

-- A write of this event that has all parts of the thread's write with this index, but for the numbers in them.
pub record IsShape (event thread index : ℕ) (write : Write) : Type 0 where
  pub event_is : write.event ≡ event
  pub related : write.related ≡ replicate 16 0
  pub frames : length write.frames ≡ index % 4
  pub payload : length write.payload ≡ length (payload_of event thread 0)
  -- what stands after the index
  pub rest : drop 4 write.payload ≡ drop 4 (payload_of event thread 0)

-- The eight shapes of a thread's writes.
pub record AreShapes (plan : Plan) (thread : ℕ) (shapes : List Write) : Type 0 where
  pub eight : length shapes ≡ 8
  pub each : (k : ℕ) (write : Write) → slice_get shapes k ≡ Some write → IsShape (event_at plan thread k) thread k write
