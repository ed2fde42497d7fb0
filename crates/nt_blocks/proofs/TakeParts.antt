-- What stands before blobs, stacks and threads, and what one of them is read as.
use Rattle.std.proofs.Common.{◌≡◌, ℕ, ◌+◌, ◌-◌, ◌%◌, ◌<◌, ◌≤◌, true, false, Result, Ok, Err, List, length, take, drop, ap, ◌∙◌, arith, length-drop}
use Rattle.std.specs.Prelude.{◌&&◌, nat_le, ◌==◌}
use Rattle.std.specs.Int.{w16, w32, w64}
use Rattle.std.proofs.lemmas.Bool.{le-ltb, lt-ltb, le-leb, lt-leb, and_from}
use Rattle.std.proofs.lemmas.List.{drop-drop, length-take-le}
use Rattle.byteorder.specs.Endian.{little_number}
use Rattle.pt_num.specs.Fields.{Short, fixed_at}
use Rattle.pt_num.proofs.Fronts.{fixed_enough}
use Rattle.nt_blocks.specs.declared.limits.TheConstants.{HEADER_BYTES, LAST_COUNT}
use Rattle.nt_blocks.specs.Refusals.{BadBlock, Uncompressed, Refusal, StackPlace, header_at, point_body_at, refusal, stack_at, stack_body_at, thread_at}
use Rattle.nt_blocks.specs.state.Taken.{CountsStacks, CountsThreads, ReadsStack, ReadsThread}

-- A place that is the first.
pub at_first : {A : Type 0} (at : ℕ) (read : Result A Refusal) → read ≡ Err (refusal at BadBlock) → read ≡ Err (refusal (at + 0) BadBlock)
at_first {A} at read e =
    let fault : ℕ → Result A Refusal = λ n. Err (refusal n BadBlock) in
    let same : at ≡ at + 0 = omega arith in
    e ∙ ap fault same

-- ---- the header of a body of blobs

-- A body that is shorter than any header.
pub header_short : (at : ℕ) (body : List ℕ) → length body < HEADER_BYTES → header_at at body ≡ Err (refusal (at + 0) BadBlock)
unfolding header_at
header_short at body short = at_first at _ (rw (lt-leb HEADER_BYTES (length body) short))

-- A size under 20 or above the body.
pub header_unfit : (at : ℕ) (body : List ℕ) → HEADER_BYTES ≤ length body → (nat_le HEADER_BYTES (little_number 2 body) && nat_le (little_number 2 body) (length body)) ≡ false → header_at at body ≡ Err (refusal (at + 0) BadBlock)
unfolding header_at
header_unfit at body long unfit =
    at_first at _ (rw (le-leb HEADER_BYTES (length body) long, fixed_enough w16 body (omega arith), unfit))

flags-there : (body : List ℕ) → HEADER_BYTES ≤ length body → fixed_at w16 (drop 2 body) ≡ Ok (little_number 2 (drop 2 body), drop 2 (drop 2 body))
flags-there body long = fixed_enough w16 (drop 2 body) (omega (arith, length-drop 2 body))

-- Flags of which the first is not set.
pub header_plain : (at : ℕ) (body : List ℕ) → HEADER_BYTES ≤ little_number 2 body → little_number 2 body ≤ length body → (little_number 2 (drop 2 body) % 2 == 1) ≡ false → header_at at body ≡ Err (refusal (at + 2) Uncompressed)
unfolding header_at
header_plain at body above below plain =
    let long : HEADER_BYTES ≤ length body = omega arith in
    rw (le-leb HEADER_BYTES (length body) long, fixed_enough w16 body (omega arith), and_from _ _ (le-leb HEADER_BYTES (little_number 2 body) above) (le-leb (little_number 2 body) (length body) below), flags-there body long, plain)

-- A header that is whole.
pub header_found : (at : ℕ) (body : List ℕ) → HEADER_BYTES ≤ little_number 2 body → little_number 2 body ≤ length body → (little_number 2 (drop 2 body) % 2 == 1) ≡ true → header_at at body ≡ Ok (little_number 2 body)
unfolding header_at
header_found at body above below compressed =
    let long : HEADER_BYTES ≤ length body = omega arith in
    rw (le-leb HEADER_BYTES (length body) long, fixed_enough w16 body (omega arith), and_from _ _ (le-leb HEADER_BYTES (little_number 2 body) above) (le-leb (little_number 2 body) (length body) below), flags-there body long, compressed)

-- ---- stacks

-- A first id that is cut.
pub stacks_unnumbered : (at : ℕ) (body : List ℕ) → fixed_at w32 body ≡ Err Short → stack_body_at at body ≡ Err (refusal at BadBlock)
unfolding stack_body_at
stacks_unnumbered at body cut = rw cut

-- A number of stacks that is cut.
pub stacks_uncounted : (at first : ℕ) (body : List ℕ) → fixed_at w32 body ≡ Ok (first, drop 4 body) → fixed_at w32 (drop 4 body) ≡ Err Short → stack_body_at at body ≡ Err (refusal at BadBlock)
unfolding stack_body_at
stacks_uncounted at first body numbered cut = rw (numbered, cut)

-- A first id or a number of stacks that is too great.
pub stacks_unfit : (at first count : ℕ) (body : List ℕ) → fixed_at w32 body ≡ Ok (first, drop 4 body) → fixed_at w32 (drop 4 body) ≡ Ok (count, drop 4 (drop 4 body)) → (nat_le first LAST_COUNT && nat_le count LAST_COUNT) ≡ false → stack_body_at at body ≡ Err (refusal at BadBlock)
unfolding stack_body_at
stacks_unfit at first count body numbered counted unfit = rw (numbered, counted, unfit)

-- A first id and a number of stacks that may stand there.
pub stacks_counted : (first count : ℕ) (body : List ℕ) → fixed_at w32 body ≡ Ok (first, drop 4 body) → fixed_at w32 (drop 4 body) ≡ Ok (count, drop 4 (drop 4 body)) → first ≤ LAST_COUNT → count ≤ LAST_COUNT → 8 ≤ length body → CountsStacks body first count
unfolding stack_body_at
stacks_counted first count body numbered counted first_fits count_fits within =
    record {
      first_fits = first_fits;
      count_fits = count_fits;
      within = within;
      read = λ at. rw (numbered, counted, and_from _ _ (le-leb first LAST_COUNT first_fits) (le-leb count LAST_COUNT count_fits), drop-drop 4 4 body);
    }

-- A size that is cut.
pub stack_unsized : (start : ℕ) (place : StackPlace) (bytes : List ℕ) → fixed_at w32 bytes ≡ Err Short → stack_at start place bytes ≡ Err (refusal start BadBlock)
unfolding stack_at
stack_unsized start place bytes cut = rw cut

-- A stack that runs past the bytes.
pub stack_cut : (start : ℕ) (place : StackPlace) (size : ℕ) (bytes : List ℕ) → fixed_at w32 bytes ≡ Ok (size, drop 4 bytes) → length (drop 4 bytes) < size → stack_at start place bytes ≡ Err (refusal start BadBlock)
unfolding stack_at
stack_cut start place size bytes sized past = let short = lt-ltb (length (drop 4 bytes)) size past in rw (sized, short)

-- A stack behind its size.
pub stack_found : (size : ℕ) (bytes : List ℕ) → fixed_at w32 bytes ≡ Ok (size, drop 4 bytes) → 4 ≤ length bytes → size ≤ length (drop 4 bytes) → ReadsStack bytes (take size (drop 4 bytes))
unfolding stack_at
stack_found size bytes sized some within =
    let len = length-take-le size (drop 4 bytes) within in
    let long = le-ltb (length (drop 4 bytes)) size within in
    record {
      within = rw len (omega (arith, length-drop 4 bytes));
      read = λ start place.
          let ends : place.at + (length bytes - length (drop size (drop 4 bytes))) ≡ place.at + (4 + size) = omega (arith, length-drop 4 bytes, length-drop size (drop 4 bytes)) in
          rw (len, sized, long, ends, drop-drop size 4 bytes);
    }

-- ---- points

-- A stamp that is cut.
pub point_unstamped : (at : ℕ) (body : List ℕ) → fixed_at w64 body ≡ Err Short → point_body_at at body ≡ Err (refusal at BadBlock)
unfolding point_body_at
point_unstamped at body cut = rw cut

-- A number of threads that is cut.
pub point_uncounted : (at stamp : ℕ) (body : List ℕ) → fixed_at w64 body ≡ Ok (stamp, drop 8 body) → fixed_at w32 (drop 8 body) ≡ Err Short → point_body_at at body ≡ Err (refusal at BadBlock)
unfolding point_body_at
point_uncounted at stamp body stamped cut = rw (stamped, cut)

-- A number of threads that is too great.
pub point_unfit : (at stamp count : ℕ) (body : List ℕ) → fixed_at w64 body ≡ Ok (stamp, drop 8 body) → fixed_at w32 (drop 8 body) ≡ Ok (count, drop 4 (drop 8 body)) → LAST_COUNT < count → point_body_at at body ≡ Err (refusal at BadBlock)
unfolding point_body_at
point_unfit at stamp count body stamped counted over = rw (stamped, counted, lt-leb count LAST_COUNT over)

-- A stamp and a number of threads that may stand there.
pub point_counted : (stamp count : ℕ) (body : List ℕ) → fixed_at w64 body ≡ Ok (stamp, drop 8 body) → fixed_at w32 (drop 8 body) ≡ Ok (count, drop 4 (drop 8 body)) → count ≤ LAST_COUNT → 12 ≤ length body → CountsThreads body stamp count
unfolding point_body_at
point_counted stamp count body stamped counted fits within =
    record {
      within = within;
      read = λ at. rw (stamped, counted, le-leb count LAST_COUNT fits, drop-drop 4 8 body);
    }

-- A thread that is cut.
pub thread_unnamed : (start left : ℕ) (bytes : List ℕ) → fixed_at w64 bytes ≡ Err Short → thread_at start left bytes ≡ Err (refusal start BadBlock)
unfolding thread_at
thread_unnamed start left bytes cut = rw cut

-- A number that is cut.
pub thread_unnumbered : (start left thread : ℕ) (bytes : List ℕ) → fixed_at w64 bytes ≡ Ok (thread, drop 8 bytes) → fixed_at w32 (drop 8 bytes) ≡ Err Short → thread_at start left bytes ≡ Err (refusal start BadBlock)
unfolding thread_at
thread_unnumbered start left thread bytes named cut = rw (named, cut)

-- A thread and its number.
pub thread_found : (thread number : ℕ) (bytes : List ℕ) → fixed_at w64 bytes ≡ Ok (thread, drop 8 bytes) → fixed_at w32 (drop 8 bytes) ≡ Ok (number, drop 4 (drop 8 bytes)) → 12 ≤ length bytes → ReadsThread bytes (thread, number)
unfolding thread_at
thread_found thread number bytes named numbered within =
    record { within = within; read = λ start left. rw (named, numbered, drop-drop 4 8 bytes) }
