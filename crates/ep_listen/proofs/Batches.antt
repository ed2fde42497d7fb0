-- What a batch adds to what was heard.
use Rattle.std.proofs.Common.{◌≡◌, ◌≢◌, ℕ, zero, suc, ◌+◌, ◌-◌, ◌≤◌, Bool, inl, inr, List, [], ◌∷◌, ◌++◌, length, Some, refl, ap, sym, ◌∙◌, subst, arith, length-append}
use Rattle.std.specs.Prelude.{slice_get, ◌==◌}
use Rattle.std.specs.List.{All, AllByRecursion}
use Rattle.std.proofs.lemmas.Bool.{cases_eq, eq-eqb, ne_eqb}
use Rattle.std.proofs.lemmas.List.{append-nil, length-map}
use Rattle.std.proofs.lemmas.List.Elements.{All-head, All-tail, filter-append}
use Rattle.ep_defs.specs.declared.session.Write.{Write}
use Rattle.ep_model.proofs.Lists.{each-append, each-front}
use Rattle.ep_chunk.specs.Record.{Record}
use Rattle.ep_slot.specs.Slot as slot
use Rattle.ep_row.specs.AtRest.{write_of}
use Rattle.ep_listen.specs.Heard.{HeardEvent, heard_in, heard_of}
use Rattle.ep_listen.specs.Shares.{Account, AreHeard, AreNext, AreRising, IsHeardOf, IsInPlace, IsPartOf, heard_by, numbered, with_taken, write_contents}

-- ---- lists

rising-up : (below most : ℕ) (heard : List HeardEvent) → AreRising below most heard → below ≤ most
rising-up below most [] rising = rising
rising-up below most (e ∷ heard) rising =
    let first = rising.0 in
    let later = rising-up e.number most heard rising.1 in
    omega (arith, first, later)

rising-append : (below mid most : ℕ) (heard more : List HeardEvent) → AreRising below mid heard → AreRising mid most more → AreRising below most (heard ++ more)
rising-append below mid most [] [] first later = omega (arith, first, later)
rising-append below mid most [] (e ∷ more) first later = (omega (arith, first, later.0), later.1)
rising-append below mid most (e ∷ heard) more first later = (first.0, rising-append e.number mid most heard more first.1 later)

rising-front : (below most : ℕ) (heard more : List HeardEvent) → AreRising below most (heard ++ more) → AreRising below most heard
rising-front below most [] more rising = rising-up below most more rising
rising-front below most (e ∷ heard) more rising = (rising.0, rising-front e.number most heard more rising.1)

-- ---- the events of a thread

abbrev AreOf : ℕ → List HeardEvent → Type 0
AreOf thread heard = AllByRecursion (λ e. e.thread ≡ thread) heard

own-heard : (thread : ℕ) (heard : List HeardEvent) → AreOf thread heard → heard_by thread heard ≡ heard
own-heard thread [] own = refl
own-heard thread (e ∷ heard) own = rw (eq-eqb e.thread thread own.0) (ap (λ es. e ∷ es) (own-heard thread heard own.1))

other-heard : (thread other : ℕ) (heard : List HeardEvent) → thread ≢ other → AreOf thread heard → heard_by other heard ≡ []
other-heard thread other [] apart own = refl
other-heard thread other (e ∷ heard) apart own =
    rw (ne_eqb e.thread other (λ same. apart (sym own.0 ∙ same))) (other-heard thread other heard apart own.1)

heard-append : (thread : ℕ) (heard more : List HeardEvent) → heard_by thread (heard ++ more) ≡ heard_by thread heard ++ heard_by thread more
heard-append thread heard more = filter-append (λ (e : HeardEvent). e.thread == thread) heard more

-- ---- the events of records

events-own : (thread : ℕ) (records : List Record) → All (λ r. r.thread ≡ thread) records → AreOf thread (heard_in records)
events-own thread [] own = tt
events-own thread (r ∷ records) own =
    (All-head (λ (s : Record). s.thread ≡ thread) r records own, events-own thread records (All-tail (λ (s : Record). s.thread ≡ thread) r records own))

events-rising : (below most : ℕ) (records : List Record) → slot.AreRising below most records → AreRising below most (heard_in records)
events-rising below most [] rising = rising
events-rising below most (r ∷ records) rising = (rising.0, events-rising r.number most records rising.1)

-- What stands at a place of the writes is numbered by the place.
numbered-at : (first place : ℕ) (writes : List Write) (write : Write) → slice_get writes place ≡ Some write → slice_get (numbered first writes) place ≡ Some (write_contents (first + place) write)
numbered-at first place [] write is = cc
numbered-at first zero (w ∷ writes) write is =
    let same : w ≡ write = cc in
    rw same (ap (λ (n : ℕ). Some (write_contents n write)) (omega arith))
numbered-at first (suc place) (w ∷ writes) write is =
    numbered-at (first + 1) place writes write is ∙ ap (λ (n : ℕ). Some (write_contents n write)) (omega arith)

events-in-place : (admitted : List Write) (below most : ℕ) (records : List Record) → slot.AreRising below most records → All (λ r. slice_get admitted (r.number - 1) ≡ Some (write_of r)) records → AllByRecursion (IsInPlace admitted) (heard_in records)
events-in-place admitted below most [] rising all = tt
events-in-place admitted below most (r ∷ records) rising all =
    let over = rising.0 in
    let here = All-head (λ (s : Record). slice_get admitted (s.number - 1) ≡ Some (write_of s)) r records all in (
      numbered-at 1 (r.number - 1) admitted (write_of r) here ∙ ap (λ (n : ℕ). Some (write_contents n (write_of r))) (omega (arith, over)),
      events-in-place admitted r.number most records rising.1 (All-tail (λ (s : Record). slice_get admitted (s.number - 1) ≡ Some (write_of s)) r records all),
    )

-- ---- a batch

-- What is heard of the batch's own thread.
of-own : (admitted : List Write) (account : Account) (thread last : ℕ) (records : List Record) (old new : Bool) (heard done : List HeardEvent)
    → IsHeardOf admitted account old thread heard → AreNext admitted thread account.last last records → IsPartOf records old new done
    → IsHeardOf admitted (record { taken = account.taken + length records; last = last }) new thread (heard ++ done)
of-own admitted account thread last records old new heard done was next part =
    let events = heard_in records in
    let long : length events ≡ length records = length-map records heard_of in
    let both : length done + length part.others ≡ length events = sym (length-append done part.others) ∙ ap length part.front in
    let own : AreOf thread done = each-front (λ e. e.thread ≡ thread) done part.others (subst (AreOf thread) (sym part.front) (events-own thread records next.of_thread)) in
    let rising : AreRising account.last last done = rising-front account.last last done part.others (subst (AreRising account.last last) (sym part.front) (events-rising account.last last records next.rising)) in
    let placed : AllByRecursion (IsInPlace admitted) done = each-front (IsInPlace admitted) done part.others (subst (AllByRecursion (IsInPlace admitted)) (sym part.front) (events-in-place admitted account.last last records next.rising next.in_place)) in
    let now : heard_by thread (heard ++ done) ≡ heard_by thread heard ++ done = heard-append thread heard done ∙ ap (λ es. heard_by thread heard ++ es) (own-heard thread done own) in
    let longer : length (heard_by thread heard ++ done) ≡ length (heard_by thread heard) + length done = length-append (heard_by thread heard) done in
    record {
      rising = subst (AreRising 0 last) (sym now) (rising-append 0 account.last last (heard_by thread heard) done was.rising rising);
      in_place = subst (AllByRecursion (IsInPlace admitted)) (sym now) (each-append (IsInPlace admitted) (heard_by thread heard) done was.in_place placed);
      few = subst (λ (es : List HeardEvent). length es ≤ account.taken + length records) (sym now) (omega (arith, longer, both, long, was.few));
      all = λ sound.
          let whole = part.all sound in
          let same : length done ≡ length events = ap length whole.1 in
          subst (λ (es : List HeardEvent). length es ≡ account.taken + length records) (sym now) (omega (arith, longer, same, long, was.all whole.0));
    }

-- What is heard of another thread.
of-other : (admitted : List Write) (account : Account) (thread other : ℕ) (records : List Record) (old new : Bool) (heard done : List HeardEvent)
    → thread ≢ other → All (λ r. r.thread ≡ thread) records → IsPartOf records old new done
    → IsHeardOf admitted account old other heard → IsHeardOf admitted account new other (heard ++ done)
of-other admitted account thread other records old new heard done apart of_thread part was =
    let own : AreOf thread done = each-front (λ e. e.thread ≡ thread) done part.others (subst (AreOf thread) (sym part.front) (events-own thread records of_thread)) in
    let now : heard_by other (heard ++ done) ≡ heard_by other heard = heard-append other heard done ∙ ap (λ es. heard_by other heard ++ es) (other-heard thread other done apart own) ∙ append-nil (heard_by other heard) in
    record {
      rising = subst (AreRising 0 account.last) (sym now) was.rising;
      in_place = subst (AllByRecursion (IsInPlace admitted)) (sym now) was.in_place;
      few = subst (λ (es : List HeardEvent). length es ≤ account.taken) (sym now) was.few;
      all = λ sound. ap length now ∙ was.all (part.all sound).0;
    }

pub batch-heard : (admitted : ℕ → List Write) (accounts : ℕ → Account) (thread last : ℕ) (records : List Record) (old new : Bool) (heard done : List HeardEvent)
    → AreHeard admitted accounts old heard → AreNext (admitted thread) thread (accounts thread).last last records → IsPartOf records old new done
    → AreHeard admitted (with_taken accounts thread (length records) last) new (heard ++ done)
batch-heard admitted accounts thread last records old new heard done was next part t =
    elim (cases_eq t thread) [
      | inl here ↦
          rw (eq-eqb t thread here, here) (of-own (admitted thread) (accounts thread) thread last records old new heard done (was thread) next part)
      | inr other ↦
          rw (ne_eqb t thread other)
          (of-other (admitted t) (accounts t) thread t records old new heard done (λ same. other (sym same)) next.of_thread part (was t))
    ]
