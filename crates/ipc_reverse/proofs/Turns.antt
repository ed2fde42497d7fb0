-- What is fixed of calls stays so in each turn of their dock.
use Rattle.std.proofs.Common.{◌≡◌, ℕ, ◌+◌, ◌≤◌, Bool, true, false, ◌||◌, nat_le, Option, Some, None, Result, Ok, Err, subst, sym, ap, refl, ◌∙◌, arith, inl, inr, List}
use Rattle.std.proofs.lemmas.Option.{none-some, same_Some}
use Rattle.pt_io.specs.declared.caller.Caller.{Ghosts as Caller}
use Rattle.pt_io.specs.declared.dock.Arrival.{Arrival}
use Rattle.pt_io.specs.declared.dock.Arrival.TheVariants as arrival
use Rattle.pt_io.specs.declared.sink.Sink.{Ghosts as Sink}
use Rattle.pt_io.specs.declared.source.Failed.{Failed}
use Rattle.pt_io.specs.Sides.{ReadSide}
use Rattle.ipc_reverse.specs.declared.dock.ReverseDock.{ReverseDock}
use Rattle.ipc_reverse.specs.Calls.{CallsState, TurnsTo, IsCut, is_kept, kept_count}
use Rattle.ipc_reverse.specs.Dock.{calls_of}
use Rattle.ipc_reverse.specs.Named.{Fixed, Makes}

-- While it is not over, no link is kept, and fewer were given than may be.
going-by : {L : Type 0} (few : Bool) (kept : Option L) → (few || is_kept kept) ≡ false → (few ≡ false) × (kept ≡ None)
going-by false None going = (refl, refl)
going-by false (Some link) going = cc
going-by true kept going = cc

few-by : (most given : ℕ) → nat_le most given ≡ false → given + 1 ≤ most
few-by most given few = grind arith

-- What is fixed, by what changes.
record Counts {K L : Type 0} (caller : Caller K L) (sink : Sink L) (calls : Fixed) (now : CallsState K L) : Type 0 where
  links : caller.links now.caller ≡ calls.links + now.given + kept_count now.kept
  few : now.given ≤ calls.most
  kept : (link : L) → now.kept ≡ Some link → IsCut sink calls.advert link

counts-on : {K L : Type 0} (caller : Caller K L) (sink : Sink L) (gave : L → ReadSide) (target : List ℕ) (calls : Fixed) (old new : CallsState K L) (result : Result (Arrival L) Failed)
    → Counts caller sink calls old → TurnsTo caller sink gave target calls.advert calls.most old new result → Counts caller sink calls new
counts-on caller sink gave target calls old new (Ok (arrival.Link link)) is turn =
    let going = going-by (nat_le calls.most old.given) old.kept turn.0 in
    let before : caller.links old.caller ≡ calls.links + old.given + 0 = is.links ∙ ap (λ k. calls.links + old.given + kept_count k) going.1 in
    record {
      links = turn.1.called.links ∙ (let n : caller.links old.caller + 1 ≡ calls.links + (old.given + 1) + 0 = omega (arith, before) in n)
          ∙ ap (λ n. calls.links + n + 0) (sym turn.1.given) ∙ ap (λ k. calls.links + new.given + kept_count k) (sym turn.1.none);
      few = subst (λ n. n ≤ calls.most) (sym turn.1.given) (few-by calls.most old.given going.0);
      kept = λ link is. absurd (none-some link (sym turn.1.none ∙ is));
    }
counts-on caller sink gave target calls old new (Ok arrival.Quiet) is turn = absurd turn
counts-on caller sink gave target calls old new (Ok arrival.Closed) is turn = subst (Counts caller sink calls) (sym turn.1) is
counts-on caller sink gave target calls old new (Err failed) is (going, inl misses) =
    let none = (going-by (nat_le calls.most old.given) old.kept going).1 in
    record {
      links = misses.failed.links ∙ is.links ∙ ap (λ k. calls.links + old.given + kept_count k) (none ∙ sym misses.none) ∙ ap (λ n. calls.links + n + kept_count new.kept) (sym misses.given);
      few = subst (λ n. n ≤ calls.most) (sym misses.given) is.few;
      kept = λ link is. absurd (none-some link (sym misses.none ∙ is));
    }
counts-on caller sink gave target calls old new (Err failed) is (going, inr keeps) =
    let none = (going-by (nat_le calls.most old.given) old.kept going).1 in
    let before : caller.links old.caller ≡ calls.links + old.given + 0 = is.links ∙ ap (λ k. calls.links + old.given + kept_count k) none in
    record {
      links = keeps.called.links ∙ (let n : caller.links old.caller + 1 ≡ calls.links + old.given + 1 = omega (arith, before) in n)
          ∙ ap (λ n. calls.links + n + 1) (sym keeps.given) ∙ ap (λ k. calls.links + new.given + kept_count k) (sym keeps.kept);
      few = subst (λ n. n ≤ calls.most) (sym keeps.given) is.few;
      kept = λ link is. subst (IsCut sink calls.advert) (same_Some _ link (sym keeps.kept ∙ is)) keeps.cut;
    }

pub makes_on : {K L : Type 0} (caller : Caller K L) (sink : Sink L) (gave : L → ReadSide) (calls : Fixed) (old new : ReverseDock K L) (result : Result (Arrival L) Failed)
    → Makes caller sink calls old → new.caller.ghost_name ≡ old.caller.ghost_name → new.advert ≡ old.advert → new.most ≡ old.most
    → TurnsTo caller sink gave old.target.now old.advert old.most (calls_of old) (calls_of new) result → Makes caller sink calls new
makes_on caller sink gave calls old new result is same advert most turn =
    let by : TurnsTo caller sink gave old.target.now calls.advert calls.most (calls_of old) (calls_of new) result =
    subst (λ m. TurnsTo caller sink gave old.target.now calls.advert m (calls_of old) (calls_of new) result) is.most
    (subst (λ a. TurnsTo caller sink gave old.target.now a old.most (calls_of old) (calls_of new) result) is.advert turn) in
    let counts = counts-on caller sink gave old.target.now calls (calls_of old) (calls_of new) result (record { links = is.links; few = is.few; kept = is.kept }) by in
    record {
      loan = same ∙ is.loan;
      advert = advert ∙ is.advert;
      most = most ∙ is.most;
      links = counts.links;
      few = counts.few;
      kept = counts.kept;
    }
