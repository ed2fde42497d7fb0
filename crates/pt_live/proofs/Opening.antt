-- Where a run's session is open, as it is opened on one row after the other and closed again.
use Rattle.std.proofs.Common.{◌≡◌, ◌∙◌, ℕ, ◌+◌, ◌-◌, ◌<◌, ◌≤◌, true, false, List, Option, Some, length, sym, ap, get_or, arith}
use Rattle.std.specs.Prelude.{Bool, ◌&&◌, nat_lt, replicate, slice_index_or}
use Rattle.std.proofs.lemmas.List.{get_or_default, length-replicate, length-set}
use Rattle.std.proofs.lemmas.List.Sums.{list_all-from_AllPass}
use Rattle.ep_defs.specs.declared.session.Marks.{Marks}
use Rattle.pt_stream.specs.declared.place.Place.{Place}
use Rattle.pt_stream.specs.State.{IsShut, StreamState, closed_on, is_complete, no_place, opened_on, place_at, stays_early, with_place}
use Rattle.pt_stream.proofs.Places.{by-row, place-here, place-none, place-other}
use Rattle.std.proofs.Common.{⊎_elim}
use Rattle.std.proofs.lemmas.Bool.{cases_lt}
use Rattle.pt_live.specs.state.Open.{IsOpenOn}
use Rattle.pt_live.specs.state.Run.{RunState}

-- The place of a row on which the session is open, and of one on which it was closed.
abbrev open_place : Place
open_place = record { next = 1; is_open = true }

abbrev shut_place : Place
shut_place = record { next = 1; is_open = false }

module _ (run : RunState) (rows : ℕ) where
  -- It is open on no row.
  pub open-none : (stream : StreamState) → stream.id ≡ 1 → stream.config ≡ run.config → stream.places ≡ replicate rows no_place → stream.early ≡ true → IsOpenOn run rows 0 0 stream
  open-none stream id config places early =
      record {
        id_is = id;
        config_is = config;
        count = ap (λ (ps : List Place). length ps) places ∙ length-replicate {A = Place} rows no_place;
        ordered = omega arith;
        closed = λ row some low. absurd (omega (arith, some, low));
        opened = λ row low top. absurd (omega (arith, low, top));
        none = λ row some. ap (λ (ps : List Place). place_at ps row) places ∙ place-none rows row;
        early = early;
      }

  -- It is opened on the next row.
  pub open-more : (place : ℕ) (stream : StreamState) → place < rows → stream.stands ≡ Some 0 → IsOpenOn run rows 0 place stream → IsOpenOn run rows 0 (place + 1) (opened_on (place + 1) 0 stream)
  open-more place stream within stands o =
      let long : place + 1 ≤ length stream.places = let count = o.count in omega (arith, count, within) in
      record {
        id_is = o.id_is;
        config_is = o.config_is;
        count = length-set stream.places (place + 1 - 1) open_place ∙ o.count;
        ordered = omega arith;
        closed = λ row some low. absurd (omega (arith, some, low));
        opened = λ row low top.
            by-row (place_at (with_place (place + 1) open_place stream.places) row ≡ open_place) row (place + 1)
            (λ is. ap (place_at (with_place (place + 1) open_place stream.places)) is ∙ place-here stream.places (place + 1) open_place (omega arith) long)
            (λ not. place-other stream.places (place + 1) row open_place (omega arith) low not ∙ o.opened row low (omega (arith, top, not)));
        none = λ row above.
            place-other stream.places (place + 1) row open_place (omega arith) (omega (arith, above)) (λ (is : row ≡ place + 1). omega (arith, above, is))
            ∙ o.none row (omega (arith, above));
        early = ap (λ (b : Bool). b && stays_early stream.stands (place_at stream.places (place + 1)) 0) o.early
            ∙ ap (λ (s : Option ℕ). true && stays_early s (place_at stream.places (place + 1)) 0) stands
            ∙ ap (λ (p : Place). true && stays_early (Some 0) p 0) (o.none (place + 1) (omega arith));
      }

  -- It is closed on the first of the rows on which it is open.
  pub close-more : (low high : ℕ) (stream : StreamState) (marks : List Marks) → low < high → high ≤ rows → IsOpenOn run rows low high stream → IsOpenOn run rows (low + 1) high (closed_on (low + 1) marks stream)
  close-more low high stream marks below few o =
      let now : Place = record (place_at stream.places (low + 1)) { is_open = false } in
      let shut : record (place_at stream.places (low + 1)) { is_open = false } ≡ shut_place =
      ap (λ (p : Place). record p { is_open = false }) (o.opened (low + 1) (omega arith) (omega (arith, below)))
      in
      let long : low + 1 ≤ length stream.places = let count = o.count in omega (arith, count, below, few) in
      record {
        id_is = o.id_is;
        config_is = o.config_is;
        count = length-set stream.places (low + 1 - 1) now ∙ o.count;
        ordered = omega (arith, below);
        closed = λ row some top.
            by-row (place_at (with_place (low + 1) now stream.places) row ≡ shut_place) row (low + 1)
            (λ is. ap (place_at (with_place (low + 1) now stream.places)) is ∙ place-here stream.places (low + 1) now (omega arith) long ∙ shut)
            (λ not. place-other stream.places (low + 1) row now (omega arith) some not ∙ o.closed row some (omega (arith, top, not)));
        opened = λ row above top.
            place-other stream.places (low + 1) row now (omega arith) (omega (arith, above)) (λ (is : row ≡ low + 1). omega (arith, above, is))
            ∙ o.opened row (omega (arith, above)) top;
        none = λ row above.
            place-other stream.places (low + 1) row now (omega arith) (omega (arith, above)) (λ (is : row ≡ low + 1). omega (arith, above, below, is))
            ∙ o.none row above;
        early = o.early;
      }

  -- Closed on all rows on which it was open it is open on none.
  pub closed-all : (opened : ℕ) (stream : StreamState) → IsOpenOn run rows opened opened stream → IsShut rows stream
  closed-all opened stream o row some within =
      ⊎_elim
      (λ (above : opened < row). ap (λ (p : Place). p.is_open) (o.none row above))
      (λ (below : row ≤ opened). ap (λ (p : Place). p.is_open) (o.closed row some below))
      (cases_lt opened row)

  -- Where it was open on all rows, it was opened on each.
  pub opened-each : (opened : ℕ) (stream : StreamState) → rows ≤ opened → IsOpenOn run rows opened opened stream → is_complete stream ≡ true
  opened-each opened stream all o =
      list_all-from_AllPass (λ place. nat_lt 0 place.next) stream.places
      (λ k d small.
      let within : k + 1 ≤ opened = let count = o.count in omega (arith, count, small, all) in
      let place : place_at stream.places (k + 1) ≡ shut_place = o.closed (k + 1) (omega arith) within in
      let down : k + 1 - 1 ≡ k = omega arith in
      let read : get_or stream.places k d ≡ shut_place =
      get_or_default stream.places k d no_place small ∙ ap (λ (i : ℕ). slice_index_or stream.places i no_place) (sym down) ∙ place
      in
      ap (λ (p : Place). nat_lt 0 p.next) read)

  -- The threads' halves are taken back, or lent.
  pub open-moved : (low high : ℕ) (stream : StreamState) (stands : Option ℕ) → IsOpenOn run rows low high stream → IsOpenOn run rows low high (record stream { stands = stands })
  open-moved low high stream stands o =
      record {
        id_is = o.id_is;
        config_is = o.config_is;
        count = o.count;
        ordered = o.ordered;
        closed = o.closed;
        opened = o.opened;
        none = o.none;
        early = o.early;
      }
