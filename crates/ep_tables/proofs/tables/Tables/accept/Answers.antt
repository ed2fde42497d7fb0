use Rattle.std.proofs.Common.{◌≡◌, ap, sym, ◌∙◌, arith, ◌+◌, ◌<◌, List, ◌∷◌, length, map, ℕ, refl}
use Rattle.ep_table.specs.Sessions.{accepted_by, held_count}
use Rattle.ep_table.specs.declared.table.Accepted.TheVariants.{Seat as SeatAt}
use Rattle.ep_stream.specs.Session.{new_rest}
use Rattle.ep_tables.specs.Falling.{falls}
use Rattle.ep_tables.specs.Tables.{number_of}
use Rattle.ep_tables.specs.declared.tables.Present.{Present}
use Rattle.ep_tables.proofs.Falling.{falls_before}
use Rattle.ep_tables.proofs.TiedComings.{comer_tied, accept_tied}
use Rattle.ep_tables.proofs.Seats.{seated, free_slot}
use Rattle.ep_tables.proofs.tables.Tables.accept.Goals as goal

pub unreachable-requires : goal.unreachable-requires
unreachable-requires c =
    let full : held_count c.args.self.now.table ≡ 64 = c.accept.ensures.full.0 c.in_default.is in
    let count : held_count c.args.self.now.table ≡ length c.args.self.now.present.items = c.requires.tied.count in
    let few : length c.args.self.now.present.items < 64 = c.requires.ready.can.2 in
    omega (arith, full, count, few)

pub begin_session-requires : goal.begin_session-requires
begin_session-requires c =
    let at = seated c.args.self.now.table c.in-Seat.slot c.in-Seat.id (sym c.accept.ensures.answer ∙ c.in-Seat.is) in
    let less : c.in-Seat.slot < length c.args.self.now.table.seats = at.less in
    let seats : length c.args.self.now.table.seats ≡ 64 = c.requires.tied.seats in
    omega (arith, less, seats)

pub seat-requires-clause-slot : goal.seat-requires-clause-slot
seat-requires-clause-slot c = c.in_ok-present.present.within

pub seat-requires-clause-off : goal.seat-requires-clause-off
seat-requires-clause-off c r =
    let slot = c.in_ok-present.present.slot in
    let seat : accepted_by c.args.self.now.table ≡ SeatAt slot c.in-Seat.id = sym c.accept.ensures.answer ∙ c.in-Seat.is ∙ ap (λ (s : ℕ). SeatAt s c.in-Seat.id) (sym c.in_ok-present.ensures.begun.slot_is) in
    c.requires.tied.off r slot (sym (c.requires.tied.held slot) ∙ free_slot c.args.self.now.table slot c.in-Seat.id seat)

pub returns-clause-made : goal.returns-clause-made
returns-clause-made c =
    let now = c.in_ok-present.present in
    let begun = c.in_ok-present.ensures.begun in
    record {
      now = now;
      id = c.in-Seat.id;
      seat = sym c.accept.ensures.answer ∙ c.in-Seat.is ∙ ap (λ (s : ℕ). SeatAt s c.in-Seat.id) (sym begun.slot_is);
      table = c.accept.ensures.after;
      number = begun.number;
      rest = (0, begun.rest ∙ ap (λ (n : ℕ). new_rest (record { slot = now.slot; id = n; conn = 0 }) c.args.config) begun.number);
      hands = begun.hands;
      ever = begun.ever;
      count = begun.len;
      begun = begun.begun;
      sessions = c.in_default-insert.ensures.items;
      rows = c.in_ok-seat.ensures.seated;
      last_session = refl;
      events_stay = record { events = refl; known = c.in_ok-seat.ensures.definitions };
      threads = record { threads = refl; last_thread = refl };
      begins = refl;
    }

pub returns-clause-tied : goal.returns-clause-tied
returns-clause-tied c =
    let old = c.args.self.now in
    let now = c.in_ok-present.present in
    let begun = c.in_ok-present.ensures.begun in
    let seated = c.in_ok-seat.ensures in
    let seat : accepted_by old.table ≡ SeatAt now.slot c.in-Seat.id = sym c.accept.ensures.answer ∙ c.in-Seat.is ∙ ap (λ (s : ℕ). SeatAt s c.in-Seat.id) (sym begun.slot_is) in
    accept_tied old _ now c.in-Seat.id seat c.accept.ensures.after c.in_default-insert.ensures.items refl seated.definitions seated.seated.slots seated.cleared
    (comer_tied old.rows c.seat.new.self now _ _ begun.rest refl refl begun.hands begun.count begun.sound begun.len
    (λ r. c.requires.tied.off r now.slot (sym (c.requires.tied.held now.slot) ∙ free_slot old.table now.slot c.in-Seat.id seat)) seated.seated.slots seated.cleared)
    c.requires.tied

pub invariant_of-self-2 : goal.invariant_of-self-2
invariant_of-self-2 c =
    let old = c.args.self.now in
    let session = c.args.session in
    let numbers = map number_of old.present.items in
    record {
      given = old.given;
      places = old.places;
      known = old.known;
      falling = ap (λ (ps : List Present). falls (session + 1) (map number_of ps)) c.in_default-insert.ensures.items
          ∙ ap (λ (n : ℕ). falls (session + 1) (n ∷ numbers)) c.in_ok-present.ensures.begun.number
          ∙ falls_before old.last_session session numbers c.requires.ready.can.0 old.falling;
    }
