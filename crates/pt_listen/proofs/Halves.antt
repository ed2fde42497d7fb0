-- A session's rows after a call.
use Rattle.std.proofs.Common.{◌≡◌, ◌≢◌, ◌∙◌, ℕ, zero, suc, ◌+◌, ◌-◌, ◌<◌, true, false, List, [], ◌∷◌, ◌++◌, Option, None, Some, length, refl, sym, ap, arith}
use Rattle.std.specs.Prelude.{Bool, slice_index_or, slice_set, ◌==◌, if◌then◌else◌}
use Rattle.std.specs.List.{sum_by}
use Rattle.std.proofs.lemmas.Bool.{eq-eqb, eqb-true, eqb-false, ne_eqb}
use Rattle.std.proofs.lemmas.List.{get_or_past}
use Rattle.std.proofs.Math.Dec.{eqb-suc-suc}
use Rattle.std.proofs.lemmas.Option.{none-some}
use Rattle.ep_defs.specs.declared.session.Config.{Config}
use Rattle.ep_guarded.specs.Tied.{hand_in}
use Rattle.ep_slot.specs.Hand.{HandState}
use Rattle.ep_stream.specs.Hands.{hand_at}
use Rattle.ep_stream.specs.Rows.{IsSame, IsSetAt, StillAttaches}
use Rattle.ep_stream.proofs.Taking.{at_slot, had_hand, hand_back, hand_gone, same_slot}
use Rattle.ep_live.specs.RowSet.{LiveRowsState, configured_in, expected_in, half_at, out_in, stolen_in}
use Rattle.pt_listen.specs.state.Hearing.{AreItsRows, can_attach}

-- What a call takes out: of the session's slot so many chunks more are out.
abbrev pub IsOut : ℕ → ℕ → LiveRowsState → LiveRowsState → Type 0
IsOut slot chunks old new = (s : ℕ) → out_in new s ≡ (if s == slot then out_in old s + chunks else out_in old s)

-- What comes back.
abbrev pub IsBack : ℕ → ℕ → LiveRowsState → LiveRowsState → Type 0
IsBack slot chunks old new = (s : ℕ) → out_in new s ≡ (if s == slot then out_in old s - chunks else out_in old s)

-- What a give leaves as it was.
pub record Stays (old new : LiveRowsState) : Type 0 where
  pub expected : IsSame (expected_in old) (expected_in new)
  pub configured : IsSame (configured_in old) (configured_in new)
  pub rows : length new.halves ≡ length old.halves
  pub attaches : StillAttaches (can_attach old) (can_attach new)

-- Nothing is out once what was taken is given back.
back-again : (slot chunks : ℕ) (old mid new : LiveRowsState) → out_in old slot ≡ 0 → IsOut slot chunks old mid → IsBack slot chunks mid new → out_in new slot ≡ 0
back-again slot chunks old mid new none out back =
    let there : out_in mid slot ≡ out_in old slot + chunks = out slot ∙ same_slot slot (out_in old slot + chunks) (out_in old slot) in
    back slot ∙ same_slot slot (out_in mid slot - chunks) (out_in mid slot) ∙ omega (arith, there, none)

pub out-between : (slot chunks : ℕ) (old mid : LiveRowsState) → out_in old slot ≡ 0 → IsOut slot chunks old mid → out_in mid slot ≡ chunks
out-between slot chunks old mid none out =
    out slot ∙ same_slot slot (out_in old slot + chunks) (out_in old slot) ∙ omega (arith, none)

-- The session has its rows after a call and a give, where they are told by these hands and nothing of them is out.
its-after : (count slot : ℕ) (config : Config) (old mid new : LiveRowsState) (hands after : List (Option HandState))
    → AreItsRows count slot config old hands → length mid.halves ≡ length old.halves → StillAttaches (can_attach old) (can_attach mid) → Stays mid new
    → ((row : ℕ) → expected_in new row slot ≡ hand_at after row) → ((row : ℕ) (hand : HandState) → hand_at after row ≡ Some hand → configured_in new row slot ≡ Some config)
    → out_in new slot ≡ 0 → AreItsRows count slot config new after
its-after count slot config old mid new hands after its long still stays expected configured out =
    let first = still old.slot old.grant.config (refl, refl) in
    let second = stays.attaches mid.slot mid.grant.config (refl, refl) in
    record {
      within = its.within;
      rows = stays.rows ∙ long ∙ its.rows;
      slot_is = sym second.0 ∙ sym first.0 ∙ its.slot_is;
      config_is = sym second.1 ∙ sym first.1 ∙ its.config_is;
      expected = expected;
      configured = configured;
      out = out;
    }

-- A batch was taken with the hand of a row, and given back.
pub its-taken : (count slot row chunks : ℕ) (config : Config) (old mid new : LiveRowsState) (hands : List (Option HandState)) (hand now : HandState)
    → AreItsRows count slot config old hands → hand_at hands row ≡ Some hand
    → IsSetAt row slot (Some now) (expected_in old) (expected_in mid) → IsSame (configured_in old) (configured_in mid) → IsOut slot chunks old mid
    → length mid.halves ≡ length old.halves → StillAttaches (can_attach old) (can_attach mid)
    → Stays mid new → IsBack slot chunks mid new
    → AreItsRows count slot config new (slice_set (slice_set hands (row - 1) None) (row - 1) (Some now))
its-taken count slot row chunks config old mid new hands hand now its was expected configured out long still stays back =
    its-after count slot config old mid new hands (slice_set (slice_set hands (row - 1) None) (row - 1) (Some now)) its long still stays
    (λ r.
    stays.expected r slot
    ∙ expected r slot
    ∙ at_slot r row slot (Some now) (expected_in old r slot)
    ∙ ap (λ (o : Option HandState). if r == row then Some now else o) (its.expected r)
    ∙ sym (hand_back hands row hand now r was))
    (λ r other is.
    stays.configured r slot
    ∙ configured r slot
    ∙ had_hand r row (hand_at hands) hand now other was (sym (hand_back hands row hand now r was) ∙ is) (configured_in old r slot ≡ Some config) (λ h at. its.configured r h at))
    (back-again slot chunks old mid new its.out out back)

-- What stands where a row's hand was taken out stood there before, and on another row.
pub other-hand : (hands : List (Option HandState)) (row r : ℕ) (hand other : HandState) → hand_at hands row ≡ Some hand → hand_at (slice_set hands (row - 1) None) r ≡ Some other → (r ≢ row) × (hand_at hands r ≡ Some other)
other-hand hands row r hand other was is =
    elim (r == row) as (λ v. (r == row) ≡ v → (if v then None else hand_at hands r) ≡ Some other → (r ≢ row) × (hand_at hands r ≡ Some other)) [
      | true ↦ λ same at. absurd (none-some other at)
      | false ↦ λ same at. (eqb-false r row same, at)
    ]
    refl (sym (hand_gone hands row hand r was) ∙ is)

-- The session was closed on a row, and what was pending there was given back.
pub its-left : (count slot row chunks : ℕ) (config : Config) (old mid new : LiveRowsState) (hands : List (Option HandState)) (hand : HandState)
    → AreItsRows count slot config old hands → hand_at hands row ≡ Some hand
    → IsSetAt row slot None (expected_in old) (expected_in mid) → IsSetAt row slot None (configured_in old) (configured_in mid) → IsOut slot chunks old mid
    → length mid.halves ≡ length old.halves → StillAttaches (can_attach old) (can_attach mid)
    → Stays mid new → IsBack slot chunks mid new
    → AreItsRows count slot config new (slice_set hands (row - 1) None)
its-left count slot row chunks config old mid new hands hand its was expected configured out long still stays back =
    its-after count slot config old mid new hands (slice_set hands (row - 1) None) its long still stays
    (λ r.
    stays.expected r slot
    ∙ expected r slot
    ∙ at_slot r row slot None (expected_in old r slot)
    ∙ ap (λ (o : Option HandState). if r == row then None else o) (its.expected r)
    ∙ sym (hand_gone hands row hand r was))
    (λ r other is.
    let there = other-hand hands row r hand other was is in
    stays.configured r slot
    ∙ configured r slot
    ∙ at_slot r row slot None (configured_in old r slot)
    ∙ not-row r row None (configured_in old r slot) there.0
    ∙ its.configured r other there.1)
    (back-again slot chunks old mid new its.out out back)
  where
    not-row : {A : Type 0} (r row : ℕ) (a b : A) → r ≢ row → (if r == row then a else b) ≡ b
    not-row r row a b apart =
        elim (r == row) as (λ v. (r == row) ≡ v → (if v then a else b) ≡ b) [
          | true ↦ λ same. absurd (apart (eqb-true r row same))
          | false ↦ λ same. refl
        ]
        refl

-- ---- the opening

index-push : (hands : List (Option HandState)) (hand : HandState) (place : ℕ) → slice_index_or (hands ++ Some hand ∷ []) place None ≡ (if place == length hands then Some hand else slice_index_or hands place None)
index-push [] hand zero = sym (ap (λ (v : Bool). if v then Some hand else None) (eq-eqb 0 0 refl))
index-push [] hand (suc place) = sym (ap (λ (v : Bool). if v then Some hand else None) (ne_eqb (suc place) 0 (λ same. omega (arith, same))))
index-push (h ∷ hands) hand zero = sym (ap (λ (v : Bool). if v then Some hand else h) (ne_eqb 0 (suc (length hands)) (λ same. omega (arith, same))))
index-push (h ∷ hands) hand (suc place) =
    index-push hands hand place ∙ ap (λ (v : Bool). if v then Some hand else slice_index_or hands place None) (sym (eqb-suc-suc place (length hands)))

-- A hand behind others is that of the next row.
pub hand_at-push : (hands : List (Option HandState)) (hand : HandState) (r : ℕ) → hand_at (hands ++ Some hand ∷ []) r ≡ (if r == length hands + 1 then Some hand else hand_at hands r)
hand_at-push hands hand zero = ap (λ (v : Bool). if v then Some hand else None) (sym (ne_eqb 0 (length hands + 1) (λ same. omega (arith, same))))
hand_at-push hands hand (suc place) =
    index-push hands hand place
    ∙ ap (λ (v : Bool). if v then Some hand else slice_index_or hands place None) (sym (eqb-suc-suc place (length hands)))
    ∙ ap (λ (n : ℕ). if suc place == n then Some hand else slice_index_or hands place None) (up hands)
  where
    up : (hs : List (Option HandState)) → suc (length hs) ≡ length hs + 1
    up hs = omega arith

-- The session was opened on the next row.
pub its-opened : (count slot row : ℕ) (config : Config) (old new : LiveRowsState) (hands : List (Option HandState)) (hand : HandState)
    → AreItsRows count slot config old hands → row ≡ length hands + 1
    → IsSetAt row slot (Some hand) (expected_in old) (expected_in new) → IsSetAt row slot (Some config) (configured_in old) (configured_in new) → ((s : ℕ) → out_in new s ≡ out_in old s)
    → length new.halves ≡ length old.halves → StillAttaches (can_attach old) (can_attach new)
    → AreItsRows count slot config new (hands ++ Some hand ∷ [])
its-opened count slot row config old new hands hand its row_is expected configured out long still =
    let first = still old.slot old.grant.config (refl, refl) in
    record {
      within = its.within;
      rows = long ∙ its.rows;
      slot_is = sym first.0 ∙ its.slot_is;
      config_is = sym first.1 ∙ its.config_is;
      expected = λ r.
          expected r slot
          ∙ at_slot r row slot (Some hand) (expected_in old r slot)
          ∙ ap (λ (o : Option HandState). if r == row then Some hand else o) (its.expected r)
          ∙ ap (λ (n : ℕ). if r == n then Some hand else hand_at hands r) row_is
          ∙ sym (hand_at-push hands hand r);
      configured = λ r other is.
          configured r slot
          ∙ at_slot r row slot (Some config) (configured_in old r slot)
          ∙ by_case r other (ap (λ (n : ℕ). if r == n then Some hand else hand_at hands r) row_is ∙ sym (hand_at-push hands hand r) ∙ is);
      out = out slot ∙ its.out;
    }
  where
    by_case : (r : ℕ) (other : HandState) → (if r == row then Some hand else hand_at hands r) ≡ Some other → (if r == row then Some config else configured_in old r slot) ≡ Some config
    by_case r other =
        elim (r == row) as (λ v. (if v then Some hand else hand_at hands r) ≡ Some other → (if v then Some config else configured_in old r slot) ≡ Some config) [
          | true ↦ λ at. refl
          | false ↦ λ at. its.configured r other at
        ]

-- The rows lend the threads' halves or have them back.
pub its-moved : (count slot : ℕ) (config : Config) (set : LiveRowsState) (hands : List (Option HandState)) (stands : Option ℕ) → AreItsRows count slot config set hands → AreItsRows count slot config (record set { stands = stands }) hands
its-moved count slot config set hands stands its =
    record {
      within = its.within;
      rows = its.rows;
      slot_is = its.slot_is;
      config_is = its.config_is;
      expected = its.expected;
      configured = its.configured;
      out = its.out;
    }

-- ---- the end

-- No hand stands past the last row.
pub hand-past : (hands : List (Option HandState)) (row : ℕ) → length hands < row → hand_at hands row ≡ None
hand-past hands zero past = absurd (omega (arith, past))
hand-past hands (suc place) past = get_or_past hands place None (omega (arith, past))

-- Where no row has a hand, none is expected in any slot.
pub none-expected : (count slot : ℕ) (config : Config) (set : LiveRowsState) (hands : List (Option HandState)) → AreItsRows count slot config set hands → ((row : ℕ) → hand_at hands row ≡ None)
    → (row s : ℕ) → expected_in set row s ≡ None
none-expected count slot config set hands its none row s =
    let says : Option HandState = hand_in (half_at set.halves row).value in
    let here : expected_in set row set.slot ≡ None = ap (λ (n : ℕ). expected_in set row n) its.slot_is ∙ its.expected row ∙ none row in
    elim (s == set.slot) as (λ v. (if v then hand_in (half_at set.halves row).value else None) ≡ None) [
      | true ↦ sym (same_slot set.slot says None) ∙ here
      | false ↦ refl
    ]

-- Nor is anything out.
pub none-out : (count slot : ℕ) (config : Config) (set : LiveRowsState) (hands : List (Option HandState)) → AreItsRows count slot config set hands → (s : ℕ) → out_in set s ≡ 0
none-out count slot config set hands its s =
    let all : ℕ = sum_by stolen_in set.halves + set.seat.taken - set.seat.given in
    let here : out_in set set.slot ≡ 0 = ap (λ (n : ℕ). out_in set n) its.slot_is ∙ its.out in
    elim (s == set.slot) as (λ v. (if v then sum_by stolen_in set.halves + set.seat.taken - set.seat.given else 0) ≡ 0) [
      | true ↦ sym (same_slot set.slot all 0) ∙ here
      | false ↦ refl
    ]
