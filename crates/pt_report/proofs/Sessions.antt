-- The shares of a session, in numbers.
use Rattle.std.proofs.Common.{◌≡◌, ℕ, ◌+◌, ◌≤◌, Bool, true, eqb, inl, inr, List, [], ◌∷◌, length, map, take, drop, Option, Some, None, refl, ap, ◌∙◌, subst, arith, length-drop, length-take}
use Rattle.std.specs.Prelude.{◌||◌}
use Rattle.std.specs.Option.{option_map_or}
use Rattle.std.specs.List.{AllByRecursion}
use Rattle.std.proofs.lemmas.Bool.{cases_eq, ne_eqb}
use Rattle.ep_defs.specs.declared.limits.TheConstants.{SCHEDULE_WRITES}
use Rattle.ep_defs.specs.declared.event.EventDef.{EventDef}
use Rattle.ep_defs.specs.declared.session.Config.{Config}
use Rattle.ep_defs.specs.declared.session.Write.{Write}
use Rattle.ep_defs.specs.declared.item.Item.{Item}
use Rattle.ep_defs.specs.Entry.{Entry}
use Rattle.ep_defs.specs.Gaps.{Known, sightings, gaps}
use Rattle.ep_model.specs.Chunks.{refused, written}
use Rattle.ep_model.specs.Entries.{has_stacks}
use Rattle.ep_model.specs.Faithful.{Share, AreFaithful, kept, events_of, last_sighting, is_kept, is_of, numbered, share_of, shares_of}
use Rattle.ep_model.specs.History.{Past, config_of, opened, opened_at, to_of, writes_of, admits_write, admitted_from, admitted}
use Rattle.ep_model.specs.Lawful.{begins, was_opened}
use Rattle.ep_model.proofs.Admitted.{filter-shorter, numbered-long}
use Rattle.ep_model.proofs.Lists.{has}
use Rattle.ep_model.proofs.Sessions.{writes_begun}
use Rattle.nt_blocks.specs.Ordered.{kinds_of}
use Rattle.nt_check.specs.Numbers.{numbers_of}
use Rattle.nt_check.proofs.Counted.{same_numbers}
use Rattle.pt_report.specs.Shares.{share_numbers, session_numbers}
use Rattle.pt_report.proofs.Balance.{made_up}
use Rattle.pt_report.proofs.Numbers.{events_seen, last_is}

-- ---- admitted writes

chosen-long : (definitions : List EventDef) (stacks : Bool) (config : Option Config) (writes : List Write) (at : Option ℕ) → length (numbered definitions stacks 1 (option_map_or (λ from. admitted_from definitions config from writes) at [])) ≡ length (option_map_or (λ from. admitted_from definitions config from writes) at [])
chosen-long definitions stacks config writes None = refl
chosen-long definitions stacks config writes (Some from) = numbered-long definitions stacks config 1 (drop from writes)

admitted-long : (definitions : List EventDef) (session thread : ℕ) (past : Past) → length (share_of definitions session past thread).admitted ≡ length (admitted definitions session thread past)
admitted-long definitions session thread past =
    chosen-long definitions (has_stacks session past) (config_of session past) (take (to_of session thread past) (writes_of thread past)) (opened_at session thread past)

chosen-few : (definitions : List EventDef) (config : Option Config) (to : ℕ) (writes : List Write) (at : Option ℕ) → length (option_map_or (λ from. admitted_from definitions config from (take to writes)) at []) ≤ length writes
chosen-few definitions config to writes None = omega arith
chosen-few definitions config to writes (Some from) =
    let wanted = filter-shorter (λ write. admits_write definitions config write) (drop from (take to writes)) in
    let dropped = length-drop from (take to writes) in
    let taken = length-take to writes in
    omega (arith, wanted, dropped, taken)

admitted-few : (definitions : List EventDef) (session thread : ℕ) (past : Past) → length (admitted definitions session thread past) ≤ length (writes_of thread past)
admitted-few definitions session thread past =
    chosen-few definitions (config_of session past) (to_of session thread past) (writes_of thread past) (opened_at session thread past)

-- ---- a share

-- The numbers of the session's share of a thread are its writes in numbers.
pub share_is : (definitions : List EventDef) (session thread : ℕ) (past : Past) (entries : List Entry) → begins past ≤ SCHEDULE_WRITES → written session thread past + length (refused session thread past) ≡ length (admitted definitions session thread past) → events_of thread entries ≡ kept (share_of definitions session past thread) → gaps thread entries ≡ length (refused session thread past) → last_sighting thread entries ≡ Some (Known (length (share_of definitions session past thread).admitted)) → share_numbers (share_of definitions session past thread) ≡ session_numbers definitions session past thread
share_is definitions session thread past entries few counted complete missing last =
    let share = share_of definitions session past thread in
    let long = admitted-long definitions session thread past in
    let wanted = admitted-few definitions session thread past in
    let begun = writes_begun thread past in
    let some = filter-shorter (is_kept share.refused) share.admitted in
    let all : length share.refused + length (kept share) ≡ length share.admitted =
    made_up (sightings thread entries) (length (kept share)) (length share.refused) (length share.admitted)
    (events_seen thread entries ∙ ap length complete) missing (last_is (length share.admitted) (sightings thread entries) last)
    (omega (arith, long, wanted, begun, some, few, counted)) (omega (arith, long, wanted, begun, few)) in
    same_numbers (share_numbers share) (session_numbers definitions session past thread)
    (omega (arith, long, wanted, begun, few, counted, all)) long (omega (arith, wanted, begun, few, counted))

pub at_opened : (P : Share → Type 0) (f : ℕ → Share) (thread : ℕ) (threads : List ℕ) → AllByRecursion P (map f threads) → has thread threads ≡ true → P (f thread)
at_opened P f thread [] all there = absurd (cc)
at_opened P f thread (t ∷ threads) all there =
    elim (cases_eq t thread) [
      | inl same ↦ subst (λ n. P (f n)) same all.0
      | inr other ↦ at_opened P f thread threads all.1 (rw (ne_eqb t thread other) at there)
    ]

pub is_of-shares : (definitions : List EventDef) (session thread : ℕ) (past : Past) (threads : List ℕ) → is_of (map (λ t. share_of definitions session past t) threads) thread ≡ has thread threads
is_of-shares definitions session thread past [] = refl
is_of-shares definitions session thread past (t ∷ threads) = ap (λ b. eqb t thread || b) (is_of-shares definitions session thread past threads)

-- A thread on which the session was opened has these numbers.
pub session_told : (definitions : List EventDef) (session thread : ℕ) (past : Past) (items : List Item) (entries : List Entry) → AreFaithful (shares_of definitions session past) entries → begins past ≤ SCHEDULE_WRITES → written session thread past + length (refused session thread past) ≡ length (admitted definitions session thread past) → AllByRecursion (λ share. numbers_of share.thread (kinds_of items) ≡ Some (share_numbers share)) (shares_of definitions session past) → was_opened session thread past ≡ true → numbers_of thread (kinds_of items) ≡ Some (session_numbers definitions session past thread)
session_told definitions session thread past items entries faithful few counted all opens =
    let f = λ (t : ℕ). share_of definitions session past t in
    at_opened (λ share. numbers_of share.thread (kinds_of items) ≡ Some (share_numbers share)) f thread (opened session past) all opens
    ∙ ap Some
    (share_is definitions session thread past entries few counted
    (at_opened (λ share. events_of share.thread entries ≡ kept share) f thread (opened session past) faithful.complete opens)
    (at_opened (λ share. gaps share.thread entries ≡ length share.refused) f thread (opened session past) faithful.missing opens)
    (at_opened (λ share. last_sighting share.thread entries ≡ Some (Known (length share.admitted))) f thread (opened session past) faithful.told opens))

-- ---- the threads on which a session is opened
