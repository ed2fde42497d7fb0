-- What items that tell the shares of threads say of each of them.
use Rattle.std.proofs.Common.{◌≡◌, ℕ, true, false, cond, eqb, inl, inr, List, [], ◌∷◌, ◌++◌, length, map, filter, Some, None, refl, sym, ap, ◌∙◌, arith}
use Rattle.std.specs.List.{count_by, last_or, list_all, AllByRecursion}
use Rattle.std.proofs.lemmas.Bool.{cases_Bool, cases_eq, and_parts, ne_eqb}
use Rattle.std.proofs.lemmas.List.Sums.{sum_by-cons, sum_by-append}
use Rattle.ep_defs.specs.declared.item.Item.{Item}
use Rattle.ep_defs.specs.Entry.{Entry, Event, Point}
use Rattle.ep_defs.specs.Gaps.{Sighting, Seen, Known, sightings, gaps, missing, last_number}
use Rattle.ep_model.specs.Faithful.{Share, kept, events_of, is_of, is_among, last_sighting}
use Rattle.nt_blocks.specs.Ordered.{no_names, kinds_of, Tell}
use Rattle.nt_blocks.proofs.Seeing.{told-seen}
use Rattle.nt_check.specs.Numbers.{held, is_event, tally, told, numbers_of}
use Rattle.nt_check.proofs.Counted.{same_numbers}
use Rattle.pt_report.specs.Shares.{share_numbers}

-- ---- events

no_events : (named : List (ℕ × ℕ)) → count_by is_event (map (λ (t : ℕ × ℕ). Known t.1) named) ≡ 0
no_events [] = refl
no_events (pair ∷ named) = no_events named

-- The events that are seen are those of the thread.
pub events_seen : (thread : ℕ) (entries : List Entry) → count_by is_event (sightings thread entries) ≡ length (events_of thread entries)
events_seen thread [] = refl
events_seen thread (Event e ∷ entries) =
    let rest = events_seen thread entries in
    elim (cases_Bool (eqb e.thread thread)) [
      | inl own ↦ let one = sum_by-cons (λ s. cond (is_event s) 1 0) (Seen e.number) (sightings thread entries) in rw own (omega (arith, one, rest))
      | inr other ↦ rw other rest
    ]
events_seen thread (Point p ∷ entries) =
    let named = filter (λ (t : ℕ × ℕ). eqb t.0 thread) p.threads in
    let rest = events_seen thread entries in
    let none = no_events named in
    let both = sum_by-append (λ s. cond (is_event s) 1 0) (map (λ (t : ℕ × ℕ). Known t.1) named) (sightings thread entries) in
    omega (arith, both, none, rest)

-- ---- the last sighting

abbrev number_in : Sighting → ℕ
number_in (Seen number) = number
number_in (Known number) = number

last_known : (before : Sighting) (number : ℕ) (later : List Sighting) → last_or (Some before) later ≡ Some (Known number) → last_number (number_in before) later ≡ number
last_known before number [] e = let same : before ≡ Known number = cc in ap number_in same
last_known before number (Seen n ∷ later) e = last_known (Seen n) number later e
last_known before number (Known n ∷ later) e = last_known (Known n) number later e

pub last_is : (number : ℕ) (all : List Sighting) → last_or None all ≡ Some (Known number) → last_number 0 all ≡ number
last_is number [] e = absurd (cc)
last_is number (Seen n ∷ later) e = last_known (Seen n) number later e
last_is number (Known n ∷ later) e = last_known (Known n) number later e

is_told : (number : ℕ) (all : List Sighting) → last_or None all ≡ Some (Known number) → told all ≡ Some (tally all)
is_told number [] e = absurd (cc)
is_told number (sighting ∷ later) e = refl

-- ---- shares

share_told : (share : Share) (items : List Item) (entries : List Entry) → Tell items entries → events_of share.thread entries ≡ kept share → gaps share.thread entries ≡ length share.refused → last_sighting share.thread entries ≡ Some (Known (length share.admitted)) → numbers_of share.thread (kinds_of items) ≡ Some (share_numbers share)
share_told share items entries tell complete missing last =
    ap told (told-seen share.thread no_names (kinds_of items) entries tell)
    ∙ is_told (length share.admitted) (sightings share.thread entries) last
    ∙ ap Some
    (same_numbers (tally (sightings share.thread entries)) (share_numbers share)
    (ap held (events_seen share.thread entries ∙ ap length complete))
    (last_is (length share.admitted) (sightings share.thread entries) last)
    (ap held missing))

pub shares_told : (shares : List Share) (items : List Item) (entries : List Entry) → Tell items entries → AllByRecursion (λ share. events_of share.thread entries ≡ kept share) shares → AllByRecursion (λ share. gaps share.thread entries ≡ length share.refused) shares → AllByRecursion (λ share. last_sighting share.thread entries ≡ Some (Known (length share.admitted))) shares → AllByRecursion (λ share. numbers_of share.thread (kinds_of items) ≡ Some (share_numbers share)) shares
shares_told [] items entries tell complete missing last = tt
shares_told (share ∷ shares) items entries tell complete missing last =
    (share_told share items entries tell complete.0 missing.0 last.0, shares_told shares items entries tell complete.1 missing.1 last.1)

-- ---- other threads

unnamed : (shares : List Share) (thread : ℕ) (named : List (ℕ × ℕ)) → is_of shares thread ≡ false → list_all (λ (t : ℕ × ℕ). is_of shares t.0) named ≡ true → filter (λ (t : ℕ × ℕ). eqb t.0 thread) named ≡ []
unnamed shares thread [] none all = refl
unnamed shares thread (pair ∷ named) none all =
    let parts = and_parts (is_of shares pair.0) (list_all (λ (t : ℕ × ℕ). is_of shares t.0) named) all in
    elim (cases_eq pair.0 thread) [
      | inl same ↦ let there : is_of shares thread ≡ true = ap (is_of shares) (sym same) ∙ parts.0 in absurd (cc)
      | inr other ↦ rw (ne_eqb pair.0 thread other) (unnamed shares thread named none parts.1)
    ]

unseen : (shares : List Share) (thread : ℕ) (entries : List Entry) → is_of shares thread ≡ false → AllByRecursion (λ entry. is_among shares entry ≡ true) entries → sightings thread entries ≡ []
unseen shares thread [] none among = refl
unseen shares thread (Event e ∷ entries) none among =
    let rest = unseen shares thread entries none among.1 in
    elim (cases_eq e.thread thread) [
      | inl same ↦ let there : is_of shares thread ≡ true = ap (is_of shares) (sym same) ∙ among.0 in absurd (cc)
      | inr other ↦ rw (ne_eqb e.thread thread other) rest
    ]
unseen shares thread (Point p ∷ entries) none among =
    ap (λ (named : List (ℕ × ℕ)). map (λ (t : ℕ × ℕ). Known t.1) named ++ sightings thread entries) (unnamed shares thread p.threads none among.0)
    ∙ unseen shares thread entries none among.1

pub others_untold : (shares : List Share) (items : List Item) (entries : List Entry) (thread : ℕ) → Tell items entries → AllByRecursion (λ entry. is_among shares entry ≡ true) entries → is_of shares thread ≡ false → numbers_of thread (kinds_of items) ≡ None
others_untold shares items entries thread tell among none =
    ap told (told-seen thread no_names (kinds_of items) entries tell ∙ unseen shares thread entries none among)
