-- What faithful entries tell with the section of a rundown.
use Rattle.std.proofs.Common.{◌≡◌, ℕ, zero, suc, ◌+◌, ◌-◌, ◌*◌, ◌/◌, ◌%◌, ◌^◌, true, false, List, [], ◌∷◌, ◌++◌, length, map, filter, Some, None, eqb, refl, ap, sym, ◌∙◌, subst, arith, zero-add}
use Rattle.std.specs.List.{list_all, last_or, flat_map, AllByRecursion}
use Rattle.std.proofs.lemmas.Bool.{and_parts, or_parts, or_left, or_right, eq-eqb, ne_eqb, true≢false}
use Rattle.std.proofs.lemmas.List.{append-nil}
use Rattle.std.proofs.lemmas.Grind.{flat_map-append}
use Rattle.std.proofs.Math.Nat.{add-mod_right, mul-mod_left}
use Rattle.std.proofs.lemmas.Nat.{div-add-mod'}
use Rattle.ep_defs.specs.declared.event.EventDef.{EventDef}
use Rattle.ep_defs.specs.Entry.{Entry, Event, Point}
use Rattle.ep_defs.specs.Gaps.{Sighting, Known, sightings_in, sightings, distance, missing, gaps}
use Rattle.ep_rundown.specs.Rundown.{used, section, describing, describing_from, naming, describing_at_end, with_section}
use Rattle.ep_rundown.proofs.Section.{at-end}
use Rattle.ep_model.specs.Faithful.{Share, Contents, AreFaithful, kept, is_kept, is_of, is_among, contents_of, events_in, events_of, last_sighting}
use Rattle.ep_told.specs.Told.{rundown_share}
use Rattle.ep_model.proofs.Lists.{all_more, eqb_turn}
use Rattle.ep_model.proofs.Numbers.{last-append}

-- ---- what the section tells

-- Of another thread nothing.
section-events : (thread stamp id : ℕ) (defs : List EventDef) → eqb 0 thread ≡ false → events_of thread (describing_from stamp id defs) ≡ []
section-events thread stamp id [] other = refl
section-events thread stamp id (def ∷ defs) other = rw other (section-events thread stamp (id + 1) defs other)

section-sightings : (thread stamp id : ℕ) (defs : List EventDef) → eqb 0 thread ≡ false → sightings thread (describing_from stamp id defs) ≡ []
section-sightings thread stamp id [] other = refl
section-sightings thread stamp id (def ∷ defs) other = rw other (section-sightings thread stamp (id + 1) defs other)

-- The stamp is no part of the contents.
section-stamps : (stamp other id : ℕ) (defs : List EventDef) → events_of 0 (describing_from stamp id defs) ≡ events_of 0 (describing_from other id defs)
section-stamps stamp other id [] = refl
section-stamps stamp other id (def ∷ defs) =
    ap (λ (contents : List Contents). contents_of (describing other id def) ∷ contents) (section-stamps stamp other (id + 1) defs)

-- Each definition has one event.
pub section-long : (stamp id : ℕ) (defs : List EventDef) → length (events_of 0 (describing_from stamp id defs)) ≡ length defs
section-long stamp id [] = refl
section-long stamp id (def ∷ defs) = ap suc (section-long stamp (id + 1) defs)

whole-and-more : (whole rest m n : ℕ) → whole + rest ≡ n → n + m - rest ≡ whole + m
whole-and-more whole rest m n e = omega arith

wraps : (n m : ℕ) → (n + m - n % m) % m ≡ 0
wraps n m =
    ap (λ k. k % m) (whole-and-more (n / m * m) (n % m) m n (div-add-mod' n m)) ∙ add-mod_right (n / m * m) m ∙ mul-mod_left (n / m) m

-- From a number up to itself none is missing.
distance-none : (n : ℕ) → distance n n ≡ 0
distance-none n = wraps n (2 ^ 32)

-- The numbers of its events follow each other, and the point has the last of them.
section-missing : (stamp last to : ℕ) (defs : List EventDef) → to ≡ last + length defs → missing last (sightings 0 (describing_from stamp (last + 1) defs) ++ Known to ∷ []) ≡ 0
section-missing stamp last to [] end =
    let same : to ≡ last = omega (arith, end) in
    ap (λ n. distance last n + 0) same ∙ ap (λ n. n + 0) (distance-none last)
section-missing stamp last to (def ∷ defs) end =
    let rest = section-missing stamp (last + 1) to defs (omega (arith, end)) in
    ap (λ n. n + missing (last + 1) (sightings 0 (describing_from stamp (last + 1 + 1) defs) ++ Known to ∷ [])) (distance-none (last + 1)) ∙ zero-add (missing (last + 1) (sightings 0 (describing_from stamp (last + 1 + 1) defs) ++ Known to ∷ [])) ∙ rest

-- ---- what stands before and after

-- What is told at the end comes last.
told-last : {A : Type 0} (f : Entry → List A) (front : List Entry) (last : Entry) → flat_map f (front ++ last ∷ []) ≡ flat_map f front ++ f last
told-last f front last = flat_map-append f front (last ∷ []) ∙ ap (λ more. flat_map f front ++ more) (append-nil (f last))

told-parts : {A : Type 0} (f : Entry → List A) (front lines : List Entry) (last : Entry) → flat_map f (front ++ lines ++ last ∷ []) ≡ flat_map f front ++ flat_map f lines ++ f last
told-parts f front lines last =
    told-last f (front ++ lines) last ∙ ap (λ before. before ++ f last) (flat_map-append f front lines)

-- What the same is told of with a section of which nothing is told.
told-same : {A : Type 0} (f : Entry → List A) (front lines : List Entry) (last other : Entry) → flat_map f lines ≡ [] → f other ≡ f last → flat_map f (front ++ lines ++ other ∷ []) ≡ flat_map f (front ++ last ∷ [])
told-same f front lines last other none same =
    told-parts f front lines other
    ∙ ap (λ more. flat_map f front ++ more ++ f other) none
    ∙ ap (λ before. before ++ f other) (append-nil (flat_map f front))
    ∙ ap (λ more. flat_map f front ++ more) same
    ∙ sym (told-last f front last)

first-all : (P : Entry → Type 0) (lines : List Entry) (last : Entry) → AllByRecursion P (lines ++ last ∷ []) → AllByRecursion P lines × P last
first-all P [] last all = (tt, all.0)
first-all P (line ∷ lines) last all = let rest = first-all P lines last all.1 in ((all.0, rest.0), rest.1)

all-join : (P : Entry → Type 0) (lines more : List Entry) → AllByRecursion P lines → AllByRecursion P more → AllByRecursion P (lines ++ more)
all-join P [] more first later = later
all-join P (line ∷ lines) more first later = (first.0, all-join P lines more first.1 later)

-- What holds of each share above thread 0 holds in another form.
each-share : (P Q : Share → Type 0) (shares : List Share) → is_of shares 0 ≡ false → ((share : Share) → eqb 0 share.thread ≡ false → P share → Q share) → AllByRecursion P shares → AllByRecursion Q shares
each-share P Q [] none more all = tt
each-share P Q (share ∷ shares) none more all =
    let parts = or_parts (eqb share.thread 0) (is_of shares 0) none in
    (more share (eqb_turn share.thread 0 parts.0) all.0, each-share P Q shares parts.1 more all.1)

-- ---- nothing else is told of thread 0

-- A thread that is one of threads above 0.
not-0 : (shares : List Share) (thread : ℕ) → is_of shares 0 ≡ false → is_of shares thread ≡ true → eqb thread 0 ≡ false
not-0 shares zero none is = absurd (true≢false (sym is ∙ none))
not-0 shares (suc thread) none is = ne_eqb (suc thread) 0 (λ same. omega (arith, same))

no-events : (shares : List Share) (lines : List Entry) → is_of shares 0 ≡ false → AllByRecursion (λ line. is_among shares line ≡ true) lines → events_of 0 lines ≡ []
no-events shares [] none among = refl
no-events shares (Event event ∷ lines) none among = rw (not-0 shares event.thread none among.0) (no-events shares lines none among.1)
no-events shares (Point point ∷ lines) none among = no-events shares lines none among.1

none-named : (shares : List Share) (threads : List (ℕ × ℕ)) → is_of shares 0 ≡ false → list_all (λ (named : ℕ × ℕ). is_of shares named.0) threads ≡ true → filter (λ (named : ℕ × ℕ). eqb named.0 0) threads ≡ []
none-named shares [] none all = refl
none-named shares (named ∷ threads) none all =
    let parts = and_parts (is_of shares named.0) (list_all (λ (other : ℕ × ℕ). is_of shares other.0) threads) all in
    rw (not-0 shares named.0 none parts.0) (none-named shares threads none parts.1)

no-sightings : (shares : List Share) (lines : List Entry) → is_of shares 0 ≡ false → AllByRecursion (λ line. is_among shares line ≡ true) lines → sightings 0 lines ≡ []
no-sightings shares [] none among = refl
no-sightings shares (Event event ∷ lines) none among = rw (not-0 shares event.thread none among.0) (no-sightings shares lines none among.1)
no-sightings shares (Point point ∷ lines) none among = rw (none-named shares point.threads none among.0) (no-sightings shares lines none among.1)

-- ---- one share more

-- An entry of some of the threads is one of more of them.
among-more : (first : Share) (shares : List Share) (lines : List Entry) → AllByRecursion (λ line. is_among shares line ≡ true) lines → AllByRecursion (λ line. is_among (first ∷ shares) line ≡ true) lines
among-more first shares [] among = tt
among-more first shares (Event event ∷ lines) among = (or_right (eqb first.thread event.thread) _ among.0, among-more first shares lines among.1)
among-more first shares (Point point ∷ lines) among =
    (all_more (λ (named : ℕ × ℕ). is_of shares named.0) (λ (named : ℕ × ℕ). is_of (first ∷ shares) named.0) (λ named one. or_right (eqb first.thread named.0) _ one) point.threads among.0, among-more first shares lines among.1)

section-among : (shares : List Share) (first : Share) (stamp id : ℕ) (defs : List EventDef) → first.thread ≡ 0 → AllByRecursion (λ line. is_among (first ∷ shares) line ≡ true) (describing_from stamp id defs)
section-among shares first stamp id [] zeroth = tt
section-among shares first stamp id (def ∷ defs) zeroth =
    (or_left (eqb first.thread 0) _ (eq-eqb first.thread 0 zeroth), section-among shares first stamp (id + 1) defs zeroth)

pub kept-all : (contents : List Contents) → filter (is_kept []) contents ≡ contents
kept-all [] = refl
kept-all (one ∷ contents) = ap (λ (more : List Contents). one ∷ more) (kept-all contents)

-- With the section entries that tell of threads above 0 tell of thread 0 too.
pub with-thread_0 : (shares : List Share) (entries : List Entry) → AreFaithful shares entries → is_of shares 0 ≡ false → AreFaithful (rundown_share entries ∷ shares) (with_section true entries)
with-thread_0 shares entries faithful none =
    let defs = used entries in
    let stamp = faithful.last.stamp in
    let lines = describing_from stamp 1 defs in
    let point = Point faithful.last in
    let last = Point (naming (length defs) faithful.last) in
    let ended : with_section true entries ≡ faithful.front ++ lines ++ last ∷ [] = ap (describing_at_end defs) faithful.ended ∙ at-end defs faithful.front faithful.last in
    let events : (t : ℕ) → eqb 0 t ≡ false → events_of t (with_section true entries) ≡ events_of t entries = λ t other.
    ap (events_of t) ended ∙ told-same (events_in t) faithful.front lines point last (section-events t stamp 1 defs other) refl ∙ sym (ap (events_of t) faithful.ended) in
    let seen : (t : ℕ) → eqb 0 t ≡ false → sightings t (with_section true entries) ≡ sightings t entries = λ t other.
    ap (sightings t) ended ∙ told-same (sightings_in t) faithful.front lines point last (section-sightings t stamp 1 defs other) (rw other refl) ∙ sym (ap (sightings t) faithful.ended) in
    let among = first-all (λ line. is_among shares line ≡ true) faithful.front point (subst (λ (es : List Entry). AllByRecursion (λ line. is_among shares line ≡ true) es) faithful.ended faithful.alone) in
    let own_events : events_of 0 (with_section true entries) ≡ events_of 0 (section 0 entries) =
    ap (events_of 0) ended ∙ told-parts (events_in 0) faithful.front lines last
    ∙ ap (λ (more : List Contents). more ++ events_of 0 lines ++ []) (no-events shares faithful.front none among.0)
    ∙ append-nil (events_of 0 lines) ∙ section-stamps stamp 0 1 defs in
    let own_sightings : sightings 0 (with_section true entries) ≡ sightings 0 lines ++ Known (length defs) ∷ [] =
    ap (sightings 0) ended ∙ told-parts (sightings_in 0) faithful.front lines last
    ∙ ap (λ (more : List Sighting). more ++ sightings 0 lines ++ sightings_in 0 last) (no-sightings shares faithful.front none among.0)
    ∙ ap (λ (named : List (ℕ × ℕ)). sightings 0 lines ++ Known (length defs) ∷ map (λ (t : ℕ × ℕ). Known t.1) named) (none-named shares faithful.last.threads none among.1) in
    let long : length (events_of 0 (section 0 entries)) ≡ length defs = section-long 0 1 defs in
    record {
      complete = (own_events ∙ sym (kept-all (events_of 0 (section 0 entries))), each-share (λ share. events_of share.thread entries ≡ kept share) (λ share. events_of share.thread (with_section true entries) ≡ kept share) shares none (λ share other is. events share.thread other ∙ is) faithful.complete);
      alone = subst (λ (es : List Entry). AllByRecursion (λ line. is_among (rundown_share entries ∷ shares) line ≡ true) es) (sym ended)
          (all-join (λ line. is_among (rundown_share entries ∷ shares) line ≡ true) (faithful.front ++ lines) (last ∷ [])
          (all-join (λ line. is_among (rundown_share entries ∷ shares) line ≡ true) faithful.front lines (among-more (rundown_share entries) shares faithful.front among.0) (section-among shares (rundown_share entries) stamp 1 defs refl))
          ((among-more (rundown_share entries) shares (point ∷ []) (among.1, tt)).0, tt));
      missing = (
        ap (missing 0) own_sightings ∙ section-missing stamp 0 (length defs) defs (sym (zero-add (length defs))),
        each-share (λ share. gaps share.thread entries ≡ length share.refused) (λ share. gaps share.thread (with_section true entries) ≡ length share.refused) shares none (λ share other is. ap (missing 0) (seen share.thread other) ∙ is) faithful.missing,
      );
      told = (
        ap (last_or None) own_sightings ∙ last-append None (sightings 0 lines) (Known (length defs) ∷ []) ∙ ap (λ n. Some (Known n)) (sym long),
        each-share (λ share. last_sighting share.thread entries ≡ Some (Known (length share.admitted))) (λ share. last_sighting share.thread (with_section true entries) ≡ Some (Known (length share.admitted))) shares none (λ share other is. ap (last_or None) (seen share.thread other) ∙ is) faithful.told,
      );
      front = faithful.front ++ lines;
      last = naming (length defs) faithful.last;
      ended = ended;
    }
