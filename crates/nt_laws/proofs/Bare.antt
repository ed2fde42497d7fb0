-- Items that tell entries with the section of a rundown tell the entries alone once what is the rundown's is left out.
use Rattle.std.proofs.Common.{◌≡◌, ℕ, zero, suc, ◌+◌, cond, append_assoc, Bool, true, false, inl, inr, Option, Some, None, Result, Ok, Err, List, [], ◌∷◌, ◌++◌, length, map, filter, eqb, refl, ap, sym, ◌∙◌, subst}
use Rattle.std.specs.Prelude.{not, ◌&&◌, ◌||◌, ◌⊎◌}
use Rattle.std.specs.List.{list_all, AllByRecursion}
use Rattle.std.proofs.lemmas.Bool.{and_parts, or_right, cases_Bool}
use Rattle.std.proofs.lemmas.List.{same_from_push, append-nil}
use Rattle.std.proofs.lemmas.List.Elements.{filter-append}
use Rattle.ep_defs.specs.declared.event.EventDef.{EventDef}
use Rattle.ep_defs.specs.declared.item.Item.{Item}
use Rattle.ep_defs.specs.declared.item.ItemKind.{ItemKind}
use Rattle.ep_defs.specs.declared.item.ItemKind.TheVariants as item
use Rattle.ep_defs.specs.declared.session.TraceInfo.{TraceInfo}
use Rattle.ep_defs.specs.Event.{is_same_event}
use Rattle.ep_defs.specs.Entry.{Entry, EventEntry, PointEntry, Event, Point}
use Rattle.ep_rundown.specs.Rundown.{rundown_def, used, describing_from, naming, describing_at_end, with_section}
use Rattle.ep_rundown.proofs.Section.{at-end}
use Rattle.ep_model.specs.Faithful.{Share, AreFaithful}
use Rattle.ep_told.specs.Told.{is_of_program, AreOfProgram}
use Rattle.pt_num.specs.Steps.{or_fault}
use Rattle.pt_num.proofs.Steps.{bind_inv, ok-same}
use Rattle.nt_blocks.specs.Ordered.{Disorder, MetadataTwice, StackTwice, UnknownMetadata, UnknownStack, Names, Tell, kinds_of, lookup, names_after, no_names, stack_of, tell, told_after, unless_there}
use Rattle.nt_write.specs.Canonical.{IsCanonical, is_trace, is_plain}
use Rattle.nt_laws.specs.Bare.{is_of_rundown, without_thread_0, bare_at_end, bare}
use Rattle.nt_laws.specs.Faithful.{Faithful}
use Rattle.nt_laws.proofs.Units.{next}

-- ---- what is left out

abbrev keeps : ItemKind → Bool
keeps kind = not (is_of_rundown kind)

abbrev is_own : ℕ × EventDef → Bool
is_own named = not (is_same_event named.1 rundown_def)

-- The names without the rundown's.
abbrev own_names : Names → Names
own_names names = record names { definitions = filter is_own names.definitions }

abbrev is_kept_entry : Entry → Bool
is_kept_entry (Event e) = not (eqb e.thread 0)
is_kept_entry (Point p) = true

-- An event of the rundown's definition is one of thread 0.
abbrev is_clean : Entry → Bool
is_clean (Event e) = eqb e.thread 0 || not (is_same_event e.def rundown_def)
is_clean (Point p) = true

abbrev AreClean : List Entry → Type 0
AreClean entries = AllByRecursion (λ entry. is_clean entry ≡ true) entries

-- ---- names

-- What is not named is not named among fewer.
lookup-none : (id : ℕ) (names : List (ℕ × EventDef)) → lookup id names ≡ None → lookup id (filter is_own names) ≡ None
lookup-none id [] none = refl
lookup-none id (named ∷ names) none =
    elim (cases_Bool (eqb named.0 id)) [
      | inl same ↦ let there = rw same at none in absurd (cc)
      | inr other ↦
          let rest = lookup-none id names (rw other at none) in
          elim (cases_Bool (is_own named)) [ inl own ↦ rw own (rw other rest) | inr out ↦ rw out rest ]
    ]

-- A definition of the program that is named stays named.
lookup-own : (id : ℕ) (names : List (ℕ × EventDef)) (def : EventDef) → lookup id names ≡ Some def → not (is_same_event def rundown_def) ≡ true → lookup id (filter is_own names) ≡ Some def
lookup-own id [] def found own = absurd (cc)
lookup-own id (named ∷ names) def found own =
    elim (cases_Bool (eqb named.0 id)) [
      | inl same ↦
          let there : Some named.1 ≡ Some def = rw same at found in
          let is : named.1 ≡ def = cc in
          let kept : is_own named ≡ true = ap (λ d. not (is_same_event d rundown_def)) is ∙ own in
          rw kept (rw same there)
      | inr other ↦
          let rest = lookup-own id names def (rw other at found) own in
          elim (cases_Bool (is_own named)) [ inl kept ↦ rw kept (rw other rest) | inr out ↦ rw out rest ]
    ]

there-none : {A : Type 0} (o : Option A) (fault : Disorder) (first : List Entry) → unless_there o fault ≡ Ok first → (o ≡ None) × ([] ≡ first)
there-none None fault first told = (refl, ok-same [] first told)
there-none (Some x) fault first told = absurd (cc)

or-some : {A : Type 0} (o : Option A) (fault : Disorder) (x : A) → or_fault o fault ≡ Ok x → o ≡ Some x
or-some None fault x e = absurd (cc)
or-some (Some y) fault x e = ap (λ z. Some z) (ok-same y x e)

-- ---- an item

-- The item is left out, with all that it tells or names, or it tells the same after fewer names.
record LeftOut (names : Names) (kind : ItemKind) (first : List Entry) : Type 0 where
  out : keeps kind ≡ false
  nothing : filter is_kept_entry first ≡ []
  names_are : own_names (names_after names kind) ≡ own_names names

record Stays (names : Names) (kind : ItemKind) (first : List Entry) : Type 0 where
  kept : keeps kind ≡ true
  tells : tell (own_names names) kind ≡ Ok (filter is_kept_entry first)
  names_are : names_after (own_names names) kind ≡ own_names (names_after names kind)

abbrev Bared : Names → ItemKind → List Entry → Type 0
Bared names kind first = LeftOut names kind first ⊎ Stays names kind first

meta-bared : (names : Names) (id : ℕ) (def : EventDef) → lookup id names.definitions ≡ None → Bared names (item.Meta id def) []
meta-bared names id def none =
    let fewer = lookup-none id names.definitions none in
    elim (cases_Bool (is_same_event def rundown_def)) [
      | inl its ↦ inl (record { out = ap not its; nothing = refl; names_are = rw its refl })
      | inr own ↦ inr (record {
        kept = ap not own;
        tells = ap (λ o. unless_there o (MetadataTwice id)) fewer;
        names_are = rw own refl;
      })
    ]

event-bared : (names : Names) (metadata number capture processor thread stack stamp : ℕ) (activity related payload : List ℕ) (def : EventDef) (bytes : List ℕ) → lookup metadata names.definitions ≡ Some def → stack_of names stack ≡ Some bytes → is_clean (Event (record { thread = capture; number = number; stamp = stamp; def = def; activity = activity; related = related; stack = bytes; payload = payload })) ≡ true → Bared names (item.Event metadata number capture processor thread stack stamp activity related payload) (Event (record { thread = capture; number = number; stamp = stamp; def = def; activity = activity; related = related; stack = bytes; payload = payload }) ∷ [])
event-bared names metadata number capture processor thread stack stamp activity related payload def bytes found framed clean =
    elim (cases_Bool (eqb capture 0)) [
      | inl zeroth ↦ inl (record { out = ap not zeroth; nothing = rw zeroth refl; names_are = refl })
      | inr other ↦
          let own : not (is_same_event def rundown_def) ≡ true = rw other at clean in
          let there = lookup-own metadata names.definitions def found own in
          let defined : or_fault (lookup metadata (filter is_own names.definitions)) (UnknownMetadata metadata) ≡ Ok def = ap (λ o. or_fault o (UnknownMetadata metadata)) there in
          let stacked : or_fault (stack_of (own_names names) stack) (UnknownStack stack) ≡ Ok bytes = ap (λ o. or_fault o (UnknownStack stack)) (same-stack names stack ∙ framed) in
          inr (record { kept = ap not other; tells = next _ _ _ defined ∙ next _ _ _ stacked ∙ rw other refl; names_are = refl })
    ]
  where
    same-stack : (n : Names) (id : ℕ) → stack_of (own_names n) id ≡ stack_of n id
    same-stack n zero = refl
    same-stack n (suc id) = refl

item-bared : (names : Names) (kind : ItemKind) (first : List Entry) → tell names kind ≡ Ok first → AreClean first → Bared names kind first
item-bared names (item.Trace info) first told clean =
    subst (Bared names (item.Trace info)) (ok-same [] first told) (inr (record { kept = refl; tells = refl; names_are = refl }))
item-bared names (item.Meta id def) first told clean =
    let free = there-none (lookup id names.definitions) (MetadataTwice id) first told in
    subst (Bared names (item.Meta id def)) free.1 (meta-bared names id def free.0)
item-bared names (item.Stack id bytes) first told clean =
    let free = there-none (lookup id names.stacks) (StackTwice id) first told in
    subst (Bared names (item.Stack id bytes)) free.1 (inr (record { kept = refl; tells = ap (λ o. unless_there o (StackTwice id)) free.0; names_are = refl }))
item-bared names (item.Event metadata number capture processor thread stack stamp activity related payload) first told clean =
    let def = bind_inv (or_fault (lookup metadata names.definitions) (UnknownMetadata metadata)) _ first told in
    let bytes = bind_inv (or_fault (stack_of names stack) (UnknownStack stack)) _ first def.2 in
    let is = ok-same _ first bytes.2 in
    let clean_here = subst AreClean (sym is) clean in
    subst (Bared names (item.Event metadata number capture processor thread stack stamp activity related payload)) is
    (event-bared names metadata number capture processor thread stack stamp activity related payload def.0 bytes.0 (or-some _ (UnknownMetadata metadata) def.0 def.1) (or-some _ (UnknownStack stack) bytes.0 bytes.1) clean_here.0)
item-bared names (item.Point stamp threads) first told clean =
    subst (Bared names (item.Point stamp threads)) (ok-same _ first told) (inr (record { kept = refl; tells = refl; names_are = refl }))

-- ---- all items

clean-parts : (first rest : List Entry) → AreClean (first ++ rest) → AreClean first × AreClean rest
clean-parts [] rest clean = (tt, clean)
clean-parts (entry ∷ first) rest clean = let parts = clean-parts first rest clean.1 in ((clean.0, parts.0), parts.1)

told-bare : (names : Names) (kinds : List ItemKind) (entries : List Entry) → told_after names kinds ≡ Ok entries → AreClean entries → told_after (own_names names) (filter keeps kinds) ≡ Ok (filter is_kept_entry entries)
told-bare names [] entries told clean = ap (λ (es : List Entry). Ok (filter is_kept_entry es)) (ok-same [] entries told)
told-bare names (kind ∷ kinds) entries told clean =
    let one = bind_inv (tell names kind) _ entries told in
    let all = bind_inv (told_after (names_after names kind) kinds) _ entries one.2 in
    let is : one.0 ++ all.0 ≡ entries = ok-same (one.0 ++ all.0) entries all.2 in
    let parts = clean-parts one.0 all.0 (subst AreClean (sym is) clean) in
    let later = told-bare (names_after names kind) kinds all.0 all.1 parts.1 in
    let whole : filter is_kept_entry one.0 ++ filter is_kept_entry all.0 ≡ filter is_kept_entry entries = sym (filter-append is_kept_entry one.0 all.0) ∙ ap (filter is_kept_entry) is in
    elim (item-bared names kind one.0 one.1 parts.0) [
      | inl out ↦
          let rest : told_after (own_names names) (filter keeps kinds) ≡ Ok (filter is_kept_entry all.0) = subst (λ n. told_after n (filter keeps kinds) ≡ Ok (filter is_kept_entry all.0)) out.names_are later in
          let lines : filter is_kept_entry all.0 ≡ filter is_kept_entry entries = ap (λ (es : List Entry). es ++ filter is_kept_entry all.0) (sym out.nothing) ∙ whole in
          rw out.out (rest ∙ ap Ok lines)
      | inr stays ↦
          let rest : told_after (names_after (own_names names) kind) (filter keeps kinds) ≡ Ok (filter is_kept_entry all.0) = subst (λ n. told_after n (filter keeps kinds) ≡ Ok (filter is_kept_entry all.0)) (sym stays.names_are) later in
          rw stays.kept (next _ _ _ stays.tells ∙ next _ _ _ rest ∙ ap Ok whole)
    ]

-- Items that end with a point tell it last, whatever came before.
told-last : (names : Names) (kinds : List ItemKind) (stamp : ℕ) (threads : List (ℕ × ℕ)) (entries : List Entry) → told_after names (kinds ++ item.Point stamp threads ∷ []) ≡ Ok entries → (front : List Entry) × (told_after names kinds ≡ Ok front) × (entries ≡ front ++ Point (record { stamp = stamp; threads = threads }) ∷ [])
told-last names [] stamp threads entries told = ([], refl, sym (ok-same _ entries told))
told-last names (kind ∷ kinds) stamp threads entries told =
    let one = bind_inv (tell names kind) _ entries told in
    let all = bind_inv (told_after (names_after names kind) (kinds ++ item.Point stamp threads ∷ [])) _ entries one.2 in
    let is : one.0 ++ all.0 ≡ entries = ok-same (one.0 ++ all.0) entries all.2 in
    let later = told-last (names_after names kind) kinds stamp threads all.0 all.1 in (
      one.0 ++ later.0,
      next _ _ _ one.1 ∙ next _ _ _ later.1,
      sym is ∙ ap (λ (es : List Entry). one.0 ++ es) later.2 ∙ sym (append_assoc one.0 later.0 (Point (record { stamp = stamp; threads = threads }) ∷ [])),
    )

-- Items tell this point after others.
told-push : (names : Names) (kinds : List ItemKind) (stamp : ℕ) (threads : List (ℕ × ℕ)) (front : List Entry) → told_after names kinds ≡ Ok front → told_after names (kinds ++ item.Point stamp threads ∷ []) ≡ Ok (front ++ Point (record { stamp = stamp; threads = threads }) ∷ [])
told-push names [] stamp threads front told = ap (λ (es : List Entry). Ok (es ++ Point (record { stamp = stamp; threads = threads }) ∷ [])) (ok-same [] front told)
told-push names (kind ∷ kinds) stamp threads front told =
    let one = bind_inv (tell names kind) _ front told in
    let all = bind_inv (told_after (names_after names kind) kinds) _ front one.2 in
    let is : one.0 ++ all.0 ≡ front = ok-same (one.0 ++ all.0) front all.2 in
    let later = told-push (names_after names kind) kinds stamp threads all.0 all.1 in
    next _ _ _ one.1 ∙ next _ _ _ later ∙ ap Ok (sym (append_assoc one.0 all.0 (Point (record { stamp = stamp; threads = threads }) ∷ [])) ∙ ap (λ (es : List Entry). es ++ Point (record { stamp = stamp; threads = threads }) ∷ []) is)

-- ---- the section among the entries

section-clean : (stamp id : ℕ) (defs : List EventDef) → AreClean (describing_from stamp id defs)
section-clean stamp id [] = tt
section-clean stamp id (def ∷ defs) = (refl, section-clean stamp (id + 1) defs)

section-out : (stamp id : ℕ) (defs : List EventDef) → filter is_kept_entry (describing_from stamp id defs) ≡ []
section-out stamp id [] = refl
section-out stamp id (def ∷ defs) = section-out stamp (id + 1) defs

program-clean : (entries : List Entry) → AreOfProgram entries → AreClean entries
program-clean [] own = tt
program-clean (Event event ∷ entries) own =
    (or_right (eqb event.thread 0) _ (and_parts (not (eqb event.thread 0)) (not (is_same_event event.def rundown_def)) own.0).1, program-clean entries own.1)
program-clean (Point point ∷ entries) own = (refl, program-clean entries own.1)

program-kept : (entries : List Entry) → AreOfProgram entries → filter is_kept_entry entries ≡ entries
program-kept [] own = refl
program-kept (Event event ∷ entries) own =
    rw (and_parts (not (eqb event.thread 0)) (not (is_same_event event.def rundown_def)) own.0).0 (ap (λ (es : List Entry). Event event ∷ es) (program-kept entries own.1))
program-kept (Point point ∷ entries) own = ap (λ (es : List Entry). Point point ∷ es) (program-kept entries own.1)

program-first : (first rest : List Entry) → AreOfProgram (first ++ rest) → AreOfProgram first × AreOfProgram rest
program-first [] rest own = (tt, own)
program-first (entry ∷ first) rest own = let parts = program-first first rest own.1 in ((own.0, parts.0), parts.1)

threads-kept : (threads : List (ℕ × ℕ)) → list_all (λ (named : ℕ × ℕ). not (eqb named.0 0)) threads ≡ true → filter (λ (named : ℕ × ℕ). not (eqb named.0 0)) threads ≡ threads
threads-kept [] all = refl
threads-kept (named ∷ threads) all =
    let parts = and_parts (not (eqb named.0 0)) (list_all (λ (other : ℕ × ℕ). not (eqb other.0 0)) threads) all in
    rw parts.0 (ap (λ (more : List (ℕ × ℕ)). named ∷ more) (threads-kept threads parts.1))

clean-join : (first rest : List Entry) → AreClean first → AreClean rest → AreClean (first ++ rest)
clean-join [] rest one other = other
clean-join (entry ∷ first) rest one other = (one.0, clean-join first rest one.1 other)

-- ---- items

kinds-kept : (items : List Item) → kinds_of (filter (λ (i : Item). keeps i.kind) items) ≡ filter keeps (kinds_of items)
kinds-kept [] = refl
kinds-kept (one ∷ items) =
    elim (cases_Bool (keeps one.kind)) [
      | inl kept ↦ rw kept (ap (λ (kinds : List ItemKind). one.kind ∷ kinds) (kinds-kept items))
      | inr out ↦ rw out (kinds-kept items)
    ]

-- The last kind alone is another.
kinds-bare : (items : List Item) (kinds : List ItemKind) (last : ItemKind) → kinds_of items ≡ kinds ++ last ∷ [] → kinds_of (bare_at_end items) ≡ kinds ++ without_thread_0 last ∷ []
kinds-bare [] [] last is = absurd (cc)
kinds-bare [] (kind ∷ kinds) last is = absurd (cc)
kinds-bare (one ∷ []) [] last is =
    let same : one.kind ≡ last = cc in
    ap (λ kind. without_thread_0 kind ∷ []) same
kinds-bare (one ∷ []) (kind ∷ []) last is = absurd (cc)
kinds-bare (one ∷ []) (kind ∷ other ∷ kinds) last is = absurd (cc)
kinds-bare (one ∷ two ∷ items) [] last is = absurd (cc)
kinds-bare (one ∷ two ∷ items) (kind ∷ kinds) last is =
    let same : one.kind ≡ kind = cc in
    let rest : kinds_of (two ∷ items) ≡ kinds ++ last ∷ [] = cc in
    ap (λ k. k ∷ kinds_of (bare_at_end (two ∷ items))) same ∙ ap (λ (ks : List ItemKind). kind ∷ ks) (kinds-bare (two ∷ items) kinds last rest)

-- What holds of the kinds before the last holds of those that are kept.
kept-front : (test : ItemKind → Bool) (b : Bool) (kinds : List ItemKind) (last : ItemKind) → AllByRecursion (λ kind. test kind ≡ b) (kinds ++ last ∷ []) → AllByRecursion (λ kind. test kind ≡ b) (filter keeps kinds)
kept-front test b [] last all = tt
kept-front test b (kind ∷ kinds) last all =
    let rest = kept-front test b kinds last all.1 in
    elim (keeps kind) as (λ v. AllByRecursion (λ k. test k ≡ b) (cond v (kind ∷ filter keeps kinds) (filter keeps kinds))) [ true ↦ (all.0, rest) | false ↦ rest ]

front-point : (test : ItemKind → Bool) (b : Bool) (kinds : List ItemKind) (last : ItemKind) → AllByRecursion (λ kind. test kind ≡ b) kinds → test last ≡ b → AllByRecursion (λ kind. test kind ≡ b) (kinds ++ last ∷ [])
front-point test b [] last all end = (end, tt)
front-point test b (kind ∷ kinds) last all end = (all.0, front-point test b kinds last all.1 end)

-- ---- the stream

-- What is known of the items of a stream with a rundown.
record Parts (info : TraceInfo) (others : List ItemKind) (kinds : List ItemKind) (last : ItemKind) : Type 0 where
  behind : List ItemKind
  first : kinds ≡ item.Trace info ∷ behind
  rest : others ≡ behind ++ last ∷ []

trace-first : (info : TraceInfo) (others kinds : List ItemKind) (stamp : ℕ) (threads : List (ℕ × ℕ)) → item.Trace info ∷ others ≡ kinds ++ item.Point stamp threads ∷ [] → Parts info others kinds (item.Point stamp threads)
trace-first info others [] stamp threads is = absurd (cc)
trace-first info others (kind ∷ kinds) stamp threads is =
    let same : item.Trace info ≡ kind = cc in
    let rest : others ≡ kinds ++ item.Point stamp threads ∷ [] = cc in
    record { behind = kinds; first = ap (λ (k : ItemKind). k ∷ kinds) (sym same); rest = rest }

pub bare-faithful : (info : TraceInfo) (shares : List Share) (entries : List Entry) (bytes : List ℕ) → AreFaithful shares entries → AreOfProgram entries → (canonical : IsCanonical info (with_section true entries) bytes) → Faithful shares (bare true canonical.items)
bare-faithful info shares entries bytes faithful own canonical =
    let defs = used entries in
    let p = faithful.last in
    let lines = describing_from p.stamp 1 defs in
    let last = naming (length defs) p in
    let ended : with_section true entries ≡ faithful.front ++ lines ++ Point last ∷ [] = ap (describing_at_end defs) faithful.ended ∙ at-end defs faithful.front p in
    let end = canonical.ended (faithful.front ++ lines) last ended in
    let before = end.0 in
    let told_all = ap (told_after no_names) (sym end.1) ∙ canonical.told in
    let told_front = told-last no_names before last.stamp last.threads (with_section true entries) told_all in
    let fronts : told_front.0 ≡ faithful.front ++ lines = (same_from_push told_front.0 (faithful.front ++ lines) (Point last) (Point last) (sym told_front.2 ∙ ended)).0 in
    let parts = program-first faithful.front (Point p ∷ []) (subst AreOfProgram faithful.ended own) in
    let clean = clean-join faithful.front lines (program-clean faithful.front parts.0) (section-clean p.stamp 1 defs) in
    let bared = told-bare no_names before told_front.0 told_front.1 (subst AreClean (sym fronts) clean) in
    let left : filter is_kept_entry told_front.0 ≡ faithful.front =
    ap (filter is_kept_entry) fronts ∙ filter-append is_kept_entry faithful.front lines
    ∙ ap (λ (es : List Entry). filter is_kept_entry faithful.front ++ es) (section-out p.stamp 1 defs)
    ∙ append-nil (filter is_kept_entry faithful.front) ∙ program-kept faithful.front parts.0 in
    let threads : filter (λ (named : ℕ × ℕ). not (eqb named.0 0)) last.threads ≡ p.threads = threads-kept p.threads parts.1.0 in
    let point : without_thread_0 (item.Point last.stamp last.threads) ≡ item.Point p.stamp p.threads = ap (item.Point p.stamp) threads in
    let kept : kinds_of (filter (λ (i : Item). keeps i.kind) canonical.items) ≡ filter keeps before ++ item.Point last.stamp last.threads ∷ [] =
    kinds-kept canonical.items ∙ ap (filter keeps) end.1 ∙ filter-append keeps before (item.Point last.stamp last.threads ∷ []) in
    let kinds : kinds_of (bare true canonical.items) ≡ filter keeps before ++ item.Point p.stamp p.threads ∷ [] =
    kinds-bare (filter (λ (i : Item). keeps i.kind) canonical.items) (filter keeps before) (item.Point last.stamp last.threads) kept
    ∙ ap (λ kind. filter keeps before ++ kind ∷ []) point in
    let trace = trace-first info (kinds_of canonical.read.others) before last.stamp last.threads (sym (ap kinds_of canonical.read.hold) ∙ end.1) in
    let first : filter keeps before ≡ item.Trace info ∷ filter keeps trace.behind = ap (filter keeps) trace.first in
    record {
      info = info;
      others = filter keeps trace.behind ++ item.Point p.stamp p.threads ∷ [];
      entries = entries;
      one_trace = kinds ∙ ap (λ (ks : List ItemKind). ks ++ item.Point p.stamp p.threads ∷ []) first;
      no_other_trace = front-point is_trace false (filter keeps trace.behind) (item.Point p.stamp p.threads)
          (kept-front is_trace false trace.behind (item.Point last.stamp last.threads) (subst (λ (ks : List ItemKind). AllByRecursion (λ kind. is_trace kind ≡ false) ks) trace.rest canonical.no_other_trace)) refl;
      told = ap (told_after no_names) kinds ∙ told-push no_names (filter keeps before) p.stamp p.threads faithful.front (bared ∙ ap Ok left) ∙ ap Ok (sym faithful.ended);
      plain = front-point is_plain true (filter keeps trace.behind) (item.Point p.stamp p.threads)
          (kept-front is_plain true trace.behind (item.Point last.stamp last.threads) (subst (λ (ks : List ItemKind). AllByRecursion (λ kind. is_plain kind ≡ true) ks) trace.rest canonical.plain)) refl;
      faithful = faithful;
      before = filter keeps before;
      ended = kinds;
    }
