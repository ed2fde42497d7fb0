-- One item more of what is counted.
use Rattle.std.proofs.Common.{◌≡◌, ℕ, ◌+◌, zero, suc, Bool, true, false, List, [], ◌∷◌, ◌++◌, map, Option, Some, None, is_some, Result, Ok, refl, sym, ap, ◌∙◌, subst}
use Rattle.std.proofs.lemmas.Grind.{flat_map-append}
use Rattle.std.proofs.lemmas.List.{map-append, append-nil}
use Rattle.std.specs.List.{flat_map, count_by}
use Rattle.std.specs.Ordering.{nat_cmp}
use Rattle.ep_defs.specs.declared.event.EventDef.{EventDef}
use Rattle.ep_defs.specs.declared.session.TraceInfo.{TraceInfo}
use Rattle.ep_defs.specs.declared.item.ItemKind.{ItemKind}
use Rattle.ep_defs.specs.declared.item.ItemKind.TheVariants as item
use Rattle.ep_defs.specs.Entry.{EventEntry, Entry, Event, Point}
use Rattle.pt_num.specs.Steps.{◌>>=◌, or_fault}
use Rattle.pt_num.proofs.Joined.{flat_map-push}
use Rattle.nt_blocks.specs.Ordered.{Disorder, UnknownMetadata, UnknownStack, MetadataTwice, StackTwice, Names, no_names, names_after, unless_there, stack_of, lookup, tell}
use Rattle.nt_check.specs.Numbers.{held}
use Rattle.nt_check.specs.state.Took.{names_at}
use Rattle.nt_check.proofs.Told.{names_at-more}
use Rattle.pt_report.specs.declared.counters.Totals.{Totals}
use Rattle.pt_report.specs.declared.counters.Counters.{Counters}
use Rattle.pt_report.specs.Report.{event_in, definition_in, threads_in, stack_in, is_event, is_metadata, is_stack, is_point, trace_of, definitions, used_definitions, used_stacks}
use Rattle.pt_report.specs.state.Counts.{Counts}
use Rattle.pt_report.specs.state.Events.{ShowsEvents}
use Rattle.pt_report.specs.state.Shows.{Shows, with_total, totals_of}
use Rattle.pt_report.specs.state.Stacks.{ShowsStacks, stack_among}
use Rattle.pt_report.proofs.Tallies.{one-use, no-use, held-more}

-- ---- lists

used-definitions-more : (entries more : List Entry) → used_definitions (entries ++ more) ≡ used_definitions entries ++ used_definitions more
used-definitions-more entries more =
    ap (map (λ (event : EventEntry). event.def)) (flat_map-append event_in entries more)
    ∙ map-append (λ (event : EventEntry). event.def) (flat_map event_in entries) (flat_map event_in more)

used-stacks-more : (entries more : List Entry) → used_stacks (entries ++ more) ≡ used_stacks entries ++ used_stacks more
used-stacks-more entries more =
    ap (flat_map (λ (event : EventEntry). stack_in event.stack)) (flat_map-append event_in entries more)
    ∙ flat_map-append (λ (event : EventEntry). stack_in event.stack) (flat_map event_in entries) (flat_map event_in more)

-- ---- the Trace item

-- The first, where there is one.
abbrev pub trace_then : Option TraceInfo → Option TraceInfo → Option TraceInfo
trace_then (Some info) other = Some info
trace_then None other = other

trace-more : (kinds : List ItemKind) (kind : ItemKind) → trace_of (kinds ++ kind ∷ []) ≡ trace_then (trace_of kinds) (trace_of (kind ∷ []))
trace-more [] kind = refl
trace-more (item.Trace info ∷ kinds) kind = refl
trace-more (item.Meta id def ∷ kinds) kind = trace-more kinds kind
trace-more (item.Stack id bytes ∷ kinds) kind = trace-more kinds kind
trace-more (item.Event metadata number capture processor thread stack stamp activity related payload ∷ kinds) kind = trace-more kinds kind
trace-more (item.Point stamp threads ∷ kinds) kind = trace-more kinds kind

pub same-trace : (trace : Option TraceInfo) → trace ≡ trace_then trace None
same-trace (Some info) = refl
same-trace None = refl

-- The first Trace item is the trace, and a later one is not.
pub trace-new : (trace : Option TraceInfo) (info : TraceInfo) → is_some trace ≡ false → Some info ≡ trace_then trace (Some info)
trace-new None info e = refl
trace-new (Some first) info e = absurd (cc)

pub trace-old : (trace : Option TraceInfo) (info : TraceInfo) → is_some trace ≡ true → trace ≡ trace_then trace (Some info)
trace-old None info e = absurd (cc)
trace-old (Some first) info e = refl

-- ---- totals

in-more : (p : ItemKind → Bool) (kinds : List ItemKind) (kind : ItemKind) → p kind ≡ true → held (held (count_by p kinds) + 1) ≡ held (count_by p (kinds ++ kind ∷ []))
in-more p kinds kind is = held-more (count_by p kinds) ∙ ap held (sym (one-use p kinds kind is))

out-more : (p : ItemKind → Bool) (kinds : List ItemKind) (kind : ItemKind) → p kind ≡ false → held (count_by p kinds) ≡ held (count_by p (kinds ++ kind ∷ []))
out-more p kinds kind is = ap held (sym (no-use p kinds kind is))

abbrev totals : ℕ → ℕ → ℕ → ℕ → Totals
totals e m s p = record { events = e; metadata = m; stacks = s; points = p }

fields : {e f m n s t p q : ℕ} → e ≡ f → m ≡ n → s ≡ t → p ≡ q → totals e m s p ≡ totals f n t q
fields a b c d = λ i. record { events = a i; metadata = b i; stacks = c i; points = d i }

totals-more : (kinds : List ItemKind) (kind : ItemKind) → with_total (totals_of kinds) kind ≡ totals_of (kinds ++ kind ∷ [])
totals-more kinds (item.Trace info) =
    let k = item.Trace info in fields (out-more is_event kinds k refl) (out-more is_metadata kinds k refl) (out-more is_stack kinds k refl) (out-more is_point kinds k refl)
totals-more kinds (item.Meta id def) =
    let k = item.Meta id def in fields (out-more is_event kinds k refl) (in-more is_metadata kinds k refl) (out-more is_stack kinds k refl) (out-more is_point kinds k refl)
totals-more kinds (item.Stack id bytes) =
    let k = item.Stack id bytes in fields (out-more is_event kinds k refl) (out-more is_metadata kinds k refl) (in-more is_stack kinds k refl) (out-more is_point kinds k refl)
totals-more kinds (item.Event metadata number capture processor thread stack stamp activity related payload) =
    let k = item.Event metadata number capture processor thread stack stamp activity related payload in
    fields (in-more is_event kinds k refl) (out-more is_metadata kinds k refl) (out-more is_stack kinds k refl) (out-more is_point kinds k refl)
totals-more kinds (item.Point stamp threads) =
    let k = item.Point stamp threads in fields (out-more is_event kinds k refl) (out-more is_metadata kinds k refl) (out-more is_stack kinds k refl) (in-more is_point kinds k refl)

-- ---- all of it

-- What is kept of one item more, in place of what it is made of.
shows-more : (kinds : List ItemKind) (kind : ItemKind) (entries more : List Entry) (old new : Counters) (defs uses : List EventDef) (threads : List ℕ) (stacks : List (List ℕ)) → Shows kinds entries old
    → new.trace ≡ trace_then old.trace (trace_of (kind ∷ [])) → new.totals ≡ with_total old.totals kind
    → definitions kinds ++ definition_in kind ≡ defs → used_definitions entries ++ used_definitions more ≡ uses → flat_map threads_in kinds ++ threads_in kind ≡ threads → used_stacks entries ++ used_stacks more ≡ stacks
    → ShowsEvents defs uses (names_after (names_at no_names kinds) kind).definitions new.events → Counts nat_cmp threads [] new.threads → ShowsStacks stacks (names_after (names_at no_names kinds) kind).stacks new.stacks
    → Shows (kinds ++ kind ∷ []) (entries ++ more) new
shows-more kinds kind entries more old new defs uses threads stacks h trace totals-are defs-are uses-are threads-are stacks-are events-shown threads-shown stacks-shown =
    record {
      trace_is = trace ∙ ap (λ (t : Option TraceInfo). trace_then t (trace_of (kind ∷ []))) h.trace_is ∙ sym (trace-more kinds kind);
      totals_are = totals-are ∙ ap (λ (t : Totals). with_total t kind) h.totals_are ∙ totals-more kinds kind;
      events_are =
          subst (λ (d : List EventDef). ShowsEvents d (used_definitions (entries ++ more)) (names_at no_names (kinds ++ kind ∷ [])).definitions new.events) (sym (flat_map-push definition_in kinds kind ∙ defs-are))
          (subst (λ (u : List EventDef). ShowsEvents defs u (names_at no_names (kinds ++ kind ∷ [])).definitions new.events) (sym (used-definitions-more entries more ∙ uses-are))
          (subst (λ (names : Names). ShowsEvents defs uses names.definitions new.events) (sym (names_at-more no_names kinds kind)) events-shown));
      threads_are = subst (λ (t : List ℕ). Counts nat_cmp t [] new.threads) (sym (flat_map-push threads_in kinds kind ∙ threads-are)) threads-shown;
      stacks_are =
          subst (λ (s : List (List ℕ)). ShowsStacks s (names_at no_names (kinds ++ kind ∷ [])).stacks new.stacks) (sym (used-stacks-more entries more ∙ stacks-are))
          (subst (λ (names : Names). ShowsStacks stacks names.stacks new.stacks) (sym (names_at-more no_names kinds kind)) stacks-shown);
    }

-- ---- each kind

ok-is : {E A : Type 0} (x y : A) → ◌≡◌ {A = Result A E} (Ok x) (Ok y) → y ≡ x
ok-is x y e = cc

-- An item that gives a name tells no entry.
tells-none : {A : Type 0} (there : Option A) (fault : Disorder) (more : List Entry) → unless_there there fault ≡ Ok more → more ≡ []
tells-none (Some x) fault more e = absurd (cc)
tells-none None fault more e = ok-is {E = Disorder} [] more e

no-uses : (entries more : List Entry) → used_definitions more ≡ [] → used_definitions entries ++ used_definitions more ≡ used_definitions entries
no-uses entries more none = ap (λ (back : List EventDef). used_definitions entries ++ back) none ∙ append-nil (used_definitions entries)

no-stacks : (entries more : List Entry) → used_stacks more ≡ [] → used_stacks entries ++ used_stacks more ≡ used_stacks entries
no-stacks entries more none = ap (λ (back : List (List ℕ)). used_stacks entries ++ back) none ∙ append-nil (used_stacks entries)

-- An event that can stand where it does tells its definition and its stack.
entry-told : (found : Option EventDef) (stack : Option (List ℕ)) (first second : Disorder) (entry : EventDef → List ℕ → EventEntry) (more : List Entry)
    → (or_fault found first >>= (λ def. or_fault stack second >>= (λ bytes. Ok (Event (entry def bytes) ∷ [])))) ≡ Ok more
    → (def : EventDef) × (bytes : List ℕ) × (found ≡ Some def) × (stack ≡ Some bytes) × (more ≡ Event (entry def bytes) ∷ [])
entry-told None stack first second entry more e = absurd (cc)
entry-told (Some def) None first second entry more e = absurd (cc)
entry-told (Some def) (Some bytes) first second entry more e = (def, bytes, refl, refl, ok-is {E = Disorder} (Event (entry def bytes) ∷ []) more e)

stack-same : (names : Names) (id : ℕ) → stack_among names.stacks id ≡ stack_of names id
stack-same names zero = refl
stack-same names (suc id) = refl

module _ (kinds : List ItemKind) (entries more : List Entry) (old new : Counters) (h : Shows kinds entries old) where
  pub trace-shown : (info : TraceInfo) → tell (names_at no_names kinds) (item.Trace info) ≡ Ok more
      → new.trace ≡ trace_then old.trace (Some info) → new.totals ≡ with_total old.totals (item.Trace info) → new.events ≡ old.events → new.threads ≡ old.threads → new.stacks ≡ old.stacks
      → Shows (kinds ++ item.Trace info ∷ []) (entries ++ more) new
  trace-shown info told trace totals-are events threads stacks =
      let none : more ≡ [] = ok-is {E = Disorder} [] more told in
      shows-more kinds (item.Trace info) entries more old new (definitions kinds) (used_definitions entries) (flat_map threads_in kinds) (used_stacks entries) h trace totals-are
      (append-nil (definitions kinds)) (no-uses entries more (ap used_definitions none)) (append-nil (flat_map threads_in kinds)) (no-stacks entries more (ap used_stacks none))
      (rw events h.events_are) (rw threads h.threads_are) (rw stacks h.stacks_are)

  pub meta-shown : (id : ℕ) (def : EventDef) → tell (names_at no_names kinds) (item.Meta id def) ≡ Ok more
      → new.trace ≡ old.trace → new.totals ≡ with_total old.totals (item.Meta id def)
      → ShowsEvents (definitions kinds ++ def ∷ []) (used_definitions entries) ((id, def) ∷ (names_at no_names kinds).definitions) new.events → new.threads ≡ old.threads → new.stacks ≡ old.stacks
      → Shows (kinds ++ item.Meta id def ∷ []) (entries ++ more) new
  meta-shown id def told trace totals-are events threads stacks =
      let none : more ≡ [] = tells-none (lookup id (names_at no_names kinds).definitions) (MetadataTwice id) more told in
      shows-more kinds (item.Meta id def) entries more old new (definitions kinds ++ def ∷ []) (used_definitions entries) (flat_map threads_in kinds) (used_stacks entries) h (trace ∙ same-trace old.trace) totals-are
      refl (no-uses entries more (ap used_definitions none)) (append-nil (flat_map threads_in kinds)) (no-stacks entries more (ap used_stacks none))
      events (rw threads h.threads_are) (rw stacks h.stacks_are)

  pub stack-shown : (id : ℕ) (bytes : List ℕ) → tell (names_at no_names kinds) (item.Stack id bytes) ≡ Ok more
      → new.trace ≡ old.trace → new.totals ≡ with_total old.totals (item.Stack id bytes) → new.events ≡ old.events → new.threads ≡ old.threads
      → ShowsStacks (used_stacks entries) ((id, bytes) ∷ (names_at no_names kinds).stacks) new.stacks
      → Shows (kinds ++ item.Stack id bytes ∷ []) (entries ++ more) new
  stack-shown id bytes told trace totals-are events threads stacks =
      let none : more ≡ [] = tells-none (lookup id (names_at no_names kinds).stacks) (StackTwice id) more told in
      shows-more kinds (item.Stack id bytes) entries more old new (definitions kinds) (used_definitions entries) (flat_map threads_in kinds) (used_stacks entries) h (trace ∙ same-trace old.trace) totals-are
      (append-nil (definitions kinds)) (no-uses entries more (ap used_definitions none)) (append-nil (flat_map threads_in kinds)) (no-stacks entries more (ap used_stacks none))
      (rw events h.events_are) (rw threads h.threads_are) stacks

  pub event-shown : (metadata number capture processor thread stack stamp : ℕ) (activity related payload : List ℕ)
      → tell (names_at no_names kinds) (item.Event metadata number capture processor thread stack stamp activity related payload) ≡ Ok more
      → new.trace ≡ old.trace → new.totals ≡ with_total old.totals (item.Event metadata number capture processor thread stack stamp activity related payload)
      → ((def : EventDef) → lookup metadata (names_at no_names kinds).definitions ≡ Some def → ShowsEvents (definitions kinds) (used_definitions entries ++ def ∷ []) (names_at no_names kinds).definitions new.events)
      → Counts nat_cmp (flat_map threads_in kinds ++ capture ∷ []) [] new.threads
      → ((bytes : List ℕ) → stack_among (names_at no_names kinds).stacks stack ≡ Some bytes → ShowsStacks (used_stacks entries ++ stack_in bytes) (names_at no_names kinds).stacks new.stacks)
      → Shows (kinds ++ item.Event metadata number capture processor thread stack stamp activity related payload ∷ []) (entries ++ more) new
  event-shown metadata number capture processor thread stack stamp activity related payload told trace totals-are events threads stacks =
      let names = names_at no_names kinds in
      let one = entry-told (lookup metadata names.definitions) (stack_of names stack) (UnknownMetadata metadata) (UnknownStack stack)
      (λ def bytes. record { thread = capture; number = number; stamp = stamp; def = def; activity = activity; related = related; stack = bytes; payload = payload }) more told in
      shows-more kinds (item.Event metadata number capture processor thread stack stamp activity related payload) entries more old new
      (definitions kinds) (used_definitions entries ++ one.0 ∷ []) (flat_map threads_in kinds ++ capture ∷ []) (used_stacks entries ++ stack_in one.1) h (trace ∙ same-trace old.trace) totals-are
      (append-nil (definitions kinds)) (ap (λ (m : List Entry). used_definitions entries ++ used_definitions m) one.4) refl
      (ap (λ (m : List Entry). used_stacks entries ++ used_stacks m) one.4 ∙ ap (λ (back : List (List ℕ)). used_stacks entries ++ back) (append-nil (stack_in one.1)))
      (events one.0 one.2) threads (stacks one.1 (stack-same names stack ∙ one.3))

  pub point-shown : (stamp : ℕ) (threads : List (ℕ × ℕ)) → tell (names_at no_names kinds) (item.Point stamp threads) ≡ Ok more
      → new.trace ≡ old.trace → new.totals ≡ with_total old.totals (item.Point stamp threads) → new.events ≡ old.events
      → Counts nat_cmp (flat_map threads_in kinds ++ map (λ thread. thread.0) threads) [] new.threads → ShowsStacks (used_stacks entries) [] new.stacks
      → Shows (kinds ++ item.Point stamp threads ∷ []) (entries ++ more) new
  point-shown stamp threads told trace totals-are events threads-are stacks =
      let told-is : more ≡ Point (record { stamp = stamp; threads = threads }) ∷ [] = ok-is {E = Disorder} (Point (record { stamp = stamp; threads = threads }) ∷ []) more told in
      shows-more kinds (item.Point stamp threads) entries more old new (definitions kinds) (used_definitions entries) (flat_map threads_in kinds ++ map (λ (thread : ℕ × ℕ). thread.0) threads) (used_stacks entries) h
      (trace ∙ same-trace old.trace) totals-are
      (append-nil (definitions kinds)) (no-uses entries more (ap used_definitions told-is)) refl (no-stacks entries more (ap used_stacks told-is))
      (rw events h.events_are) threads-are stacks
