-- One item more of those that were listed: what is kept then, and its lines.
use Rattle.std.proofs.Common.{◌≡◌, ℕ, List, [], ◌∷◌, ◌++◌, Result, Ok, Err, refl, sym, ap, ◌∙◌, subst}
use Rattle.std.specs.Prelude.{IsOk, IsErrAnd}
use Rattle.nt_check.specs.declared.checker.CheckFault.{CheckFault}
use Rattle.nt_check.specs.declared.checker.CheckFault.TheVariants.{Bad}
use Rattle.nt_check.specs.declared.checker.CheckKind.{CheckKind}
use Rattle.std.specs.List.{flat_map}
use Rattle.std.proofs.lemmas.List.{append-nil}
use Rattle.pt_num.proofs.Joined.{flat_map-push}
use Rattle.ep_defs.specs.declared.event.EventDef.{EventDef}
use Rattle.ep_defs.specs.declared.item.ItemKind.{ItemKind}
use Rattle.ep_defs.specs.declared.item.ItemKind.TheVariants as item
use Rattle.ep_defs.specs.Entry.{EventEntry, Entry}
use Rattle.ep_defs.specs.Entry as entry
use Rattle.ep_defs.specs.Gaps.{Sighting, Seen}
use Rattle.nt_blocks.specs.Ordered.{Disorder, Names, no_names, names_after, tell, told_after}
use Rattle.nt_check.specs.state.Took.{names_at}
use Rattle.nt_check.proofs.Told.{names_at-more, told-refused, told-taken}
use Rattle.pt_events.specs.declared.listing.Listing.{Listing}
use Rattle.pt_lines.specs.declared.origin.Origin.{Origin}
use Rattle.pt_lines.specs.Line.{Line, Event}
use Rattle.pt_events.specs.Lines.{sighted, lost_lines, origin_after, entries_in, entry_lines, item_lines, unsaid}
use Rattle.pt_lines.specs.declared.form.Form.{Form}
use Rattle.pt_lines.specs.Forms.{AreLines, IsLine}
use Rattle.pt_lines.specs.Appends.{Appends}
use Rattle.pt_events.specs.state.Known.{Knows, HasSeen, IsFound}
use Rattle.pt_events.specs.state.Listed.{HasListed, event_lines}
use Rattle.pt_events.proofs.Lines.{origin_at-more, lost-one}
use Rattle.pt_lines.proofs.Lines.{line-one, lines-append}
use Rattle.pt_lines.proofs.Steps.{both}

-- An item that can be told was listed.
pub listed-kind : (kinds : List ItemKind) (kind : ItemKind) (old new : Listing) → HasListed kinds old → IsOk (tell (names_at no_names kinds) kind) → Knows (names_after (names_at no_names kinds) kind) new.names → HasSeen (flat_map sighted kinds ++ sighted kind) new.lasts → new.origin ≡ origin_after old.origin kind → HasListed (kinds ++ kind ∷ []) new
listed-kind kinds kind old new had fine names lasts said =
    record {
      ordered = told-taken no_names kinds kind had.ordered fine;
      names = subst (λ (n : Names). Knows n new.names) (sym (names_at-more no_names kinds kind)) names;
      lasts = subst (λ (past : List (ℕ × Sighting)). HasSeen past new.lasts) (sym (flat_map-push sighted kinds kind)) lasts;
      origin = said ∙ ap (λ (o : Origin). origin_after o kind) had.origin ∙ sym (origin_at-more unsaid kinds kind);
    }

-- One that tells no number.
pub listed-quiet : (kinds : List ItemKind) (kind : ItemKind) (old new : Listing) → sighted kind ≡ [] → HasListed kinds old → IsOk (tell (names_at no_names kinds) kind) → Knows (names_after (names_at no_names kinds) kind) new.names → new.lasts ≡ old.lasts → new.origin ≡ origin_after old.origin kind → HasListed (kinds ++ kind ∷ []) new
listed-quiet kinds kind old new quiet had fine names same said =
    listed-kind kinds kind old new had fine names
    (rw (quiet, append-nil (flat_map sighted kinds), same) had.lasts) said

-- One that can't be told is refused.
pub refused-kind : (kinds : List ItemKind) (kind : ItemKind) (listing : Listing) (fault : Disorder) → HasListed kinds listing → tell (names_at no_names kinds) kind ≡ Err fault → told_after no_names (kinds ++ kind ∷ []) ≡ Err fault
refused-kind kinds kind listing fault had e = told-refused no_names kinds kind fault had.ordered e

-- ---- lines

-- The lines of an event, and of what is lost before it.
pub event-lines : (form : Form) (names : Names) (past : List (ℕ × Sighting)) (origin : Origin) (metadata number capture processor thread stack stamp : ℕ) (activity related payload : List ℕ) (def : EventDef) (bytes old new : List ℕ)
    → IsFound names metadata stack def bytes
    → Appends (AreLines form (event_lines past origin processor thread (record { thread = capture; number = number; stamp = stamp; def = def; activity = activity; related = related; stack = bytes; payload = payload }))) old new
    → Appends (AreLines form (item_lines names past origin (item.Event metadata number capture processor thread stack stamp activity related payload))) old new
event-lines form names past origin metadata number capture processor thread stack stamp activity related payload def bytes old new found put =
    let event : EventEntry = record { thread = capture; number = number; stamp = stamp; def = def; activity = activity; related = related; stack = bytes; payload = payload } in
    let kind = item.Event metadata number capture processor thread stack stamp activity related payload in
    let told : tell names kind ≡ Ok (entry.Event event ∷ []) = rw (found.def_is, found.stack_is) refl in
    let lines : item_lines names past origin kind ≡ event_lines past origin processor thread event =
    ap (λ (told : Result (List Entry) Disorder). lost_lines origin stamp past ((capture, Seen number) ∷ []) ++ entry_lines origin kind (entries_in told)) told
    ∙ ap (λ (l : List Line). l ++ Event origin processor thread event ∷ []) (lost-one origin stamp past (capture, Seen number)) in
    subst (λ (all : List Line). Appends (AreLines form all) old new) (sym lines) put

-- A line and what was put before it.
pub lines-put : (form : Form) (lost : List Line) (line : Line) (old mid new : List ℕ) → Appends (AreLines form lost) old mid → Appends (IsLine form line) mid new → Appends (AreLines form (lost ++ line ∷ [])) old new
lines-put form lost line old mid new first second =
    both (AreLines form lost) (IsLine form line) (AreLines form (lost ++ line ∷ [])) old mid new
    (λ a b before after. lines-append form lost (line ∷ []) a b before (line-one form line b after)) first second

-- An event whose ids stand for something can be told.
pub found-told : (names : Names) (metadata number capture processor thread stack stamp : ℕ) (activity related payload : List ℕ) (def : EventDef) (bytes : List ℕ) → IsFound names metadata stack def bytes → IsOk (tell names (item.Event metadata number capture processor thread stack stamp activity related payload))
found-told names metadata number capture processor thread stack stamp activity related payload def bytes found = rw (found.def_is, found.stack_is) refl

-- Where a name is new it can be told.
pub told-none : {E A : Type 0} (answer : Result (List A) E) → answer ≡ Ok [] → IsOk answer
told-none answer e = rw e refl

-- A fault that is passed on as it came.
pub passed-fault : {A : Type 0} (answer : Result A CheckFault) (e : CheckFault) (unknown fault : CheckKind) → IsErrAnd answer (λ f. f ≡ e) → e ≡ Bad unknown → answer ≡ Err (Bad fault) → unknown ≡ fault
passed-fault (Ok x) e unknown fault passed is answered = absurd passed
passed-fault (Err f) e unknown fault passed is answered = let same : Bad unknown ≡ Bad fault = sym is ∙ sym passed ∙ err-same answered in cc
  where
    err-same : {A : Type 0} {f g : CheckFault} → ◌≡◌ {A = Result A CheckFault} (Err f) (Err g) → f ≡ g
    err-same e = cc
