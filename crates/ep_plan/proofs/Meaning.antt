-- A line means one thing.
use Rattle.std.proofs.Common.{◌≡◌, inl, inr, ℕ, ◌+◌, ◌*◌, ◌≤◌, Bool, true, false, List, [], ◌∷◌, length, get_or, Option, Some, None, refl, sym, ap, ◌∙◌, arith, codes, IsTrue, nat_lt, if◌then◌else◌}
use Rattle.ep_defs.specs.declared.event.EventDef.{EventDef}
use Rattle.ep_defs.specs.declared.session.Config.{Config}
use Rattle.ep_defs.specs.Event.{is_valid_event}
use Rattle.ep_model.specs.declared.step.Step.{Step}
use Rattle.ep_model.specs.declared.step.Step.TheVariants as step
use Rattle.ep_defs.specs.declared.limits.TheConstants.{EVENTS}
use Rattle.ep_plan.specs.declared.limits.TheConstants.{LINE_BYTES}
use Rattle.ep_plan.specs.declared.line.Line.{Line}
use Rattle.ep_plan.specs.declared.line.Line.TheVariants as line
use Rattle.ep_plan.specs.Words.{words_of, rule_in, all_in}
use Rattle.ep_plan.specs.Lines.{number_of, flag_of, is_there, AsksFor, Spells, Means, IsLine, is_blank, Bad, bad_at, bad_of, words_bad, event_bad}
use Rattle.ep_plan.proofs.EventWords.{event-facts}
use Rattle.ep_plan.specs.declared.line.LineKind.TheVariants as kind

-- The first three bytes of the first word.
abbrev first_of : List (List ℕ) → List ℕ
first_of [] = []
first_of (first ∷ words) = first

abbrev lead : List (List ℕ) → ℕ
lead words = 65536 * get_or (first_of words) 0 0 + 256 * get_or (first_of words) 1 0 + get_or (first_of words) 2 0

abbrev lead_of : Step → ℕ
lead_of (step.Accept s config) = lead (codes "acc" ∷ [])
lead_of (step.Enter t) = lead (codes "ent" ∷ [])
lead_of (step.Leave t) = lead (codes "lea" ∷ [])
lead_of (step.Open s t) = lead (codes "ope" ∷ [])
lead_of (step.Begin t stamp write) = lead (codes "beg" ∷ [])
lead_of (step.Show t s) = lead (codes "sho" ∷ [])
lead_of (step.End t) = lead (codes "end" ∷ [])
lead_of (step.Steal s t) = lead (codes "ste" ∷ [])
lead_of (step.Give s) = lead (codes "giv" ∷ [])
lead_of (step.Point s stamp) = lead (codes "poi" ∷ [])
lead_of (step.Close s t) = lead (codes "clo" ∷ [])
lead_of (step.Finish s stamp) = lead (codes "fin" ∷ [])

asked-lead : (words : List (List ℕ)) (a b : List ℕ) (rules : List (List ℕ)) (stackwalk rundown : Bool) → AsksFor words a b rules stackwalk rundown → lead words ≡ lead (codes "acc" ∷ [])
asked-lead words a b rules stackwalk rundown (inl two) = ap lead two.0
asked-lead words a b rules stackwalk rundown (inr (inl three)) = ap lead three.1
asked-lead words a b rules stackwalk rundown (inr (inr four)) = ap lead four.2

leads : (words : List (List ℕ)) (s : Step) → Spells words s → lead words ≡ lead_of s
unfolding Spells
leads words (step.Accept s config) h = asked-lead words h.0 h.1 h.2 config.stackwalk config.rundown h.3
leads words (step.Enter t) h = ap lead h.1
leads words (step.Leave t) h = ap lead h.1
leads words (step.Open s t) h = ap lead h.2
leads words (step.Begin t stamp write) h = ap lead h.3
leads words (step.Show t s) h = ap lead h.2
leads words (step.End t) h = ap lead h.1
leads words (step.Steal s t) h = ap lead h.2
leads words (step.Give s) h = ap lead h.1
leads words (step.Point s stamp) h = ap lead h.2
leads words (step.Close s t) h = ap lead h.2
leads words (step.Finish s stamp) h = ap lead h.2

same-config : (a b : Config) → a.rules ≡ b.rules → a.chunks ≡ b.chunks → a.stackwalk ≡ b.stackwalk → a.rundown ≡ b.rundown → a ≡ b
same-config a b rules chunks stackwalk rundown =
    λ i. record { rules = rules i; chunks = chunks i; stackwalk = stackwalk i; rundown = rundown i }

-- The seventh byte of the first word, which tells the lines of an Accept apart.
abbrev seventh : List (List ℕ) → ℕ
seventh words = get_or (first_of words) 6 0

-- What the words of an Accept ask for.
record SameAsked (a a' b b' : List ℕ) (rules rules' : List (List ℕ)) (stackwalk stackwalk' rundown rundown' : Bool) : Type 0 where
  session : a ≡ a'
  chunks : b ≡ b'
  others : rules ≡ rules'
  stacks : stackwalk ≡ stackwalk'
  ends : rundown ≡ rundown'

same-flag : (flag flag' : List ℕ) (b b' : Bool) → flag ≡ flag' → flag_of flag ≡ Some b → flag_of flag' ≡ Some b' → b ≡ b'
same-flag flag flag' b b' same one other =
    let both : Some b ≡ Some b' = sym one ∙ ap flag_of same ∙ other in
    cc

-- The words of a line ask for one thing at most.
same-asked : (words : List (List ℕ)) (a a' b b' : List ℕ) (rules rules' : List (List ℕ)) (stackwalk stackwalk' rundown rundown' : Bool) → AsksFor words a b rules stackwalk rundown → AsksFor words a' b' rules' stackwalk' rundown' → SameAsked a a' b b' rules rules' stackwalk stackwalk' rundown rundown'
same-asked words a a' b b' rules rules' stackwalk stackwalk' rundown rundown' (inl one) (inl other) =
    let e : codes "accept" ∷ a ∷ b ∷ rules ≡ codes "accept" ∷ a' ∷ b' ∷ rules' = sym one.0 ∙ other.0 in
    record { session = cc; chunks = cc; others = cc; stacks = one.1 ∙ sym other.1; ends = one.2 ∙ sym other.2 }
same-asked words a a' b b' rules rules' stackwalk stackwalk' rundown rundown' (inr (inl one)) (inr (inl other)) =
    let e : codes "accept3" ∷ a ∷ b ∷ one.0 ∷ rules ≡ codes "accept3" ∷ a' ∷ b' ∷ other.0 ∷ rules' = sym one.1 ∙ other.1 in
    let flag : one.0 ≡ other.0 = cc in
    record { session = cc; chunks = cc; others = cc; stacks = same-flag one.0 other.0 stackwalk stackwalk' flag one.2 other.2; ends = one.3 ∙ sym other.3 }
same-asked words a a' b b' rules rules' stackwalk stackwalk' rundown rundown' (inr (inr one)) (inr (inr other)) =
    let e : codes "accept4" ∷ a ∷ b ∷ one.0 ∷ one.1 ∷ rules ≡ codes "accept4" ∷ a' ∷ b' ∷ other.0 ∷ other.1 ∷ rules' = sym one.2 ∙ other.2 in
    let flag : one.0 ≡ other.0 = cc in
    let second : one.1 ≡ other.1 = cc in
    record { session = cc; chunks = cc; others = cc; stacks = same-flag one.0 other.0 stackwalk stackwalk' flag one.3 other.3; ends = same-flag one.1 other.1 rundown rundown' second one.4 other.4 }
same-asked words a a' b b' rules rules' stackwalk stackwalk' rundown rundown' (inl one) (inr (inl other)) = absurd (omega (arith, ap seventh (sym one.0 ∙ other.1)))
same-asked words a a' b b' rules rules' stackwalk stackwalk' rundown rundown' (inl one) (inr (inr other)) = absurd (omega (arith, ap seventh (sym one.0 ∙ other.2)))
same-asked words a a' b b' rules rules' stackwalk stackwalk' rundown rundown' (inr (inl one)) (inl other) = absurd (omega (arith, ap seventh (sym one.1 ∙ other.0)))
same-asked words a a' b b' rules rules' stackwalk stackwalk' rundown rundown' (inr (inl one)) (inr (inr other)) = absurd (omega (arith, ap seventh (sym one.1 ∙ other.2)))
same-asked words a a' b b' rules rules' stackwalk stackwalk' rundown rundown' (inr (inr one)) (inl other) = absurd (omega (arith, ap seventh (sym one.2 ∙ other.0)))
same-asked words a a' b b' rules rules' stackwalk stackwalk' rundown rundown' (inr (inr one)) (inr (inl other)) = absurd (omega (arith, ap seventh (sym one.2 ∙ other.1)))

same-accept : (s s' : ℕ) (config config' : Config) (a b a' b' : List ℕ) (rules rules' : List (List ℕ)) → a ≡ a' → b ≡ b' → rules ≡ rules' → number_of a ≡ Some s → number_of a' ≡ Some s' → number_of b ≡ Some config.chunks → number_of b' ≡ Some config'.chunks → all_in rule_in rules ≡ Some config.rules → all_in rule_in rules' ≡ Some config'.rules → config.stackwalk ≡ config'.stackwalk → config.rundown ≡ config'.rundown → ◌≡◌ {A = Step} (step.Accept s config) (step.Accept s' config')
same-accept s s' config config' a b a' b' rules rules' first second others session session' chunks chunks' list list' stackwalk rundown =
    let number : Some s ≡ Some s' = sym session ∙ ap number_of first ∙ session' in
    let count : Some config.chunks ≡ Some config'.chunks = sym chunks ∙ ap number_of second ∙ chunks' in
    let all : Some config.rules ≡ Some config'.rules = sym list ∙ ap (all_in rule_in) others ∙ list' in
    let same : s ≡ s' = cc in
    let budget : config.chunks ≡ config'.chunks = cc in
    let read : config.rules ≡ config'.rules = cc in
    let whole = same-config config config' read budget stackwalk rundown in
    cc

-- The words of a line spell one step at most.
same-step : (words : List (List ℕ)) (a b : Step) → Spells words a → Spells words b → a ≡ b
unfolding Spells
same-step words (step.Accept s config) (step.Accept s' config') h k =
    let same = same-asked words h.0 k.0 h.1 k.1 h.2 k.2 config.stackwalk config'.stackwalk config.rundown config'.rundown h.3 k.3 in
    same-accept s s' config config' h.0 h.1 k.0 k.1 h.2 k.2 same.session same.chunks same.others h.4 k.4 h.5 k.5 h.6 k.6 same.stacks same.ends
same-step words (step.Enter t) (step.Enter t') h k = cc
same-step words (step.Leave t) (step.Leave t') h k = cc
same-step words (step.Open s t) (step.Open s' t') h k = cc
same-step words (step.Begin t stamp write) (step.Begin t' stamp' write') h k = cc
same-step words (step.Show t s) (step.Show t' s') h k = cc
same-step words (step.End t) (step.End t') h k = cc
same-step words (step.Steal s t) (step.Steal s' t') h k = cc
same-step words (step.Give s) (step.Give s') h k = cc
same-step words (step.Point s stamp) (step.Point s' stamp') h k = cc
same-step words (step.Close s t) (step.Close s' t') h k = cc
same-step words (step.Finish s stamp) (step.Finish s' stamp') h k = cc
same-step words a b h k =
    let e : lead_of a ≡ lead_of b = sym (leads words a h) ∙ leads words b k in
    absurd (omega arith)

lead_of-event : (s : Step) → lead_of s ≡ lead (codes "eve" ∷ []) → ⊥
lead_of-event (step.Accept s config) e = absurd (omega arith)
lead_of-event (step.Enter t) e = absurd (omega arith)
lead_of-event (step.Leave t) e = absurd (omega arith)
lead_of-event (step.Open s t) e = absurd (omega arith)
lead_of-event (step.Begin t stamp write) e = absurd (omega arith)
lead_of-event (step.Show t s) e = absurd (omega arith)
lead_of-event (step.End t) e = absurd (omega arith)
lead_of-event (step.Steal s t) e = absurd (omega arith)
lead_of-event (step.Give s) e = absurd (omega arith)
lead_of-event (step.Point s stamp) e = absurd (omega arith)
lead_of-event (step.Close s t) e = absurd (omega arith)
lead_of-event (step.Finish s stamp) e = absurd (omega arith)

-- No words spell a step and an event.
no-event : (words rest : List (List ℕ)) (s : Step) → Spells words s → words ≡ codes "event" ∷ rest → ⊥
no-event words rest s h e = lead_of-event s (sym (leads words s h) ∙ ap lead e)

-- A line means one thing at most.
pub one-line : (text : List ℕ) (a b : Line) → Means text a → Means text b → a ≡ b
unfolding Means
one-line text line.Blank line.Blank h k = refl
one-line text line.Blank (line.Event index def) h k = let other = k.2 in absurd (cc)
one-line text line.Blank (line.Step s) h k = let other = k.0 in absurd (cc)
one-line text (line.Event index def) line.Blank h k = let other = h.2 in absurd (cc)
one-line text (line.Step s) line.Blank h k = let other = h.0 in absurd (cc)
one-line text (line.Event index def) (line.Event index' def') h k = cc
one-line text (line.Event index def) (line.Step s) h k = absurd (no-event (words_of text) (h.0 ∷ h.1) s k.1 h.3)
one-line text (line.Step s) (line.Event index def) h k = absurd (no-event (words_of text) (k.0 ∷ k.1) s h.1 k.3)
one-line text (line.Step a) (line.Step b) h k = ap line.Step (same-step (words_of text) a b h.1 k.1)

if-none : (b : Bool) (bad : Bad) (o : Option Bad) → (if b then Some bad else o) ≡ None → o ≡ None
if-none true bad o h = cc
if-none false bad o h = h

unless-blank : (b : Bool) (o : Option Bad) → b ≡ false → (if b then None else o) ≡ None → o ≡ None
unless-blank true o b h = cc
unless-blank false o b h = h

-- A good line that is an event has good words.
words-good : (events : List EventDef) (stepped : Bool) (text : List ℕ) → bad_of events stepped text ≡ None → is_blank text ≡ false → words_bad events stepped (length text + 1) (words_of text) ≡ None
unfolding bad_of
words-good events stepped text h other =
    unless-blank (is_blank text) (words_bad events stepped (length text + 1) (words_of text)) other (if-none (nat_lt LINE_BYTES (length text)) (bad_at 1 kind.Long) _ h)

event-words : (events : List EventDef) (stepped : Bool) (past : ℕ) (words : List (List ℕ)) → words_bad events stepped past (codes "event" ∷ words) ≡ event_bad events stepped past words
unfolding words_bad
event-words events stepped past words = refl

-- What a line says that is a good event.
pub event-line : (events : List EventDef) (stepped : Bool) (text : List ℕ) (index : ℕ) (def : EventDef) → IsLine events stepped text (line.Event index def) → (stepped ≡ false) × (index ≡ length events + 1) × (index ≤ EVENTS) × IsTrue (is_valid_event def) × (is_there events def ≡ false)
unfolding Means
event-line events stepped text index def x =
    let means = x.meaning in
    let words = words-good events stepped text x.good means.2 in
    let good = sym (event-words events stepped (length text + 1) (means.0 ∷ means.1)) ∙ ap (words_bad events stepped (length text + 1)) (sym means.3) ∙ words in
    event-facts events stepped (length text + 1) means.0 means.1 index def good means.4 means.5
