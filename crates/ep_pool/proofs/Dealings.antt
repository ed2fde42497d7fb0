-- Each step of a shared pool keeps the rule.
use Rattle.std.proofs.Common.{◌≡◌, ◌≢◌, ℕ, zero, suc, ◌+◌, ◌<◌, ◌≤◌, List, [], ◌∷◌, ◌++◌, length, set, refl, sym, ap, ◌∙◌, subst, ⊎_elim, inr, Option, Some, None, length-append, arith}
use Rattle.std.specs.Prelude.{IfNone, MatchOption}
use Rattle.std.proofs.lemmas.List.Elements.{All-nil, All-cons, All-head, All-tail, All-append}
use mathlib.Core.Option.{some, some-ne-none, some-injective}
use lib.ListN.{get_elem?}
use Rattle.crossbeam_queue.specs.Fifo.{Pushes, Pops, Forks, Merges, Learns, Held}
use Rattle.crossbeam_queue.proofs.Lists.{at_set, at_snoc}
use Rattle.ep_chunk.specs.Record.{Record}
use Rattle.ep_pool.specs.declared.steps.Known.{Known}
use Rattle.ep_pool.specs.declared.steps.Known.TheVariants.{Unborn, Spent, Staked}
use Rattle.ep_pool.specs.Free.{IsOneEmpty}
use Rattle.ep_pool.specs.Deals.{total_of, seats_of, share_of, taken_of, given_of, together, Fits, IsDealt, Deals, Moment, IsStaked, born, took, gave, dried, KnowsFree, parted, apart, joined, levelled}

abbrev Queue : Type 0
Queue = List (List (List Record))

-- all seats together once one seat knows something else
together_set : (f : Known → ℕ) (known : List Known) (seat : ℕ) (k w : Known) → get_elem? known seat ≡ some k → together f (set known seat w) + f k ≡ together f known + f w
together_set f [] seat k w at = absurd (some-ne-none k (sym at))
together_set f (x ∷ xs) zero k w at = let e : f x ≡ f k = ap f (some-injective x k at) in omega arith
together_set f (x ∷ xs) (suc seat) k w at = let e = together_set f xs seat k w at in omega arith

-- all seats together with one seat more
together_snoc : (f : Known → ℕ) (known : List Known) (k : Known) → together f (known ++ k ∷ []) ≡ together f known + f k
together_snoc f [] k = omega arith
together_snoc f (x ∷ xs) k = let e = together_snoc f xs k in omega arith

-- one seat is among all
together_above : (f : Known → ℕ) (known : List Known) (seat : ℕ) (k : Known) → get_elem? known seat ≡ some k → f k ≤ together f known
together_above f [] seat k at = absurd (some-ne-none k (sym at))
together_above f (x ∷ xs) zero k at = let e : f x ≡ f k = ap f (some-injective x k at) in omega arith
together_above f (x ∷ xs) (suc seat) k at = let e = together_above f xs seat k at in omega arith

abbrev AllFit : ℕ → ℕ → List Known → Type 0
AllFit total seats known = (seat : ℕ) (k : Known) → get_elem? known seat ≡ some k → Fits total seats k

fits_set : (total seats : ℕ) (known : List Known) (seat : ℕ) (w : Known) → Fits total seats w → AllFit total seats known → AllFit total seats (set known seat w)
fits_set total seats known seat w mine others j u e =
    ⊎_elim
    (λ (t : (j ≡ seat) × (w ≡ u)). subst (Fits total seats) t.1 mine)
    (λ (t : (j ≢ seat) × (get_elem? known j ≡ some u)). others j u t.1)
    (at_set known seat j w u e)

fits_snoc : (total seats : ℕ) (known : List Known) (w : Known) → Fits total seats w → AllFit total seats known → AllFit total seats (known ++ w ∷ [])
fits_snoc total seats known w mine others j u e =
    ⊎_elim
    (λ (t : get_elem? known j ≡ some u). others j u t)
    (λ (t : w ≡ u). subst (Fits total seats) t mine)
    (at_snoc known w u j e)

-- a seat with no share has taken and given nothing
idle : (total seats : ℕ) (k : Known) → Fits total seats k → share_of k ≡ 0 → (taken_of k ≡ 0) × (given_of k ≡ 0)
idle total seats Unborn h e = elim h [ ]
idle total seats Spent h e = (refl, refl)
idle total seats (Staked s) h e = absurd (omega (arith, h.2))

-- where the shares of all seats are none, nothing was taken or given
all_idle : (total seats : ℕ) (known : List Known) → AllFit total seats known → together share_of known ≡ 0 → (together taken_of known ≡ 0) × (together given_of known ≡ 0)
all_idle total seats [] h e = (refl, refl)
all_idle total seats (k ∷ known) h e =
    let mine = idle total seats k (h 0 k refl) (omega arith) in
    let others = all_idle total seats known (λ j u at. h (suc j) u at) (omega arith) in
    (omega (arith, mine.0, others.0), omega (arith, mine.1, others.1))

-- a seat with all shares has taken and given all
alone : (total seats : ℕ) (known : List Known) (seat : ℕ) (k : Known) → AllFit total seats known → get_elem? known seat ≡ some k → share_of k ≡ together share_of known
    → (together taken_of known ≡ taken_of k) × (together given_of known ≡ given_of k)
alone total seats [] seat k h at e = absurd (some-ne-none k (sym at))
alone total seats (x ∷ xs) zero k h at e =
    let same : x ≡ k = some-injective x k at in
    let share = ap share_of same in
    let taken = ap taken_of same in
    let given = ap given_of same in
    let others = all_idle total seats xs (λ j u there. h (suc j) u there) (omega arith) in
    (omega (arith, others.0), omega (arith, others.1))
alone total seats (x ∷ xs) (suc seat) k h at e =
    let above = together_above share_of xs seat k at in
    let mine = idle total seats x (h 0 x refl) (omega arith) in
    let others = alone total seats xs seat k (λ j u there. h (suc j) u there) at (omega arith) in
    (omega (arith, mine.0, others.0), omega (arith, mine.1, others.1))

staked_dealt : (total seats free : ℕ) (known : List Known) (seat : ℕ) (k : Known) → IsStaked k → get_elem? known seat ≡ some k → IsDealt total seats free known → IsDealt (total_of k) (seats_of k) free known
staked_dealt total seats free known seat Unborn staked at d = elim staked [ ]
staked_dealt total seats free known seat Spent staked at d = elim staked [ ]
staked_dealt total seats free known seat (Staked s) staked at d =
    let mine : Fits total seats (Staked s) = d.fitting seat (Staked s) at in
    subst (λ (y : ℕ × ℕ). IsDealt y.0 y.1 free known) (λ i. (sym mine.0 i, sym mine.1 i)) d

unborn_alone : (known : List Known) (seat : ℕ) (k : Known) → known ≡ Unborn ∷ [] → get_elem? known seat ≡ some k → k ≡ Unborn
unborn_alone known seat k only at = here seat (ap (λ l. get_elem? l seat) (sym only) ∙ at)
  where
    here : (seat : ℕ) → get_elem? (Unborn ∷ []) seat ≡ some k → k ≡ Unborn
    here zero e = sym (some-injective Unborn k e)
    here (suc seat) e = absurd (some-ne-none k (sym e))

-- where a seat has a stake the pool is dealt
dealt : (queue : Queue) (known : List Known) (seat : ℕ) (k : Known) → IsStaked k → Deals queue known → get_elem? known seat ≡ some k → IsDealt (total_of k) (seats_of k) (length queue) known
dealt queue known seat k staked h at = ⊎_elim
    (λ (t : (known ≡ Unborn ∷ []) × (queue ≡ [])). absurd (subst IsStaked (unborn_alone known seat k t.0 at) staked))
    (λ (t : (total : ℕ) × (seats : ℕ) × IsDealt total seats (length queue) known). staked_dealt t.0 t.1 (length queue) known seat k staked at t.2)
    h.1

-- a pool whose one seat knows something else, and whose free chunks changed by as much
moved : (total seats free free' : ℕ) (known : List Known) (seat : ℕ) (k w : Known) → IsDealt total seats free known → get_elem? known seat ≡ some k → Fits total seats w → share_of w ≡ share_of k
    → free' + taken_of w + given_of k ≡ free + taken_of k + given_of w → IsDealt total seats free' (set known seat w)
moved total seats free free' known seat k w d at fits share balance = record {
  counted =
      let t = together_set taken_of known seat k w at in
      let g = together_set given_of known seat k w at in
      let c = d.counted in
      omega arith;
  shared = let s = together_set share_of known seat k w at in let c = d.shared in omega arith;
  fitting = fits_set total seats known seat w fits d.fitting;
}

-- a pool one seat of which parts in two
forked : (total seats free : ℕ) (known : List Known) (seat : ℕ) (k l r : Known) → IsDealt total seats free known → get_elem? known seat ≡ some k → Fits total seats l → Fits total seats r
    → share_of l + share_of r ≡ share_of k → taken_of l + taken_of r + given_of k ≡ taken_of k + given_of l + given_of r → IsDealt total seats free (set known seat l ++ r ∷ [])
forked total seats free known seat k l r d at fits_l fits_r share balance = record {
  counted =
      let t = together_set taken_of known seat k l at in
      let g = together_set given_of known seat k l at in
      let t' = together_snoc taken_of (set known seat l) r in
      let g' = together_snoc given_of (set known seat l) r in
      let c = d.counted in
      omega arith;
  shared =
      let s = together_set share_of known seat k l at in
      let s' = together_snoc share_of (set known seat l) r in
      let c = d.shared in
      omega arith;
  fitting = fits_snoc total seats (set known seat l) r fits_r (fits_set total seats known seat l fits_l d.fitting);
}

-- the first seat of a pool comes
pub births : (seat total seats : ℕ) (k : Known) → k ≡ Unborn → 0 < seats → Forks Deals seat k Spent (born total seats k)
births seat total seats k unborn any queue known h at = (
  h.0,
  inr (
    total,
    seats,
    ⊎_elim
        (λ (t : (known ≡ Unborn ∷ []) × (queue ≡ [])).
        subst (λ (y : Queue × List Known). IsDealt total seats (length y.0) (set y.1 seat Spent ++ first ∷ [])) (λ i. (sym t.1 i, sym t.0 i))
        (here seat (ap (λ l. get_elem? l seat) (sym t.0) ∙ at)))
        (λ (t : (total' : ℕ) × (seats' : ℕ) × IsDealt total' seats' (length queue) known). absurd (subst (Fits t.0 t.1) unborn (t.2.fitting seat k at)))
        h.1,
  ),
)
  where
    first : Known
    first = born total seats k

    alone_fits : AllFit total seats (Spent ∷ first ∷ [])
    alone_fits zero u e = subst (Fits total seats) (some-injective Spent u e) tt
    alone_fits (suc zero) u e = subst (Fits total seats) (some-injective first u e) (refl, refl, any)
    alone_fits (suc (suc j)) u e = absurd (some-ne-none u (sym e))

    here : (seat : ℕ) → get_elem? (Unborn ∷ []) seat ≡ some k → IsDealt total seats 0 (set (Unborn ∷ []) seat Spent ++ first ∷ [])
    here zero e = record { counted = omega arith; shared = omega arith; fitting = alone_fits }
    here (suc seat) e = absurd (some-ne-none k (sym e))

-- equal counts are taken away
pub levels : (seat : ℕ) (k : Known) → IsStaked k → taken_of k ≡ given_of k → Forks Deals seat k (levelled k) Spent
levels seat Unborn staked equal queue known h at = elim staked [ ]
levels seat Spent staked equal queue known h at = elim staked [ ]
levels seat (Staked s) staked equal queue known h at =
    let d = dealt queue known seat (Staked s) tt h at in
    let mine : Fits s.total s.seats (Staked s) = d.fitting seat (Staked s) at in
    (h.0, inr (s.total, s.seats, forked s.total s.seats (length queue) known seat (Staked s) (levelled (Staked s)) Spent d at mine tt (omega arith) (omega arith)))

-- a take found no chunk
pub dries : (seat : ℕ) (k : Known) → IsStaked k → Forks Deals seat k (dried k) Spent
dries seat Unborn staked queue known h at = elim staked [ ]
dries seat Spent staked queue known h at = elim staked [ ]
dries seat (Staked s) staked queue known h at =
    let d = dealt queue known seat (Staked s) tt h at in
    let mine : Fits s.total s.seats (Staked s) = d.fitting seat (Staked s) at in
    (h.0, inr (s.total, s.seats, forked s.total s.seats (length queue) known seat (Staked s) (dried (Staked s)) Spent d at mine tt (omega arith) (omega arith)))

-- a share goes to a seat of its own
pub splits : (seat : ℕ) (k : Known) → IsStaked k → 1 < share_of k → Forks Deals seat k (parted k) (apart k)
splits seat Unborn staked many queue known h at = elim staked [ ]
splits seat Spent staked many queue known h at = elim staked [ ]
splits seat (Staked s) staked many queue known h at =
    let d = dealt queue known seat (Staked s) tt h at in (
      h.0,
      inr (s.total, s.seats, forked s.total s.seats (length queue) known seat (Staked s) (parted (Staked s)) (apart (Staked s)) d at (refl, refl, omega arith) (refl, refl, omega arith) (omega arith) (omega arith)),
    )

-- what two seats have goes to one of them
pub joins : (seat : ℕ) (k : Known) (other : ℕ) (l : Known) → IsStaked k → IsStaked l → Merges Deals seat k other l (joined k l) Spent
joins seat Unborn other l staked staked' queue known h at far at' = elim staked [ ]
joins seat Spent other l staked staked' queue known h at far at' = elim staked [ ]
joins seat (Staked s) other Unborn staked staked' queue known h at far at' = elim staked' [ ]
joins seat (Staked s) other Spent staked staked' queue known h at far at' = elim staked' [ ]
joins seat (Staked s) other (Staked t) staked staked' queue known h at far at' =
    let k : Known = Staked s in
    let l : Known = Staked t in
    let both : Known = joined k l in
    let d = dealt queue known seat k tt h at in
    let mine : Fits s.total s.seats k = d.fitting seat k at in
    let some' : 0 < s.share + t.share = omega (arith, mine.2) in (
      h.0,
      inr (
        s.total,
        s.seats,
        record {
          counted =
              let t0 = together_set taken_of known seat k both at in
              let g0 = together_set given_of known seat k both at in
              let t1 = together_set taken_of (set known seat both) other l Spent at' in
              let g1 = together_set given_of (set known seat both) other l Spent at' in
              let c = d.counted in
              omega arith;
          shared =
              let s0 = together_set share_of known seat k both at in
              let s1 = together_set share_of (set known seat both) other l Spent at' in
              let c = d.shared in
              omega arith;
          fitting = fits_set s.total s.seats (set known seat both) other Spent tt (fits_set s.total s.seats known seat both (refl, refl, some') d.fitting);
        },
      ),
    )

-- a seat with all shares knows how many chunks are free
counts : (k : Known) (free : ℕ) → Moment k free → share_of k ≡ seats_of k → free + taken_of k ≡ total_of k + given_of k
counts k free m all =
    let d = m.1 in
    let whole = alone (total_of k) (seats_of k) m.0 m.2.0 k d.fitting m.2.1 (all ∙ sym d.shared) in
    let c = d.counted in
    omega (arith, whole.0, whole.1)

-- a chunk is taken
pub takes : (seat : ℕ) (k : Known) → IsStaked k → Pops Deals seat k (λ chain w. (chain ≡ [] ∷ []) × (w ≡ took k) × KnowsFree k)
takes seat Unborn staked chain queue known h at = elim staked [ ]
takes seat Spent staked chain queue known h at = elim staked [ ]
takes seat (Staked s) staked chain queue known h at =
    let k : Known = Staked s in
    let d = dealt (chain ∷ queue) known seat k tt h at in
    let mine : Fits s.total s.seats k = d.fitting seat k at in (
      took k,
      (All-tail IsOneEmpty chain queue h.0, inr (s.total, s.seats, moved s.total s.seats (suc (length queue)) (length queue) known seat k (took k) d at mine refl (omega arith))),
      (All-head IsOneEmpty chain queue h.0, refl, λ all. let c = counts k (suc (length queue)) (known, d, (seat, at)) all in omega arith),
    )

-- an empty chunk is given
pub gives : (capacity seat : ℕ) (k : Known) (chain : List (List Record)) → IsStaked k → chain ≡ [] ∷ [] → Pushes Deals capacity seat k chain (λ w. w ≡ gave k)
gives capacity seat Unborn chain staked empty queue known room h at = elim staked [ ]
gives capacity seat Spent chain staked empty queue known room h at = elim staked [ ]
gives capacity seat (Staked s) chain staked empty queue known room h at =
    let k : Known = Staked s in
    let d = dealt queue known seat k tt h at in
    let mine : Fits s.total s.seats k = d.fitting seat k at in
    let longer : length (queue ++ chain ∷ []) ≡ length queue + 1 = length-append queue (chain ∷ []) in (
      gave k,
      (
        All-append IsOneEmpty queue (chain ∷ []) h.0 (All-cons IsOneEmpty chain [] empty (All-nil IsOneEmpty)),
        inr (s.total, s.seats, moved s.total s.seats (length queue) (length (queue ++ chain ∷ [])) known seat k (gave k) d at mine refl (omega arith)),
      ),
      refl,
    )

-- what a seat learns at any moment
pub learns : (seat : ℕ) (k : Known) → IsStaked k → Learns Deals seat k (λ queue. Moment k (length queue))
learns seat k staked queue known h at = (known, dealt queue known seat k staked h at, (seat, at))

-- a seat with what two had has a stake
pub joined_staked : (k l : Known) → IsStaked k → IsStaked l → IsStaked (joined k l)
joined_staked Unborn l staked staked' = elim staked [ ]
joined_staked Spent l staked staked' = elim staked [ ]
joined_staked (Staked s) Unborn staked staked' = elim staked' [ ]
joined_staked (Staked s) Spent staked staked' = elim staked' [ ]
joined_staked (Staked s) (Staked t) staked staked' = tt

-- two seats have no more than all shares
pub few_joined : (k l : Known) (free : ℕ) → IsStaked k → IsStaked l → Moment (joined k l) free → share_of k + share_of l ≤ seats_of k
few_joined Unborn l free staked staked' m = elim staked [ ]
few_joined Spent l free staked staked' m = elim staked [ ]
few_joined (Staked s) Unborn free staked staked' m = elim staked' [ ]
few_joined (Staked s) Spent free staked staked' m = elim staked' [ ]
few_joined (Staked s) (Staked t) free staked staked' m =
    let above = together_above share_of m.0 m.2.0 (joined (Staked s) (Staked t)) m.2.1 in
    let c = m.1.shared in
    omega arith

-- so many chunks were free
abbrev HeldBy : Known → ℕ → Type 0
HeldBy k n = Held {T = List (List Record)} n (λ queue. Moment k (length queue))

-- a seat with all shares that counted the chunks knows how many are free
pub counted : (k : Known) (n : ℕ) → HeldBy k n → share_of k ≡ seats_of k → n + taken_of k ≡ total_of k + given_of k
counted k n held all = let c = counts k (length held.0) held.2 all in let e = held.1 in omega arith

-- a seat with all shares that found no chunk has taken all
pub none_counted : (k : Known) (found : Option (List (List Record))) (same : Type 0) (then : List (List Record) → Type 0) → MatchOption found (same × HeldBy k 0) then → share_of k ≡ seats_of k
    → IfNone found (taken_of k ≡ total_of k + given_of k)
none_counted k None same then h all = let c = counted k 0 h.1 all in omega arith
none_counted k (Some x) same then h all = tt
