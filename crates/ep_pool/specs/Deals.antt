-- The rule of a shared pool, over the chunks in its queue and over what each seat knows. All of it is this project's
-- own.
use Rattle.std.specs.Prelude.{◌≡◌, ℕ, ◌+◌, ◌-◌, ◌<◌, ◌⊎◌, List, [], ◌∷◌, length, All}
use mathlib.Core.Option.{some}
use lib.ListN.{get_elem?}
use Rattle.ep_chunk.specs.Record.{Record}
use Rattle.ep_pool.specs.declared.steps.Known.{Known}
use Rattle.ep_pool.specs.declared.steps.Known.TheVariants.{Unborn, Spent, Staked}
use Rattle.ep_pool.specs.Free.{IsOneEmpty}
use Rattle.ep_pool.specs.Shared.{PoolName, SeatState}

-- the chunks of the pool that a seat knows
abbrev pub total_of : Known → ℕ
total_of (Staked s) = s.total
total_of _ = 0

-- the shares of the pool that a seat knows
abbrev pub seats_of : Known → ℕ
seats_of (Staked s) = s.seats
seats_of _ = 0

-- the shares of a seat itself
abbrev pub share_of : Known → ℕ
share_of (Staked s) = s.share
share_of _ = 0

-- how many chunks were taken through a seat
abbrev pub taken_of : Known → ℕ
taken_of (Staked s) = s.taken
taken_of _ = 0

-- how many chunks were given through a seat
abbrev pub given_of : Known → ℕ
given_of (Staked s) = s.given
given_of _ = 0

-- how often a take through a seat found no chunk
abbrev pub dry_of : Known → ℕ
dry_of (Staked s) = s.dry
dry_of _ = 0

-- a number of each seat, of all seats together
abbrev pub together : (Known → ℕ) → List Known → ℕ
together f [] = 0
together f (k ∷ known) = f k + together f known

-- What a seat knows of its pool of this many chunks and shares is so. A seat without a share has taken and given
-- nothing.
abbrev pub Fits : ℕ → ℕ → Known → Type 0
Fits total seats Unborn = ⊥
Fits total seats Spent = Unit {0}
Fits total seats (Staked s) = (s.total ≡ total) × (s.seats ≡ seats) × (0 < s.share)

-- A moment of a pool of this many chunks and shares, at which this many chunks were free.
pub record IsDealt (total seats free : ℕ) (known : List Known) : Type 0 where
  -- those that are free, and those taken less those given, are all
  pub counted : free + together taken_of known ≡ total + together given_of known
  -- the shares of the seats are all shares
  pub shared : together share_of known ≡ seats
  pub fitting : (seat : ℕ) (k : Known) → get_elem? known seat ≡ some k → Fits total seats k

-- The rule: the queue holds chains of one empty chunk, and the pool either has no seat yet or is dealt to its seats.
abbrev pub Deals : List (List (List Record)) → List Known → Type 0
Deals queue known =
    All IsOneEmpty queue
    × (((known ≡ Unborn ∷ []) × (queue ≡ [])) ⊎ ((total : ℕ) × (seats : ℕ) × IsDealt total seats (length queue) known))

-- The seats of a pool, among them one that knows this, can be dealt so that this many chunks are free. It binds the
-- number only for a seat with all shares: one that has a part of them knows nothing of what the others hold.
abbrev pub Moment : Known → ℕ → Type 0
Moment k free = (known : List Known) × IsDealt (total_of k) (seats_of k) free known × ((seat : ℕ) × (get_elem? known seat ≡ some k))

-- A seat with all shares knows that not all chunks are out.
abbrev pub KnowsFree : Known → Type 0
KnowsFree k = share_of k ≡ seats_of k → taken_of k < total_of k + given_of k

-- the state of a seat of this pool that knows so much
abbrev pub seat_of : PoolName → Known → SeatState
seat_of name k = record { pool = name; total = total_of k; seats = seats_of k; share = share_of k; taken = taken_of k; given = given_of k; dry = dry_of k }

-- the seat has a stake in its pool
abbrev pub IsStaked : Known → Type 0
IsStaked (Staked s) = Unit {0}
IsStaked _ = ⊥

-- the first seat of a pool: it has all shares, and all chunks are out with it
abbrev pub born : ℕ → ℕ → Known → Known
born total seats _ = Staked (record { total = total; seats = seats; share = seats; taken = total; given = 0; dry = 0 })

-- a seat through which one chunk more was taken
abbrev pub took : Known → Known
took (Staked s) = Staked (record s { taken = s.taken + 1 })
took k = k

-- a seat through which one chunk more was given
abbrev pub gave : Known → Known
gave (Staked s) = Staked (record s { given = s.given + 1 })
gave k = k

-- a seat through which one take more found no chunk
abbrev pub dried : Known → Known
dried (Staked s) = Staked (record s { dry = s.dry + 1 })
dried k = k

-- a seat with one share less
abbrev pub parted : Known → Known
parted (Staked s) = Staked (record s { share = s.share - 1 })
parted k = k

-- a seat with the one share that another had too much
abbrev pub apart : Known → Known
apart (Staked s) = Staked (record s { share = 1; taken = 0; given = 0; dry = 0 })
apart _ = Spent

-- a seat with what two had
abbrev pub joined : Known → Known → Known
joined (Staked s) (Staked t) = Staked (record s { share = s.share + t.share; taken = s.taken + t.taken; given = s.given + t.given; dry = s.dry + t.dry })
joined k _ = k

-- a seat whose counts, which are equal, are taken away
abbrev pub levelled : Known → Known
levelled (Staked s) = Staked (record s { taken = 0; given = 0 })
levelled k = k
