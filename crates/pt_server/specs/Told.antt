-- All connections of a server in their order: each that is no session has ended as it may.
use Rattle.std.specs.Prelude.{◌≡◌, ℕ, ◌+◌, ◌≤◌, Bool, true, false, List, [], ◌∷◌, length, MatchBool, vec_capacity}
use Rattle.std.specs.Global.{Vec}
use Rattle.ep_journal.specs.declared.limits.TheConstants.{CONNECTIONS}
use Rattle.ep_defs.specs.declared.session.Facts.{Facts}
use Rattle.pt_io.specs.Sides.{ReadSide, WriteSide}
use Rattle.ep_journal.specs.declared.decision.Decision.{Decision}
use Rattle.ep_journal.specs.declared.decision.Decision.TheVariants as decision
use Rattle.pt_server.specs.declared.desk.ConnEnd.{ConnEnd}
use Rattle.pt_server.specs.Connection.{IsEnded}

-- Who decides, and the connections that have ended.
pub record Desked (D L : Type 0) : Type 0 where
  pub decider : D
  pub conns : List (ConnEnd L)

-- A session was accepted.
abbrev pub begins : Decision → Bool
begins decision.Nothing = false
begins (decision.Accepted id) = true
begins decision.Full = false
begins (decision.Ticket id) = false
begins (decision.Refused id) = false

module _ {L : Type 0} (gave : L → ReadSide) (took : L → WriteSide) (facts : Facts) (greeting : List ℕ) where
  -- The connection of this number, on which this was decided, has ended so.
  pub record IsConn (number : ℕ) (d : Decision) (end : ConnEnd L) : Type 0 where
    pub conn : end.conn ≡ number
    pub ended : IsEnded facts greeting d end.answer (gave end.link) (took end.link)

  -- The first connection that has ended is this one, and the others are told so.
  abbrev pub IsFirst : ℕ → Decision → List (ConnEnd L) → (List (ConnEnd L) → Type 0) → Type 0
  IsFirst number d [] Others = ⊥
  IsFirst number d (end ∷ ends) Others = IsConn number d end × Others ends

  -- A session is told of elsewhere; each other connection, from this number on, is the next of those that have ended.
  unfoldable pub AreTold : ℕ → List Decision → List (ConnEnd L) → Type 0
  AreTold number [] ends = ends ≡ []
  AreTold number (d ∷ later) ends =
      MatchBool (begins d) (AreTold (number + 1) later ends) (IsFirst number d ends (AreTold (number + 1) later))

-- The connections of a desk, which has room for all and has counted what was decided.
pub record IsDesk {L : Type 0} (gave : L → ReadSide) (took : L → WriteSide) (facts : Facts) (greeting : List ℕ) (decisions : List Decision) (conns : Vec (ConnEnd L)) (count : ℕ) : Type 0 where
  pub told : AreTold gave took facts greeting 1 decisions conns.items
  pub counted : count ≡ length decisions
  pub few : length conns.items ≤ length decisions
  pub most : length decisions ≤ CONNECTIONS
  pub room : CONNECTIONS ≤ vec_capacity conns
