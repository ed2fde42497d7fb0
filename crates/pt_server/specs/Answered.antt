-- What becomes of a connection when its request is read: it has ended, or a session of its own begins.
use Rattle.std.specs.Prelude.{◌≡◌, ℕ, List, [], IsTrue}
use Rattle.ep_defs.specs.declared.session.Config.{Config}
use Rattle.ep_defs.specs.declared.session.Facts.{Facts}
use Rattle.ep_defs.specs.Session.{is_valid_config}
use Rattle.pt_io.specs.Sides.{ReadSide, WriteSide}
use Rattle.ipc_body.specs.declared.request.Request.TheVariants as request
use Rattle.ep_journal.specs.declared.decision.Decision.{Decision}
use Rattle.ep_journal.specs.declared.decision.Decision.TheVariants as decision
use Rattle.pt_server.specs.declared.deciding.Begun.{Begun}
use Rattle.pt_server.specs.declared.answer.Verdict.{Verdict}
use Rattle.pt_server.specs.declared.answer.Verdict.TheVariants as verdict
use Rattle.pt_server.specs.declared.answer.Answered.{Answered}
use Rattle.pt_server.specs.declared.answer.Answered.TheVariants as answered
use Rattle.pt_server.specs.declared.desk.ConnAnswer.{ConnAnswer}
use Rattle.pt_server.specs.declared.reply.Due.{Due}
use Rattle.pt_server.specs.Deciding.{decided}
use Rattle.pt_server.specs.Connection.{HasAsked, HasReadFault, IsDue, IsEnded, Took}
use Rattle.pt_server.specs.Reply.{answer_by, IsReply}

-- The connection is to be told the answer that is due.
pub record IsTelling (facts : Facts) (old new : List Decision) (gave : ReadSide) (due : Due) : Type 0 where
  pub d : Decision
  pub decides : new ≡ decided old d
  pub is_due : IsDue d gave (answer_by due)
  pub reply : IsReply facts due

-- A session begins, which was asked for with this configuration.
pub record IsBeginning {H F : Type 0} (Begins : Begun H F → Type 0) (old new : List Decision) (gave : ReadSide) (begun : Begun H F) (config : Config) : Type 0 where
  pub decides : new ≡ decided old (decision.Accepted begun.id)
  pub begins : Begins begun
  pub asked : HasAsked gave (request.Collect config)
  pub valid : IsTrue (is_valid_config config)

-- What was decided is what the bytes ask for.
abbrev pub IsVerdict : {H F : Type 0} → Facts → (Begun H F → Type 0) → List Decision → List Decision → ReadSide → Verdict H F → Type 0
IsVerdict facts Begins old new gave (verdict.Tell due) = IsTelling facts old new gave due
IsVerdict facts Begins old new gave verdict.Silence = (new ≡ decided old decision.Nothing) × HasReadFault gave
IsVerdict facts Begins old new gave (verdict.Begin begun config) = IsBeginning Begins old new gave begun config

-- The connection has ended as it may.
pub record HasEnded (facts : Facts) (greeting : List ℕ) (old new : List Decision) (told : ConnAnswer) (gave : ReadSide) (took : WriteSide) : Type 0 where
  pub d : Decision
  pub decides : new ≡ decided old d
  pub ended : IsEnded facts greeting d told gave took

-- It has ended, or a session begins and its link has taken nothing but the greeting.
abbrev pub IsAnswered : {H F L : Type 0} → (L → ReadSide) → (L → WriteSide) → Facts → List ℕ → (Begun H F → Type 0) → List Decision → List Decision → Answered H F L → Type 0
IsAnswered gave took facts greeting Begins old new (answered.Ended told link) =
    HasEnded facts greeting old new told (gave link) (took link)
IsAnswered gave took facts greeting Begins old new (answered.Begins begun config link) =
    IsBeginning Begins old new (gave link) begun config × Took greeting [] (took link)
