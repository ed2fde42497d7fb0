-- The error lines of streams that are refused, each with its line feed (this project's profile).
use Rattle.std.specs.Prelude.{ℕ, List, [], ◌∷◌, ◌++◌, codes}
use Rattle.std.specs.List.{concat}
use Rattle.std.specs.Fmt.{decimal}
use Rattle.nt_read.specs.declared.fault.ReadKind.{ReadKind}
use Rattle.nt_read.specs.declared.fault.ReadKind.TheVariants as read
use Rattle.nt_check.specs.declared.checker.CheckKind.{CheckKind}
use Rattle.nt_check.specs.declared.checker.CheckKind.TheVariants as check
use Rattle.pt_report.specs.declared.errors.Flaw.{Flaw}
use Rattle.pt_report.specs.declared.errors.Flaw.TheVariants as flaw
use Rattle.pt_report.specs.declared.errors.Refusal.{Refusal}

-- Bytes that are refused. A block that is too large is named with its size.
abbrev pub read_name : ReadKind → List ℕ
read_name read.BadMagic = codes "BadMagic"
read_name read.BadObject = codes "BadObject"
read_name read.BadVersion = codes "BadVersion"
read_name read.BadBlock = codes "BadBlock"
read_name read.BadHead = codes "BadHead"
read_name read.BadMeta = codes "BadMeta"
read_name read.Uncompressed = codes "Uncompressed"
read_name (read.TooLarge size) = codes "TooLarge " ++ decimal size
read_name read.Truncated = codes "Truncated"

-- An item that can't stand where it does, with the id that it names.
abbrev pub check_name : CheckKind → List ℕ
check_name (check.UnknownMetadata id) = codes "UnknownMetadata " ++ decimal id
check_name (check.UnknownStack id) = codes "UnknownStack " ++ decimal id
check_name (check.MetadataTwice id) = codes "MetadataTwice " ++ decimal id
check_name (check.StackTwice id) = codes "StackTwice " ++ decimal id

-- The name of what is wrong, as an error line has it.
abbrev pub flaw_name : Flaw → List ℕ
flaw_name (flaw.Read kind) = read_name kind
flaw_name (flaw.Check kind) = check_name kind

-- The line of a refusal.
abbrev pub refusal_error : Refusal → List ℕ
refusal_error refusal =
    concat (codes "error: offset " ∷ decimal refusal.at ∷ codes ": " ∷ flaw_name refusal.flaw ∷ (10 ∷ []) ∷ [])
