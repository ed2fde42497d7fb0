-- The checker's faults are those of the order of items.
use Rattle.nt_blocks.specs.Ordered.{Disorder}
use Rattle.nt_blocks.specs.Ordered as disorder
use Rattle.nt_check.specs.declared.checker.CheckKind.{CheckKind}
use Rattle.nt_check.specs.declared.checker.CheckKind.TheVariants.{UnknownMetadata, UnknownStack, MetadataTwice, StackTwice}

-- A fault of the checker as a disorder of items.
abbrev pub disorder_of : CheckKind → Disorder
disorder_of (UnknownMetadata id) = disorder.UnknownMetadata id
disorder_of (UnknownStack id) = disorder.UnknownStack id
disorder_of (MetadataTwice id) = disorder.MetadataTwice id
disorder_of (StackTwice id) = disorder.StackTwice id
