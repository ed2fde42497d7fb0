-- The tests of sameness tell texts and definitions apart.
use Rattle.ep_defs.specs.Event.{is_same_text, is_same_event}
use Rattle.ep_defs.proofs.Sameness.{text-means, text-itself, event-means, event-itself}
use Rattle.nt_write.proofs.Names.{IsSameness}

-- Texts.
pub text_sameness : IsSameness is_same_text
text_sameness = record { means = text-means; itself = text-itself }

-- Definitions.
pub event_sameness : IsSameness is_same_event
event_sameness = record { means = event-means; itself = event-itself }
