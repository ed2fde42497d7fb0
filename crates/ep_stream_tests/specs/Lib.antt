pub mod OneSlot
