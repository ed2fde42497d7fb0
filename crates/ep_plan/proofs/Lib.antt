pub mod Separated
pub mod NumberTexts
pub mod Numerals
pub mod CursorWords
mod Ahead
pub mod PrintThenReadWord
pub mod RuleWords
pub mod Forms
pub mod Meaning
pub mod EventWords
pub mod WholeLines
pub mod WordTexts
pub mod Printed
pub mod PrintThenReadStep
