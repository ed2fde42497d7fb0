-- what the tests say
pub mod Tests
