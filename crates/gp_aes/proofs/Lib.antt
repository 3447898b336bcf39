pub mod TableFacts
pub mod ColumnLemmas
pub mod Rounds
pub mod Vectors
