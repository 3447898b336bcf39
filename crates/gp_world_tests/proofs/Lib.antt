pub mod Reported
pub mod ActsOnce
pub mod TwoRules
pub mod Unpairs
pub mod PairsAgain
pub mod PowerGoes
