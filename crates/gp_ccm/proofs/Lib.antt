pub mod XorLemmas
pub mod BlockLemmas
pub mod CcmLemmas
pub mod PacketVectors
