pub mod GivenLemmas
pub mod HostLemmas
