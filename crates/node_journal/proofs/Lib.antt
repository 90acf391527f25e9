pub mod RefusalLemmas
pub mod SeatLemmas
pub mod SightLemmas
