pub mod PairLooks
