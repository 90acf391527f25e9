pub mod NodeWords
