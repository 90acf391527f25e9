pub mod Exported
pub mod frame_lemmas
pub mod line_lemmas
