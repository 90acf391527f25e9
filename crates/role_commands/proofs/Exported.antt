-- What layers above may cite of the proofs. Declares nothing.
--     split_word-word, -decimal, -joined      a text is split at its first space
--     number_of-.., byte_.., narrow_.., wide_.., long_..      a number has one spelling
--     if_else, mapped, behind_name, by_name, by_name_made      what the first word of a text chooses
--     command_of-spelling, command_of_spelled      a command has one spelling
--     Ascii, word_text, number, then, space, command_text      words, numbers and commands are plain text
--     same_command-self, same_command_is      `same_command` tells whether two commands are one
--     length-bytes_of, bytes_of_injective, command_again, command_takes      a command's bytes
--     slice_get-.., filter_map-length, some_value, if_some, same_Ok      general facts about lists, options and results
pub use Rattle.role_commands.proofs.SplitWordLemmas.{split_word-word, split_word-decimal, split_word-joined}
pub use Rattle.role_commands.proofs.NumberLemmas.{number_of_spelled, byte_read, narrow_read, wide_read}
pub use Rattle.role_commands.proofs.NumberLemmas.{long_read, byte_spelled, narrow_spelled, wide_spelled}
pub use Rattle.role_commands.proofs.NumberLemmas.{long_spelled}
pub use Rattle.role_commands.proofs.FirstWordLemmas.{if_else, mapped, behind_name, by_name, by_name_made}
pub use Rattle.role_commands.proofs.WordLemmas.{command_of-spelling, command_of_spelled}
pub use Rattle.role_commands.proofs.PlainText.{Ascii, word_text, number, ◌then◌, space_text, command_text}
pub use Rattle.role_commands.proofs.SameLemmas.{same_command-self, same_command_is}
pub use Rattle.role_commands.proofs.ByteLemmas.{length-bytes_of, bytes_of_injective}
pub use Rattle.role_commands.proofs.ByteReading.{command_again, command_takes, IsBytes-part}
pub use Rattle.role_commands.proofs.ListFacts.{slice_get-front, slice_get-seam, filter_map-length, some_value}
pub use Rattle.role_commands.proofs.ListFacts.{if_some, same_Ok}
