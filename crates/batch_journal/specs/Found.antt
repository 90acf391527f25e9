-- What is found in a file.
use Rattle.std.specs.Prelude.{◌≡◌, ◌+◌, List, ℕ, length, Ok}
use Rattle.std.specs.List.{concat}
use Rattle.batch_journal.specs.Batches.{batches_of}
use Rattle.batch_journal.specs.Heads.{head_of}
use Rattle.batch_journal.specs.Readings.{batch_key, behind_head, reading}
use Rattle.batch_journal.specs.declared.head.Head.{Head}
use Rattle.batch_journal.specs.declared.reading.Found.{Found}

-- the same of bytes behind a head
pub record FoundBehind (key bytes : List ℕ) (found : Found) : Type 0 where
  pub batches : List (List ℕ)
  pub stands : behind_head key bytes ≡ Ok batches
  pub digits : found.digits.items ≡ concat batches
  pub count : found.count ≡ length batches
  pub end : found.end ≡ length (batches_of key 0 batches)

-- The bytes stand for batches, and these are found: their digits one after another, how many they are, where they end,
-- and how many bytes there are.
pub record IsFound (key : List ℕ) (head : Head) (bytes : List ℕ) (found : Found) : Type 0 where
  pub batches : List (List ℕ)
  pub stands : reading key head bytes ≡ Ok batches
  pub digits : found.digits.items ≡ concat batches
  pub count : found.count ≡ length batches
  pub end : found.end ≡ length (head_of key head) + length (batches_of (batch_key key head) 0 batches)
  pub size : found.size ≡ length bytes
