-- How batches of digits stand in a file.
use Rattle.std.specs.Prelude.{ℕ, suc, ◌+◌, ◌-◌, ◌*◌, List, [], ◌∷◌, ◌++◌, length, take, drop, slice_index}
use Rattle.std.specs.List.{flat_map}
use Rattle.link_frames.specs.frames.Hmac.{hmac}
use Rattle.batch_journal.specs.Digits.{digits_of}

-- the seal of bytes: the first 16 bytes of their HMAC, each as two digits
unfoldable pub seal_of : List ℕ → List ℕ → List ℕ
seal_of key bytes = flat_map (digits_of 2) (take 16 (hmac key bytes))

-- bytes, a 251, and their seal
abbrev pub sealed : List ℕ → List ℕ → List ℕ
sealed key bytes = bytes ++ 251 ∷ seal_of key bytes

-- a batch before its seal: a 250, its number, the count of its digits, and its digits
unfoldable pub opened_batch : ℕ → List ℕ → List ℕ
opened_batch number batch = 250 ∷ digits_of 4 number ++ digits_of 3 (length batch) ++ batch

-- the batch with this number, as it stands in the file: 41 bytes, and its digits
unfoldable pub batch_of : List ℕ → ℕ → List ℕ → List ℕ
batch_of key number batch = sealed key (opened_batch number batch)

-- batches one after another, from this number on
abbrev pub batches_of : List ℕ → ℕ → List (List ℕ) → List ℕ
batches_of key number [] = []
batches_of key number (batch ∷ batches) = batch_of key number batch ++ batches_of key (suc number) batches

-- Of bytes that begin with a batch: how many digits it says that it has, and these.
abbrev pub count_in : List ℕ → ℕ
count_in bytes =
    (slice_index bytes 5 - 129) + 120 * ((slice_index bytes 6 - 129) + 120 * (slice_index bytes 7 - 129))

abbrev pub digits_in : List ℕ → List ℕ
digits_in bytes = take (count_in bytes) (drop 8 bytes)
