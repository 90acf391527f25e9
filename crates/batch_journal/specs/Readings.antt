-- What a file stands for.
use Rattle.std.specs.Prelude.{ℕ, zero, suc, ◌+◌, ◌-◌, ◌==◌, nat_lt, nat_le, ◌&&◌, ◌||◌, not, Bool, if◌then◌else◌}
use Rattle.std.specs.Prelude.{List, [], ◌∷◌, length, take, drop, slice_index, Result, Ok, Err}
use Rattle.std.specs.List.{list_all, list_any}
use Rattle.link_frames.specs.frames.Hmac.{hmac}
use Rattle.batch_journal.specs.Batches.{batch_of, batches_of, count_in, digits_in}
use Rattle.batch_journal.specs.Digits.{is_digit}
use Rattle.batch_journal.specs.Heads.{head_of, other_head}
use Rattle.batch_journal.specs.declared.fault.JournalFault.{JournalFault}
use Rattle.batch_journal.specs.declared.fault.JournalFault.TheVariants as fault
use Rattle.batch_journal.specs.declared.head.Head.{Head}

-- Behind the last batch stand so many bytes at least, in which no batch begins: a MiB.
unfoldable pub room_behind : ℕ
room_behind = 1048576

-- how many bytes are as wanted, up to the first that is not
abbrev pub agreeing : List ℕ → List ℕ → ℕ
agreeing (wanted ∷ more) (byte ∷ bytes) = if byte == wanted then suc (agreeing more bytes) else 0
agreeing wanted bytes = 0

abbrev pub begins_with : List ℕ → List ℕ → Bool
begins_with wanted bytes = agreeing wanted bytes == length wanted

-- the bytes in use: those before the first 0
abbrev pub used : List ℕ → List ℕ
used [] = []
used (byte ∷ bytes) = if byte == 0 then [] else byte ∷ used bytes

-- the batch with this number stands there whole
unfoldable pub is_batch : List ℕ → ℕ → List ℕ → Bool
is_batch key number bytes =
    list_all is_digit (digits_in bytes) && begins_with (batch_of key number (digits_in bytes)) bytes

-- the batches that stand there whole, from this number on, behind so many bytes that belong to the one before
unfoldable pub batches_in : List ℕ → ℕ → ℕ → List ℕ → List (List ℕ)
batches_in key number skip [] = []
batches_in key number (suc skip) (byte ∷ bytes) = batches_in key number skip bytes
batches_in key number zero (byte ∷ bytes) =
    if is_batch key number (byte ∷ bytes)
    then digits_in (byte ∷ bytes) ∷ batches_in key (suc number) (40 + count_in (byte ∷ bytes)) bytes
    else []

-- Bytes in use behind the last whole batch are none, or the front of a batch that was cut off: it has fewer bytes than
-- it says, and its digits are digits.
unfoldable pub is_cut_off : List ℕ → Bool
is_cut_off bytes =
    (length bytes == 0)
    || ((slice_index bytes 0 == 250) && nat_lt (length bytes) (41 + count_in bytes)
    && list_all is_digit (digits_in bytes))

-- behind the last whole batch stands the end of a journal: a batch that was cut off at most, and no other begins
unfoldable pub is_end : List ℕ → Bool
is_end bytes =
    is_cut_off (used bytes) && nat_le room_behind (length bytes)
    && not (list_any (λ byte. byte == 250) (take (room_behind - 1) (drop 1 bytes)))

-- the batches behind the head, or the number of the first that is damaged
unfoldable pub behind_head : List ℕ → List ℕ → Result (List (List ℕ)) JournalFault
behind_head key bytes =
    let batches = batches_in key 0 0 bytes in
    if is_end (drop (length (batches_of key 0 batches)) bytes) then Ok batches else Err (fault.Damaged (length batches))

-- the key under which a journal's batches are sealed: the HMAC of its whole head
unfoldable pub batch_key : List ℕ → Head → List ℕ
batch_key key head = hmac key (head_of key head)

-- What the bytes of a file stand for, under this key and with this head: batches, or a fault. A file whose head has a 0
-- or ends is no journal; another head is refused by what differs first.
unfoldable pub reading : List ℕ → Head → List ℕ → Result (List (List ℕ)) JournalFault
reading key head bytes =
    let at = agreeing (head_of key head) bytes in
    if at == length (head_of key head) then behind_head (batch_key key head) (drop at bytes)
    else if slice_index bytes at == 0 then Err fault.NotAJournal
    else Err (other_head head at)
