use Rattle.std.proofs.Common.{◌≡◌, ◌-◌, ℕ, List, false, nat_eq, length, drop, take}
use Rattle.std.proofs.Common.{get_or, ap, sym, ◌∙◌, arith, rules, Err}
use Rattle.std.proofs.lemmas.List.{take_rest}
use Rattle.link_frames.specs.frames.Hmac.{hmac}
use Rattle.batch_journal.specs.Batches.{batches_of}
use Rattle.batch_journal.specs.Heads.{head_of, other_head}
use Rattle.batch_journal.specs.Readings.{agreeing, behind_head, batch_key}
use Rattle.batch_journal.proofs.BatchLemmas.{length-head_of}
use Rattle.batch_journal.proofs.Standing.{reading_all, reading_cut, reading_other}
use Rattle.batch_journal.proofs.reading.read_journal.Goals as goal

pub hmac_sha256-batch_key-requires-clause-text : goal.hmac_sha256-batch_key-requires-clause-text
hmac_sha256-batch_key-requires-clause-text c =
    omega (
      arith,
      ap length c.deref-then-at-len.ensures.value,
      ap length c.in_ok-front.ensures,
      length-head_of c.args.key.now c.args.head.now,
    )

pub returns-in-Err-clause-err : goal.returns-in-Err-clause-err
unfolding batch_key
returns-in-Err-clause-err c other =
    let key = c.args.key.now in
    let head = c.args.head.now in
    let bytes = c.args.bytes.now in
    let front : c.in_ok-front.front.items ≡ head_of key head = c.in_ok-front.ensures in
    let at : c.agreeing-at.result ≡ agreeing (head_of key head) bytes =
    c.agreeing-at.ensures.value ∙ ap (λ (l : List ℕ). agreeing l bytes) (c.deref.ensures.value ∙ front) in
    let all : c.agreeing-at.result ≡ length c.in_ok-front.front.items = search rules in
    let bk : c.hmac_sha256-batch_key.result ≡ batch_key key head =
    c.hmac_sha256-batch_key.ensures ∙ ap (hmac key) (c.deref-then-at-len.ensures.value ∙ front) in
    reading_all key head bytes (sym at ∙ all ∙ ap length front)
    ∙ ap (λ n. behind_head (batch_key key head) (drop n bytes)) (sym at)
    ∙ ap (behind_head (batch_key key head)) (sym (take_rest bytes c.agreeing-at.result))
    ∙ ap (λ (k : List ℕ). behind_head k (take (length bytes - c.agreeing-at.result)
    (drop c.agreeing-at.result bytes))) (sym bk)
    ∙ c.in-Err.ensures.err other

pub returns-then-at-len-clause-found : goal.returns-then-at-len-clause-found
unfolding batch_key
returns-then-at-len-clause-found c =
    let key = c.args.key.now in
    let head = c.args.head.now in
    let bytes = c.args.bytes.now in
    let front : c.in_ok-front.front.items ≡ head_of key head = c.in_ok-front.ensures in
    let at : c.agreeing-at.result ≡ agreeing (head_of key head) bytes =
    c.agreeing-at.ensures.value ∙ ap (λ (l : List ℕ). agreeing l bytes) (c.deref.ensures.value ∙ front) in
    let all : c.agreeing-at.result ≡ length c.in_ok-front.front.items = search rules in
    let bk : c.hmac_sha256-batch_key.result ≡ batch_key key head =
    c.hmac_sha256-batch_key.ensures ∙ ap (hmac key) (c.deref-then-at-len.ensures.value ∙ front) in
    let f = c.in-Ok.ensures.found in
    record {
      batches = f.batches;
      stands = reading_all key head bytes (sym at ∙ all ∙ ap length front)
          ∙ ap (λ n. behind_head (batch_key key head) (drop n bytes)) (sym at)
          ∙ ap (behind_head (batch_key key head)) (sym (take_rest bytes c.agreeing-at.result))
          ∙ ap (λ (k : List ℕ). behind_head k (take (length bytes - c.agreeing-at.result)
          (drop c.agreeing-at.result bytes))) (sym bk)
          ∙ f.stands;
      digits = f.digits;
      count = f.count;
      end = omega (arith, all, ap length front, f.end, ap (λ (k : List ℕ). length (batches_of k 0 f.batches)) bk);
      size = search rules;
    }

pub returns-then-byte_at-eq0-clause-err : goal.returns-then-byte_at-eq0-clause-err
returns-then-byte_at-eq0-clause-err c other =
    let key = c.args.key.now in
    let head = c.args.head.now in
    let bytes = c.args.bytes.now in
    let front : c.in_ok-front.front.items ≡ head_of key head = c.in_ok-front.ensures in
    let at : c.agreeing-at.result ≡ agreeing (head_of key head) bytes =
    c.agreeing-at.ensures.value ∙ ap (λ (l : List ℕ). agreeing l bytes) (c.deref.ensures.value ∙ front) in
    let differs : nat_eq c.agreeing-at.result c.len.result ≡ false = search rules in
    let size : c.len.result ≡ length (head_of key head) = search rules in
    let no : nat_eq (agreeing (head_of key head) bytes) (length (head_of key head)) ≡ false =
    ap (λ n. nat_eq n (length (head_of key head))) (sym at) ∙ ap (nat_eq c.agreeing-at.result) (sym size) ∙ differs in
    reading_cut key head bytes no (ap (λ n. get_or bytes n 0) (sym at) ∙ sym c.byte_at.ensures ∙ search rules)

pub returns-clause-err : goal.returns-clause-err
returns-clause-err c other =
    let key = c.args.key.now in
    let head = c.args.head.now in
    let bytes = c.args.bytes.now in
    let front : c.in_ok-front.front.items ≡ head_of key head = c.in_ok-front.ensures in
    let at : c.agreeing-at.result ≡ agreeing (head_of key head) bytes =
    c.agreeing-at.ensures.value ∙ ap (λ (l : List ℕ). agreeing l bytes) (c.deref.ensures.value ∙ front) in
    let differs : nat_eq c.agreeing-at.result c.len.result ≡ false = search rules in
    let size : c.len.result ≡ length (head_of key head) = search rules in
    let no : nat_eq (agreeing (head_of key head) bytes) (length (head_of key head)) ≡ false =
    ap (λ n. nat_eq n (length (head_of key head))) (sym at) ∙ ap (nat_eq c.agreeing-at.result) (sym size) ∙ differs in
    let some : nat_eq c.byte_at.result 0 ≡ false = search rules in
    let byte : get_or bytes (agreeing (head_of key head) bytes) 0 ≡ c.byte_at.result =
    ap (λ n. get_or bytes n 0) (sym at) ∙ sym c.byte_at.ensures in
    reading_other key head bytes no (ap (λ b. nat_eq b 0) byte ∙ some)
    ∙ ap (λ n. Err (other_head head n)) (sym at) ∙ ap Err (sym c.head_fault.ensures.value)
