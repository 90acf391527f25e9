use Rattle.std.proofs.Common.{◌≡◌, ◌++◌, [], ◌∷◌, List, ℕ, take, ap, ◌∙◌, append_assoc}
use Rattle.std.specs.List.{flat_map}
use Rattle.link_frames.specs.frames.Hmac.{hmac}
use Rattle.batch_journal.specs.Digits.{digits_of}
use Rattle.batch_journal.specs.Batches.{seal_of}
use Rattle.batch_journal.proofs.sealing.push_seal.Goals as goal

pub returns-clause-sealed : goal.returns-clause-sealed
unfolding seal_of
returns-clause-sealed c =
    let bytes = c.args.bytes.now.items in
    let tag : c.hmac_sha256-tag.result ≡ hmac c.args.key.now bytes = c.hmac_sha256-tag.ensures
    ∙ ap (hmac c.args.key.now) c.deref.ensures.value in
    let seal = λ (t : List ℕ). flat_map (digits_of 2) (take 16 t) in
    c.in_ok-push_bytes.ensures.digits
    ∙ ap (λ (l : List ℕ). l ++ seal c.hmac_sha256-tag.result) c.in_ok-push.ensures.items
    ∙ append_assoc bytes (251 ∷ []) (seal c.hmac_sha256-tag.result)
    ∙ ap (λ (t : List ℕ). bytes ++ 251 ∷ seal t) tag
