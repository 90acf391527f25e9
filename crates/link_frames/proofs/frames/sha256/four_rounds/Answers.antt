use Rattle.std.proofs.Common.{◌≡◌, ◌+◌, arith, ap, ◌∙◌}
use Rattle.sha2.specs.Sha256.{rounds, schedule}
use Rattle.link_frames.proofs.frame_lemmas.Rounds.{after_one}
use Rattle.link_frames.proofs.frames.sha256.four_rounds.Goals as goal

pub returns : goal.returns
returns c = λ b h held e.
    let t = c.args.t in
    let next = after_one b h c.args.sums.now in
    let at = rounds h (schedule b 48) in
    let n2 : t + 1 + 1 ≡ t + 2 = omega arith in
    let n3 : t + 2 + 1 ≡ t + 3 = omega arith in
    let n4 : t + 3 + 1 ≡ t + 4 = omega arith in
    let s1 = next _ _ t _ (omega arith) held c.next_a_and_e-a1.ensures e in
    let s2 = next _ _ (t + 1) _ (omega arith) held c.next_a_and_e-a2.ensures s1 ∙ ap at n2 in
    let s3 = next _ _ (t + 2) _ (omega arith) held c.next_a_and_e-a3.ensures s2 ∙ ap at n3 in
    next _ _ (t + 3) _ (omega arith) held c.next_a_and_e-a4.ensures s3 ∙ ap at n4
