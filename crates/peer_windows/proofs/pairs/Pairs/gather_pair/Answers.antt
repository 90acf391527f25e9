use Rattle.std.proofs.Common.{rules, ◌≡◌, ◌∙◌, ◌+◌, ap, refl, arith, Some}
use Rattle.peer_windows.specs.Pairs.{attended_step, is_nothing}
use Rattle.peer_windows.specs.Owners.{pair_at}
use Rattle.peer_windows.specs.Looks.{seen_at}
use Rattle.peer_windows.specs.declared.seen.Step.TheVariants.{Nothing}
use Rattle.peer_windows.proofs.PairLooks.{pair_quiet, pair_put_off, pair_sent, some_room}
use Rattle.peer_windows.proofs.PairLooks.{attended_at, sent_at}
use Rattle.peer_windows.proofs.pairs.Pairs.gather_pair.Goals as goal

pub returns-then-eq-clause-pair : goal.returns-then-eq-clause-pair
returns-then-eq-clause-pair g c =
    let h = c.args.locked.now in
    let now = c.args.now in
    let owner = c.args.owner in
    let peer = c.args.peer in
    let a = c.args.self.now in
    let seen : c.seen_of-seen.result ≡ seen_at h owner peer = c.seen_of-seen.ensures.value in
    let nothing : c.attend-step.result ≡ Nothing = search rules in
    pair_quiet h now owner peer (Some c.args.free) c.args.owed.now c.until.result c.attend-step.result a
    c.attend-step.new.self
    (λ within. c.attend-step.ensures.step within ∙ ap (λ s. attended_step now s (pair_at a owner peer)) seen)
    (attended_at now owner peer a c.attend-step.new.self c.seen_of-seen.result (seen_at h owner peer) seen
    c.attend-step.ensures.pair)
    (some_room c.args.free) (ap is_nothing nothing) c.until.ensures

pub returns-then-free-lt-ENOUGH_ROOM-clause-pair : goal.returns-then-free-lt-ENOUGH_ROOM-clause-pair
returns-then-free-lt-ENOUGH_ROOM-clause-pair g c =
    let h = c.args.locked.now in
    let now = c.args.now in
    let owner = c.args.owner in
    let peer = c.args.peer in
    let a = c.args.self.now in
    let seen : c.seen_of-seen.result ≡ seen_at h owner peer = c.seen_of-seen.ensures.value in
    pair_put_off h now owner peer (Some c.args.free) c.args.owed.now (now + 10) c.attend-step.result a
    c.attend-step.new.self c.owe.new.self
    (λ within. c.attend-step.ensures.step within ∙ ap (λ s. attended_step now s (pair_at a owner peer)) seen)
    (attended_at now owner peer a c.attend-step.new.self c.seen_of-seen.result (seen_at h owner peer) seen
    c.attend-step.ensures.pair)
    c.owe.ensures (some_room c.args.free) (omega arith) refl

pub returns-clause-pair : goal.returns-clause-pair
returns-clause-pair g c =
    let h = c.args.locked.now in
    let now = c.args.now in
    let owner = c.args.owner in
    let peer = c.args.peer in
    let a = c.args.self.now in
    let b = c.attend-step.new.self in
    let step = c.attend-step.result in
    let seen : c.seen_of-seen.result ≡ seen_at h owner peer = c.seen_of-seen.ensures.value in
    pair_sent h now owner peer c.in_ok-count.count (Some c.args.free) (Some c.left_of.result) c.args.owed.now
    c.push.new.self c.until-2.result step a b c.note_sent.new.self
    (λ within. c.attend-step.ensures.step within ∙ ap (λ s. attended_step now s (pair_at a owner peer)) seen)
    (attended_at now owner peer a c.attend-step.new.self c.seen_of-seen.result (seen_at h owner peer) seen
    c.attend-step.ensures.pair)
    (sent_at c.push.new.locked h now owner peer step b c.note_sent.new.self c.push.ensures.same c.note_sent.ensures)
    (some_room c.args.free) (record { connected = refl; free = c.left_of.ensures }) c.in_ok-count.ensures.ok
    c.until-2.ensures
