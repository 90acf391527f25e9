use Rattle.std.proofs.Common.{◌≡◌, ◌∙◌, ap}
use Rattle.node_lock.specs.declared.view.View.{View}
use Rattle.peer_windows.specs.Sent.{reach_of}
use Rattle.peer_windows.proofs.Reading.{open_count_is}
use Rattle.peer_windows.proofs.sent.look_at.Goals as goal

pub returns-clause-look : goal.returns-clause-look
returns-clause-look g c =
    let same : c.hold.new.self ≡ c.args.locked.now = c.in_ok-view.ensures.held in
    let reach : c.in_ok-view.view.reach ≡ reach_of c.args.locked.now c.args.owner =
    ap (λ (v : View). v.reach) c.in_ok-view.ensures.view ∙ ap (λ h. reach_of h c.args.owner) same in
    record {
      reach = reach;
      outstanding = open_count_is c.args.locked.now c.hold.new.self c.args.owner c.in_ok-view.view.reach
          c.in_ok-outstanding.outstanding same reach c.in_ok-outstanding.ensures.count;
    }
