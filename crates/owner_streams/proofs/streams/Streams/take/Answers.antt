use Rattle.std.proofs.Common.{◌≡◌, ◌∙◌, Ok, Err, arith, length-set}
use Rattle.std.proofs.lemmas.List.Elements.{All-set}
use Rattle.std.proofs.lemmas.Result.{err_from_is_err_and}
use Rattle.owner_streams.specs.Steps.{SendsAreOwners, step_due, IsAnswer}
use Rattle.owner_streams.specs.inside.Kept.{IsOwnerStream}
use Rattle.owner_streams.proofs.Owners.{is_owners, by_owner, state_goes_on, same_as_before}
use Rattle.owner_streams.proofs.Owners.{still_of_packets, of_one_more}
use Rattle.owner_streams.proofs.streams.Streams.take.Goals as goal

-- A packet that is refused, or for which memory is wanting.

pub invariant_of-self : goal.invariant_of-self
invariant_of-self c =
    record {
      one_each = length-set c.self.inside.owners.items c.from-owner.result c.take.new.self ∙ c.self.invariant.one_each;
      each =
          All-set (IsOwnerStream c.self.inside.sizes) c.self.inside.owners.items c.from-owner.result c.take.new.self
          c.take.ensures.kept c.self.invariant.each;
      ends =
          still_of_packets c.take.new.self
          (is_owners (omega arith) c.self.invariant.one_each c.requires.owner c.self.view_is c.index_mut.ensures.value)
          c.in_err-step.ensures.err c.self.invariant.ends;
    }

pub returns-in_err-step-clause-due : goal.returns-in_err-step-clause-due
returns-in_err-step-clause-due c =
    let p = err_from_is_err_and c.from_residual.result c.from_residual.ensures.1 in
    rw (p.1, p.2)
    (by_owner (λ s packets. SendsAreOwners packets → IsAnswer (step_due s packets c.args.packet.now)
    (Err c.in_err-step.field-0.0))
    (is_owners (omega arith) c.self.invariant.one_each c.requires.owner c.self.view_is c.index_mut.ensures.value)
    c.in_err-step.ensures.due)

pub returns-in_err-step-clause-err : goal.returns-in_err-step-clause-err
returns-in_err-step-clause-err c =
    let p = err_from_is_err_and c.from_residual.result c.from_residual.ensures.1 in
    rw (p.1)
    (same_as_before c.take.new.self
    (is_owners (omega arith) c.self.invariant.one_each c.requires.owner c.self.view_is c.index_mut.ensures.value)
    c.in_err-step.ensures.err)

-- A packet that is taken.

pub invariant_of-self-2 : goal.invariant_of-self-2
invariant_of-self-2 c =
    record {
      one_each = length-set c.self.inside.owners.items c.from-owner.result c.take.new.self ∙ c.self.invariant.one_each;
      each =
          All-set (IsOwnerStream c.self.inside.sizes) c.self.inside.owners.items c.from-owner.result c.take.new.self
          c.take.ensures.kept c.self.invariant.each;
      ends =
          of_one_more c.args.packet.now c.take.new.self
          (is_owners (omega arith) c.self.invariant.one_each c.requires.owner c.self.view_is c.index_mut.ensures.value)
          c.in_ok-step.ensures.state c.count.ensures c.self.invariant.ends;
    }

pub returns-clause-due : goal.returns-clause-due
returns-clause-due c =
    by_owner (λ s packets. SendsAreOwners packets → step_due s packets c.args.packet.now ≡ Ok c.in_ok-step.step)
    (is_owners (omega arith) c.self.invariant.one_each c.requires.owner c.self.view_is c.index_mut.ensures.value)
    c.in_ok-step.ensures.due

pub returns-clause-state : goal.returns-clause-state
returns-clause-state c =
    state_goes_on c.args.packet.now c.take.new.self
    (is_owners (omega arith) c.self.invariant.one_each c.requires.owner c.self.view_is c.index_mut.ensures.value)
    c.in_ok-step.ensures.state

pub returns-clause-idle : goal.returns-clause-idle
returns-clause-idle c idle =
    same_as_before c.take.new.self
    (is_owners (omega arith) c.self.invariant.one_each c.requires.owner c.self.view_is c.index_mut.ensures.value)
    (c.in_ok-step.ensures.idle idle)
