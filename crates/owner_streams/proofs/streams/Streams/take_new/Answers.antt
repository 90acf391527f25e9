use Rattle.std.proofs.Common.{◌≡◌, Ok, sym, ap, ◌∙◌, arith, length-set}
use Rattle.std.proofs.lemmas.List.Elements.{All-set}
use Rattle.std.proofs.lemmas.Result.{err_from_is_err_and}
use Rattle.owner_streams.specs.Steps.{SendsAreOwners, step_due, effect_due}
use Rattle.owner_streams.specs.inside.Kept.{IsOwnerStream, look_in}
use Rattle.owner_streams.proofs.Owners.{is_owners, is_kept, by_owner, state_goes_on, same_as_before}
use Rattle.owner_streams.proofs.Owners.{still_of_packets, of_one_more}
use Rattle.owner_streams.proofs.Looking.{look_in_is}
use Rattle.owner_streams.proofs.streams.Streams.take_new.Goals as goal

pub take_new-requires-clause-counts : goal.take_new-requires-clause-counts
take_new-requires-clause-counts c =
    let row = c.index_mut.result.now in
    let p = c.args.packet.now in
    let e = ap (λ m. m.owner) c.message-message.ensures.value in
    let o =
    is_owners (omega arith) c.self.invariant.one_each c.requires.owner c.self.view_is c.index_mut.ensures.value in
    let some = c.requires.counts in
    by_owner (λ s packets. SendsAreOwners packets → look_in row p ≡ effect_due (step_due s packets p)) o
    (λ packets is sent. look_in_is c.self.inside.sizes row p packets (is_kept o c.self.invariant.each) is sent
    c.message-message.ensures.kept.0)
    some.0 some.1 some.2
    ∙ some.3

pub take_new-requires-clause-due : goal.take_new-requires-clause-due
take_new-requires-clause-due c packets is sent =
    let row = c.index_mut.result.now in
    let e = ap (λ m. m.owner) c.message-message.ensures.value in
    let o =
    is_owners (omega arith) c.self.invariant.one_each c.requires.owner c.self.view_is c.index_mut.ensures.value in
    sym
    (look_in_is c.self.inside.sizes row c.args.packet.now packets (is_kept o c.self.invariant.each) is sent
    c.message-message.ensures.kept.0)
    ∙ take_new-requires-clause-counts c

-- Memory is wanting.

pub invariant_of-self : goal.invariant_of-self
invariant_of-self c =
    record {
      one_each = length-set c.self.inside.owners.items c.from.result c.take_new.new.self ∙ c.self.invariant.one_each;
      each =
          All-set (IsOwnerStream c.self.inside.sizes) c.self.inside.owners.items c.from.result c.take_new.new.self
          c.take_new.ensures.kept c.self.invariant.each;
      ends =
          still_of_packets c.take_new.new.self
          (is_owners (let e = ap (λ m. m.owner) c.message-message.ensures.value in omega arith)
          c.self.invariant.one_each c.requires.owner c.self.view_is c.index_mut.ensures.value)
          c.in_err-step.ensures.err c.self.invariant.ends;
    }

pub returns-in_err-step-clause-err : goal.returns-in_err-step-clause-err
returns-in_err-step-clause-err c =
    let p = err_from_is_err_and c.from_residual.result c.from_residual.ensures.1 in
    rw (p.1)
    (same_as_before c.take_new.new.self
    (is_owners (let e = ap (λ m. m.owner) c.message-message.ensures.value in omega arith) c.self.invariant.one_each
    c.requires.owner c.self.view_is c.index_mut.ensures.value)
    c.in_err-step.ensures.err)

-- A packet that is taken.

pub invariant_of-self-2 : goal.invariant_of-self-2
invariant_of-self-2 c =
    record {
      one_each = length-set c.self.inside.owners.items c.from.result c.take_new.new.self ∙ c.self.invariant.one_each;
      each =
          All-set (IsOwnerStream c.self.inside.sizes) c.self.inside.owners.items c.from.result c.take_new.new.self
          c.take_new.ensures.kept c.self.invariant.each;
      ends =
          of_one_more c.args.packet.now c.take_new.new.self
          (is_owners (let e = ap (λ m. m.owner) c.message-message.ensures.value in omega arith)
          c.self.invariant.one_each c.requires.owner c.self.view_is c.index_mut.ensures.value)
          c.in_ok-step.ensures.state c.count.ensures c.self.invariant.ends;
    }

pub returns-clause-due : goal.returns-clause-due
returns-clause-due c =
    by_owner (λ s packets. SendsAreOwners packets → step_due s packets c.args.packet.now ≡ Ok c.in_ok-step.step)
    (is_owners (let e = ap (λ m. m.owner) c.message-message.ensures.value in omega arith) c.self.invariant.one_each
    c.requires.owner c.self.view_is c.index_mut.ensures.value)
    c.in_ok-step.ensures.due

pub returns-clause-state : goal.returns-clause-state
returns-clause-state c =
    state_goes_on c.args.packet.now c.take_new.new.self
    (is_owners (let e = ap (λ m. m.owner) c.message-message.ensures.value in omega arith) c.self.invariant.one_each
    c.requires.owner c.self.view_is c.index_mut.ensures.value)
    c.in_ok-step.ensures.state
