use Rattle.std.proofs.Common.{rules, ◌≡◌}
use Rattle.server_locks.proofs.CallLemmas.{ended_for}
use Rattle.server_locks.proofs.calls.make_next.Goals as goal

pub returns-clause-made : goal.returns-clause-made
returns-clause-made g c = λ yes room.
    let rules_stay : c.next_job.new.self.hold_rules ≡ c.args.front.now.hold_rules = search rules in
    let votes_stay : c.note.new.self ≡ c.put_untold.new.self.ahead = search rules in
    let name_stays : c.next_job.new.self.me ≡ c.args.front.now.me = search rules in record {
      job = c.in-Some.job;
      done = record {
        caller = c.of-caller.result;
        packet = c.taken_packet-packet.result;
        ending = c.end_call-ending.result;
      };
      next = record {
        first = c.next_job.new.self.first;
        again = c.next_job.new.self.again.items;
        pass = c.next_job.new.queue.pass;
      };
      taken = c.in-Some.ensures.next;
      votes = search rules;
      own = search rules;
      is_done = record {
        caller = c.of-caller.ensures;
        packet = c.taken_packet-packet.ensures;
        ended = ended_for _ _ _ _ _ _ _ _ _ _ _ _ rules_stay votes_stay name_stays c.end_call-ending.ensures.ended;
      };
      waits = search rules;
      told = search rules;
    }
