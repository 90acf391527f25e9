use Rattle.operator_lines.proofs.request.request_in.Goals as goal

pub returns-in_ok-sessions_of-in-sessions-clause-nodes : goal.returns-in_ok-sessions_of-in-sessions-clause-nodes
returns-in_ok-sessions_of-in-sessions-clause-nodes c = c.in_ok-sessions_of-in-sessions.ensures.node c.args.sizes.now
