use Rattle.lab_scripts.proofs.SpelledOrders.{order_of_line-spelling, order_of_line_spelled}
use Rattle.lab_scripts.proofs.SpelledSetups.{cluster_of_line-spelling, cluster_of_line_spelled}
use Rattle.lab_scripts.proofs.SpelledSetups.{setup_of_line-spelling, setup_of_line_spelled}
use Rattle.lab_scripts.proofs.laws.one_spelling_of_orders.Goals as goal

pub returns-clause-clusters_read : goal.returns-clause-clusters_read
returns-clause-clusters_read c = cluster_of_line-spelling

pub returns-clause-clusters_spelled : goal.returns-clause-clusters_spelled
returns-clause-clusters_spelled c = cluster_of_line_spelled

pub returns-clause-setups_read : goal.returns-clause-setups_read
returns-clause-setups_read c = setup_of_line-spelling

pub returns-clause-setups_spelled : goal.returns-clause-setups_spelled
returns-clause-setups_spelled c = setup_of_line_spelled

pub returns-clause-orders_read : goal.returns-clause-orders_read
returns-clause-orders_read c = order_of_line-spelling

pub returns-clause-orders_spelled : goal.returns-clause-orders_spelled
returns-clause-orders_spelled c = order_of_line_spelled
