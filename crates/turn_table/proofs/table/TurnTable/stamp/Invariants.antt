use Rattle.turn_table.proofs.table.TurnTable.stamp.Given as goal

abbrev pub ghosts-draw_stamp : goal.ghosts-draw_stamp
ghosts-draw_stamp g a = record { asked = a._step.now; outcome = a._mark; answer = a._reply.now }
