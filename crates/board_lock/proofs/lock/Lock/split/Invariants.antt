use Rattle.board_lock.proofs.lock.Lock.split.Given as goal

abbrev pub ghosts-split_as : goal.ghosts-split_as
ghosts-split_as g a = record { numbers = a.at }
