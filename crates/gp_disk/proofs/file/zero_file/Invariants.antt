use Rattle.gp_disk.proofs.file.zero_file.Given as goal

abbrev pub decreases-loop-left : goal.decreases-loop-left
decreases-loop-left g l = l.left
