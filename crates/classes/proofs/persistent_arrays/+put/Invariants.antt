use Rattle.classes.proofs.persistent_arrays.+put.Given as goal

abbrev pub decreases-put : goal.decreases-put
decreases-put l = l.levels
