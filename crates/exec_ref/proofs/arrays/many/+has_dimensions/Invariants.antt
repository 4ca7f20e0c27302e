use Rattle.exec_ref.proofs.arrays.many.+has_dimensions.Given as goal

abbrev pub decreases-has_dimensions : goal.decreases-has_dimensions
decreases-has_dimensions l = l.dimensions
