-- `is_nested`: the levels left are the measure.
use Rattle.walk.proofs.+is_nested.Given as goal

abbrev pub decreases-is_nested : goal.decreases-is_nested
decreases-is_nested l = l.levels
