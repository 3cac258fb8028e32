use Rattle.rs_code.proofs.transform.+inverse.Given as goal

abbrev pub decreases-inverse : goal.decreases-inverse
decreases-inverse l = l.t
