use Rattle.rs_code.proofs.transform.+forward.Given as goal

abbrev pub decreases-forward : goal.decreases-forward
decreases-forward l = l.t
