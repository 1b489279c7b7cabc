use Rattle.ring_ntt.proofs.twiddles.+push_powers.Given as goal

-- proposed from what the function passes where it calls itself
abbrev pub decreases-push_powers : goal.decreases-push_powers
decreases-push_powers l = l.levels
