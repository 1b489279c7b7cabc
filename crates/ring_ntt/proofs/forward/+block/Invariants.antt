use Rattle.ring_ntt.proofs.forward.+block.Given as goal

-- proposed from what the function passes where it calls itself
abbrev pub decreases-block : goal.decreases-block
decreases-block l = l.depth
