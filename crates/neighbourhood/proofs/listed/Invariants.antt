use Rattle.neighbourhood.proofs.Listing.{Listing}
use Rattle.neighbourhood.proofs.listed.Given as goal

-- the bits that were taken out are listed
abbrev pub invariant-loop-k : goal.invariant-loop-k
invariant-loop-k l = Listing l.word l.rest l.lines.items

-- a bit that is taken out makes the word smaller
abbrev pub decreases-loop-k : goal.decreases-loop-k
decreases-loop-k l = l.rest
