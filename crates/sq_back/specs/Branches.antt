-- Where the program says that a comparison goes.
use Rattle.sq_back.specs.declared.parts.Branches.{Branches as Said}
use Rattle.sq_back.specs.Code.{Branches}

-- the branches of a value of the program
abbrev pub branches_said : Said → Branches
branches_said branches = record { negative = branches.negative; zero = branches.zero; positive = branches.positive }
