-- How much slower the Whitespace program for a program may be.
use Rattle.std.specs.Prelude.{◌^◌, false}
use Rattle.sim_trait.specs.Bound.{Slowdown}

-- by this factor for each unit of the program's size and one more, however far the program reaches into its memory
abbrev pub whitespace_slowdown : Slowdown
whitespace_slowdown = record { factor = 2 ^ 8; by_reach = false }
