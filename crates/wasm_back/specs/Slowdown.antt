-- How much slower the WebAssembly module for a program may be.
use Rattle.std.specs.Prelude.{◌^◌, false}
use Rattle.sim_trait.specs.Bound.{Slowdown}

-- by this factor for each unit of the program's size and one more, however far the program reaches into its memory
abbrev pub wasm_slowdown : Slowdown
wasm_slowdown = record { factor = 2 ^ 8; by_reach = false }
