-- Where the body of a function stands.
use Rattle.c_types.specs.Scope.{Scope}
use Rattle.c_types.specs.Units as plain
use Rattle.c_types.specs.Table.{Table}
use Rattle.c_signatures.specs.declared.signature.Signature.{Signature}
use Rattle.c_signatures.specs.Signatures.{IsSignature}
use Rattle.c_fewer_operators.specs.declared.here.Here.{Here}
use Rattle.c_fewer_declarations.specs.Standing.{StandsIn}

-- what is declared is what a scope has, in which a signature is the one of a function
abbrev pub StandsWith : Table → Here → Signature → Type 0
StandsWith table h f = (s : Scope) × (g : plain.Signature) × StandsIn table h s × IsSignature table s f g
