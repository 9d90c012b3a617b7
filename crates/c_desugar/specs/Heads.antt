-- A function without its body.
use Rattle.std.specs.Prelude.{◌≡◌, ℕ, List}
use Rattle.c_syntax.specs.Plain.{CTy, CDecl}
use Rattle.c_syntax.specs.View.{ty_of, decls_of}
use Rattle.c_types.specs.Scope.{Scope, entered}
use Rattle.c_helpers.specs.Fewer.{fewer_in_type, fewer_in_parameters}
use Rattle.c_desugar.specs.declared.functions.Head.{Head}

-- its name, its result and its parameters with calls of helper functions
pub record IsHead (h : Head) (s : Scope) (text : List ℕ) (gives : CTy) (parameters : List CDecl) : Type 0 where
  pub name : h.name ≡ text
  pub result : ty_of h.result ≡ fewer_in_type s gives
  pub params : decls_of h.params.items.items ≡ fewer_in_parameters (entered s) parameters
