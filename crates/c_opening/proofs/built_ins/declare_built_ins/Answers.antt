use Rattle.std.proofs.Common.{◌≡◌, ℕ, List, [], ◌∷◌, drop, refl, sym, subst}
use Rattle.std.specs.Prelude.{codes}
use Rattle.c_types.specs.Scope as scope
use Rattle.c_types.specs.Scope.{built_ins}
use Rattle.c_scopes.specs.declared.entity.Entity.{Entity}
use Rattle.c_operands.specs.Scoped.{AreNames}
use Rattle.c_opening.proofs.built_ins.declare_built_ins.Goals as goal

pub returns-clause-names : goal.returns-clause-names
returns-clause-names c =
    let none : AreNames c.args.types.now c.args.names.now.block [] = subst (λ (l : List (List ℕ × Entity)). AreNames c.args.types.now l []) (sym c.requires) tt in
    let exit = c.in_ok-declare_built_in.ensures.names [] none in
    let printf : AreNames c.declare_built_in.new.types c.declare.new.self.block (drop 4 built_ins) =
    subst (λ (l : List (List ℕ × Entity)). AreNames c.declare_built_in.new.types l (drop 4 built_ins)) (sym c.in_ok-declare.ensures.block) (refl, tt, exit) in
    let puts = c.in_ok-declare_built_in-2.ensures.names (drop 4 built_ins) printf in
    let putchar = c.in_ok-declare_built_in-3.ensures.names (drop 3 built_ins) puts in
    let getc = c.in_ok-declare_built_in-4.ensures.names (drop 2 built_ins) putchar in
    c.declare_built_in-5.ensures.names (drop 1 built_ins) getc
