use Rattle.std.proofs.Common.{◌≡◌, ◌<◌, List, ◌∷◌, ◌++◌, length, take, drop, suc, slice_set, sym, subst}
use Rattle.std.proofs.lemmas.List.{set_split}
use Rattle.c_plain.specs.declared.instruction.Instruction.{Instruction}
use Rattle.c_emitted.proofs.code.Code.replace.Goals as goal

pub returns : goal.returns
returns c =
    subst (λ (l : List Instruction). slice_set c.self.inside.instructions.items c.args.at c.args.instruction ≡ take c.args.at l ++ (c.args.instruction ∷ drop (suc c.args.at) l)) c.self.view_is
    (set_split c.self.inside.instructions.items c.args.at c.args.instruction (subst (λ (l : List Instruction). c.args.at < length l) (sym c.self.view_is) c.requires))
