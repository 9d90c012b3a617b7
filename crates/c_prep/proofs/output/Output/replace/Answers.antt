use Rattle.std.proofs.Common.{refl}
use Rattle.c_prep.proofs.Giving.{over_adds, replaced_over, replaced_one}
use Rattle.c_prep.proofs.output.Output.replace.Goals as goal

pub returns-then-self : goal.returns-then-self
returns-then-self c = over_adds _ _ c.if-self.true

pub returns-then-self-ge-MOST_REPLACED : goal.returns-then-self-ge-MOST_REPLACED
returns-then-self-ge-MOST_REPLACED c = replaced_over _ _ c.if-self.false c.if-self-ge-MOST_REPLACED.true refl

pub returns : goal.returns
returns c = replaced_one _ _ c.if-self.false c.if-self-ge-MOST_REPLACED.false c.if-self.false refl refl refl
