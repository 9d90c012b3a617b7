use Rattle.c_followed.proofs.Uses.{use_lands}
use Rattle.c_followed.proofs.laws.plain_uses_land.Goals as goal

pub returns : goal.returns
returns c = λ S t h first rate spare_rate u may whole fit can stand le deep roof linking coded named name params operator is silent.
    use_lands S t h first rate spare_rate u may whole fit can stand le deep roof linking coded named name params operator is silent
