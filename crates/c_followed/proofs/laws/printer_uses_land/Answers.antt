use Rattle.c_followed.proofs.PrintedUses.{printer_lands}
use Rattle.c_followed.proofs.laws.printer_uses_land.Goals as goal

pub returns : goal.returns
returns c = λ S t h first rate spare_rate pieces u may whole fit land le deep roof linking coded named name f operator is agrees there fails.
    printer_lands S t h first rate spare_rate pieces u may whole fit land le deep roof linking coded named name f operator is agrees there fails
