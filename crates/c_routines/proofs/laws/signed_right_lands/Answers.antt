use Rattle.c_routines.proofs.SignedRights.{signed_rights}
use Rattle.c_routines.proofs.laws.signed_right_lands.Goals as goal

pub returns : goal.returns
returns c = signed_rights
