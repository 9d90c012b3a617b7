-- The laws of the crate.
use Rattle.c_formats.specs.DigitsLaws.{UnsignedNumbersAreWritten, HexNumbersAreWritten, IntsAreWritten}
use Rattle.c_formats.proofs.Written.{unsigned_written, hex_written}
use Rattle.c_formats.proofs.Signed.{signed_written}

pub unsigned_numbers_are_written : UnsignedNumbersAreWritten
unsigned_numbers_are_written h t one u input deep n st sn lt le small = unsigned_written h t one u input deep n st sn lt le small

pub hex_numbers_are_written : HexNumbersAreWritten
hex_numbers_are_written h t one u input deep n st sn lt le small = hex_written h t one u input deep n st sn lt le small

pub ints_are_written : IntsAreWritten
ints_are_written h t one u own input deep n st sn lt le small = signed_written h t one u own input deep n st sn lt le small
