-- What is said where no member is opened, or none is held. Assumes nothing: these are definitions.
use Rattle.std.specs.Prelude.{ℕ, List, ◌++◌, codes, decimal}
use Rattle.limits.specs.Limits.{most, name_of}
use Rattle.member.specs.declared.calls.OpenError.{OpenError}
use Rattle.member.specs.declared.calls.OpenError.TheVariants.{OutOfRange, NotMember, TooShort}

abbrev pub open_error_text : OpenError → List ℕ
open_error_text (OutOfRange limit) = name_of limit ++ (codes " is not 1 to " ++ decimal (most limit))
open_error_text NotMember = codes "ME is not below MEMBERS"
open_error_text (TooShort size) = codes "the memory is too short"

abbrev pub not_open_text : List ℕ
not_open_text = codes "the memory holds no member"
