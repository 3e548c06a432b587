-- The texts of why a network does not begin, and why an event is not delivered. Assumes nothing: these are definitions.
use Rattle.std.specs.Prelude.{ℕ, ◌-◌, ◌*◌, ◌^◌, min, List, ◌++◌, codes, decimal}
use Rattle.network.specs.declared.errors.BeginError.{BeginError}
use Rattle.network.specs.declared.errors.BeginError.TheVariants.{TooManyFaulty, TooShort}
use Rattle.network.specs.declared.errors.DeliverError.{DeliverError}
use Rattle.network.specs.declared.errors.DeliverError.TheVariants.{NotMember, Faulty, NotSaid}

-- so many numbers are eight times as many bytes, as far as a number of eight bytes says how many
abbrev pub begin_error_text : BeginError → List ℕ
begin_error_text TooManyFaulty = codes "a third or more of the members are faulty"
begin_error_text (TooShort n) =
    codes "the honest members need " ++ (decimal (min (n * 8) (2 ^ 64 - 1)) ++ codes " bytes of memory")

abbrev pub deliver_error_text : DeliverError → List ℕ
deliver_error_text NotMember = codes "not a member"
deliver_error_text Faulty = codes "faulty"
deliver_error_text NotSaid = codes "not said"
