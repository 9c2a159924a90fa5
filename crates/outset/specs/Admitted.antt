-- An advance goes on unless it is refused. Assumes nothing.
use Rattle.std.specs.Prelude.{Some, None, Ok, Err, Option, Result}
use Rattle.rules.specs.declared.call.Refused.{Refused}

abbrev pub admitted : Option Refused → Result Unit Refused
admitted (Some r) = Err r
admitted None = Ok tt
