-- The parts that the program holds, without where they lie in memory.
use Rattle.std.specs.Option.{option_map}
use Rattle.units_um.specs.declared.number.ExponentText.{ExponentText}
use Rattle.units_um.specs.declared.number.FractionText.{FractionText}
use Rattle.units_um.specs.declared.number.NumberText.{NumberText}
use Rattle.units_um.specs.Number.{Exponent, Fraction, Number}

-- an exponent's sign and digits
abbrev pub exponent_view : ExponentText → Exponent
exponent_view e = record { sign = e.sign; digits = e.digits.now }

-- a fraction's digits and exponent
abbrev pub fraction_view : FractionText → Fraction
fraction_view f = record { digits = f.digits.now; exponent = option_map exponent_view f.exponent }

-- a number's sign, digits and fraction
abbrev pub number_view : NumberText → Number
number_view n = record { sign = n.sign; whole = n.whole.now; fraction = option_map fraction_view n.fraction }
