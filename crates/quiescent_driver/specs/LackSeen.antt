-- A lack of tokens as it stands in the program, as plain data.
use Rattle.std.specs.Prelude.{Option, option_map}
use Rattle.pisdf_meaning.specs.Run as run
use Rattle.quiescent_driver.specs.declared.streams.Lack.{Lack}

abbrev pub lack_of : Lack → run.Lack
lack_of lack = record { stream = lack.stream; has = lack.has; needs = lack.needs }

abbrev pub lack_seen : Option Lack → Option run.Lack
lack_seen lack = option_map lack_of lack
