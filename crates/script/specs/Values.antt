-- What each fault of a script names.
use Rattle.lines.specs.declared.faults.Layer.TheVariants.{Tree}
use Rattle.lines.specs.declared.place.Place.{Place}
use Rattle.lines.specs.Faults.{Fault, fault_at, line_values}
use Rattle.tree.specs.Growth.{fault_number}
use Rattle.script.specs.declared.faults.ScriptFault.{ScriptFault}
use Rattle.script.specs.declared.faults.ScriptFault.TheVariants.{TooLong, OfLine, OfTree}

-- a text that is too long is no fault of a line: line 0, place 0
abbrev pub nowhere : Place
nowhere = record { line = 0; byte = 0 }

-- what a fault of a script names, those of its lines among them
abbrev pub script_values : ScriptFault → Fault
script_values TooLong = record { number = 1; layer = Tree; place = nowhere }
script_values (OfLine f) = line_values f
script_values (OfTree f p) = fault_at (fault_number f) p
