-- A door in memory.
use Rattle.std.specs.Prelude.{List, [], ◌∷◌, Bool, true, false, Some}
use Rattle.site_io.specs.Doors.{Line, Back}
use Rattle.site_io.specs.Memory.{Calls, Input, Output}
use Rattle.site_io.specs.declared.memory_door.Returned.{Returned}

-- what the two ends of a connection in memory tell
abbrev pub line_of : Input × Output → Line
line_of ends = record { left = Some ends.0.left; written = Some ends.1.written; reading = ends.0.calls.faults; writing = ends.1.calls.faults }

-- of one that was given back
abbrev pub back_of : Returned → Back
back_of returned = record { line = line_of (returned.source, returned.sink); end = returned.end }

-- the connections that are to come, and those that were given back, in order; whether one is out; and its calls
pub record MemoryDoor : Type 0 where
  pub coming : List Line
  pub returned : List Back
  pub is_out : Bool
  pub calls : Calls

-- whether no connection is to come
abbrev pub none_of : List Line → Bool
none_of [] = true
none_of (line ∷ lines) = false

abbrev pub is_none_left : MemoryDoor → Bool
is_none_left door = none_of door.coming
