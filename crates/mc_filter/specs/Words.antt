-- The words of a command line.
use Rattle.std.specs.Prelude.{◌≡◌, ◌≢◌, drop, List, [], Option, Some, None, Result, Ok, Err, ⊤}
use Rattle.std.specs.IoError.{error_kind}
use Rattle.std.specs.Vec.Iter.{into_iter_items}
use Rattle.std.specs.declared.alloc.Global.{Global}
use Rattle.std.specs.declared.io.Error.{Error}
use Rattle.std.specs.declared.io.ErrorKind.TheVariants.{OutOfMemory}
use Rattle.std.specs.declared.string.String.{String}
use Rattle.std.specs.declared.vec.IntoIter.{IntoIter}
use Rattle.std.specs.Global.{Vec}
use Rattle.model_device.specs.declared.memory.NoMemory.{NoMemory as Memory}

-- the words of a command line, or none if one of them cannot be read
abbrev pub readable_words : Option (Vec (String Global)) → List (String Global)
readable_words None = []
readable_words (Some words) = words.items

-- what the arguments of a process stand for: the words after the program's name, or that one of them cannot be read, or
-- that memory was out before all were copied
abbrev pub ArgumentsGive : Result (IntoIter (String Global) Global) Error → Result (Option (Vec (String Global))) Memory → Type 0
ArgumentsGive (Ok args) (Ok None) = ⊥
ArgumentsGive (Ok args) (Ok (Some words)) = words.items ≡ drop 1 (into_iter_items args)
ArgumentsGive (Ok args) (Err e) = ⊤
ArgumentsGive (Err error) (Ok None) = error_kind error ≢ OutOfMemory
ArgumentsGive (Err error) (Ok (Some words)) = ⊥
ArgumentsGive (Err error) (Err e) = error_kind error ≡ OutOfMemory
