-- A body that is read where its commands stand.
use Rattle.gmp_script.specs.declared.reader.Reader.{Reader}
use Rattle.gmp_script.specs.Script.{Commands}

-- its commands, and the place of the next one
abbrev pub body_of : Reader → Commands
body_of r = record { commands = r.commands.now; next = r.next }
