-- Memory by its fields.
use Rattle.machine_memory.specs.declared.memory.Memory.TheInside.{Inside}
use Rattle.machine_memory.specs.Contents.{Contents}
use Rattle.machine_memory.specs.Blocks.{contents_in}

-- what memory holds
abbrev pub contents_of : Inside → Contents
contents_of m = contents_in m.pool m.excluded.items m.blocks.items
