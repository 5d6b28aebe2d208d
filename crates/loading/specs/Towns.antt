-- A town's own tables.
use Rattle.townfile.specs.Load.{Tables, tables}
use Rattle.loading.specs.declared.town.Town.{Town}

abbrev pub tables_of : Town → Tables
tables_of town = tables town.fences town.tails town.heads town.lengths town.holds town.speeds
