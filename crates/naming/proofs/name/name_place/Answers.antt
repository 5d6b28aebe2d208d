-- `name::name_place`: a text with a fault has no names, and of any other each line that names a junction has the form.
use mathlib.Core.Path.{sym, ◌∙◌}
use Rattle.naming.proofs.Naming.{accepted_names, refused_nowhere, accepted_somewhere}
use Rattle.naming.proofs.name.name_place.Goals as goal

pub returns-in-Err : goal.returns-in-Err
returns-in-Err c = refused_nowhere _ _ c.in-Err.ensures

pub find_name-requires : goal.find_name-requires
find_name-requires c = accepted_names _ _ (sym c.in_default.ensures)

pub returns : goal.returns
returns c = c.find_name.ensures ∙ accepted_somewhere _ _ c.in_default.ensures
