-- `enter` meets its contract.
use Rattle.system_file.specs.Steps.{said}
use Rattle.system_file.proofs.Rows.{entered}
use Rattle.system_file.proofs.table.enter.Goals as goal

pub returns : goal.returns
returns c = let pair = (let a = c.args in
    entered a.places.now (said a.m) c.requires.0 c.requires.1
    c.enter_row.result c.enter_row.new.row c.enter_row.ensures.value c.enter_row.ensures.row_after) in record { value = pair.0; places_after = pair.1 }
