-- `map_file::put_total` meets its contract: four bytes from the map's end on. Assumes nothing.
use Rattle.map_file.proofs.Laws.{put_behind}
use Rattle.map_file.proofs.put_total.Goals as goal

pub returns : goal.returns
returns c = put_behind c.args.file.now c.args.total c.requires c.put.ensures
