-- Each entry is the best of all paths between its states, by induction over the tree of the block.
use Rattle.frame_paths.proofs.Blocks.{survivors_best_lem}
use Rattle.frame_paths.proofs.survivors_best.Goals as goal

pub returns : goal.returns
returns c = survivors_best_lem
